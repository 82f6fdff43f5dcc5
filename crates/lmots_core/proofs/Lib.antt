pub mod DigitLemmas
pub mod ChainLemmas
pub mod SignatureLemmas
pub mod StepLemmas
pub mod RunningLemmas
pub mod LeafLemmas
pub mod AbreastLemmas
