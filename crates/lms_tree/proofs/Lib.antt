pub mod NumberLemmas
pub mod NodeLemmas
pub mod FieldLemmas
pub mod ValidityLemmas
pub mod SpellingLemmas
pub mod SignerLemmas
