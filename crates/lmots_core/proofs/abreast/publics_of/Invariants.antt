use Rattle.std.proofs.Common.{◌<◌, [], ◌∷◌, ◌++◌, slice_index}
use Rattle.std.specs.Int.{w32, to_be_bytes}
use Rattle.lmots_core.specs.Chains.{chain_end, joined}
use Rattle.lmots_core.specs.Abreast.{HoldMessages}
use Rattle.lmots_core.proofs.abreast.publics_of.Given as goal

abbrev pub invariant-chains : goal.invariant-chains
invariant-chains l = record {
  room : l.filled < 16;
  held : HoldMessages l.state l.block l.filled l.last (λ k. l.seed.id ++ to_be_bytes w32 (slice_index l.leaves k) ++ 0x80 ∷ 0x80 ∷ [] ++ joined (chain_end l.kind l.seed (slice_index l.leaves k)) l.i);
}
