use Rattle.std.proofs.Common.{◌≡◌, max, take, fold}
use Rattle.std.specs.List.{flat_map}
use Rattle.view_change.proofs.choosing.choice_of.Given as goal

abbrev pub invariant-loop-change : goal.invariant-loop-change
invariant-loop-change l = record {
  base : l.base ≡ fold (λ low c. max low c.low) 0 (take l.change-index l.changes);
  last : l.last ≡ fold (λ slot k. max slot k.slot) 0 (flat_map (λ c. c.prepared) (take l.change-index l.changes));
}
