use Rattle.std.proofs.Common.{◌≡◌, ℕ, List, take}
use Rattle.std.specs.List.{list_any}
use Rattle.std.specs.Str.{bytes_eq}
use Rattle.fabric_audit.proofs.Contents.{bytes_of}
use Rattle.fabric_audit.proofs.content_sets.ContentSet.of.Given as goal

-- the set has the contents so far
abbrev pub invariant-loop-content : goal.invariant-loop-content
invariant-loop-content l = (x : List ℕ) → list_any (bytes_eq x) (bytes_of l.set.keys) ≡ list_any (bytes_eq x) (take l.content-index l.contents)
