use Rattle.std.proofs.Common.{◌≡◌, ◌≤◌, ◌&&◌, not, take}
use Rattle.std.specs.List.{list_any, count_by}
use Rattle.fault_script.specs.declared.twists.Loss.{Loss}
use Rattle.run_words.specs.Twists.{names}
use Rattle.run_words.proofs.passing.passes.Given as goal

abbrev pub invariant-loop-line : goal.invariant-loop-line
invariant-loop-line l =
    (l.lost ≡ list_any (λ (line : Loss). not line.again && names l.fn.from l.fn.to l.fn.share l.fn.all_k l.fn.share_k line) (take l.line-index l.fn.losses))
    × (l.again ≡ count_by (λ (line : Loss). line.again && names l.fn.from l.fn.to l.fn.share l.fn.all_k l.fn.share_k line) (take l.line-index l.fn.losses))
    × (l.again ≤ l.line-index)
