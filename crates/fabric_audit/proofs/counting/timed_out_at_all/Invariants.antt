use Rattle.std.proofs.Common.{◌≡◌, take}
use Rattle.std.specs.List.{sum_by}
use Rattle.run_words.specs.Lawful.{timed_out_in}
use Rattle.fabric_audit.proofs.counting.timed_out_at_all.Given as goal

abbrev pub invariant-loop-trace : goal.invariant-loop-trace
invariant-loop-trace l = l.count ≡ sum_by timed_out_in (take l.trace-index l.traces)
