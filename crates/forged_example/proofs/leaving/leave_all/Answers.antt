use Rattle.std.proofs.Common.{List, sym, subst}
use Rattle.run_words.specs.Lawful.{AreEach, Kept}
use Rattle.run_words.specs.declared.logs.Trace.{Trace}
use Rattle.forged_example.proofs.Leavings.{one_more, none_left}
use Rattle.forged_example.proofs.leaving.leave_all.Goals as goal

pub loop-log-init : goal.loop-log-init
loop-log-init c = λ makers s. subst (λ (l : List Trace). AreEach Kept makers l) (sym c.new-traces.ensures) (none_left makers s)

pub loop-log-preserved : goal.loop-log-preserved
loop-log-preserved c =
    one_more c.loop-log.yielded c.in-Some.log c.loop-log.traces c.push.new.self c.in_ok-trace.trace c.loop-log.invariant c.in_ok-trace.ensures
    c.in_ok-push.ensures.ok
