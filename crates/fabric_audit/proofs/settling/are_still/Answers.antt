use Rattle.std.proofs.Common.{◌&&◌, get_or, sym, ap, subst, take_all, ◌∙◌}
use Rattle.std.specs.List.{list_all}
use Rattle.std.proofs.lemmas.List.Folds.{list_all_at, list_all_more}
use Rattle.replica_log.specs.Replayed.{IsReplayable}
use Rattle.run_worlds.specs.Scripts.{roster_of}
use Rattle.fabric_audit.specs.Still.{is_still}
use Rattle.fabric_audit.proofs.settling.are_still.Goals as goal

pub is_still-requires-clause-replayable : goal.is_still-requires-clause-replayable
is_still-requires-clause-replayable c =
    subst (IsReplayable (roster_of c.args.script.now)) (sym c.trace-item.is)
    (c.requires.replayable c.loop-trace.trace-index c.trace-item.result c.loop-trace-test.true)

pub loop-trace-preserved : goal.loop-trace-preserved
loop-trace-preserved c =
    let still = is_still c.args.script.now c.args.timeouts in
    let trace = c.trace-item.result in
    list_all_more still c.args.traces.now c.loop-trace.trace-index trace c.loop-trace-test.true
    ∙ ap (λ b. b && still (get_or c.args.traces.now c.loop-trace.trace-index trace)) c.loop-trace.invariant
    ∙ ap still (sym c.trace-item.is) ∙ sym c.in_ok-is_still.ensures ∙ c.if-not-branch.false

pub returns-then-not-branch : goal.returns-then-not-branch
returns-then-not-branch c =
    let still = is_still c.args.script.now c.args.timeouts in
    sym (list_all_at still c.args.traces.now c.loop-trace.trace-index c.trace-item.result c.loop-trace-test.true
    (ap still (sym c.trace-item.is) ∙ sym c.in_ok-is_still.ensures ∙ c.if-not-branch.true))

pub returns : goal.returns
returns c =
    sym c.loop-trace.invariant ∙ ap (list_all (is_still c.args.script.now c.args.timeouts)) (take_all c.loop-trace.trace-index c.args.traces.now c.loop-trace-test.false)
