use Rattle.std.proofs.Common.{◌+◌, List, Ok, Err, sym, subst, ◌∙◌}
use Rattle.std.proofs.lemmas.Result.{err_from_is_err_and}
use Rattle.run_words.specs.declared.logs.Entry.{Entry}
use Rattle.run_worlds.specs.Worlds.{correct_of}
use Rattle.run_worlds.specs.Sights.{after_entries, after_traces}
use Rattle.fabric_audit.specs.Meeting.{Firsts, Meets}
use Rattle.fabric_audit.proofs.Following.{IsLeft, rest_of, goes_on, stops, ends, next_trace, over_trace, no_trace}
use Rattle.fabric_audit.proofs.auditing.audit_journals.Goals as goal
use Rattle.fabric_audit.proofs.auditing.audit_journals.Goals.{then-is_correct+in_ok-audit_journal, else-is_correct}

-- a correct trace is gone through, a faulty one is passed over
pub loop-trace-preserved : goal.loop-trace-preserved
loop-trace-preserved c =
    let t = c.args.makers.now in
    let traces = c.args.traces.now in
    let i = c.loop-trace.trace-index in
    let trace = c.trace-item.result in
    elim c.if-is_correct.branch [
      | then-is_correct+in_ok-audit_journal w ↦
          (subst (λ (now : Firsts). IsLeft c.args.meetings.now now (λ met. after_traces t met (correct_of traces)) (rest_of t traces (i + 1)))
          (sym w.meetings-is)
          (goes_on c.args.meetings.now c.loop-trace.meetings w.audit_journal.new.meetings (λ met. after_traces t met (correct_of traces))
          (rest_of t traces i) (λ met. after_entries t trace.id 0 met trace.journal) (rest_of t traces (i + 1))
          c.loop-trace.invariant (next_trace t traces i trace c.loop-trace-test.true c.trace-item.is (sym c.is_correct.ensures ∙ w.if-is_correct.true))
          (subst (λ (es : List Entry). Meets c.loop-trace.meetings (Ok tt) w.audit_journal.new.meetings (λ met. after_entries t trace.id 0 met es))
          w.as_slice.ensures w.in_ok-audit_journal.ensures)))
      | else-is_correct w ↦
          (subst (λ (now : Firsts). IsLeft c.args.meetings.now now (λ met. after_traces t met (correct_of traces)) (rest_of t traces (i + 1)))
          (sym w.meetings-is)
          (over_trace t traces i trace c.args.meetings.now c.loop-trace.meetings (λ met. after_traces t met (correct_of traces))
          c.loop-trace-test.true c.trace-item.is (sym c.is_correct.ensures ∙ w.if-is_correct.false) c.loop-trace.invariant))
    ]

pub returns : goal.returns
returns c =
    let t = c.args.makers.now in
    let traces = c.args.traces.now in
    let i = c.loop-trace.trace-index in
    ends c.args.meetings.now c.loop-trace.meetings (λ met. after_traces t met (correct_of traces)) (rest_of t traces i) c.loop-trace.invariant
    (no_trace t traces i c.loop-trace-test.false)

pub returns-in_err-audit_journal : goal.returns-in_err-audit_journal
returns-in_err-audit_journal c =
    let t = c.args.makers.now in
    let traces = c.args.traces.now in
    let i = c.loop-trace.trace-index in
    let trace = c.trace-item.result in
    let stop = c.in_err-audit_journal.field-0.0 in
    let p = err_from_is_err_and c.from_residual.result c.from_residual.ensures.1 in
    rw (p.1, p.2)
    (stops c.args.meetings.now c.loop-trace.meetings c.audit_journal.new.meetings (λ met. after_traces t met (correct_of traces))
    (rest_of t traces i) (λ met. after_entries t trace.id 0 met trace.journal) (rest_of t traces (i + 1)) stop
    c.loop-trace.invariant (next_trace t traces i trace c.loop-trace-test.true c.trace-item.is (sym c.is_correct.ensures ∙ c.if-is_correct.true))
    (subst (λ (es : List Entry). Meets c.loop-trace.meetings (Err stop) c.audit_journal.new.meetings (λ met. after_entries t trace.id 0 met es))
    c.as_slice.ensures c.in_err-audit_journal.ensures))
