use Rattle.std.proofs.Common.{◌+◌, drop}
use Rattle.std.proofs.lemmas.Result.{err_from_is_err_and}
use Rattle.run_worlds.specs.Sights.{after_entries}
use Rattle.fabric_audit.specs.Journals.{after_entry}
use Rattle.fabric_audit.proofs.Following.{goes_on, stops, ends, next_entry, no_entry}
use Rattle.fabric_audit.proofs.auditing.audit_journal.Goals as goal

pub loop-place-preserved : goal.loop-place-preserved
loop-place-preserved c =
    let t = c.args.makers.now in
    let i = c.args.replica in
    let journal = c.args.journal.now in
    let place = c.loop-place.place in
    let e = c.index-journal-place.result in
    goes_on c.args.meetings.now c.loop-place.meetings c.audit_entry.new.meetings (λ met. after_entries t i 0 met journal)
    (λ met. after_entries t i place met (drop place journal)) (λ met. after_entry t i place met e)
    (λ met. after_entries t i (place + 1) met (drop (place + 1) journal))
    c.loop-place.invariant (next_entry t i journal place e c.loop-place-test.true c.index-journal-place.is) c.in_ok-audit_entry.ensures

pub returns : goal.returns
returns c =
    let t = c.args.makers.now in
    let i = c.args.replica in
    let journal = c.args.journal.now in
    let place = c.loop-place.place in
    ends c.args.meetings.now c.loop-place.meetings (λ met. after_entries t i 0 met journal)
    (λ met. after_entries t i place met (drop place journal)) c.loop-place.invariant (no_entry t i journal place c.loop-place-test.false)

pub returns-in_err-audit_entry : goal.returns-in_err-audit_entry
returns-in_err-audit_entry c =
    let t = c.args.makers.now in
    let i = c.args.replica in
    let journal = c.args.journal.now in
    let place = c.loop-place.place in
    let e = c.index-journal-place.result in
    let p = err_from_is_err_and c.from_residual.result c.from_residual.ensures.1 in
    rw (p.1, p.2)
    (stops c.args.meetings.now c.loop-place.meetings c.audit_entry.new.meetings (λ met. after_entries t i 0 met journal)
    (λ met. after_entries t i place met (drop place journal)) (λ met. after_entry t i place met e)
    (λ met. after_entries t i (place + 1) met (drop (place + 1) journal)) c.in_err-audit_entry.field-0.0
    c.loop-place.invariant (next_entry t i journal place e c.loop-place-test.true c.index-journal-place.is) c.in_err-audit_entry.ensures)
