use Rattle.std.proofs.Common.{drop, map, ◌+◌, List, Ok, Err, subst}
use Rattle.std.specs.List.{flat_map}
use Rattle.std.proofs.lemmas.Result.{err_from_is_err_and}
use Rattle.fab_base.specs.declared.messages.PreparedCert.{PreparedCert}
use Rattle.fab_rules.specs.Statements.{batches_of_change}
use Rattle.run_worlds.specs.Sights.{after_batches}
use Rattle.fabric_audit.specs.Meeting.{Meets}
use Rattle.fabric_audit.proofs.Following.{goes_on, stops, ends, next_change, no_change}
use Rattle.fabric_audit.proofs.meetings.Meetings.meet_changes.Goals as goal

pub loop-change-preserved : goal.loop-change-preserved
loop-change-preserved c =
    let cs = c.args.changes.now in
    let i = c.loop-change.change-index in
    let change = c.change-item.result in
    goes_on c.args.self.now c.loop-change.self c.meet_certificates.new.self (λ met. after_batches met (flat_map batches_of_change cs))
    (λ met. after_batches met (flat_map batches_of_change (drop i cs))) (λ met. after_batches met (batches_of_change change))
    (λ met. after_batches met (flat_map batches_of_change (drop (i + 1) cs)))
    c.loop-change.invariant (next_change cs i change c.loop-change-test.true c.change-item.is)
    (subst (λ (ks : List PreparedCert). Meets c.loop-change.self (Ok tt) c.meet_certificates.new.self (λ met. after_batches met (map (λ k. k.batch) ks)))
    c.as_slice.ensures c.in_ok-meet_certificates.ensures)

pub returns : goal.returns
returns c =
    let cs = c.args.changes.now in
    let i = c.loop-change.change-index in
    ends c.args.self.now c.loop-change.self (λ met. after_batches met (flat_map batches_of_change cs))
    (λ met. after_batches met (flat_map batches_of_change (drop i cs))) c.loop-change.invariant (no_change cs i c.loop-change-test.false)

pub returns-in_err-meet_certificates : goal.returns-in_err-meet_certificates
returns-in_err-meet_certificates c =
    let cs = c.args.changes.now in
    let i = c.loop-change.change-index in
    let change = c.change-item.result in
    let p = err_from_is_err_and c.from_residual.result c.from_residual.ensures.1 in
    rw (p.1, p.2)
    (stops c.args.self.now c.loop-change.self c.meet_certificates.new.self (λ met. after_batches met (flat_map batches_of_change cs))
    (λ met. after_batches met (flat_map batches_of_change (drop i cs))) (λ met. after_batches met (batches_of_change change))
    (λ met. after_batches met (flat_map batches_of_change (drop (i + 1) cs))) c.in_err-meet_certificates.field-0.0
    c.loop-change.invariant (next_change cs i change c.loop-change-test.true c.change-item.is)
    (subst (λ (ks : List PreparedCert). Meets c.loop-change.self (Err c.in_err-meet_certificates.field-0.0) c.meet_certificates.new.self (λ met. after_batches met (map (λ k. k.batch) ks)))
    c.as_slice.ensures c.in_err-meet_certificates.ensures))
