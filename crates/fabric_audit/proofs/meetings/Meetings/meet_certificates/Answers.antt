use Rattle.std.proofs.Common.{drop, map, ◌+◌}
use Rattle.std.proofs.lemmas.Result.{err_from_is_err_and}
use Rattle.run_worlds.specs.Sights.{met_with, first_clash, after_batches}
use Rattle.fabric_audit.proofs.Following.{goes_on, stops, ends, next_certificate, no_certificate}
use Rattle.fabric_audit.proofs.meetings.Meetings.meet_certificates.Goals as goal

pub loop-certificate-preserved : goal.loop-certificate-preserved
loop-certificate-preserved c =
    let ks = c.args.certificates.now in
    let i = c.loop-certificate.certificate-index in
    let k = c.certificate-item.result in
    goes_on c.args.self.now c.loop-certificate.self c.meet.new.self (λ met. after_batches met (map (λ q. q.batch) ks))
    (λ met. after_batches met (map (λ q. q.batch) (drop i ks))) (λ met. met_with met k.batch (first_clash met k.batch))
    (λ met. after_batches met (map (λ q. q.batch) (drop (i + 1) ks)))
    c.loop-certificate.invariant (next_certificate ks i k c.loop-certificate-test.true c.certificate-item.is) c.in_ok-meet.ensures

pub returns : goal.returns
returns c =
    let ks = c.args.certificates.now in
    let i = c.loop-certificate.certificate-index in
    ends c.args.self.now c.loop-certificate.self (λ met. after_batches met (map (λ q. q.batch) ks))
    (λ met. after_batches met (map (λ q. q.batch) (drop i ks))) c.loop-certificate.invariant (no_certificate ks i c.loop-certificate-test.false)

pub returns-in_err-meet : goal.returns-in_err-meet
returns-in_err-meet c =
    let ks = c.args.certificates.now in
    let i = c.loop-certificate.certificate-index in
    let k = c.certificate-item.result in
    let p = err_from_is_err_and c.from_residual.result c.from_residual.ensures.1 in
    rw (p.1, p.2)
    (stops c.args.self.now c.loop-certificate.self c.meet.new.self (λ met. after_batches met (map (λ q. q.batch) ks))
    (λ met. after_batches met (map (λ q. q.batch) (drop i ks))) (λ met. met_with met k.batch (first_clash met k.batch))
    (λ met. after_batches met (map (λ q. q.batch) (drop (i + 1) ks))) c.in_err-meet.field-0.0
    c.loop-certificate.invariant (next_certificate ks i k c.loop-certificate-test.true c.certificate-item.is) c.in_err-meet.ensures)
