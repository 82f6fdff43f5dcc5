use Rattle.std.proofs.Common.{◌≡◌, ◌∙◌, ap, arith, length}
use Rattle.fab_base.specs.Quorums.{quorum_size}
use Rattle.pbft_slots.specs.Ballots.{senders_for}
use Rattle.pbft_slots.proofs.Halves.{same_senders, length-pairs}
use Rattle.pbft_slots.proofs.ballots.Ballots.first_senders.Goals as goal

pub returns : goal.returns
returns g c =
    let digests = c.self.inside.digests in
    let kept = c.self.inside.kept.items in
    let digest = c.args.digest in
    let now = c.args.self.now in
    let senders = same_senders digests kept digest c.self.invariant ∙ ap (λ votes. senders_for votes digest) c.self.view_is in
    let size = length-pairs digests kept c.self.invariant.same in
    let members : c.len.result ≡ length now = omega (arith, c.len.ensures, c.self.invariant.same, size, ap length c.self.view_is) in
    let need : c.quorum-need.result ≡ quorum_size (length now) = c.quorum-need.ensures.is ∙ ap quorum_size members in
    rw (← need, ← senders) (record { enough = c.cert.ensures.enough; first = c.cert.ensures.first })
