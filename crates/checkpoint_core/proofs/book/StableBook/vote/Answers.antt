use Rattle.std.proofs.Common.{◌≡◌, ◌<◌, None, sym, ap, subst, ◌∙◌, arith}
use Rattle.std.specs.Option.{option_copied}
use Rattle.checkpoint_core.specs.Checkpoints.{Checkpoints, AreCheckpoints, vote_of}
use Rattle.checkpoint_core.proofs.Keeping.{push_keeps}
use Rattle.checkpoint_core.proofs.book.StableBook.vote.Goals as goal

pub invariant_of-self-in-None : goal.invariant_of-self-in-None
invariant_of-self-in-None c =
    let was : Checkpoints = record { low = c.self.inside.low; members = c.self.inside.members; votes = c.self.inside.votes.items } in
    let back = sym c.self.view_is in
    let member : c.args.vote.signer.index < was.members = subst (λ b. c.args.vote.signer.index < b.members) back c.requires in
    let above : was.low < c.args.vote.round = omega (arith, c.if-vote-self.false) in
    let none = subst (λ b. vote_of b.votes c.args.vote.signer.index c.args.vote.round ≡ None) back (sym c.vote_of.ensures ∙ ap option_copied c.in-None.is) in
    subst (λ vs. AreCheckpoints (record was { votes = vs })) (sym (c.in_ok-push-in-None.ensures.items))
    (push_keeps was c.args.vote c.self.invariant member above none)
