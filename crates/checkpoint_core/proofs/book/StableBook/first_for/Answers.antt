use Rattle.std.proofs.Common.{◌<◌, ◌≤◌, [], ◌∷◌, length, sym, ap, subst, ◌∙◌, arith}
use Rattle.std.specs.Option.{option_copied, option_to_list}
use Rattle.std.proofs.lemmas.List.{append-nil}
use Rattle.checkpoint_core.specs.Checkpoints.{AreFirst}
use Rattle.checkpoint_core.proofs.Ranking.{step_more, step_full}
use Rattle.checkpoint_core.proofs.book.StableBook.first_for.Goals as goal
use Rattle.checkpoint_core.proofs.book.StableBook.first_for.Goals.{then-len-need+in-Some+in_ok-duplicate+in_ok-push, then-len-need+in_default, else-len-need}

pub loop-sender-preserved : goal.loop-sender-preserved
loop-sender-preserved c =
    let first = subst (λ b. AreFirst b.votes) c.self.view_is c.self.invariant.first in
    let so_far = c.loop-sender.invariant.0 in
    elim c.if-len-need.branch [
      | then-len-need+in-Some+in_ok-duplicate+in_ok-push w ↦
          (let few : length c.loop-sender.first < c.quorum-need.result = omega (arith, w.if-len-need.true, c.len.ensures) in
          let said = sym (ap (λ vote. option_to_list (option_copied vote)) w.in-Some.is) ∙ w.said_by.ensures in
          let copied = ap (λ v. v ∷ []) w.in_ok-duplicate.ensures ∙ said in
          (step_more c.quorum-need.result c.loop-sender.sender c.args.self.now.votes c.args.round c.args.digest _ _ _ first so_far few copied (w.first-is ∙ w.in_ok-push.ensures.ok), c.loop-sender.invariant.1))
      | then-len-need+in_default w ↦
          (let few : length c.loop-sender.first < c.quorum-need.result = omega (arith, w.if-len-need.true, c.len.ensures) in
          let said = sym (ap (λ vote. option_to_list (option_copied vote)) w.in_default.is) ∙ w.said_by.ensures in
          (step_more c.quorum-need.result c.loop-sender.sender c.args.self.now.votes c.args.round c.args.digest _ _ _ first so_far few said (w.first-is ∙ sym (append-nil _)), c.loop-sender.invariant.1))
      | else-len-need w ↦
          (let full : c.quorum-need.result ≤ length c.loop-sender.first = omega (arith, w.if-len-need.false, c.len.ensures) in
          (step_full c.quorum-need.result c.loop-sender.sender c.args.self.now.votes c.args.round c.args.digest _ _ so_far full w.first-is, c.loop-sender.invariant.1))
    ]
