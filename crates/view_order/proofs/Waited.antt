-- Whether a timeout asks for the next view.
use Rattle.std.proofs.Common.{◌≡◌, ℕ, ◌+◌, ◌<◌, Bool, true, false, not, cond, nat_le, nat_lt, ◌&&◌, refl, sym, ap, ◌∙◌, arith}
use Rattle.std.proofs.lemmas.Bool.Decides.{nat_tests}
use Rattle.fab_base.specs.declared.limits.TheConstants.{GREATEST_NUMBER}
use Rattle.fab_base.specs.Limits.{Roster}
use Rattle.fab_base.specs.declared.ids.ReplicaId.{ReplicaId}
use Rattle.fab_base.specs.declared.answers.Answer.{Answer}
use Rattle.fab_base.proofs.Tests.{and_right, below}
use Rattle.fab_machine.specs.State.{Local, wanted}
use Rattle.fab_machine.specs.Changing.{asked}
use Rattle.fab_machine.specs.Voting.{unmoved}
use Rattle.fab_machine.specs.Step.{makes_entry, can_time_out}
use Rattle.fab_machine.specs.TimingOut.{is_overdue}

-- there is a view above the wanted one
pub has_room : (l : Local) (own known : Bool) → (not own && is_overdue l known && nat_lt (wanted l) GREATEST_NUMBER) ≡ true → wanted l < GREATEST_NUMBER
has_room l own known e = below (wanted l) GREATEST_NUMBER (and_right (not own && is_overdue l known) _ e)

at_most_is : (a b : ℕ) → nat_le a b ≡ not (nat_lt b a)
at_most_is a b = go (nat_lt b a) refl
  where
    go : (t : Bool) → nat_lt b a ≡ t → nat_le a b ≡ not t
    go true e = grind (arith, nat_tests)
    go false e = grind (arith, nat_tests)

-- it asks where this holds and the replica isn't behind
pub would_ask : (r : Roster) (me : ReplicaId) (l : Local) (own known b : Bool) → (not own && is_overdue l known && nat_lt (wanted l) GREATEST_NUMBER) ≡ b
    → (b && nat_le l.slots.low l.executed) ≡ can_time_out r me l own known
would_ask r me l own known b e =
    ap (λ t. b && t) (at_most_is l.slots.low l.executed) ∙ (go (nat_lt l.executed l.slots.low) b
    ∙ ap (λ t. makes_entry (cond (nat_lt l.executed l.slots.low) (unmoved l (Answer.Behind l.slots.low))
    (cond t (asked r me l (wanted l + 1) (Answer.Asked (wanted l + 1))) (unmoved l Answer.Calm))).answer) (sym e))
  where
    go : (a b : Bool) → (b && not a) ≡ makes_entry (cond a (unmoved l (Answer.Behind l.slots.low))
        (cond b (asked r me l (wanted l + 1) (Answer.Asked (wanted l + 1))) (unmoved l Answer.Calm))).answer
    go true true = refl
    go true false = refl
    go false true = refl
    go false false = refl
