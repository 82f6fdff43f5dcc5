-- A cluster at a quiet moment: where no request waits, a Timeout makes no entry.
use Rattle.std.proofs.Common.{◌≡◌, ℕ, suc, ◌<◌, ◌+◌, ◌-◌, Bool, true, false, cond, ◌&&◌, ◌||◌, nat_le, nat_lt, List, [], ◌∷◌, length, Option, Some, None, ◌⊎◌, inl, inr, refl, ap, ◌∙◌, arith}
use Rattle.std.specs.List.{slice_get}
use Rattle.std.specs.Option.{is_some, option_and_then}
use Rattle.std.proofs.lemmas.Option.{slice_get_within}
use Rattle.fab_base.specs.Limits.{Roster}
use Rattle.fab_base.specs.Roster.{size_of}
use Rattle.fab_base.specs.declared.limits.TheConstants.{GREATEST_NUMBER}
use Rattle.fab_base.specs.declared.requests.Request.{Request}
use Rattle.fab_base.specs.declared.messages.Vote.{Vote}
use Rattle.fab_base.specs.declared.messages.PrePrepare.{PrePrepare}
use Rattle.fab_base.specs.declared.messages.Message.{Message}
use Rattle.fab_base.specs.declared.answers.Answer.{Answer}
use Rattle.fab_base.proofs.Tests.{below}
use Rattle.fab_rules.specs.Diary.{Entry}
use Rattle.pbft_slots.specs.declared.slot.Slot.{Slot}
use Rattle.pbft_slots.specs.declared.slot.Proposal.{Proposal}
use Rattle.pbft_slots.specs.Window.{slot_by, slot_at, proposal_at}
use Rattle.pbft_slots.proofs.Places.{place_open}
use Rattle.fab_machine.specs.State.{Local, Replica, wanted}
use Rattle.fab_machine.specs.Items.{vote_of}
use Rattle.fab_machine.specs.Voting.{unmoved}
use Rattle.fab_machine.specs.Changing.{asked}
use Rattle.fab_machine.specs.TimingOut.{holds_above, is_overdue, timeout}
use Rattle.fab_machine.specs.Rounds.{knows_others}
use Rattle.fab_machine.specs.Pleading.{own_is_kept, timeout_by}
use Rattle.fab_machine.specs.Step.{Event, makes_entry, moves}
use Rattle.heed_laws.specs.Resting.{member, IsQuiet}
use Rattle.heed_laws.specs.Laws.{CalmLaw}
use Rattle.heed_laws.proofs.Votes.{facts, heeds, in_view, by_prepare}
use Rattle.heed_laws.proofs.Marks.{executes}
use Rattle.heed_laws.proofs.Nudging.{all_at}

either_none : (a b : Bool) → a ≡ false → b ≡ false → (a || b) ≡ false
either_none false b p q = q
either_none true b p q = absurd cc

-- no batch is held
holds_none : (executed from : ℕ) (slots : List (Slot Vote))
    → ((i : ℕ) (s : Slot Vote) → slice_get slots i ≡ Some s → executed < from + i → s.proposal ≡ None) → holds_above executed from slots ≡ false
holds_none executed from [] h = refl
holds_none executed from (s ∷ rest) h =
    either_none (nat_lt executed from && is_some s.proposal) (holds_above executed (from + 1) rest) (go (nat_lt executed from) refl)
    (holds_none executed (from + 1) rest (λ i t e above. h (suc i) t e (omega (arith, above))))
  where
    go : (b : Bool) → nat_lt executed from ≡ b → (b && is_some s.proposal) ≡ false
    go false e = refl
    go true e = ap (λ (p : Option Proposal). is_some p) (h 0 s refl (omega (arith, below executed from e)))

none_long : (waiting : List Request) → waiting ≡ [] → nat_le 1 (length waiting) ≡ false
none_long waiting e = ap (λ (l : List Request). nat_le 1 (length l)) e

module _ (r : Roster) (state : ℕ → Replica) (diary : ℕ → List Entry) (quiet : IsQuiet r state diary) where
  abbrev local : ℕ → Local
  local k = (state k).local

  -- no slot above the executed ones holds a batch
  held_none : (k : ℕ) → k < size_of r 1 → (slot : ℕ) → (local k).executed < slot → (g : Proposal) → proposal_at (local k).slots slot ≡ Some g → ⊥
  held_none k l slot above g e =
      let o = by_prepare r state diary quiet k (vote_of (member k) 0 slot g.digest) l ((heeds r state diary quiet k l).local.voted.prepares slot g e) in
      let p : PrePrepare = o.proposal in
      let l0 : 0 < size_of r 1 = omega (arith, l) in
      no_such p ((facts r state diary quiet 0 l0).local.noted (Message.PrePrepare p) o.said) o.slot_is (in_view r state diary quiet 0 l0)
    where
      no_such : (p : PrePrepare) → (p.view < (local 0).view) ⊎ ((p.view ≡ (local 0).view) × (p.slot < (local 0).next)) → p.slot ≡ slot → (local 0).view ≡ 0 → ⊥
      no_such p (inl old) q v = omega (arith, old, v)
      no_such p (inr h) q v = omega (arith, h.1, q, above, all_at r state diary quiet k l, (facts r state diary quiet k l).rounds.told)

  none_held : (k : ℕ) → k < size_of r 1 → holds_above (local k).executed ((local k).slots.low + 1) (local k).slots.slots ≡ false
  none_held k l = holds_none (local k).executed ((local k).slots.low + 1) (local k).slots.slots (λ i s e above. at i s e above s.proposal refl)
    where
      at : (i : ℕ) (s : Slot Vote) → slice_get (local k).slots.slots i ≡ Some s → (local k).executed < (local k).slots.low + 1 + i → (o : Option Proposal) → s.proposal ≡ o
          → s.proposal ≡ None
      at i s e above None q = q
      at i s e above (Some g) q =
          let w = (local k).slots in
          let slot = w.low + 1 + i in
          let inside = slice_get_within w.slots i s e in
          let place = place_open w.low (length w.slots) slot (omega arith) (omega (arith, inside)) in
          let same_place : slot - w.low - 1 ≡ i = omega arith in
          let there : slot_at w slot ≡ Some s = ap (slot_by w.slots) place ∙ (ap (slice_get w.slots) same_place ∙ e) in
          absurd (held_none k l slot above g (ap (option_and_then (λ t. t.proposal)) there ∙ q))

  -- the own cluster's certificate of the next round isn't kept: the round would be executed
  not_own : (k : ℕ) → k < size_of r 1 → own_is_kept (member k) (state k).rounds ≡ false
  not_own k l = go (own_is_kept (member k) (state k).rounds) refl
    where
      go : (b : Bool) → own_is_kept (member k) (state k).rounds ≡ b → own_is_kept (member k) (state k).rounds ≡ false
      go false e = e
      go true e = absurd (executes r state diary quiet k (state k).rounds.executed l refl e)

  calm_at : (k : ℕ) → k < size_of r 1 → (state k).local.waiting ≡ [] → knows_others 1 (state k).rounds.certificates ((state k).rounds.executed + 1) ≡ false
      → moves r (member k) (state k) Event.Timeout ≡ false
  calm_at k l empty alone =
      let s = state k in
      let me = member k in
      let lo = local k in
      let known = knows_others 1 s.rounds.certificates (s.rounds.executed + 1) in
      let changing : is_some lo.changing ≡ false = ap (λ (o : Option ℕ). is_some o) (heeds r state diary quiet k l).local.calm.calm in
      let overdue : is_overdue lo known ≡ false =
      either_none (is_some lo.changing) _ changing (either_none (nat_le 1 (length lo.waiting)) _ (none_long lo.waiting empty)
      (either_none known _ alone (none_held k l))) in
      ap (λ (o : Bool). makes_entry (timeout_by r me s o (timeout r me lo o known)).answer) (not_own k l)
      ∙ ap (λ (o : Bool). makes_entry (cond (nat_lt lo.executed lo.slots.low) (unmoved lo (Answer.Behind lo.slots.low))
      (cond ((true && o) && nat_lt (wanted lo) GREATEST_NUMBER) (asked r me lo (wanted lo + 1) (Answer.Asked (wanted lo + 1))) (unmoved lo Answer.Calm))).answer) overdue
      ∙ by (nat_lt lo.executed lo.slots.low)
    where
      by : (b : Bool) → makes_entry (cond b (unmoved (local k) (Answer.Behind (local k).slots.low)) (unmoved (local k) Answer.Calm)).answer ≡ false
      by true = refl
      by false = refl

pub calm : CalmLaw
calm r state diary quiet k l empty alone = calm_at r state diary quiet k l empty alone
