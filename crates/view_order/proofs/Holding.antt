-- Whether a slot above the executed rounds holds a batch: this one, or a later one.
use Rattle.std.proofs.Common.{◌≡◌, ℕ, zero, suc, ◌+◌, ◌-◌, ◌<◌, ◌≤◌, Bool, true, false, nat_lt, ◌&&◌, ◌||◌, List, [], ◌∷◌, length, drop, Option, Some, None, is_some, refl, sym, ap, ◌∙◌, arith}
use Rattle.std.specs.Prelude.{slice_get}
use Rattle.std.specs.Option.{option_map, option_and_then}
use Rattle.fab_base.specs.declared.messages.Vote.{Vote}
use Rattle.pbft_slots.specs.Window.{Window, slot_by, place_in, batch_at}
use Rattle.pbft_slots.specs.declared.slot.Proposal.{Proposal}
use Rattle.pbft_slots.specs.declared.slot.Slot.{Slot}
use Rattle.pbft_slots.proofs.Places.{place_open}
use Rattle.fab_machine.specs.TimingOut.{holds_above}

-- whether there is a slot that holds a batch
abbrev holds : Option (Slot Vote) → Bool
holds o = is_some (option_map (λ p. p.batch) (option_and_then (λ s. s.proposal) o))

has_batch : (p : Option Proposal) → is_some p ≡ is_some (option_map (λ p. p.batch) p)
has_batch None = refl
has_batch (Some p) = refl

one_more : (executed slot place : ℕ) (slots : List (Slot Vote)) → place < length slots
    → holds_above executed slot (drop place slots) ≡ ((nat_lt executed slot && holds (slice_get slots place)) || holds_above executed (slot + 1) (drop (suc place) slots))
one_more executed slot place [] h = absurd (omega (arith, h))
one_more executed slot zero (s ∷ rest) h = ap (λ b. (nat_lt executed slot && b) || holds_above executed (slot + 1) rest) (has_batch s.proposal)
one_more executed slot (suc place) (s ∷ rest) h = one_more executed slot place rest (omega (arith, h))

pub holds_next : (w : Window Vote) (executed first slot : ℕ) → first ≡ w.low + 1 → first ≤ slot → slot < first + length w.slots
    → holds_above executed slot (drop (slot - first) w.slots)
    ≡ ((nat_lt executed slot && is_some (batch_at w slot)) || holds_above executed (slot + 1) (drop (slot + 1 - first) w.slots))
holds_next w executed first slot at from upto =
    let place = place_open w.low (length w.slots) slot (omega (arith, at, from)) (omega (arith, at, upto)) in
    let spot : slot - w.low - 1 ≡ slot - first = omega (arith, at) in
    let next : suc (slot - first) ≡ slot + 1 - first = omega (arith, from) in
    let here : slice_get w.slots (slot - first) ≡ slot_by w.slots (place_in w slot) = ap (slice_get w.slots) (sym spot) ∙ sym (ap (slot_by w.slots) place) in
    one_more executed slot (slot - first) w.slots (omega (arith, from, upto))
    ∙ (ap (λ o. (nat_lt executed slot && holds o) || holds_above executed (slot + 1) (drop (suc (slot - first)) w.slots)) here
    ∙ ap (λ n. (nat_lt executed slot && is_some (batch_at w slot)) || holds_above executed (slot + 1) (drop n w.slots)) next)

-- this slot is the one, or a later one is
pub this_one : (this later now whole : Bool) → now ≡ whole → now ≡ (this || later) → this ≡ true → true ≡ whole
this_one this later now whole is next h = sym (ap (λ b. b || later) h) ∙ (sym next ∙ is)

pub later_one : (this later now whole : Bool) → now ≡ whole → now ≡ (this || later) → this ≡ false → later ≡ whole
later_one this later now whole is next h = sym (ap (λ b. b || later) h) ∙ (sym next ∙ is)

all_past : (n : ℕ) (slots : List (Slot Vote)) → length slots ≤ n → drop n slots ≡ []
all_past zero [] h = refl
all_past (suc n) [] h = refl
all_past zero (s ∷ rest) h = absurd (omega (arith, h))
all_past (suc n) (s ∷ rest) h = all_past n rest (omega (arith, h))

pub none_left : (executed slot n : ℕ) (slots : List (Slot Vote)) → length slots ≤ n → holds_above executed slot (drop n slots) ≡ false
none_left executed slot n slots h = ap (holds_above executed slot) (all_past n slots h)
