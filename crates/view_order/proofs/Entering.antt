-- A view is entered, and the slots that are decided are filled.
use Rattle.std.proofs.Common.{◌≡◌, ℕ, ◌+◌, ◌-◌, ◌<◌, ◌≤◌, max, List, [], ◌∷◌, ◌++◌, map, length, inl, inr, refl, sym, ap, ◌∙◌, arith}
use Rattle.std.specs.List.{range_with_len}
use Rattle.std.proofs.lemmas.Bool.{cases_lt}
use Rattle.fab_base.specs.Limits.{Roster}
use Rattle.fab_base.specs.declared.ids.ReplicaId.{ReplicaId}
use Rattle.fab_base.specs.declared.messages.Vote.{Vote}
use Rattle.fab_base.specs.declared.messages.NewView.{NewView}
use Rattle.fab_base.specs.declared.messages.StableVote.{StableVote}
use Rattle.fab_base.specs.declared.messages.Message.{Message}
use Rattle.fab_base.specs.declared.answers.Answer.{Answer}
use Rattle.fab_base.specs.declared.answers.Take.{Take}
use Rattle.fab_rules.specs.Choice.{base, top}
use Rattle.pbft_slots.specs.Window.{Window}
use Rattle.fab_machine.specs.Adopting.{low_by, proof_by, chosen_out, chosen_outs, filled, entering, entered, entered_outs, adopted}
use Rattle.fab_machine.specs.Checkpointing.{heard_again}
use Rattle.fab_machine.specs.State.{Local}
use Rattle.fab_machine.specs.Voting.{Told}
use Rattle.fab_machine.specs.Hearing.{hear}
use Rattle.fab_machine.specs.declared.outs.Out.{Out}
use Rattle.fab_machine.proofs.Filling.{filled_is}
use Rattle.local_order.specs.Ordering.{Ordering, with_local}

-- so many slots are decided
count_is : (top low next : ℕ) → next ≡ max top low + 1 → next - (low + 1) ≡ top - low
count_is top low next e =
    elim (cases_lt low top) [ inl more ↦ omega (arith, e, more) | inr no_more ↦ omega (arith, e, no_more) ]

-- of an order that entered a view, the slots are those of the decision
pub entered_is : (o mid now : Ordering) (x : NewView) (low next : ℕ) (proof : List StableVote) → low ≡ low_by o.local x → proof ≡ proof_by o.local x
    → next ≡ max (top x) low + 1 → top x ≤ low + length o.local.slots.slots → mid ≡ with_local o (entering o.local x.view low proof next)
    → now ≡ record mid { local = record mid.local { slots = filled mid.local.slots x (low + 1) (next - (low + 1)) } } → now ≡ with_local o (entered o.local x)
entered_is o mid now x low next proof l p n within entered_at filled_so =
    let at = low_by o.local x in
    let shown = proof_by o.local x in
    let above = max (top x) at + 1 in
    let count = count_is (top x) low next n in
    let end : next ≡ above = n ∙ ap (λ v. max (top x) v + 1) l in
    let slots : filled (entering o.local x.view low proof next).slots x (low + 1) (next - (low + 1)) ≡ (entered o.local x).slots =
    ap (filled (entering o.local x.view low proof next).slots x (low + 1)) count
    ∙ (ap (λ v. filled (record o.local.slots { low = v; slots = (entering o.local x.view low proof next).slots.slots }) x (v + 1) (top x - v)) l
    ∙ filled_is o.local x (omega (arith, within, l))) in
    filled_so ∙ (ap (λ m. let y : Ordering = record m { local = record m.local { slots = filled m.local.slots x (low + 1) (next - (low + 1)) } } in y) entered_at
    ∙ (ap (λ w. with_local o (let y : Local = record (entering o.local x.view low proof next) { slots = w } in y)) slots
    ∙ (ap (λ v. with_local o (let y : Local = record (entering o.local x.view v proof next) { slots = (entered o.local x).slots } in y)) l
    ∙ (ap (λ q. with_local o (let y : Local = record (entering o.local x.view at q next) { slots = (entered o.local x).slots } in y)) p
    ∙ ap (λ v. with_local o (let y : Local = record (entering o.local x.view at shown v) { slots = (entered o.local x).slots } in y)) end))))

-- and what was put is that of the decision
pub outs_are : (o mid : Ordering) (x : NewView) (low next : ℕ) (proof : List StableVote) (at : ℕ) (before now : List Out) → low ≡ low_by o.local x
    → next ≡ max (top x) low + 1 → at ≡ base x → mid ≡ with_local o (entering o.local x.view low proof next)
    → now ≡ before ++ (map (chosen_out mid.roster mid.me x) (range_with_len (low + 1) (next - (low + 1))) ++ Out.Entered at ∷ [])
    → now ≡ before ++ entered_outs o.roster o.me o.local x
outs_are o mid x low next proof at before now l n b entered_at put =
    put ∙ ap (λ outs. before ++ outs)
    (ap (λ m. map (chosen_out m.roster m.me x) (range_with_len (low + 1) (next - (low + 1))) ++ Out.Entered at ∷ []) entered_at
    ∙ (ap (λ k. map (chosen_out o.roster o.me x) (range_with_len (low + 1) k) ++ Out.Entered at ∷ []) (count_is (top x) low next n)
    ∙ (ap (λ v. map (chosen_out o.roster o.me x) (range_with_len (v + 1) (top x - v)) ++ Out.Entered at ∷ []) l
    ∙ ap (λ v. chosen_outs o.roster o.me o.local x ++ Out.Entered v ∷ []) b)))

-- the top is within the window above the mark
pub within_window : (mark low window width top base : ℕ) → mark ≡ max low base → top ≤ base + window → width ≡ window → top ≤ mark + width
within_window mark low window width top base m t w =
    elim (cases_lt low base) [ inl more ↦ omega (arith, m, t, w, more) | inr no_more ↦ omega (arith, m, t, w, no_more) ]

-- what was kept is considered again: so the view is adopted
pub adoption : (o mid : Ordering) (x : NewView) (kept : List Message) (outs : List Out) → mid ≡ with_local o (entered o.local x) → kept ≡ o.local.kept
    → outs ≡ Out.Clear ∷ entered_outs o.roster o.me o.local x
    → heard_again mid.roster mid.me (record { answer = Answer.Heard Take.Taken; local = mid.local; outs = outs }) kept ≡ adopted o.roster o.me o.local x
adoption o mid x kept outs e k p =
    ap (λ m. heard_again m.roster m.me (record { answer = Answer.Heard Take.Taken; local = m.local; outs = outs }) kept) e
    ∙ (ap (λ l. heard_again o.roster o.me (record { answer = Answer.Heard Take.Taken; local = entered o.local x; outs = l }) kept) p
    ∙ ap (heard_again o.roster o.me (record { answer = Answer.Heard Take.Taken; local = entered o.local x; outs = Out.Clear ∷ entered_outs o.roster o.me o.local x })) k)

pub adopted_state : (o mid now : Ordering) (x : NewView) (l : Local) → mid ≡ with_local o (entered o.local x) → l ≡ (adopted o.roster o.me o.local x).local
    → now ≡ with_local mid l → now ≡ with_local o (adopted o.roster o.me o.local x).local
adopted_state o mid now x l e h is =
    is ∙ (ap (λ m. with_local m l) e ∙ ap (with_local o) h)

-- the next slot has a number
pub next_upto : (mark low top base window next most : ℕ) → mark ≡ max low base → next ≡ max top mark → top ≤ base + window → mark ≤ most → next ≤ most + window
next_upto mark low top base window next most m n t upto =
    let base_upto : base ≤ mark = elim (cases_lt low base) [ inl more ↦ omega (arith, m, more) | inr no_more ↦ omega (arith, m, no_more) ] in
    elim (cases_lt top mark) [ inl less ↦ omega (arith, n, upto, less) | inr no_less ↦ omega (arith, n, t, upto, base_upto, no_less) ]

pub up_to_mark : (mark low base : ℕ) → mark ≡ max low base → low ≤ mark
up_to_mark mark low base m = elim (cases_lt low base) [ inl more ↦ omega (arith, m, more) | inr no_more ↦ omega (arith, m, no_more) ]

pub from_mark : (mark top next : ℕ) → next ≡ max top mark → mark + 1 ≤ next + 1
from_mark mark top next n = elim (cases_lt top mark) [ inl less ↦ omega (arith, n, less) | inr no_less ↦ omega (arith, n, no_less) ]

-- what is considered again changes no answer
again_answer : (r : Roster) (me : ReplicaId) (t : Told) (messages : List Message) → (heard_again r me t messages).answer ≡ t.answer
again_answer r me t [] = refl
again_answer r me t (m ∷ rest) =
    again_answer r me (record { answer = t.answer; local = (hear r me t.local m).local; outs = t.outs ++ (hear r me t.local m).outs }) rest

pub adopted_answer : (o : Ordering) (x : NewView) → (adopted o.roster o.me o.local x).answer ≡ Answer.Heard Take.Taken
adopted_answer o x =
    again_answer o.roster o.me (record { answer = Answer.Heard Take.Taken; local = entered o.local x; outs = Out.Clear ∷ entered_outs o.roster o.me o.local x }) o.local.kept
