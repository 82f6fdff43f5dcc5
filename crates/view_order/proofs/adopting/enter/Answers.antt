use Rattle.std.proofs.Common.{◌≡◌, ℕ, ◌+◌, ◌≤◌, max, length, sym, ap, subst, ◌∙◌, arith}
use Rattle.fab_base.specs.declared.limits.TheConstants.{GREATEST_NUMBER}
use Rattle.fab_rules.specs.Choice.{base, top}
use Rattle.fab_machine.specs.Adopting.{low_by, proof_by, chosen_proposal}
use Rattle.fab_machine.specs.LocalState.{IsHeldBatch, IsLowShown}
use Rattle.fab_machine.proofs.Shaped.{new_view_view}
use Rattle.fab_machine.proofs.Adopting.{top_within, choice_held, mark_shown, is_new_view_taken}
use Rattle.view_order.proofs.Entering.{entered_is, outs_are, within_window, next_upto, up_to_mark, from_mark}
use Rattle.view_order.proofs.adopting.enter.Goals as goal

-- the mark is that of the definition
mark_is : (mark low at base lowest : ℕ) → mark ≡ max low at → low ≡ lowest → at ≡ base → mark ≡ max lowest base
mark_is mark low at base lowest m l b = m ∙ (ap (λ v. max v at) l ∙ ap (max lowest) b)

pub overflow_add-next : goal.overflow_add-next
overflow_add-next c =
    let o = c.args.order.now in
    let x = c.args.new_view.now in
    let mark = mark_is c.max-low.result _ _ _ _ c.max-low.ensures c.low.ensures c.choose-choice.ensures.base in
    let next : c.max-next.result ≡ max (top x) c.max-low.result = c.max-next.ensures ∙ ap (λ v. max v c.max-low.result) c.choose-choice.ensures.top in
    let shown = mark_shown o.roster o.me o.local x c.requires.shaped (is_new_view_taken o.me o.local x c.requires.taken).mine c.requires.whole in
    let upto = next_upto c.max-low.result o.local.slots.low (top x) (base x) o.roster.window c.max-next.result GREATEST_NUMBER mark next
    (top_within o.roster x c.requires.shaped) (omega (arith, mark, shown.upto)) in
    omega (arith, upto, c.requires.limits.window)

pub enter-requires-clause-above : goal.enter-requires-clause-above
enter-requires-clause-above c = (is_new_view_taken c.args.order.now.me c.args.order.now.local c.args.new_view.now c.requires.taken).above

pub enter-requires-clause-upto : goal.enter-requires-clause-upto
enter-requires-clause-upto c = new_view_view c.args.order.now.roster c.args.new_view.now c.requires.shaped

pub enter-requires-clause-up : goal.enter-requires-clause-up
enter-requires-clause-up c =
    let mark = mark_is c.max-low.result _ _ _ _ c.max-low.ensures c.low.ensures c.choose-choice.ensures.base in
    up_to_mark c.max-low.result c.args.order.now.local.slots.low (base c.args.new_view.now) mark

pub enter-requires-clause-shown : goal.enter-requires-clause-shown
enter-requires-clause-shown c =
    let o = c.args.order.now in
    let x = c.args.new_view.now in
    let mark : c.max-low.result ≡ low_by o.local x = mark_is c.max-low.result _ _ _ _ c.max-low.ensures c.low.ensures c.choose-choice.ensures.base in
    let shown = mark_shown o.roster o.me o.local x c.requires.shaped (is_new_view_taken o.me o.local x c.requires.taken).mine c.requires.whole in
    subst (λ low. IsLowShown o.roster o.me low c.in_ok-proof.proof) (sym mark)
    (subst (IsLowShown o.roster o.me (low_by o.local x)) (sym c.in_ok-proof.ensures) shown)

pub overflow_add-low : goal.overflow_add-low
overflow_add-low c =
    let o = c.args.order.now in
    let x = c.args.new_view.now in
    let mark : c.max-low.result ≡ low_by o.local x = mark_is c.max-low.result _ _ _ _ c.max-low.ensures c.low.ensures c.choose-choice.ensures.base in
    let shown = mark_shown o.roster o.me o.local x c.requires.shaped (is_new_view_taken o.me o.local x c.requires.taken).mine c.requires.whole in
    omega (arith, mark, shown.upto)

pub put_entered-requires-clause-held : goal.put_entered-requires-clause-held
put_entered-requires-clause-held c = λ slot.
    let o = c.args.order.now in
    let x = c.args.new_view.now in
    subst (λ m. IsHeldBatch m.roster m.me (chosen_proposal x slot)) (sym c.in_ok-kept.ensures.state)
    (choice_held o.roster o.me x slot c.requires.shaped (is_new_view_taken o.me o.local x c.requires.taken).mine)

pub put_entered-requires-clause-within : goal.put_entered-requires-clause-within
put_entered-requires-clause-within c =
    from_mark c.max-low.result (top c.args.new_view.now) c.max-next.result (c.max-next.ensures ∙ ap (λ v. max v c.max-low.result) c.choose-choice.ensures.top)

pub returns-in-Ok-clause-outs : goal.returns-in-Ok-clause-outs
returns-in-Ok-clause-outs c =
    let o = c.args.order.now in
    let x = c.args.new_view.now in
    let mark : c.max-low.result ≡ low_by o.local x = mark_is c.max-low.result _ _ _ _ c.max-low.ensures c.low.ensures c.choose-choice.ensures.base in
    let next : c.max-next.result + 1 ≡ max (top x) c.max-low.result + 1 = ap (λ n. n + 1) (c.max-next.ensures ∙ ap (λ v. max v c.max-low.result) c.choose-choice.ensures.top) in
    outs_are o c.enter.new.self x c.max-low.result (c.max-next.result + 1) c.in_ok-proof.proof c.choose-choice.result.base c.args.outs.now c.put_entered.new.outs mark
    next c.choose-choice.ensures.base c.in_ok-kept.ensures.state c.in-Ok.ensures.outs

pub returns-in-Ok-clause-state : goal.returns-in-Ok-clause-state
returns-in-Ok-clause-state c =
    let o = c.args.order.now in
    let x = c.args.new_view.now in
    let mark : c.max-low.result ≡ low_by o.local x = mark_is c.max-low.result _ _ _ _ c.max-low.ensures c.low.ensures c.choose-choice.ensures.base in
    let next : c.max-next.result + 1 ≡ max (top x) c.max-low.result + 1 = ap (λ n. n + 1) (c.max-next.ensures ∙ ap (λ v. max v c.max-low.result) c.choose-choice.ensures.top) in
    let within = within_window c.max-low.result o.local.slots.low o.roster.window (length o.local.slots.slots) (top x) (base x) mark
    (top_within o.roster x c.requires.shaped) c.requires.whole.opened.width in
    entered_is o c.enter.new.self c.put_entered.new.order x c.max-low.result (c.max-next.result + 1) c.in_ok-proof.proof mark c.in_ok-proof.ensures next within
    c.in_ok-kept.ensures.state c.in-Ok.ensures.state
