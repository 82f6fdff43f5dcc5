use Rattle.std.proofs.Common.{ap, subst, sym, ◌∙◌}
use Rattle.std.specs.List.{All}
use Rattle.std.specs.Map.{keys_of}
use Rattle.fab_base.specs.Table.{value_in}
use Rattle.fab_base.specs.declared.requests.Request.{Request}
use Rattle.seq_table.specs.Holding.{Held, Holding, state_of, entries_of, is_held}
use Rattle.seq_table.specs.Batches.{HoldsFor}
use Rattle.seq_table.proofs.Reserving.{entries_of-held_for_all, held_for_all-keeps, holds_all}
use Rattle.seq_table.proofs.book.Table.reserve.Goals as goal

pub invariant_of-self : goal.invariant_of-self
invariant_of-self c = λ key value e.
    c.self.invariant key value (sym (ap (λ es. value_in es key) (ap entries_of c.in-Ok.ensures.ok ∙ entries_of-held_for_all c.self.inside.held c.args.batch.now)) ∙ e)

pub returns-in-Ok-clause-holds : goal.returns-in-Ok-clause-holds
returns-in-Ok-clause-holds c =
    subst (λ (h : Held). All (λ (r : Request). HoldsFor (keys_of h) r.op) c.args.batch.now) (sym c.in-Ok.ensures.ok) (holds_all c.self.inside.held c.args.batch.now)

pub returns-in-Ok-clause-keeps : goal.returns-in-Ok-clause-keeps
returns-in-Ok-clause-keeps c = λ key h.
    ap (λ held. is_held (keys_of held) key) c.in-Ok.ensures.ok
    ∙ held_for_all-keeps c.self.inside.held c.args.batch.now key (ap (λ (t : Holding). is_held (keys_of t.held) key) c.self.view_is ∙ h)

pub returns-in-Ok-clause-state : goal.returns-in-Ok-clause-state
returns-in-Ok-clause-state c =
    (λ i. state_of (record { held = c.in-Ok.ensures.ok i; stamps = c.self.inside.stamps.items }))
    ∙ (λ i. record { entries = entries_of-held_for_all c.self.inside.held c.args.batch.now i; stamps = c.self.inside.stamps.items })
    ∙ ap state_of c.self.view_is
