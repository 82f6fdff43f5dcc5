use Rattle.std.proofs.Common.{ap, subst, sym, ◌∙◌, ◌≡◌, ◌+◌, ◌<◌, length, slice_index}
use Rattle.std.proofs.Math.ListN.{set}
use Rattle.seq_table.specs.Holding.{Holding, state_of}
use Rattle.fab_base.specs.Table.{state_after, last_of}
use Rattle.seq_table.specs.contracts.book.Table.{the_view}
use Rattle.seq_table.proofs.Steps.{stays_short, took_effect}
use Rattle.seq_table.proofs.book.Table.apply.Goals as goal

pub invariant_of-self-2 : goal.invariant_of-self-2
invariant_of-self-2 c = stays_short c.self.inside.held c.apply.new.self c.args.request.now.op c.self.invariant c.requires.short c.in_ok-reply.ensures.state

pub returns-clause-state : goal.returns-clause-state
returns-clause-state c =
    let request = c.args.request.now in
    let stamps = c.self.inside.stamps.items in
    let within : request.client.number < length stamps = subst (λ (t : Holding). request.client.number < length t.stamps) (sym c.self.view_is) c.requires.client in
    let next : request.stamp ≡ slice_index stamps request.client.number + 1 =
    c.in_default.ensures.due ∙ ap (λ t. last_of (state_of t) request.client.number + 1) (sym c.self.view_is) in
    ap (λ k. state_of (record { held = c.apply.new.self; stamps = set stamps k request.stamp })) c.from.ensures
    ∙ took_effect (the_view c.self.inside) c.apply.new.self request within next c.in_ok-reply.ensures.state
    ∙ ap (λ t. state_after (state_of t) request) c.self.view_is
