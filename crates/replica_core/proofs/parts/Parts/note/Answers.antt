use Rattle.std.proofs.Common.{ap, subst, arith}
use Rattle.std.specs.Prelude.{IsTrue}
use Rattle.round_exec.specs.Book.{are_clients}
use Rattle.replica_core.proofs.Noting.{noted}
use Rattle.replica_core.proofs.parts.Parts.note.Goals as goal

pub served-requires-clause-round : goal.served-requires-clause-round
served-requires-clause-round c = omega (arith, ap (λ a. a.state.local.executed) c.self.view_is)

pub served-requires-clause-upto : goal.served-requires-clause-upto
served-requires-clause-upto c = omega arith

pub served-requires-clause-clients : goal.served-requires-clause-clients
served-requires-clause-clients c = subst (λ n. IsTrue (are_clients n c.in-Some.block.now.batch)) c.self.invariant.clients c.in-Some.ensures.sound.1

pub returns-in_ok-push_back-clause-state : goal.returns-in_ok-push_back-clause-state
returns-in_ok-push_back-clause-state c =
    noted c.args.self.now c.self.inside.me c.self.inside.order c.served.new.self c.self.inside.rounds c.self.inside.talk c.self.inside.outbox.items c.push_back.new.self.items
    c.args.round c.in-Some.block.now c.in-Some-outcomes.outcomes.now _ c.in_ok-note.field-0 c.self.view_is c.self.invariant c.requires.executed
    c.in-Some.ensures.is c.in-Some-outcomes.ensures c.in_ok-served.ensures.live c.in_ok-served.ensures.state c.in_ok-note.ensures
    c.in_ok-push_back.ensures.items (cc)
