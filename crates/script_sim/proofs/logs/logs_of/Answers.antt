use Rattle.std.proofs.Common.{rules, ◌≡◌, ap, ◌∙◌, length, get_or}
use Rattle.fab_base.specs.Limits.{Roster}
use Rattle.fab_base.specs.Roster.{is_replica}
use Rattle.audit_laws.proofs.Members.{takes_part}
use Rattle.script_sim.proofs.Starting.{in_ring, has_place, next_at_length, goes_on}
use Rattle.script_sim.proofs.logs.logs_of.Goals as goal

pub log_of-requires-clause-member : goal.log_of-requires-clause-member
log_of-requires-clause-member c =
    let at : c.len.result ≡ length c.loop-signer.logs.items = search rules in
    let next = next_at_length c.args.script.now c.args.replicas.now c.args.signers.items c.loop-signer.logs.items c.loop-signer.yielded
    c.loop-signer.signer-iterator.rest.items c.next.new.self.rest.items c.in-Some.signer (record { cluster = 0; index = 0 }) c.len.result
    c.requires.replicas c.requires.signers c.loop-signer.invariant.0 c.loop-signer.invariant.1 c.in-Some.ensures.steps.0 at in
    let me = get_or c.args.replicas.now c.len.result (record { cluster = 0; index = 0 }) in
    ap (λ (r : Roster). is_replica r me) c.requires.members ∙ takes_part c.args.script.now me next.is_in

pub log_of-requires-clause-unused : goal.log_of-requires-clause-unused
log_of-requires-clause-unused c =
    let at : c.len.result ≡ length c.loop-signer.logs.items = search rules in
    let next = next_at_length c.args.script.now c.args.replicas.now c.args.signers.items c.loop-signer.logs.items c.loop-signer.yielded
    c.loop-signer.signer-iterator.rest.items c.next.new.self.rest.items c.in-Some.signer (record { cluster = 0; index = 0 }) c.len.result
    c.requires.replicas c.requires.signers c.loop-signer.invariant.0 c.loop-signer.invariant.1 c.in-Some.ensures.steps.0 at in
    ap (λ s. s.used) next.signs

pub log_of-requires-clause-key : goal.log_of-requires-clause-key
log_of-requires-clause-key c =
    let at : c.len.result ≡ length c.loop-signer.logs.items = search rules in
    let next = next_at_length c.args.script.now c.args.replicas.now c.args.signers.items c.loop-signer.logs.items c.loop-signer.yielded
    c.loop-signer.signer-iterator.rest.items c.next.new.self.rest.items c.in-Some.signer (record { cluster = 0; index = 0 }) c.len.result
    c.requires.replicas c.requires.signers c.loop-signer.invariant.0 c.loop-signer.invariant.1 c.in-Some.ensures.steps.0 at in
    in_ring c.args.script.now c.args.ring.now (get_or c.args.replicas.now c.len.result (record { cluster = 0; index = 0 })) c.in-Some.signer c.requires.ring next

pub log_of-requires-clause-fits : goal.log_of-requires-clause-fits
log_of-requires-clause-fits c =
    let at : c.len.result ≡ length c.loop-signer.logs.items = search rules in
    let next = next_at_length c.args.script.now c.args.replicas.now c.args.signers.items c.loop-signer.logs.items c.loop-signer.yielded
    c.loop-signer.signer-iterator.rest.items c.next.new.self.rest.items c.in-Some.signer (record { cluster = 0; index = 0 }) c.len.result
    c.requires.replicas c.requires.signers c.loop-signer.invariant.0 c.loop-signer.invariant.1 c.in-Some.ensures.steps.0 at in
    has_place c.args.script.now (get_or c.args.replicas.now c.len.result (record { cluster = 0; index = 0 })) c.in-Some.signer next

pub loop-signer-preserved : goal.loop-signer-preserved
loop-signer-preserved c =
    let at : c.len.result ≡ length c.loop-signer.logs.items = search rules in
    goes_on c.args.script.now c.args.replicas.now c.args.signers.items c.loop-signer.logs.items c.push.new.self.items c.loop-signer.yielded
    c.loop-signer.signer-iterator.rest.items c.next.new.self.rest.items c.in-Some.signer c.in_ok-log.log c.args.members.now c.args.ring.now
    (record { cluster = 0; index = 0 }) c.len.result
    c.requires.replicas c.requires.signers c.requires.members c.requires.ring c.loop-signer.invariant.0 c.loop-signer.invariant.1
    c.in-Some.ensures.steps.0 at c.in_ok-log.ensures c.in_ok-push.ensures.items
