use Rattle.std.proofs.Common.{length, sum, ap, sym, ◌∙◌}
use Rattle.script_keys.proofs.Rows.{flat, counted, same_ring}
use Rattle.script_keys.proofs.rings.script_ring.Goals as goal

pub keyring-requires-clause-replicas : goal.keyring-requires-clause-replicas
keyring-requires-clause-replicas c =
    (flat c.args.script.now c.as_slice.result.now c.args.signers.now (c.as_slice.ensures.value ∙ c.in_ok-replicas.ensures) c.requires.signers).long
    ∙ ap sum (sym c.requires.sizes)

pub keyring-requires-clause-clients : goal.keyring-requires-clause-clients
keyring-requires-clause-clients c =
    (counted c.args.script.now c.as_slice-2.result.now c.args.clients.now (c.as_slice-2.ensures.value ∙ c.in_ok-clients.ensures) c.requires.clients).long
    ∙ ap length (sym c.requires.homes)

pub keyring-requires-clause-replica_kinds : goal.keyring-requires-clause-replica_kinds
keyring-requires-clause-replica_kinds c =
    (flat c.args.script.now c.as_slice.result.now c.args.signers.now (c.as_slice.ensures.value ∙ c.in_ok-replicas.ensures) c.requires.signers).kinds

pub keyring-requires-clause-client_kinds : goal.keyring-requires-clause-client_kinds
keyring-requires-clause-client_kinds c =
    (counted c.args.script.now c.as_slice-2.result.now c.args.clients.now (c.as_slice-2.ensures.value ∙ c.in_ok-clients.ensures) c.requires.clients).kinds

pub returns : goal.returns
returns c =
    let f = flat c.args.script.now c.as_slice.result.now c.args.signers.now (c.as_slice.ensures.value ∙ c.in_ok-replicas.ensures) c.requires.signers in
    let k = counted c.args.script.now c.as_slice-2.result.now c.args.clients.now (c.as_slice-2.ensures.value ∙ c.in_ok-clients.ensures) c.requires.clients in
    same_ring c.args.script.now c.args.members.now.sizes c.as_slice.result.now c.as_slice-2.result.now c.keyring.result c.requires.sizes f k c.keyring.ensures
