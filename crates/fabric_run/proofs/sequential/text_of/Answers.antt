use Rattle.std.proofs.Common.{◌<◌, All, length, sym, subst, rules}
use Rattle.std.specs.Prelude.{List}
use Rattle.fab_base.specs.declared.requests.Request.{Request}
use Rattle.seq_table.specs.Holding.{WritesShort}
use Rattle.fabric_run.proofs.Limits.{requests_declared, requests_short}
use Rattle.fabric_run.proofs.sequential.text_of.Goals as goal

pub run-requires-clause-clients : goal.run-requires-clause-clients
run-requires-clause-clients c =
    subst (λ (l : List Request). All (λ (r : Request). r.client.number < length c.in_ok-table.table.stamps) l) (sym c.in_ok-requests.ensures)
    (requests_declared c.args.script (length c.in_ok-table.table.stamps) (search rules) c.requires)

pub run-requires-clause-short : goal.run-requires-clause-short
run-requires-clause-short c =
    subst (λ (l : List Request). All (λ (r : Request). WritesShort r.op) l) (sym c.in_ok-requests.ensures) (requests_short c.args.script c.requires)
