use Rattle.std.proofs.Common.{◌<◌, take}
use Rattle.std.specs.List.{All}
use Rattle.seq_table.specs.Holding.{WritesShort}
use Rattle.fab_cases.proofs.tables.are_fit.Given as goal

abbrev pub invariant-loop-request : goal.invariant-loop-request
invariant-loop-request l = record {
  clients : All (λ r. r.client.number < l.clients) (take l.request-index l.batch);
  short : All (λ r. WritesShort r.op) (take l.request-index l.batch);
}
