use Rattle.std.proofs.Common.{◌<◌, subst}
use Rattle.std.proofs.lemmas.List.Elements.{All-more}
use Rattle.fab_base.specs.declared.requests.Request.{Request}
use Rattle.seq_table.specs.Holding.{WritesShort}
use Rattle.fab_cases.proofs.tables.are_fit.Goals as goal

pub loop-request-preserved : goal.loop-request-preserved
loop-request-preserved c =
    let is_client : Request → Type 0 = λ r. r.client.number < c.args.clients in
    let is_short : Request → Type 0 = λ r. WritesShort r.op in
    let batch = c.args.batch.now in
    let i = c.loop-request.request-index in
    let r = c.request-item.result in
    record {
      clients = All-more is_client batch i r c.loop-request-test.true c.loop-request.invariant.clients (subst is_client c.request-item.is (c.is_fit.ensures.client c.if-not-is_fit.false));
      short = All-more is_short batch i r c.loop-request-test.true c.loop-request.invariant.short (subst is_short c.request-item.is (c.is_fit.ensures.short c.if-not-is_fit.false));
    }
