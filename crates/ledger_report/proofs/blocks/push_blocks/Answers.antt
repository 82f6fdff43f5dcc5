use Rattle.std.proofs.Common.{◌<◌, ◌∙◌, sym, subst}
use Rattle.std.specs.List.{All}
use Rattle.round_exec.proofs.Running.{state_step, batch_short, clients_below}
use Rattle.ledger_report.specs.Walking.{lines_told}
use Rattle.ledger_report.proofs.Walking.{drop_at, lines_step}
use Rattle.ledger_report.proofs.blocks.push_blocks.Goals as goal

pub loop-place-preserved : goal.loop-place-preserved
loop-place-preserved c =
    let blocks = c.args.rounds.now.rounds.blocks in
    let here = c.loop-place in
    let b = c.block_at-block.result.now in
    let left = drop_at blocks here.place b c.block_at-block.ensures.is in
    let came = c.in_ok-outcomes.ensures in
    record {
      clients = came.clients ∙ here.invariant.clients;
      lines = lines_step (lines_told c.args.told.now) _ _ _ _ _ _ _ b c.in_ok-outcomes.outcomes c.in_ok-push_block.ensures came.outcomes came.state left here.invariant.lines;
      state = state_step _ _ _ _ _ b came.state left here.invariant.state;
    }

-- the requests of a block are of the table's clients, and write no more than a value may be
pub run-requires-clause-clients : goal.run-requires-clause-clients
run-requires-clause-clients c =
    let b = c.block_at-block.result.now in
    subst (λ n. All (λ r. r.client.number < n) b.batch) (sym c.loop-place.invariant.clients)
    (clients_below c.args.rounds.now.clients b.batch c.block_at-block.ensures.clients)

pub run-requires-clause-short : goal.run-requires-clause-short
run-requires-clause-short c = batch_short c.block_at-block.result.now.batch c.block_at-block.ensures.fits
