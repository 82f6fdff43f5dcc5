use Rattle.std.proofs.Common.{◌≡◌, ◌+◌, ◌<◌, suc, ◌++◌, ◌∷◌, [], drop, length, ap, sym, ◌∙◌, add-one, arith, rules}
use Rattle.std.proofs.Math.Seq.{drop-cons}
use Rattle.fab_base.specs.Table.{outcomes_of, state_after_all}
use Rattle.seq_table.specs.Holding.{state_of}
use Rattle.seq_table.specs.Batches.{values_written}
use Rattle.seq_table.proofs.Reserving.{outcomes_step, state_step}
use Rattle.seq_table.proofs.book.Table.apply_batch.Goals as goal

pub loop-request-preserved : goal.loop-request-preserved
loop-request-preserved c =
    let batch = c.as_slice-request-items.result.now in
    let i = c.loop-request.request-index in
    let r = c.request-item.result in
    let before = state_of c.loop-request.self in
    let after = state_of c.apply_in.new.self in
    let below : i < length batch = omega arith in
    let left : drop i batch ≡ r ∷ drop (i + 1) batch = rw add-one (drop-cons batch i r below ∙ ap (λ x. x ∷ drop (suc i) batch) (sym c.request-item.is)) in
    let pushed : c.push.new.self.items ≡ c.loop-request.outcomes.items ++ c.apply_in.result ∷ [] = search rules in
    record {
      outcomes = outcomes_step c.loop-request.outcomes.items c.push.new.self.items (outcomes_of (state_of c.args.self.now) batch) before after (drop i batch) (drop (i + 1) batch) r c.apply_in.result
          pushed c.apply_in.ensures.outcome c.apply_in.ensures.state left c.loop-request.invariant.outcomes;
      state = state_step (state_after_all (state_of c.args.self.now) batch) before after (drop i batch) (drop (i + 1) batch) r c.apply_in.ensures.state left c.loop-request.invariant.state;
      places = c.pop_front.ensures.rest ∙ ap (λ l. drop 1 l) (c.loop-request.invariant.places ∙ ap values_written left);
      made = search rules;
      enough = search rules;
      keys = c.apply_in.ensures.keys ∙ c.loop-request.invariant.keys;
      clients = c.apply_in.ensures.clients ∙ c.loop-request.invariant.clients;
    }
