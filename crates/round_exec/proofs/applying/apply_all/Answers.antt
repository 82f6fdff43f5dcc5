use Rattle.std.proofs.Common.{◌≡◌, ℕ, List, ◌+◌, ◌<◌, suc, ◌++◌, ◌∷◌, [], drop, length, ap, sym, subst, ◌∙◌, add-one, arith, rules}
use Rattle.std.specs.Prelude.{get_or, IsTrue}
use Rattle.std.specs.List.{All}
use Rattle.std.specs.Map.{keys_of}
use Rattle.std.proofs.Math.Seq.{drop-cons}
use Rattle.fab_rules.specs.declared.blocks.Block.{Block}
use Rattle.fab_rules.specs.Format.{batch_fits}
use Rattle.fab_rules.specs.Ledger.{state_after_blocks}
use Rattle.seq_table.specs.Holding.{state_of}
use Rattle.seq_table.specs.Batches.{HoldsFor}
use Rattle.round_exec.specs.Done.{outcomes_in, rooms_for}
use Rattle.round_exec.specs.Book.{are_clients}
use Rattle.round_exec.proofs.Running.{outcomes_step, state_step, batch_short, clients_below}
use Rattle.round_exec.proofs.applying.apply_all.Goals as goal

pub loop-block-preserved : goal.loop-block-preserved
loop-block-preserved c =
    let blocks = c.args.blocks.now in
    let i = c.loop-block.block-index in
    let b = c.block-item.result in
    let before = state_of c.loop-block.table in
    let after = state_of c.apply_batch-came.new.self in
    let below : i < length blocks = omega arith in
    let left : drop i blocks ≡ b ∷ drop (i + 1) blocks = rw add-one (drop-cons blocks i b below ∙ ap (λ x. x ∷ drop (suc i) blocks) (sym c.block-item.is)) in
    let pushed : c.push.new.self.items ≡ c.loop-block.outcomes.items ++ c.apply_batch-came.result ∷ [] = search rules in
    record {
      outcomes = outcomes_step c.loop-block.outcomes.items c.push.new.self.items (c.args.outcomes.now.items ++ outcomes_in (state_of c.args.table.now) blocks) before after (drop i blocks) (drop (i + 1) blocks) b c.apply_batch-came.result
          pushed c.apply_batch-came.ensures.outcomes c.apply_batch-came.ensures.state left c.loop-block.invariant.outcomes;
      state = state_step (state_after_blocks (state_of c.args.table.now) blocks) before after (drop i blocks) (drop (i + 1) blocks) b c.apply_batch-came.ensures.state left c.loop-block.invariant.state;
      rooms = c.pop_front.ensures.rest ∙ ap (λ l. drop 1 l) (c.loop-block.invariant.rooms ∙ ap rooms_for left);
      made = search rules;
      enough = search rules;
      keys = c.apply_batch-came.ensures.keys ∙ c.loop-block.invariant.keys;
      clients = c.apply_batch-came.ensures.clients ∙ c.loop-block.invariant.clients;
    }

pub apply_batch-came-requires-clause-clients : goal.apply_batch-came-requires-clause-clients
apply_batch-came-requires-clause-clients c =
    let blocks = c.args.blocks.now in
    let b = c.block-item.result in
    let below : c.loop-block.block-index < length blocks = omega arith in
    let sound = subst (λ (x : Block). IsTrue (are_clients (length c.args.table.now.stamps) x.batch)) (sym c.block-item.is) (c.requires.sound c.loop-block.block-index b below).1 in
    subst (λ n. All (λ r. r.client.number < n) b.batch) (sym c.loop-block.invariant.clients) (clients_below (length c.args.table.now.stamps) b.batch sound)

pub apply_batch-came-requires-clause-short : goal.apply_batch-came-requires-clause-short
apply_batch-came-requires-clause-short c =
    let blocks = c.args.blocks.now in
    let b = c.block-item.result in
    let below : c.loop-block.block-index < length blocks = omega arith in
    batch_short b.batch (subst (λ (x : Block). IsTrue (batch_fits x.batch)) (sym c.block-item.is) (c.requires.sound c.loop-block.block-index b below).0)

pub apply_batch-came-requires-clause-held : goal.apply_batch-came-requires-clause-held
apply_batch-came-requires-clause-held c =
    let blocks = c.args.blocks.now in
    let b = c.block-item.result in
    let below : c.loop-block.block-index < length blocks = omega arith in
    let keys = keys_of c.loop-block.table.held in
    subst (λ (x : Block). All (λ r. HoldsFor keys r.op) x.batch) (sym c.block-item.is)
    (subst (λ (ks : List (List ℕ)). All (λ r. HoldsFor ks r.op) (get_or blocks c.loop-block.block-index b).batch) (sym c.loop-block.invariant.keys) (c.requires.held c.loop-block.block-index b below))
