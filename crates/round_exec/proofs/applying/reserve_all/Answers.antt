use Rattle.std.proofs.Common.{◌∙◌, ◌<◌, take, length, subst, arith}
use Rattle.std.specs.List.{All}
use Rattle.std.specs.Map.{keys_of}
use Rattle.std.proofs.lemmas.List.Elements.{All-more}
use Rattle.seq_table.specs.Batches.{HoldsFor}
use Rattle.fab_rules.specs.declared.blocks.Block.{Block}
use Rattle.round_exec.proofs.Running.{held_more, rooms_step}
use Rattle.round_exec.proofs.applying.reserve_all.Goals as goal

pub loop-block-preserved : goal.loop-block-preserved
loop-block-preserved c =
    let blocks = c.args.blocks.now in
    let i = c.loop-block.block-index in
    let b = c.block-item.result in
    let before = keys_of c.loop-block.table.held in
    let after = keys_of c.reserve.new.self.held in
    let below : i < length blocks = omega arith in
    let P : Block → Type 0 = λ x. All (λ r. HoldsFor after r.op) x.batch in
    record {
      rooms = rooms_step c.loop-block.rooms.items c.push_back.new.self.items _ blocks i b below c.block-item.is c.in_ok-push_back.ensures.items
          c.in_ok-reserve.ensures.room c.loop-block.invariant.rooms;
      held = All-more P blocks i b below (held_more before after (take i blocks) c.in_ok-reserve.ensures.keeps c.loop-block.invariant.held)
          (subst P c.block-item.is c.in_ok-reserve.ensures.holds);
      state = c.in_ok-reserve.ensures.state ∙ c.loop-block.invariant.state;
    }
