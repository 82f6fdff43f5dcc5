use Rattle.lmots_core.proofs.ChainLemmas.{held_none, held_more}
use Rattle.lmots_core.specs.Running.{value_in}
use Rattle.lmots_core.proofs.public_keys.feed_values.Goals as goal

pub values-init : goal.values-init
values-init c = λ front held. held_none c.args.hasher.now front (value_in c.args.values.now) held

pub values-preserved : goal.values-preserved
values-preserved c = λ front held.
    held_more c.update.new.self front (value_in c.args.values.now) c.values.i c.digest_of.result c.digest_of.ensures
    (c.update.ensures _ (c.values.invariant front held))
