use Rattle.std.proofs.Common.{◌∙◌}
use Rattle.fabric_audit.proofs.Stillness.{still_is}
use Rattle.fabric_audit.proofs.settling.is_still.Goals as goal

pub returns : goal.returns
returns c =
    c.is_still_at-still.ensures
    ∙ still_is c.args.script.now c.args.timeouts c.args.trace.now c.in_ok-core.core c.leaves-leaves.result c.len-used.result c.in_ok-core.ensures
    (c.leaves-leaves.ensures c.args.trace.now.id) c.len-used.ensures
