use Rattle.std.proofs.Common.{◌≡◌, take}
use Rattle.fabric_audit.specs.Stamps.{last_stamps}
use Rattle.fabric_audit.proofs.effects.last_stamps.Given as goal

abbrev pub invariant-loop-block : goal.invariant-loop-block
invariant-loop-block l = l.stamps ≡ last_stamps (take l.block-index l.blocks)
