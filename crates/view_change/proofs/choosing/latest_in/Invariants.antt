use Rattle.std.proofs.Common.{◌≡◌, take, fold, None}
use Rattle.std.specs.List.{flat_map}
use Rattle.std.specs.Option.{option_copied}
use Rattle.fab_rules.specs.Choice.{better}
use Rattle.view_change.proofs.choosing.latest_in.Given as goal

abbrev pub invariant-loop-change : goal.invariant-loop-change
invariant-loop-change l = option_copied l.kept ≡ fold (better l.slot) None (flat_map (λ c. c.prepared) (take l.change-index l.changes))
