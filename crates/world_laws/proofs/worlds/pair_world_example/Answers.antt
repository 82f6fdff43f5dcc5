use Rattle.std.proofs.Common.{refl}
use Rattle.world_laws.proofs.PairWorld.{is_world, all_honest, few_faulty, unforged, no_clash}
use Rattle.world_laws.proofs.worlds.pair_world_example.Goals as goal

pub returns : goal.returns
returns c = record { world = is_world; honest = all_honest; few_faulty = few_faulty; unforged = unforged; no_clash = no_clash; ledger = λ first second. refl }
