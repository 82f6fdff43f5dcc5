use Rattle.std.proofs.Common.{refl, inl}
use Rattle.world_laws.proofs.BusyWorld.{is_world, all_honest, few_faulty, unforged, no_clash, repeated}
use Rattle.world_laws.proofs.worlds.busy_world_example.Goals as goal

pub returns : goal.returns
returns c = record {
  world = is_world;
  honest = all_honest;
  few_faulty = few_faulty;
  unforged = unforged;
  no_clash = no_clash;
  ledger = λ seed. refl;
  repeated = repeated;
  carried_over = λ seed. inl refl;
}
