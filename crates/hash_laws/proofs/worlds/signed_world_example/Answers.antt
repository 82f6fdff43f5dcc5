use Rattle.world_laws.proofs.LoneWorld.{is_world, all_honest, few_faulty}
use Rattle.hash_laws.proofs.SignedParts.{signed, unbroken}
use Rattle.hash_laws.proofs.worlds.signed_world_example.Goals as goal

pub returns : goal.returns
returns c = record { world = is_world; honest = all_honest; few_faulty = few_faulty; signed = signed; unbroken = unbroken }
