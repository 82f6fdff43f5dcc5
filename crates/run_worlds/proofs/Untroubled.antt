-- A script says nothing yet of faults and losses: what the words that stand for these fields come to. Each goes where the field comes.
use Rattle.std.specs.Prelude.{◌≡◌, [], refl, None}
use Rattle.fab_base.specs.declared.ids.ReplicaId.{ReplicaId}
use Rattle.fault_script.specs.declared.scripts.Script.{Script}
use Rattle.run_worlds.specs.Troubles.{faults_of, losses_of, fault_of}

pub no_faults : (script : Script) → faults_of script ≡ []
unfolding faults_of
no_faults script = refl

pub none_faulty : (script : Script) (i : ReplicaId) → fault_of script i ≡ None
unfolding faults_of
none_faulty script i = refl

pub no_losses : (script : Script) → losses_of script ≡ []
unfolding losses_of
no_losses script = refl
