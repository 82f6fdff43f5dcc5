-- What a script has go wrong (ours): who is faulty, what is lost and repeated.
use Rattle.std.specs.Prelude.{ℕ, ◌+◌, ◌-◌, nat_le, nat_lt, Bool, true, cond, ◌&&◌, List, [], ◌∷◌, length, slice_index, Option, Some, None}
use Rattle.std.specs.List.{list_all}
use Rattle.std.specs.Option.{is_some}
use Rattle.fab_base.specs.Quorums.{count_members, greatest_faulty}
use Rattle.fab_base.specs.declared.ids.ReplicaId.{ReplicaId}
use Rattle.fault_script.specs.declared.scripts.Script.{Script}
use Rattle.run_words.specs.Keyed.{is_same}
use Rattle.fault_script.specs.declared.twists.Fault.{Fault}
use Rattle.fault_script.specs.declared.twists.Loss.{Loss}
use Rattle.fault_script.specs.declared.twists.FaultLine.{FaultLine}

-- two words that stand for fields of a script which aren't there yet. Nothing looks into them but proofs/Untroubled
unfoldable pub faults_of : Script → List FaultLine
faults_of script = []

unfoldable pub losses_of : Script → List Loss
losses_of script = []

-- ---- who is faulty

-- what these lines say of a replica: the first that names it
abbrev pub fault_in : List FaultLine → ReplicaId → Option Fault
fault_in [] i = None
fault_in (line ∷ rest) i = cond (is_same i line.replica) (Some line.fault) (fault_in rest i)

abbrev pub fault_of : Script → ReplicaId → Option Fault
fault_of script i = fault_in (faults_of script) i

abbrev pub is_faulty : Script → ReplicaId → Bool
is_faulty script i = is_some (fault_of script i)

-- whether each cluster of these sizes, of which the first has this number, has no more faulty members than it bears (PBFT)
abbrev pub are_few : Script → ℕ → List ℕ → Bool
are_few script c [] = true
are_few script c (n ∷ sizes) =
    nat_le (count_members n (λ k. is_faulty script (record { cluster = c; index = k }))) (greatest_faulty n) && are_few script (c + 1) sizes

abbrev pub bears_faults : Script → Bool
bears_faults script = are_few script 1 script.sizes
