-- The next round is within the limits, where its certificates are kept.
use Rattle.std.proofs.Common.{◌≡◌, ℕ, ◌+◌, ◌≤◌, List, length, Option, Some, None, Result, Ok, Err, refl, subst, ap, ◌∙◌, arith}
use Rattle.std.specs.Bool.{IsTrue}
use Rattle.fab_base.specs.declared.limits.TheConstants.{GREATEST_NUMBER}
use Rattle.fab_base.specs.declared.ids.ReplicaId.{ReplicaId}
use Rattle.fab_base.specs.Limits.{Roster, IsWithinLimits}
use Rattle.fab_base.specs.Roster.{is_replica}
use Rattle.fab_rules.specs.declared.blocks.Block.{Block}
use Rattle.fab_rules.specs.Ledger.{RunBlock}
use Rattle.fab_machine.specs.State.{Rounds, Replica}
use Rattle.fab_machine.specs.Rounds.{next_round, with_round}
use Rattle.fab_machine.specs.Step.{Event, after_noting, own_block, execute_step}
use Rattle.fab_machine.specs.ReplicaState.{IsReplicaState}
use Rattle.round_exec.specs.declared.ran.Ran.{Ran}
use Rattle.round_exec.specs.Running.{ran_of}
use Rattle.fab_machine.proofs.Members.{is_member}
use Rattle.fab_machine.proofs.ReplicaStates.{step_state}

noted_rounds : (r : Roster) (me : ReplicaId) (s : Replica) (rounds : Rounds) (o : Option RunBlock) → (after_noting r me s rounds o).rounds ≡ rounds
noted_rounds r me s rounds None = refl
noted_rounds r me s rounds (Some ran) = refl

pub next_within : (r : Roster) (me : ReplicaId) (s : Replica) (blocks : List Block) → IsWithinLimits r → IsTrue (is_replica r me)
    → next_round (length r.sizes) s.rounds ≡ Ok blocks → IsReplicaState r me s → s.rounds.executed + 1 ≤ GREATEST_NUMBER
next_within r me s blocks limits known found is =
    let rounds = with_round s.rounds blocks in
    let now = subst (λ o. IsReplicaState r me (execute_step r me s o).state) found (step_state r me s Event.Execute (is_member r me limits known) tt is) in
    omega (arith, now.told, now.local.executed_fits, ap (λ (t : Rounds). t.executed) (noted_rounds r me s rounds (own_block r me rounds)))

-- and so is the round that was executed
pub round_within : (r : Roster) (me : ReplicaId) (s : Replica) (clusters round : ℕ) → IsWithinLimits r → IsTrue (is_replica r me)
    → IsReplicaState r me s → clusters ≡ length r.sizes → Ran.Executed round ≡ ran_of (s.rounds.executed + 1) (next_round clusters s.rounds)
    → round ≤ GREATEST_NUMBER
round_within r me s clusters round limits known is size answer =
    go (next_round (length r.sizes) s.rounds) refl (answer ∙ ap (λ n. ran_of (s.rounds.executed + 1) (next_round n s.rounds)) size)
  where
    go : (o : Result (List Block) ℕ) → next_round (length r.sizes) s.rounds ≡ o → Ran.Executed round ≡ ran_of (s.rounds.executed + 1) o → round ≤ GREATEST_NUMBER
    go (Err missing) e h = cc
    go (Ok blocks) e h =
        let within = next_within r me s blocks limits known e is in
        let same : round ≡ s.rounds.executed + 1 = cc in
        omega (arith, within, same)
