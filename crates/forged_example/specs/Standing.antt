-- Logs that stand, each of its replica: open, with a journal that the replica's machine makes and of which all that was heard is sound.
use Rattle.std.specs.Prelude.{◌≡◌, ℕ, false, List, [], ◌∷◌}
use Rattle.lms_tree.specs.Heights.{leaf_count}
use Rattle.lms_tree.specs.Signatures.{leaf_signature}
use Rattle.lms_leaf.specs.Leaves.{Leaves}
use Rattle.bft_verify.specs.Admitted.{Admitted}
use Rattle.replica_log.specs.Logs.{Log, made_of}
use Rattle.run_words.specs.Journal.{Maker, IsMade, AreSound}

-- what a log was made with
abbrev pub maker_in : Log Leaves → Maker
maker_in log =
    made_of (λ (s : Leaves). leaf_count s.key.height) (λ (s : Leaves) (k : ℕ) (content : List ℕ). leaf_signature s.key k content) log

pub record IsStanding (m : Maker) (log : Log Leaves) : Type 0 where
  pub made : maker_in log ≡ m
  pub is_open : log.shut ≡ false
  pub replays : IsMade m log.journal
  pub sound : AreSound m log.journal

abbrev pub AreStanding : List Maker → List (Log Leaves) → Type 0
AreStanding [] [] = Unit {0}
AreStanding (m ∷ makers) (log ∷ logs) = IsStanding m log × AreStanding makers logs
AreStanding [] (log ∷ logs) = ⊥
AreStanding (m ∷ makers) [] = ⊥

-- the message was let in for the log's own members and keys
abbrev pub IsForLog : Admitted → Log Leaves → Type 0
IsForLog heard log = (heard.members ≡ log.roster) × (heard.ring ≡ log.ring)
