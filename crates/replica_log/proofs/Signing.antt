-- The signer is what it was, unless something was sent.
use Rattle.std.proofs.Common.{◌≡◌, Result, Ok, Err, sym, subst}
use Rattle.fab_base.specs.declared.answers.Answer.{Answer}
use Rattle.run_words.specs.declared.party.Told.{Told}
use Rattle.replica_log.specs.Acting.{told_by, told_anyway}
use Rattle.replica_log.specs.Logs.{KeepsSigner}

-- an act that the core answers
pub core_keeps : {S E : Type 0} (r : Result Answer E) (t : Result Told E) (old now : S) → t ≡ told_by r → now ≡ old → KeepsSigner (told_anyway t) old now
core_keeps {S} {E} r t old now told same = subst (λ (x : Result Told E). KeepsSigner (told_anyway x) old now) (sym told) (by r)
  where
    by : (r : Result Answer E) → KeepsSigner (told_anyway (told_by r)) old now
    by (Ok answer) = same
    by (Err e) = same

-- what is told anyway
pub told_keeps : {S E : Type 0} (t : Result Told E) (told : Told) (old now : S) → told ≡ told_anyway t → KeepsSigner (told_anyway t) old now
    → KeepsSigner told old now
told_keeps t told old now is keeps = subst (λ (x : Told). KeepsSigner x old now) (sym is) keeps
