-- A log is shut where memory is refused for anything but Emit.
use Rattle.std.proofs.Common.{◌≡◌, Bool, true, false, Result, Ok, Err, refl, sym, subst}
use Rattle.std.specs.Prelude.{IfOk, IsTrue}
use Rattle.std.specs.Result.{is_ok, is_err}
use Rattle.run_words.specs.declared.party.Act.{Act}
use Rattle.run_words.specs.declared.party.Told.{Told}
use Rattle.run_words.specs.Acts.{StaysOpen}
use Rattle.replica_log.specs.Acting.{told_anyway}
use Rattle.replica_log.specs.Keeping.{IsEmit, MayBeTold}

emit_open : (act : Act) → IsEmit act → StaysOpen act Told.NoMemory false false
emit_open Act.Emit h = refl
emit_open (Act.Hear origin heard) h = absurd h
emit_open Act.Batch h = absurd h
emit_open Act.Nudge h = absurd h
emit_open Act.Execute h = absurd h
emit_open Act.Checkpoint h = absurd h
emit_open Act.Timeout h = absurd h

other_shut : (act : Act) → (IsEmit act → true ≡ false) → StaysOpen act Told.NoMemory false true
other_shut Act.Emit h = h tt
other_shut (Act.Hear origin heard) h = refl
other_shut Act.Batch h = refl
other_shut Act.Nudge h = refl
other_shut Act.Execute h = refl
other_shut Act.Checkpoint h = refl
other_shut Act.Timeout h = refl

told_open : (act : Act) (told : Told) → MayBeTold act told → StaysOpen act told false false
told_open act Told.NoMemory h = emit_open act h
told_open act (Told.Core answer) h = (refl, refl)
told_open act (Told.Out parcels) h = (refl, refl)
told_open act (Told.KeySpent used) h = (refl, refl)

opens : {E : Type 0} (act : Act) (r : Result Told E) → IfOk r (λ told. MayBeTold act told) → (IsEmit act → IsTrue (is_ok r))
    → StaysOpen act (told_anyway r) false (is_err r)
opens act (Ok told) may emits = told_open act told may
opens act (Err x) may emits = other_shut act (λ h. sym (emits h))

pub stays_open : {E : Type 0} (act : Act) (r : Result Told E) (told : Told) (before now : Bool) → before ≡ false → told ≡ told_anyway r → now ≡ is_err r
    → IfOk r (λ x. MayBeTold act x) → (IsEmit act → IsTrue (is_ok r))
    → StaysOpen act told before now
stays_open act r told before now fresh is shut may emits =
    subst (λ (b : Bool). StaysOpen act told b now) (sym fresh)
    (subst (λ (t : Told). StaysOpen act t false now) (sym is)
    (subst (λ (b : Bool). StaysOpen act (told_anyway r) false b) (sym shut) (opens act r may emits)))
