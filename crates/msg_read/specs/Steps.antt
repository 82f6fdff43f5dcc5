-- Reading bytes from the left, up to the first fault: where reading stands, and how a reader is made of smaller ones (ours).
use Rattle.std.specs.Prelude.{◌≡◌, ℕ, zero, suc, ◌+◌, Bool, true, List, [], ◌∷◌, Option, Some, None, Result, Ok, Err, if◌then◌else◌}
use Rattle.fab_codec.specs.declared.faults.CodeFault.{CodeFault}
use Rattle.msg_read.specs.declared.faults.DecodeFault.{DecodeFault}
use Rattle.msg_read.specs.declared.faults.DecodeFault.TheVariants.{Code, NoMemory}

-- ---- where reading stands

-- all the bytes, and the place of the next one to be read
pub record At : Type 0 where
  pub bytes : List ℕ
  pub place : ℕ

abbrev pub moved : ℕ → At → At
moved n at = record at { place = at.place + n }

-- a reader: what stands at a place and the place behind it, or the first fault
abbrev pub Reader : Type 0 → Type 0
Reader X = At → Result (X × At) CodeFault

infixl 10 ◌>>=◌
abbrev pub ◌>>=◌ : {A B : Type 0} → Result A CodeFault → (A → Result B CodeFault) → Result B CodeFault
(Ok x) >>= f = f x
(Err e) >>= f = Err e

-- ---- readers made of readers

-- a second one, which knows what the first one read
abbrev pub next : {X Y : Type 0} → Reader X → (X → Reader Y) → Reader (X × Y)
next first second at = do
  x ← first at
  y ← second x.0 x.1
  Ok ((x.0, y.0), y.1)

-- one behind the other
abbrev pub both : {X Y : Type 0} → Reader X → Reader Y → Reader (X × Y)
both first second = next first (λ _. second)

-- a value that is made of what is read
abbrev pub made : {X Y : Type 0} → (X → Y) → Reader X → Reader Y
made to read at = do
  x ← read at
  Ok (to x.0, x.1)

-- a value that is judged once it was read whole; the fault has the place of its first byte
abbrev pub checked : {X : Type 0} → (X → Bool) → (ℕ → CodeFault) → Reader X → Reader X
checked passes fault read at = do
  x ← read at
  if passes x.0 then Ok x else Err (fault at.place)

-- so many items. Each is read with what its list keeps of the one before it
unfoldable pub items : {X K : Type 0} → (K → Reader X) → (X → K) → ℕ → K → Reader (List X)
items item key zero last at = Ok ([], at)
items item key (suc n) last at = made (λ p. p.0 ∷ p.1) (next (item last) (λ x. items item key n (key x))) at

-- whether an item comes after the one before it in its list, if there is one
abbrev pub comes_after : {K : Type 0} → (K → K → Bool) → Option K → K → Bool
comes_after before None k = true
comes_after before (Some last) k = before last k

-- ---- what a function answers

abbrev pub Fails : {Y : Type 0} → DecodeFault → Result Y CodeFault → Type 0
Fails (Code f) read = read ≡ Err f
Fails NoMemory read = Unit {0}

-- what a function answered, seen by view, is what reading gives, unless memory was refused
abbrev pub Gives : {X Y : Type 0} → (X → Y) → Result X DecodeFault → Result Y CodeFault → Type 0
Gives view (Ok x) read = read ≡ Ok (view x)
Gives view (Err e) read = Fails e read
