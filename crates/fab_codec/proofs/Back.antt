-- What stands at a place is read there.
use Rattle.std.proofs.Common.{◌≡◌, ℕ, ◌+◌, ◌≤◌, false, cond, ltb, List, ◌++◌, length, take, drop, Result, Ok, Err, refl, ap, ◌∙◌, arith}
use Rattle.std.specs.Int.{Width, byte_len, from_be_bytes}
use Rattle.std.proofs.lemmas.Bool.{le-ltb}
use Rattle.std.proofs.lemmas.List.{take_at, drop_at, length-append}
use Rattle.fab_codec.specs.declared.faults.CodeFault.{CodeFault}
use Rattle.fab_codec.specs.Fields.{run_at, number_at}

-- bytes that end inside the whole
inside : (front field rest : List ℕ) (n : ℕ) → length field ≡ n → ltb (length (front ++ (field ++ rest))) (length front + n) ≡ false
inside front field rest n e =
    le-ltb _ _ (let h : length front + n ≤ length (front ++ (field ++ rest)) = omega (arith, length-append front (field ++ rest), length-append field rest) in h)

cut : (front field rest : List ℕ) (n : ℕ) → length field ≡ n → take n (drop (length front) (front ++ (field ++ rest))) ≡ field
cut front field rest n e = ap (take n) (drop_at front (field ++ rest) (length front) refl) ∙ take_at field rest n e

chosen : {A : Type 0} (d : CodeFault) (x : A) → ◌≡◌ {A = Result A CodeFault} (cond false (Err d) (Ok x)) (Ok x)
chosen d x = refl

pub number_back : (w : Width) (front field rest : List ℕ) (n : ℕ) → length field ≡ byte_len w → from_be_bytes w field ≡ n
    → number_at w (front ++ (field ++ rest)) (length front) ≡ Ok n
unfolding number_at
number_back w front field rest n e is = rw (inside front field rest (byte_len w) e, cut front field rest (byte_len w) e, is) refl

pub run_back : (front run rest : List ℕ) → run_at (length run) (front ++ (run ++ rest)) (length front) ≡ Ok run
unfolding run_at
run_back front run rest = rw (inside front run rest (length run) refl, cut front run rest (length run) refl) refl
