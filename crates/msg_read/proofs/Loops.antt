-- Reading items one after the other, as a loop does.
use Rattle.std.proofs.Common.{◌≡◌, ℕ, suc, ◌-◌, ◌+◌, ◌≤◌, ◌<◌, List, [], ◌∷◌, ◌++◌, Result, Ok, Err, refl, sym, ap, ◌∙◌, append_assoc, arith}
use Rattle.std.proofs.lemmas.List.{append-nil}
use Rattle.fab_codec.specs.declared.faults.CodeFault.{CodeFault}
use Rattle.msg_read.specs.declared.faults.DecodeFault.{DecodeFault}
use Rattle.msg_read.specs.declared.faults.DecodeFault.TheVariants.{Code, NoMemory}
use Rattle.msg_read.specs.Steps.{◌>>=◌, Fails, At, items}

-- what was read before, and what is still read
abbrev pub with_front : {X : Type 0} → List X → Result (List X × At) CodeFault → Result (List X × At) CodeFault
with_front front read = read >>= λ x. Ok (front ++ x.0, x.1)

abbrev joined : {X : Type 0} → X → Result (List X × At) CodeFault → Result (List X × At) CodeFault
joined {X} n read =
    let pair : Result ((X × List X) × At) CodeFault = read >>= λ y. Ok ((n, y.0), y.1) in
    pair >>= λ x. Ok (x.0.0 ∷ x.0.1, x.1)

regroup : {X : Type 0} (front : List X) (n : X) (read : Result (List X × At) CodeFault)
    → with_front front (joined n read) ≡ with_front (front ++ n ∷ []) read
regroup {X} front n (Ok x) = ap (λ (ns : List X). Ok (ns, x.1)) (simp append_assoc)
regroup front n (Err f) = refl

pub starts : {X : Type 0} (total : Result (List X × At) CodeFault) → with_front [] total ≡ total
starts (Ok x) = refl
starts (Err f) = refl

module _ {X K : Type 0} (item : K → At → Result (X × At) CodeFault) (key : X → K) where
  pub goes_on : (front : List X) (count i : ℕ) (last : K) (at : At) (x : X) (after : At) (total : Result (List X × At) CodeFault) → i < count
      → item last at ≡ Ok (x, after) → with_front front (items item key (count - i) last at) ≡ total
      → with_front (front ++ x ∷ []) (items item key (count - (i + 1)) (key x) after) ≡ total
  unfolding items
  goes_on front count i last at x after total lt h so_far =
      let k : count - i ≡ suc (count - (i + 1)) = omega arith in
      let one : with_front front (items item key (count - i) last at) ≡ with_front (front ++ x ∷ []) (items item key (count - (i + 1)) (key x) after) =
      rw (k, h) (regroup front x (items item key (count - (i + 1)) (key x) after)) in
      sym one ∙ so_far

  pub ends : (e : DecodeFault) (front : List X) (count i : ℕ) (last : K) (at : At) (total : Result (List X × At) CodeFault) → i < count
      → Fails e (item last at) → with_front front (items item key (count - i) last at) ≡ total → Fails e total
  unfolding items
  ends NoMemory front count i last at total lt h so_far = tt
  ends (Code f) front count i last at total lt h so_far =
      let k : count - i ≡ suc (count - (i + 1)) = omega arith in
      let one : with_front front (items item key (count - i) last at) ≡ Err f = rw (k, h) refl in
      sym so_far ∙ one

  pub is_done : (front : List X) (count i : ℕ) (last : K) (at : At) (total : Result (List X × At) CodeFault) → count ≤ i
      → with_front front (items item key (count - i) last at) ≡ total → total ≡ Ok (front, at)
  unfolding items
  is_done front count i last at total le so_far =
      let k : count - i ≡ 0 = omega arith in
      let one : with_front front (items item key (count - i) last at) ≡ Ok (front, at) =
      rw k (ap (λ (xs : List X). Ok (xs, at)) (append-nil front)) in
      sym so_far ∙ one
