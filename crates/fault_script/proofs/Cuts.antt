-- A text is cut at a byte: the parts that a split gives, one after another.
use Rattle.std.proofs.Common.{◌≡◌, ℕ, ◌+◌, ◌<◌, ◌≤◌, Bool, true, false, cond, not, nat_lt, nat_eq, List, [], ◌∷◌, length, take, drop, Option, Some, None, Err, MatchOption, refl, sym, ap, ◌∙◌, arith}
use Rattle.std.proofs.lemmas.Bool.Decides.{nat_tests}
use Rattle.std.proofs.lemmas.List.Splits.{slice_split-cons_yes, slice_split-cons_no, slice_split_first}
use Rattle.fault_script.specs.declared.faults.Why.TheVariants.{BadNumber}
use Rattle.fault_script.specs.Fields.{numbers_in}
use Rattle.std.specs.Option.{is_some}
use Rattle.std.specs.List.{slice_split, onto_first, position, position_or_len}
use Rattle.std.specs.Str.Lines.{lines, lines_of_parts, strip_carriage_return}

module _ (p : ℕ → Bool) where
  -- where no byte passes, there is one part
  uncut : (xs : List ℕ) → length xs ≤ position_or_len p xs → slice_split p xs ≡ xs ∷ []
  uncut [] h = refl
  uncut (x ∷ xs) h = go (λ k. uncut xs k) (p x) refl
    where
      go : (length xs ≤ position_or_len p xs → slice_split p xs ≡ xs ∷ []) → (b : Bool) → p x ≡ b → slice_split p (x ∷ xs) ≡ (x ∷ xs) ∷ []
      go rec true e =
          let none : position_or_len p (x ∷ xs) ≡ 0 = ap (λ b. cond (not b) (1 + position_or_len p xs) 0) e in
          absurd (omega (arith, none))
      go rec false e =
          let more : position_or_len p (x ∷ xs) ≡ 1 + position_or_len p xs = ap (λ b. cond (not b) (1 + position_or_len p xs) 0) e in
          slice_split-cons_no p x xs e ∙ ap (onto_first x) (rec (omega (arith, more)))

  -- the first place at which a byte passes cuts off the first part
  cut_by : (xs : List ℕ) (b : Bool) (r : Option ℕ) → nat_lt (position_or_len p xs) (length xs) ≡ b → r ≡ cond b (Some (position_or_len p xs)) None
      → MatchOption r (slice_split p xs ≡ xs ∷ []) (λ i. (i < length xs) × (slice_split p xs ≡ take i xs ∷ slice_split p (drop (i + 1) xs)))
  cut_by xs true None e f = cc
  cut_by xs true (Some i) e f =
      let below : position_or_len p xs < length xs = grind (arith, nat_tests) in
      let same : i ≡ position_or_len p xs = cc in
      rw same (below, slice_split_first p xs 0 below)
  cut_by xs false None e f = uncut xs (grind (arith, nat_tests))
  cut_by xs false (Some i) e f = cc

  pub cut_at : (xs : List ℕ) (r : Option ℕ) → r ≡ position p xs
      → MatchOption r (slice_split p xs ≡ xs ∷ []) (λ i. (i < length xs) × (slice_split p xs ≡ take i xs ∷ slice_split p (drop (i + 1) xs)))
  cut_at xs r f = cut_by xs (nat_lt (position_or_len p xs) (length xs)) r refl f

-- a split gives a part at least
parts_of : (p : ℕ → Bool) (xs : List ℕ) → (part : List ℕ) × (parts : List (List ℕ)) × (slice_split p xs ≡ part ∷ parts)
parts_of p [] = ([], [], refl)
parts_of p (x ∷ xs) = go (parts_of p xs) (p x) refl
  where
    go : (part : List ℕ) × (parts : List (List ℕ)) × (slice_split p xs ≡ part ∷ parts) → (b : Bool) → p x ≡ b
        → (part : List ℕ) × (parts : List (List ℕ)) × (slice_split p (x ∷ xs) ≡ part ∷ parts)
    go rest true e = ([], slice_split p xs, slice_split-cons_yes p x xs e)
    go rest false e = (x ∷ rest.0, rest.1, slice_split-cons_no p x xs e ∙ ap (onto_first x) rest.2)

-- a text that is cut twice isn't two numbers
pub cut_twice : {A : Type 0} (p : ℕ → Bool) (text front back : List ℕ) (r : Option A) (first others : A → List ℕ)
    → slice_split p text ≡ front ∷ slice_split p back
    → MatchOption r (slice_split p back ≡ back ∷ []) (λ a. (slice_split p back ≡ first a ∷ slice_split p (others a)) × (length (others a) < length back))
    → is_some r ≡ true → numbers_in (slice_split p text) ≡ Err BadNumber
cut_twice p text front back None first others e f h = cc
cut_twice p text front back (Some a) first others e f h =
    let more = parts_of p (others a) in
    rw (e ∙ ap (λ l. front ∷ l) (f.0 ∙ ap (λ l. first a ∷ l) more.2)) refl

-- a line that ends, and the lines after it
pub line_ends : (text part rest : List ℕ) → slice_split (λ b. nat_eq b 10) text ≡ part ∷ slice_split (λ b. nat_eq b 10) rest → lines text ≡ strip_carriage_return part ∷ lines rest
line_ends text part rest e =
    let more = parts_of (λ b. nat_eq b 10) rest in
    ap lines_of_parts (e ∙ ap (λ l. part ∷ l) more.2) ∙ ap (λ l. strip_carriage_return part ∷ lines_of_parts l) (sym more.2)

-- the last line, which does not end
pub last_line : (text : List ℕ) → 0 < length text → slice_split (λ b. nat_eq b 10) text ≡ text ∷ [] → lines text ≡ text ∷ []
last_line text some e =
    let here : nat_eq (length text) 0 ≡ false = grind (arith, nat_tests) in
    ap lines_of_parts e ∙ ap (λ b. cond b [] (text ∷ [])) here
