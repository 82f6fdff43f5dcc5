-- Passes over parts, one list behind the other.
use Rattle.std.specs.List.{AllByRecursion, flat_map}
use Rattle.std.proofs.Common.{◌≡◌, inl, inr, ℕ, ◌+◌, ◌<◌, ◌≤◌, ◌^◌, suc, drop, get_or, drop-cons, List, [], ◌∷◌, ◌++◌, length, Some, Result, Ok, Err, refl, sym, ap, subst, ◌∙◌, append_assoc, arith}
use Rattle.std.proofs.lemmas.List.{length-append, drop_all}
use Rattle.fab_base.specs.declared.messages.Message.{Message}
use Rattle.fab_rules.specs.Lists.{first_of}
use Rattle.fab_rules.specs.Shape.{numbered}
use Rattle.bft_msg.specs.Passing.{Passes}
use Rattle.bft_msg.proofs.Alls.{all_left, all_right}

first_stays : {F : Type 0} (xs ys : List F) (x : F) → first_of xs ≡ Some x → first_of (xs ++ ys) ≡ Some x
first_stays [] ys x e = absurd cc
first_stays (z ∷ xs) ys x e = e

-- ---- two lists

module _ {F : Type 0} (free : F → Type 0) (faults : ℕ → Message → List F) where
  pub numbered_append : (k : ℕ) (ps qs : List Message) → numbered faults k (ps ++ qs) ≡ numbered faults k ps ++ numbered faults (k + length ps) qs
  numbered_append k [] qs = ap (λ n. numbered faults n qs) (let e : k ≡ k + 0 = omega arith in e)
  numbered_append k (p ∷ ps) qs =
      let e : k + 1 + length ps ≡ k + length (p ∷ ps) = omega arith in
      ap (λ (l : List F). faults k p ++ l) (numbered_append (k + 1) ps qs ∙ ap (λ n. numbered faults (k + 1) ps ++ numbered faults n qs) e)
      ∙ sym (append_assoc (faults k p) (numbered faults (k + 1) ps) (numbered faults (k + length (p ∷ ps)) qs))

  -- a pass that stops in the first list
  pub stops : (k : ℕ) (ps qs : List Message) (x : F) → Passes free faults k ps (Err x) → Passes free faults k (ps ++ qs) (Err x)
  stops k ps qs x (inl h) = inl h
  stops k ps qs x (inr e) =
      inr (ap first_of (numbered_append k ps qs) ∙ first_stays (numbered faults k ps) (numbered faults (k + length ps) qs) x e)

  rest_of : (k next : ℕ) (ps qs : List Message) → Passes free faults k ps (Ok next) → numbered faults k (ps ++ qs) ≡ numbered faults next qs
  rest_of k next ps qs h =
      numbered_append k ps qs ∙ ap (λ (l : List F). l ++ numbered faults (k + length ps) qs) h.0 ∙ ap (λ n. numbered faults n qs) (sym h.1)

  -- and one that goes on into the second
  pub goes_on : (k next : ℕ) (ps qs : List Message) (r : Result ℕ F) → Passes free faults k ps (Ok next) → Passes free faults next qs r
      → Passes free faults k (ps ++ qs) r
  goes_on k next ps qs (Ok n) h t =
      let e : n ≡ k + length (ps ++ qs) = omega (arith, h.1, t.1, length-append ps qs) in
      (rest_of k next ps qs h ∙ t.0, e)
  goes_on k next ps qs (Err x) h (inl f) = inl f
  goes_on k next ps qs (Err x) h (inr e) = inr (ap first_of (rest_of k next ps qs h) ∙ e)

-- ---- items one behind the other, each with parts of its own

-- what is left of the items may be passed over, and what that answers is the answer for the whole
pub record Leads {X F : Type 0} (may : Message → Type 0) (free : F → Type 0) (faults : ℕ → Message → List F) (parts : X → List Message)
    (first : ℕ) (whole : List Message) (next : ℕ) (left : List X) : Type 0 where
  pub room : next + length (flat_map parts left) < 2 ^ 32
  pub able : AllByRecursion may (flat_map parts left)
  pub answer : (r : Result ℕ F) → Passes free faults next (flat_map parts left) r → Passes free faults first whole r

unrolled : {X : Type 0} (xs : List X) (i : ℕ) (x : X) → i < length xs → x ≡ get_or xs i x → drop i xs ≡ x ∷ drop (i + 1) xs
unrolled {X} xs i x lt is =
    drop-cons xs i x lt ∙ ap (λ (y : X). y ∷ drop (suc i) xs) (sym is) ∙ ap (λ n. x ∷ drop n xs) (let e : suc i ≡ i + 1 = omega arith in e)

module _ {X F : Type 0} {may : Message → Type 0} {free : F → Type 0} {faults : ℕ → Message → List F} {parts : X → List Message} {first : ℕ} {whole : List Message} where
  pub leads_first : (all : List X) → whole ≡ flat_map parts all → first + length whole < 2 ^ 32 → AllByRecursion may whole
      → Leads may free faults parts first whole first all
  leads_first all e h t = record {
    room = subst (λ (ps : List Message). first + length ps < 2 ^ 32) e h;
    able = subst (λ (ps : List Message). AllByRecursion may ps) e t;
    answer = λ r p. subst (λ (ps : List Message). Passes free faults first ps r) (sym e) p;
  }

  -- the item at hand
  pub leads_at : {next : ℕ} (all : List X) (i : ℕ) (x : X) → Leads may free faults parts first whole next (drop i all) → i < length all
      → x ≡ get_or all i x → Leads may free faults parts first whole next (x ∷ drop (i + 1) all)
  leads_at {next} all i x h lt is = subst (λ (left : List X). Leads may free faults parts first whole next left) (unrolled all i x lt is) h

  pub leads_room : {next : ℕ} {x : X} {left : List X} → Leads may free faults parts first whole next (x ∷ left) → next + length (parts x) < 2 ^ 32
  leads_room {x = x} {left = left} h = omega (arith, h.room, length-append (parts x) (flat_map parts left))

  pub leads_able : {next : ℕ} {x : X} {left : List X} → Leads may free faults parts first whole next (x ∷ left) → AllByRecursion may (parts x)
  leads_able {x = x} {left = left} h = all_left may (parts x) (flat_map parts left) h.able

  pub leads_on : {part : ℕ} {x : X} {left : List X} (next : ℕ) → Leads may free faults parts first whole part (x ∷ left)
      → Passes free faults part (parts x) (Ok next) → Leads may free faults parts first whole next left
  leads_on {part = part} {x = x} {left = left} next h p = record {
    room = omega (arith, h.room, p.1, length-append (parts x) (flat_map parts left));
    able = all_right may (parts x) (flat_map parts left) h.able;
    answer = λ r q. h.answer r (goes_on free faults part next (parts x) (flat_map parts left) r p q);
  }

  pub leads_out : {part : ℕ} {x : X} {left : List X} (fault : F) → Leads may free faults parts first whole part (x ∷ left)
      → Passes free faults part (parts x) (Err fault) → Passes free faults first whole (Err fault)
  leads_out {part = part} {x = x} {left = left} fault h p = h.answer (Err fault) (stops free faults part (parts x) (flat_map parts left) fault p)

  pub leads_end : {next : ℕ} (all : List X) (i : ℕ) → Leads may free faults parts first whole next (drop i all) → length all ≤ i
      → Passes free faults first whole (Ok next)
  leads_end {next} all i h le =
      let end : Leads may free faults parts first whole next [] =
      subst (λ (left : List X). Leads may free faults parts first whole next left) (drop_all i all le) h in
      end.answer (Ok next) (refl, let e : next ≡ next + 0 = omega arith in e)
