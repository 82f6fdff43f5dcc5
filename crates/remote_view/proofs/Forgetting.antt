-- What is told of one matter asks for no plea on another, so those may be let go.
use Rattle.std.proofs.Common.{◌≡◌, ◌+◌, Bool, true, false, ◌||◌, cond, nat_eq, List, [], ◌∷◌, zero-add, refl, sym, ap, ◌∙◌}
use Rattle.std.specs.List.{filter, list_any}
use Rattle.std.proofs.lemmas.List.Sums.{sum_by-cons}
use Rattle.fab_base.proofs.Tests.{and_right}
use Rattle.remote_view.specs.declared.heard.Matter.{Matter}
use Rattle.remote_view.specs.declared.heard.Heard.{Heard}
use Rattle.remote_view.specs.Heard.{same_matter, same_plea, has_matter, was_heard, number_on}
use Rattle.remote_view.specs.Forgetting.{those_on}
use Rattle.remote_view.proofs.Matters.{is_matter}

-- a matter that isn't open is another one than one that is
apart : (is_open : Matter → Bool) (a b : Matter) → is_open b ≡ true → is_open a ≡ false → same_matter a b ≡ false
apart is_open a b open_b shut_a = go (same_matter a b) refl
  where
    go : (t : Bool) → same_matter a b ≡ t → same_matter a b ≡ false
    go false e = e
    go true e = absurd (let clash : false ≡ true = sym shut_a ∙ (ap is_open (is_matter a b e) ∙ open_b) in cc)

pub number_stays : (is_open : Matter → Bool) (heard : List Heard) (matter : Matter) → is_open matter ≡ true
    → number_on (those_on is_open heard) matter ≡ number_on heard matter
number_stays is_open [] matter is_so = refl
number_stays is_open (h ∷ rest) matter is_so = go (is_open h.matter) refl (number_stays is_open rest matter is_so)
  where
    go : (t : Bool) → is_open h.matter ≡ t → number_on (those_on is_open rest) matter ≡ number_on rest matter
        → number_on (cond t (h ∷ those_on is_open rest) (those_on is_open rest)) matter ≡ number_on (h ∷ rest) matter
    go true e later =
        sum_by-cons (λ y. cond (same_matter y.matter matter) 1 0) h (those_on is_open rest)
        ∙ (ap (λ n. cond (same_matter h.matter matter) 1 0 + n) later ∙ sym (sum_by-cons (λ y. cond (same_matter y.matter matter) 1 0) h rest))
    go false e later =
        let none = apart is_open h.matter matter is_so e in
        let counted : number_on (h ∷ rest) matter ≡ 0 + number_on rest matter =
        sum_by-cons (λ y. cond (same_matter y.matter matter) 1 0) h rest ∙ ap (λ b. cond b 1 0 + number_on rest matter) none in
        later ∙ sym (counted ∙ zero-add (number_on rest matter))

pub heard_stays : (is_open : Matter → Bool) (heard : List Heard) (plea : Heard) → is_open plea.matter ≡ true
    → was_heard (those_on is_open heard) plea ≡ was_heard heard plea
heard_stays is_open [] plea is_so = refl
heard_stays is_open (h ∷ rest) plea is_so = go (is_open h.matter) refl (heard_stays is_open rest plea is_so)
  where
    other : (t : Bool) → same_plea h plea ≡ t → same_matter h.matter plea.matter ≡ false → same_plea h plea ≡ false
    other false e n = e
    other true e n = absurd (let clash : true ≡ false = sym (and_right (nat_eq h.member plea.member) (same_matter h.matter plea.matter) e) ∙ n in cc)

    go : (t : Bool) → is_open h.matter ≡ t → was_heard (those_on is_open rest) plea ≡ was_heard rest plea
        → was_heard (cond t (h ∷ those_on is_open rest) (those_on is_open rest)) plea ≡ was_heard (h ∷ rest) plea
    go true e later = ap (λ b. same_plea h plea || b) later
    go false e later = later ∙ sym (ap (λ b. b || was_heard rest plea) (other (same_plea h plea) refl (apart is_open h.matter plea.matter is_so e)))

pub said_stays : (is_open : Matter → Bool) (said : List Matter) (matter : Matter) → is_open matter ≡ true
    → has_matter (filter is_open said) matter ≡ has_matter said matter
said_stays is_open [] matter is_so = refl
said_stays is_open (m ∷ rest) matter is_so = go (is_open m) refl (said_stays is_open rest matter is_so)
  where
    go : (t : Bool) → is_open m ≡ t → has_matter (filter is_open rest) matter ≡ has_matter rest matter
        → has_matter (cond t (m ∷ filter is_open rest) (filter is_open rest)) matter ≡ has_matter (m ∷ rest) matter
    go true e later = ap (λ b. same_matter m matter || b) later
    go false e later = later ∙ sym (ap (λ b. b || has_matter rest matter) (apart is_open m matter is_so e))

-- whether any is left on the matter
pub drvc_stays : (is_open : Matter → Bool) (heard : List Heard) (matter : Matter) → is_open matter ≡ true
    → list_any (λ h. same_matter h.matter matter) (those_on is_open heard) ≡ list_any (λ h. same_matter h.matter matter) heard
drvc_stays is_open [] matter is_so = refl
drvc_stays is_open (h ∷ rest) matter is_so = go (is_open h.matter) refl (drvc_stays is_open rest matter is_so)
  where
    any : List Heard → Bool
    any = list_any (λ x. same_matter x.matter matter)

    go : (t : Bool) → is_open h.matter ≡ t → any (those_on is_open rest) ≡ any rest → any (cond t (h ∷ those_on is_open rest) (those_on is_open rest)) ≡ any (h ∷ rest)
    go true e later = ap (λ b. same_matter h.matter matter || b) later
    go false e later = later ∙ sym (ap (λ b. b || any rest) (apart is_open h.matter matter is_so e))
