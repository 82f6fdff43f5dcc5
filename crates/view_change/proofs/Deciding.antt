-- What one pass over the changes of a new view finds, and when a slot is decided.
use Rattle.std.proofs.Common.{◌≡◌, ◌≢◌, ℕ, ◌↔◌, max, Bor, List, [], ◌∷◌, Option, Some, None, IsNone, fold, refl, sym, ap, ◌∙◌, arith}
use Rattle.std.specs.List.{filter, flat_map}
use Rattle.std.specs.Option.{option_copied}
use Rattle.std.specs.Prelude.{nat_eq}
use Rattle.fab_base.proofs.Tests.{same}
use Rattle.fab_base.specs.declared.messages.PreparedCert.{PreparedCert}
use Rattle.fab_base.specs.declared.messages.ViewChange.{ViewChange}
use Rattle.fab_base.specs.declared.messages.NewView.{NewView}
use Rattle.fab_rules.specs.Lists.{In}
use Rattle.fab_rules.specs.Choice.{certificates_of, base, top, certificates_for, deciding, better}
use Rattle.fab_rules.proofs.Lists.{of_filter, first_is_in}
use Rattle.fab_rules.proofs.Choices.{is_decided, base_by_pass, top_by_pass, deciding_by_pass}

-- the last slot of some certificates, or this one
abbrev last_slot : ℕ → List PreparedCert → ℕ
last_slot sofar ks = fold (λ slot k. max slot k.slot) sofar ks

-- a pass that goes on behind another one
goes_on : (a b : ℕ) (ks : List PreparedCert) → max a (last_slot b ks) ≡ last_slot (max a b) ks
goes_on a b [] = refl
goes_on a b (k ∷ ks) = let e : max a (max b k.slot) ≡ max (max a b) k.slot = omega arith in goes_on a (max b k.slot) ks ∙ ap (λ s. last_slot s ks) e

pub base_found : (x : NewView) (changes : List ViewChange) (low : ℕ) → changes ≡ x.changes → low ≡ fold (λ low c. max low c.low) 0 changes
    → low ≡ base x
base_found x changes low all e = e ∙ (ap (λ cs. fold (λ low c. max low c.low) 0 cs) all ∙ base_by_pass x)

pub top_found : (x : NewView) (changes : List ViewChange) (low slot : ℕ) → changes ≡ x.changes → low ≡ fold (λ low c. max low c.low) 0 changes
    → slot ≡ max low (last_slot 0 (flat_map (λ c. c.prepared) changes)) → slot ≡ top x
top_found x changes low slot all e f =
    let last : last_slot 0 (flat_map (λ c. c.prepared) changes) ≡ last_slot 0 (certificates_of x) = ap (λ cs. last_slot 0 (flat_map (λ c. c.prepared) cs)) all in
    let from : max (base x) 0 ≡ base x = omega arith in
    let is_base = base_found x changes low all e in
    f ∙ (ap (λ l. max l (last_slot 0 (flat_map (λ c. c.prepared) changes))) is_base ∙ (ap (λ s. max (base x) s) last
    ∙ (goes_on (base x) 0 (certificates_of x) ∙ (ap (λ s. last_slot s (certificates_of x)) from ∙ top_by_pass x))))

pub deciding_found : (x : NewView) (changes : List ViewChange) (slot : ℕ) (found : Option PreparedCert) → changes ≡ x.changes
    → found ≡ fold (better slot) None (flat_map (λ c. c.prepared) changes) → found ≡ deciding x slot
deciding_found x changes slot found all e = e ∙ (ap (λ cs. fold (better slot) None (flat_map (λ c. c.prepared) cs)) all ∙ deciding_by_pass x slot)

-- a deciding certificate is one of the slot
of_slot : (x : NewView) (slot : ℕ) (k : PreparedCert) → deciding x slot ≡ Some k → In k (certificates_of x) × (k.slot ≡ slot)
of_slot x slot k e =
    let latest = first_is_in (filter (λ c. nat_eq c.view _) (certificates_for x slot)) k e in
    let at = of_filter (λ c. nat_eq c.view _) k (certificates_for x slot) latest in
    let from = of_filter (λ c. nat_eq c.slot slot) k (certificates_of x) at.0 in
    (from.0, same k.slot slot from.1)

-- nothing decides a slot exactly where no certificate is of it
pub none_of_slot : (x : NewView) (slot : ℕ) (found : Option (Bor PreparedCert)) → option_copied found ≡ deciding x slot
    → IsNone found ↔ ((k : PreparedCert) → In k (certificates_of x) → k.slot ≢ slot)
none_of_slot x slot None e = (λ n k h s. (let d = is_decided x slot k h s in let clash : None ≡ Some d.certificate = e ∙ d.deciding_is in cc), λ h. refl)
none_of_slot x slot (Some k) e = (λ n. absurd cc, λ h. (let of = of_slot x slot k.now (sym e) in absurd (h k.now of.0 of.1)))
