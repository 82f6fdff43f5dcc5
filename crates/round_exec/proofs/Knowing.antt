-- Whether another cluster's certificate is kept: asked of each cluster in turn.
use Rattle.std.proofs.Common.{◌≡◌, ◌≢◌, ℕ, ◌+◌, ◌≤◌, Bool, true, false, not, ◌&&◌, ◌||◌, nat_eq, nat_le, List, [], ◌∷◌, Option, Some, None, Bor, ◌⊎◌, inl, inr, refl, sym, ap, ◌∙◌, arith}
use Rattle.std.specs.List.{filter, list_all, list_any}
use Rattle.std.specs.Option.{option_copied, is_some}
use Rattle.std.proofs.lemmas.Bool.{cases_eq}
use Rattle.fab_base.specs.declared.messages.CommitCert.{CommitCert}
use Rattle.fab_base.proofs.Tests.{and_left, and_right, and_both, at_most, same, is_same, are_same}
use Rattle.fab_rules.specs.Lists.{In, first_of}
use Rattle.fab_rules.specs.Format.{batch_fits}
use Rattle.fab_rules.proofs.Lists.{each_passes, in_filter}
use Rattle.fab_machine.specs.Rounds.{round_of, is_of, certificate_for, knows_others}
use Rattle.fab_machine.proofs.Blocks.{is_for}
use Rattle.round_exec.specs.Book.{are_clients, is_keepable}

-- ---- lists

any_in : (p : CommitCert → Bool) (ks : List CommitCert) (k : CommitCert) → In k ks → p k ≡ true → list_any p ks ≡ true
any_in p [] k h e = absurd h
any_in p (x ∷ ks) k (inl s) e = ap (λ b. b || list_any p ks) (ap p s ∙ e)
any_in p (x ∷ ks) k (inr h) e = go (p x) (any_in p ks k h e)
  where
    go : (b : Bool) → list_any p ks ≡ true → (b || list_any p ks) ≡ true
    go true f = refl
    go false f = f

none_in : (p : CommitCert → Bool) (ks : List CommitCert) → ((k : CommitCert) → In k ks → p k ≡ false) → list_any p ks ≡ false
none_in p [] each = refl
none_in p (x ∷ ks) each = ap (λ b. b || list_any p ks) (each x (inl refl)) ∙ none_in p ks (λ k h. each k (inr h))

none_first : (ks : List CommitCert) (k : CommitCert) → first_of ks ≡ None → In k ks → ⊥
none_first [] k e h = h
none_first (x ∷ ks) k e h = cc

-- ---- the kept certificates

abbrev pub is_other : ℕ → ℕ → CommitCert → Bool
is_other own round k = nat_eq (round_of k) round && not (nat_eq k.cluster own)

differs : (a b : ℕ) → a ≢ b → not (nat_eq a b) ≡ true
differs a b h = go (nat_eq a b) refl
  where
    go : (t : Bool) → nat_eq a b ≡ t → not t ≡ true
    go true e = absurd (h (same a b e))
    go false e = refl

differ : (a b : ℕ) → not (nat_eq a b) ≡ true → a ≢ b
differ a b h e = let f = are_same a b e in cc

pub other_known : (own round cluster : ℕ) (certificates : List CommitCert) (k : CommitCert) → cluster ≢ own
    → certificate_for certificates round cluster ≡ Some k → knows_others own certificates round ≡ true
other_known own round cluster certificates k other e =
    let f = is_for certificates round cluster k e in
    any_in (is_other own round) certificates k f.inside
    (and_both (nat_eq (round_of k) round) _ (are_same (round_of k) round f.round_is) (differs k.cluster own (λ g. other (sym f.cluster_is ∙ g))))

-- none of the first so many clusters has one, but perhaps the own
abbrev pub NoneUpto : ℕ → List CommitCert → ℕ → ℕ → Type 0
NoneUpto own certificates round n = (cluster : ℕ) → 1 ≤ cluster → cluster ≤ n → cluster ≢ own → certificate_for certificates round cluster ≡ None

pub none_before : (own round : ℕ) (certificates : List CommitCert) → NoneUpto own certificates round 0
none_before own round certificates cluster from upto = absurd (omega (arith, from, upto))

-- one cluster more: the own, or one without a certificate
pub none_more : (own round n : ℕ) (certificates : List CommitCert) → NoneUpto own certificates round n
    → (n + 1 ≢ own → certificate_for certificates round (n + 1) ≡ None) → NoneUpto own certificates round (n + 1)
none_more own round n certificates h here cluster from upto other = go (cases_eq cluster (n + 1))
  where
    go : (cluster ≡ n + 1) ⊎ (cluster ≢ n + 1) → certificate_for certificates round cluster ≡ None
    go (inl e) = ap (certificate_for certificates round) e ∙ here (λ f. other (e ∙ f))
    go (inr e) = h cluster from (omega (arith, upto, e)) other

pub none_known : (own round clusters clients : ℕ) (certificates : List CommitCert) → list_all (is_keepable clusters clients) certificates ≡ true
    → NoneUpto own certificates round clusters → knows_others own certificates round ≡ false
none_known own round clusters clients certificates all none = none_in (is_other own round) certificates (λ k h. each k h)
  where
    each : (k : CommitCert) → In k certificates → is_other own round k ≡ false
    each k h = go (is_other own round k) refl
      where
        go : (b : Bool) → is_other own round k ≡ b → b ≡ false
        go false e = refl
        go true e =
            let is = each_passes (is_keepable clusters clients) certificates k all h in
            let inside = and_left (nat_le 1 k.cluster && nat_le k.cluster clusters) (nat_le 1 (round_of k) && (batch_fits k.batch && are_clients clients k.batch)) is in
            let from = at_most 1 k.cluster (and_left (nat_le 1 k.cluster) (nat_le k.cluster clusters) inside) in
            let upto = at_most k.cluster clusters (and_right (nat_le 1 k.cluster) (nat_le k.cluster clusters) inside) in
            let other = differ k.cluster own (and_right (nat_eq (round_of k) round) (not (nat_eq k.cluster own)) e) in
            let here = in_filter (is_of round k.cluster) k certificates h
            (and_both (nat_eq (round_of k) round) (nat_eq k.cluster k.cluster) (and_left (nat_eq (round_of k) round) (not (nat_eq k.cluster own)) e) (is_same k.cluster)) in
            absurd (none_first (filter (is_of round k.cluster) certificates) k (none k.cluster from upto other) here)

-- as it is looked up
pub other_found : (own round cluster : ℕ) (certificates : List CommitCert) (r : Option (Bor CommitCert)) → (cluster ≡ own → ⊥)
    → option_copied r ≡ certificate_for certificates round cluster → is_some r ≡ true → knows_others own certificates round ≡ true
other_found own round cluster certificates None other e s = cc
other_found own round cluster certificates (Some k) other e s = other_known own round cluster certificates k.now other (sym e)
