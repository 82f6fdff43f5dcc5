-- Certificates that are stored under their own round and cluster are found by them.
use Rattle.std.proofs.Common.{◌≡◌, ℕ, Bool, true, false, cond, ◌&&◌, nat_eq, List, [], ◌∷◌, ◌++◌, Option, Some, Bor, refl, sym, ap, ◌∙◌, arith}
use Rattle.std.specs.List.{list_all, filter, slice_get}
use Rattle.std.specs.Option.{option_map}
use Rattle.std.specs.Map.Iter.{deref_pair}
use Rattle.std.proofs.lemmas.Option.{slice_get-map}
use Rattle.std.specs.Map.{lookup, values_of}
use Rattle.std.proofs.lemmas.Bool.Decides.{nat_tests}
use Rattle.fab_base.specs.declared.messages.CommitCert.{CommitCert}
use Rattle.fab_base.proofs.Tests.{and_left, and_right, and_both, same, is_same}
use Rattle.fab_rules.specs.Lists.{first_of}
use Rattle.fab_machine.specs.Rounds.{round_of, is_of, certificate_for}
use Rattle.round_exec.specs.Keyed.{is_keyed}
use Rattle.round_exec.specs.declared.place.Place.{Place}

nat_eq-turned : (a b : ℕ) → nat_eq a b ≡ nat_eq b a
nat_eq-turned a b = grind (arith, nat_tests)

-- what the test of a key is, whoever makes it
abbrev pub IsAtPlace : (Place → Bool) → ℕ → ℕ → Type 0
IsAtPlace test round cluster = (q : Place) → test q ≡ (nat_eq round q.round && nat_eq cluster q.cluster)

test_is : (test : Place → Bool) (round cluster : ℕ) → IsAtPlace test round cluster → (q : Place) (k : CommitCert) → is_keyed (q, k) ≡ true
    → test q ≡ is_of round cluster k
test_is test round cluster t q k h =
    let r : round_of k ≡ q.round = same (round_of k) q.round (and_left (nat_eq (round_of k) q.round) (nat_eq k.cluster q.cluster) h) in
    let c : k.cluster ≡ q.cluster = same k.cluster q.cluster (and_right (nat_eq (round_of k) q.round) (nat_eq k.cluster q.cluster) h) in
    t q ∙ (ap (λ b. b && nat_eq cluster q.cluster) (nat_eq-turned round q.round ∙ ap (λ n. nat_eq n round) (sym r))
    ∙ ap (λ b. nat_eq (round_of k) round && b) (nat_eq-turned cluster q.cluster ∙ ap (λ n. nat_eq n cluster) (sym c)))

pub lookup_finds : (test : Place → Bool) (round cluster : ℕ) → IsAtPlace test round cluster → (es : List (Place × CommitCert))
    → list_all is_keyed es ≡ true → lookup test es ≡ certificate_for (values_of es) round cluster
lookup_finds test round cluster t [] h = refl
lookup_finds test round cluster t (e ∷ es) h =
    let here = test_is test round cluster t e.0 e.1 (and_left (is_keyed e) (list_all is_keyed es) h) in
    let rest = lookup_finds test round cluster t es (and_right (is_keyed e) (list_all is_keyed es) h) in
    go (is_of round cluster e.1) here rest
  where
    go : (b : Bool) → test e.0 ≡ b → lookup test es ≡ certificate_for (values_of es) round cluster
        → cond (test e.0) (Some e.1) (lookup test es) ≡ first_of (cond b (e.1 ∷ filter (is_of round cluster) (values_of es)) (filter (is_of round cluster) (values_of es)))
    go true e1 rest1 = ap (λ b. cond b (Some e.1) (lookup test es)) e1
    go false e1 rest1 = ap (λ b. cond b (Some e.1) (lookup test es)) e1 ∙ rest1

-- ---- one more at the end

pub all_keyed-more : (es : List (Place × CommitCert)) (e : Place × CommitCert) → list_all is_keyed es ≡ true → is_keyed e ≡ true
    → list_all is_keyed (es ++ e ∷ []) ≡ true
all_keyed-more [] e h k = and_both (is_keyed e) true k refl
all_keyed-more (x ∷ es) e h k =
    and_both (is_keyed x) (list_all is_keyed (es ++ e ∷ [])) (and_left (is_keyed x) (list_all is_keyed es) h)
    (all_keyed-more es e (and_right (is_keyed x) (list_all is_keyed es) h) k)

pub values_of-more : (es : List (Place × CommitCert)) (e : Place × CommitCert) → values_of (es ++ e ∷ []) ≡ values_of es ++ e.1 ∷ []
values_of-more [] e = refl
values_of-more (x ∷ es) e = ap (λ l. x.1 ∷ l) (values_of-more es e)

pub is_keyed-own : (round cluster : ℕ) (k : CommitCert) → round ≡ round_of k → cluster ≡ k.cluster
    → is_keyed (record { round = round; cluster = cluster }, k) ≡ true
is_keyed-own round cluster k r c =
    and_both (nat_eq (round_of k) round) (nat_eq k.cluster cluster) (ap (nat_eq (round_of k)) r ∙ is_same (round_of k)) (ap (nat_eq k.cluster) c ∙ is_same k.cluster)

-- ---- by their place

-- the value of the entry at a place is the value at the place
pub value_at : (es : List (Place × CommitCert)) (ks : List CommitCert) (i : ℕ) (found : Option (Bor Place × Bor CommitCert)) → values_of es ≡ ks
    → option_map deref_pair found ≡ slice_get es i → option_map (λ e. e.1) (option_map deref_pair found) ≡ slice_get ks i
value_at es ks i found view e =
    ap (option_map (λ (x : Place × CommitCert). x.1)) e ∙ (sym (slice_get-map (λ (x : Place × CommitCert). x.1) es i) ∙ ap (λ l. slice_get l i) view)
