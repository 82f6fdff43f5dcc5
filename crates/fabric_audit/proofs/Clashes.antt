-- Batches that share a digest: the first one met with it stands for all, as long as there is no clash.
use Rattle.std.proofs.Common.{◌≡◌, ℕ, Bool, true, false, not, ◌&&◌, nat_eq, cond, List, [], ◌∷◌, ◌++◌, map, Option, Some, None, Bor, Result, Ok, Err, ◌⊎◌, inl, inr, refl, sym, ap, subst, ◌∙◌, if◌then◌else◌}
use Rattle.std.specs.Map.{lookup}
use Rattle.std.specs.Option.{option_or, option_map}
use Rattle.std.specs.Str.{bytes_eq}
use Rattle.std.specs.Ordering.{nat_cmp}
use Rattle.std.specs.Cmp.Lexicographic.{slice_cmp}
use Rattle.std.specs.BTreeMap.{is_at}
use Rattle.std.proofs.lemmas.List.Folds.{find-append}
use Rattle.std.proofs.lemmas.Map.Made.{lookup-map_values}
use Rattle.std.proofs.lemmas.Map.Text.{is_eq-slice_cmp}
use Rattle.std.proofs.lemmas.Option.{same_Some}
use Rattle.std.proofs.lemmas.Slice.Eq.{bytes_eq-Decides}
use Rattle.fab_base.specs.Digests.{same_digest}
use Rattle.fab_base.specs.declared.ids.Hash32.{Hash32}
use Rattle.fab_base.specs.declared.requests.Op.{Op}
use Rattle.fab_base.specs.declared.requests.Op.TheVariants.{Put, Get, Cut, Swap}
use Rattle.fab_base.specs.declared.requests.Request.{Request}
use Rattle.fab_base.proofs.Digests.{is_same_digest, same_digest_of}
use Rattle.fab_base.proofs.Tests.{and_left, and_right, same}
use Rattle.fab_machine.specs.Requests.{same_op, same_request}
use Rattle.fab_rules.specs.Digests.{batch_digest}
use Rattle.fab_rules.specs.Lists.{In}
use Rattle.run_words.specs.declared.ends.Evidence.{Evidence}
use Rattle.run_worlds.specs.Sights.{same_batch, first_clash, met_with}
use Rattle.fabric_audit.specs.declared.stops.Stop.{Stop}
use Rattle.fabric_audit.specs.Meeting.{Firsts, first_with, AreApart, AreFirsts, Gains, Meets, Finds, Tells, clash_of}

abbrev Batches : Type 0
Batches = List (List Request)

abbrev share : List Request → List Request → Bool
share a b = same_digest (batch_digest a) (batch_digest b)

-- ---- batches that are one

is_text : (a b : List ℕ) → bytes_eq a b ≡ true → a ≡ b
is_text a b h = (bytes_eq-Decides a b).0 h

is_op : (a b : Op) → same_op a b ≡ true → a ≡ b
is_op (Put key value) (Put k v) h = λ i. Put (is_text key k (and_left (bytes_eq key k) _ h) i) (is_text value v (and_right (bytes_eq key k) _ h) i)
is_op (Get key) (Get k) h = ap Get (is_text key k h)
is_op (Cut key) (Cut k) h = ap Cut (is_text key k h)
is_op (Swap key expected fresh) (Swap k e f) h =
    let later = and_right (bytes_eq key k) _ h in
    λ i. Swap (is_text key k (and_left (bytes_eq key k) _ h) i) (is_text expected e (and_left (bytes_eq expected e) _ later) i) (is_text fresh f (and_right (bytes_eq expected e) _ later) i)
is_op (Put key value) (Get k) h = cc
is_op (Put key value) (Cut k) h = cc
is_op (Put key value) (Swap k e f) h = cc
is_op (Get key) (Put k v) h = cc
is_op (Get key) (Cut k) h = cc
is_op (Get key) (Swap k e f) h = cc
is_op (Cut key) (Put k v) h = cc
is_op (Cut key) (Get k) h = cc
is_op (Cut key) (Swap k e f) h = cc
is_op (Swap key expected fresh) (Put k v) h = cc
is_op (Swap key expected fresh) (Get k) h = cc
is_op (Swap key expected fresh) (Cut k) h = cc

is_request : (x y : Request) → same_request x y ≡ true → x ≡ y
is_request x y h =
    let later = and_right (nat_eq x.client.number y.client.number) _ h in
    let last = and_right (nat_eq x.stamp y.stamp) _ later in
    let client = same x.client.number y.client.number (and_left (nat_eq x.client.number y.client.number) _ h) in
    let stamp = same x.stamp y.stamp (and_left (nat_eq x.stamp y.stamp) _ later) in
    let op = is_op x.op y.op (and_left (same_op x.op y.op) _ last) in
    let sig = is_text x.sig y.sig (and_right (same_op x.op y.op) _ last) in
    λ i. record { client = record { number = client i }; stamp = stamp i; op = op i; sig = sig i }

is_batch : (a b : List Request) → same_batch a b ≡ true → a ≡ b
is_batch [] [] h = refl
is_batch [] (y ∷ b) h = cc
is_batch (x ∷ a) [] h = cc
is_batch (x ∷ a) (y ∷ b) h =
    λ i. is_request x y (and_left (same_request x y) _ h) i ∷ is_batch a b (and_right (same_request x y) _ h) i

-- ---- the first clash

-- what the first batch with the digest comes to
abbrev clash_with : Option (List Request) → List Request → Option (List Request)
clash_with None batch = None
clash_with (Some first) batch = if same_batch first batch then None else Some first

no_clash : (met : Batches) (batch : List Request) → ((a : List Request) → In a met → share a batch ≡ true → same_batch a batch ≡ true)
    → first_clash met batch ≡ None
no_clash [] batch h = refl
no_clash (m ∷ met) batch h = by (share m batch) refl (no_clash met batch (λ a there. h a (inr there)))
  where
    by : (b : Bool) → share m batch ≡ b → first_clash met batch ≡ None
        → cond (b && not (same_batch m batch)) (Some m) (first_clash met batch) ≡ None
    by true e later = ap (λ s. cond (not s) (Some m) (first_clash met batch)) (h m (inl refl) e) ∙ later
    by false e later = later

-- where those that were met are apart, the first with the digest tells
pub clash_is : (met : Batches) (batch : List Request) → AreApart met
    → first_clash met batch ≡ clash_with (first_with (batch_digest batch).bytes met) batch
clash_is [] batch apart = refl
clash_is (m ∷ met) batch apart = by (share m batch) refl (clash_is met batch (λ a b here there. apart a b (inr here) (inr there)))
  where
    -- all others with the digest are the first, and so the batch
    others : share m batch ≡ true → same_batch m batch ≡ true → (a : List Request) → In a met → share a batch ≡ true → same_batch a batch ≡ true
    others e same a there shared =
        let one : batch_digest m ≡ batch_digest a = is_same_digest _ _ e ∙ sym (is_same_digest _ _ shared) in
        let equal : m ≡ a = apart m a (inl refl) (inr there) (same_digest_of _ _ one) in
        ap (λ x. same_batch x batch) (sym equal) ∙ same

    told : (s : Bool) → same_batch m batch ≡ s → share m batch ≡ true
        → cond (not s) (Some m) (first_clash met batch) ≡ cond s None (Some m)
    told true e shared = no_clash met batch (others shared e)
    told false e shared = refl

    by : (b : Bool) → share m batch ≡ b → first_clash met batch ≡ clash_with (first_with (batch_digest batch).bytes met) batch
        → cond (b && not (same_batch m batch)) (Some m) (first_clash met batch)
        ≡ clash_with (cond b (Some m) (first_with (batch_digest batch).bytes met)) batch
    by true e later = told (same_batch m batch) refl e
    by false e later = later

-- ---- one batch more

-- without a clash, those with its digest are the batch itself
equal_there : (met : Batches) (batch : List Request) → first_clash met batch ≡ None → (a : List Request) → In a met → share a batch ≡ true → a ≡ batch
equal_there [] batch h a there shared = absurd there
equal_there (m ∷ met) batch h a (inl is) shared =
    sym is ∙ is_batch m batch (by (same_batch m batch) (subst (λ b. cond (b && not (same_batch m batch)) (Some m) (first_clash met batch) ≡ None) here h))
  where
    here : share m batch ≡ true
    here = ap (λ x. share x batch) is ∙ shared

    by : (s : Bool) → cond (not s) (Some m) (first_clash met batch) ≡ None → s ≡ true
    by true e = refl
    by false e = let clash : Some m ≡ None = e in cc
equal_there (m ∷ met) batch h a (inr there) shared = equal_there met batch (by (share m batch && not (same_batch m batch)) h) a there shared
  where
    by : (b : Bool) → cond b (Some m) (first_clash met batch) ≡ None → first_clash met batch ≡ None
    by true e = let clash : Some m ≡ None = e in cc
    by false e = e

in_either : (a : List Request) (met : Batches) (batch : List Request) → In a (met ++ batch ∷ []) → In a met ⊎ (batch ≡ a)
in_either a [] batch (inl is) = inr is
in_either a [] batch (inr none) = absurd none
in_either a (m ∷ met) batch (inl is) = inl (inl is)
in_either a (m ∷ met) batch (inr later) = by (in_either a met batch later)
  where
    by : In a met ⊎ (batch ≡ a) → In a (m ∷ met) ⊎ (batch ≡ a)
    by (inl there) = inl (inr there)
    by (inr is) = inr is

apart_more : (met : Batches) (batch : List Request) → AreApart met → first_clash met batch ≡ None → AreApart (met ++ batch ∷ [])
apart_more met batch apart none a b here there shared = by (in_either a met batch here) (in_either b met batch there)
  where
    by : In a met ⊎ (batch ≡ a) → In b met ⊎ (batch ≡ b) → a ≡ b
    by (inl p) (inl q) = apart a b p q shared
    by (inl p) (inr q) = equal_there met batch none a p (ap (λ x. share a x) q ∙ shared) ∙ q
    by (inr p) (inl q) =
        sym (equal_there met batch none b q (same_digest_of _ _ (sym (is_same_digest _ _ shared) ∙ ap batch_digest (sym p))) ∙ p)
    by (inr p) (inr q) = sym p ∙ q

first_more : (met : Batches) (batch : List Request) (digest : List ℕ)
    → first_with digest (met ++ batch ∷ []) ≡ option_or (first_with digest met) (cond (bytes_eq (batch_digest batch).bytes digest) (Some batch) None)
first_more met batch digest = find-append (λ a. bytes_eq (batch_digest a).bytes digest) met (batch ∷ [])

stays : (o : Option (List Request)) → o ≡ option_or o None
stays None = refl
stays (Some x) = refl

firsts_stay : (old : Firsts) (met : Batches) (batch first : List Request) → AreFirsts old met
    → Some first ≡ lookup (bytes_eq (batch_digest batch).bytes) old → first_clash met batch ≡ None → AreFirsts old (met ++ batch ∷ [])
firsts_stay old met batch first h is none = record {
  first = λ digest. h.first digest ∙ by digest (bytes_eq (batch_digest batch).bytes digest) refl ∙ sym (first_more met batch digest);
  apart = apart_more met batch h.apart none;
}
  where
    by : (digest : List ℕ) (b : Bool) → bytes_eq (batch_digest batch).bytes digest ≡ b
        → first_with digest met ≡ option_or (first_with digest met) (cond b (Some batch) None)
    by digest true e =
        let found : first_with digest met ≡ Some first =
        ap (λ d. first_with d met) (sym (is_text _ _ e)) ∙ sym (h.first (batch_digest batch).bytes) ∙ sym is in
        found ∙ ap (λ o. option_or o (Some batch)) (sym found)
    by digest false e = stays (first_with digest met)

firsts_gain : (old new : Firsts) (met : Batches) (batch : List Request) → AreFirsts old met
    → None ≡ lookup (bytes_eq (batch_digest batch).bytes) old → first_clash met batch ≡ None
    → Gains old new (batch_digest batch).bytes batch → AreFirsts new (met ++ batch ∷ [])
firsts_gain old new met batch h is none gains = record {
  first = λ digest. gains digest
      ∙ ap (λ o. cond (bytes_eq (batch_digest batch).bytes digest) (Some batch) o) (h.first digest)
      ∙ by digest (bytes_eq (batch_digest batch).bytes digest) refl ∙ sym (first_more met batch digest);
  apart = apart_more met batch h.apart none;
}
  where
    by : (digest : List ℕ) (b : Bool) → bytes_eq (batch_digest batch).bytes digest ≡ b
        → cond b (Some batch) (first_with digest met) ≡ option_or (first_with digest met) (cond b (Some batch) None)
    by digest true e =
        let found : first_with digest met ≡ None =
        ap (λ d. first_with d met) (sym (is_text _ _ e)) ∙ sym (h.first (batch_digest batch).bytes) ∙ sym is in
        ap (λ o. option_or o (Some batch)) (sym found)
    by digest false e = stays (first_with digest met)

-- ---- what is told

abbrev step : List Request → Batches → Result Batches Evidence
step batch met = met_with met batch (first_clash met batch)

abbrev failed : Evidence → Result Batches Evidence
failed evidence = Err evidence

same_evidence : (x y : Evidence) → Some x ≡ Some y → failed x ≡ failed y
same_evidence x y e = ap failed (same_Some x y e)

-- where a batch was met with the digest
pub meets_again : (old : Firsts) (digest : Hash32) (batch first : List Request) (r : Result (Unit {0}) Stop) → digest ≡ batch_digest batch
    → Some first ≡ lookup (bytes_eq digest.bytes) old → Finds r (clash_of digest first batch) → Meets old r old (step batch)
meets_again old digest batch first r named is found met h =
    by (same_batch first batch) r found (clash_is met batch h.apart ∙ ap (λ o. clash_with o batch) (sym (h.first (batch_digest batch).bytes) ∙ sym there))
  where
    there : Some first ≡ lookup (bytes_eq (batch_digest batch).bytes) old
    there = is ∙ ap (λ d. lookup (bytes_eq d.bytes) old) named

    by : (s : Bool) (r : Result (Unit {0}) Stop) → Finds r (cond s None (Some (Evidence.Clash digest first batch)))
        → first_clash met batch ≡ cond s None (Some first) → Tells r old (step batch met)
    by true (Ok x) found e = subst (λ o. Tells (Ok x) old (met_with met batch o)) (sym e) (firsts_stay old met batch first h there e)
    by true (Err (Stop.Found evidence)) found e = absurd (cc)
    by s (Err Stop.NoMemory) found e = tt
    by false (Ok x) found e = absurd (cc)
    by false (Err (Stop.Found evidence)) found e =
        ap (λ o. met_with met batch o) e ∙ ap (λ d. failed (Evidence.Clash d first batch)) (sym named) ∙ same_evidence (Evidence.Clash digest first batch) evidence found

-- where none was
pub meets_first : (old new : Firsts) (digest : Hash32) (batch : List Request) → digest ≡ batch_digest batch
    → None ≡ lookup (bytes_eq digest.bytes) old → Gains old new digest.bytes batch → Meets old (Ok tt) new (step batch)
meets_first old new digest batch named is gains met h =
    subst (λ o. Tells (Ok tt) new (met_with met batch o)) (sym none)
    (firsts_gain old new met batch h there none (subst (λ (d : Hash32). Gains old new d.bytes batch) named gains))
  where
    there : None ≡ lookup (bytes_eq (batch_digest batch).bytes) old
    there = is ∙ ap (λ d. lookup (bytes_eq d.bytes) old) named

    none : first_clash met batch ≡ None
    none = clash_is met batch h.apart ∙ ap (λ o. clash_with o batch) (sym (h.first (batch_digest batch).bytes) ∙ sym there)

-- ---- the map

abbrev pub seen : List (List ℕ × Bor (List Request)) → Firsts
seen entries = map (λ e. (e.0, e.1.now)) entries

same_there : (d : List ℕ) → is_at (slice_cmp nat_cmp d) ≡ bytes_eq d
same_there d = λ i k. is_eq-slice_cmp d k i

-- a look-up by the digest
pub looked_up : (digest : List ℕ) (entries : List (List ℕ × Bor (List Request)))
    → option_map (λ (b : Bor (List Request)). b.now) (lookup (is_at (slice_cmp nat_cmp digest)) entries) ≡ lookup (bytes_eq digest) (seen entries)
looked_up digest entries =
    ap (λ (test : List ℕ → Bool). option_map (λ (b : Bor (List Request)). b.now) (lookup test entries)) (same_there digest)
    ∙ sym (lookup-map_values (λ (b : Bor (List Request)). b.now) (bytes_eq digest) entries)

pub gained : (old new : List (List ℕ × Bor (List Request))) (key : List ℕ) (batch : Bor (List Request))
    → ((digest : List ℕ) → lookup (is_at (slice_cmp nat_cmp digest)) new
    ≡ cond (is_at (slice_cmp nat_cmp key) digest) (Some batch) (lookup (is_at (slice_cmp nat_cmp digest)) old))
    → Gains (seen old) (seen new) key batch.now
gained old new key batch put digest =
    sym (looked_up digest new) ∙ ap (option_map (λ (b : Bor (List Request)). b.now)) (put digest)
    ∙ ap (λ (test : List ℕ → Bool). option_map (λ (b : Bor (List Request)). b.now) (cond (test digest) (Some batch) (lookup (is_at (slice_cmp nat_cmp digest)) old))) (same_there key)
    ∙ by (bytes_eq key digest)
    ∙ ap (λ o. cond (bytes_eq key digest) (Some batch.now) o) (looked_up digest old)
  where
    by : (b : Bool) → option_map (λ (x : Bor (List Request)). x.now) (cond b (Some batch) (lookup (is_at (slice_cmp nat_cmp digest)) old))
        ≡ cond b (Some batch.now) (option_map (λ (x : Bor (List Request)). x.now) (lookup (is_at (slice_cmp nat_cmp digest)) old))
    by true = refl
    by false = refl

-- the null batch alone
pub null_met : (empty now : Firsts) (digest : Hash32) (null : List Request) → empty ≡ [] → null ≡ [] → digest ≡ batch_digest null
    → Gains empty now digest.bytes null → AreFirsts now ([] ∷ [])
null_met empty now digest null none is named gains =
    firsts_gain [] now [] [] (record { first = λ d. refl; apart = λ a b here there shared. absurd here }) refl refl
    (subst (λ (old : Firsts). Gains old now (batch_digest []).bytes []) none
    (subst (λ (b : List Request). Gains empty now (batch_digest b).bytes b) is (subst (λ (d : Hash32). Gains empty now d.bytes null) named gains)))
