-- The blocks of a round, gathered one after another from certificates that may be kept.
use Rattle.std.proofs.Common.{◌≡◌, ℕ, zero, suc, ◌+◌, ◌-◌, ◌<◌, true, ◌&&◌, nat_le, List, [], ◌∷◌, ◌++◌, Option, Some, None, Bor, Result, Ok, Err, refl, sym, ap, subst, ◌∙◌, append_assoc, arith}
use Rattle.std.proofs.lemmas.List.{append-nil}
use Rattle.std.specs.Prelude.{IfOk}
use Rattle.std.specs.Option.{option_copied, is_some}
use Rattle.std.specs.List.{list_all}
use Rattle.fab_base.specs.declared.messages.CommitCert.{CommitCert}
use Rattle.fab_base.proofs.Tests.{and_left, and_right}
use Rattle.fab_rules.specs.declared.blocks.Block.{Block}
use Rattle.fab_rules.specs.Format.{batch_fits}
use Rattle.fab_rules.proofs.Lists.{each_passes}
use Rattle.fab_machine.specs.Rounds.{round_of, certificate_for, block_of, with_block, blocks_from}
use Rattle.fab_machine.proofs.Blocks.{is_for}
use Rattle.round_exec.specs.Book.{are_clients, is_keepable, missing_of}
use Rattle.round_exec.specs.Done.{AreSound, AreWhole}

-- ---- one after another

abbrev pub with_front : List Block → Result (List Block) ℕ → Result (List Block) ℕ
with_front front (Ok blocks) = Ok (front ++ blocks)
with_front front (Err missing) = Err missing

front_none : (r : Result (List Block) ℕ) → with_front [] r ≡ r
front_none (Ok blocks) = refl
front_none (Err missing) = refl

put_front : (front : List Block) (round cluster : ℕ) (k : CommitCert) (rest : Result (List Block) ℕ)
    → with_front front (with_block (Some k) round cluster rest) ≡ with_front (front ++ block_of round k ∷ []) rest
put_front front round cluster k (Ok blocks) = ap (λ l. Ok l) (sym (append_assoc front (block_of round k ∷ []) blocks))
put_front front round cluster k (Err missing) = refl

one_less : (n i : ℕ) → i < n → n - i ≡ suc (n - (i + 1))
one_less n i h = omega (arith, h)

pub front_begin : (certificates : List CommitCert) (round n : ℕ) → with_front [] (blocks_from certificates round 1 (n - 0)) ≡ blocks_from certificates round 1 n
front_begin certificates round n =
    let e : n - 0 ≡ n = omega arith in
    ap (λ m. with_front [] (blocks_from certificates round 1 m)) e ∙ front_none (blocks_from certificates round 1 n)

-- a certificate more
pub front_step : (certificates : List CommitCert) (front now : List Block) (round n i : ℕ) (k : CommitCert) (b : Block) (whole : Result (List Block) ℕ) → i < n
    → certificate_for certificates round (i + 1) ≡ Some k → b ≡ block_of round k → now ≡ front ++ b ∷ []
    → with_front front (blocks_from certificates round (i + 1) (n - i)) ≡ whole
    → with_front now (blocks_from certificates round (i + 1 + 1) (n - (i + 1))) ≡ whole
front_step certificates front now round n i k b whole l found is grown h =
    let rest = blocks_from certificates round (i + 1 + 1) (n - (i + 1)) in
    ap (λ f. with_front f rest) grown
    ∙ (ap (λ x. with_front (front ++ x ∷ []) rest) is
    ∙ (sym (put_front front round (i + 1) k rest)
    ∙ (ap (λ o. with_front front (with_block o round (i + 1) rest)) (sym found)
    ∙ (ap (λ m. with_front front (blocks_from certificates round (i + 1) m)) (sym (one_less n i l)) ∙ h))))

pub front_missing : (certificates : List CommitCert) (front : List Block) (round n i : ℕ) (whole : Result (List Block) ℕ) → i < n
    → certificate_for certificates round (i + 1) ≡ None → with_front front (blocks_from certificates round (i + 1) (n - i)) ≡ whole → Err (i + 1) ≡ whole
front_missing certificates front round n i whole l none h =
    let rest = blocks_from certificates round (i + 1 + 1) (n - (i + 1)) in
    ap (λ o. with_front front (with_block o round (i + 1) rest)) (sym none)
    ∙ (ap (λ m. with_front front (blocks_from certificates round (i + 1) m)) (sym (one_less n i l)) ∙ h)

pub front_end : (certificates : List CommitCert) (front : List Block) (round n : ℕ) (whole : Result (List Block) ℕ)
    → with_front front (blocks_from certificates round (n + 1) (n - n)) ≡ whole → Ok front ≡ whole
front_end certificates front round n whole h =
    let e : n - n ≡ 0 = omega arith in
    ap (λ l. Ok l) (sym (append-nil front)) ∙ (ap (λ m. with_front front (blocks_from certificates round (n + 1) m)) (sym e) ∙ h)

-- ---- the first that is missing

missing_behind : (round cluster : ℕ) (k : CommitCert) (rest : Result (List Block) ℕ) → missing_of rest ≡ missing_of (with_block (Some k) round cluster rest)
missing_behind round cluster k (Ok blocks) = refl
missing_behind round cluster k (Err missing) = refl

-- ---- they are sound

sound_one : (z clients : ℕ) (k : CommitCert) → is_keepable z clients k ≡ true → (batch_fits k.batch ≡ true) × (are_clients clients k.batch ≡ true)
sound_one z clients k h =
    let later = and_right (nat_le 1 k.cluster && nat_le k.cluster z) (nat_le 1 (round_of k) && (batch_fits k.batch && are_clients clients k.batch)) h in
    let both = and_right (nat_le 1 (round_of k)) (batch_fits k.batch && are_clients clients k.batch) later in
    (and_left (batch_fits k.batch) (are_clients clients k.batch) both, and_right (batch_fits k.batch) (are_clients clients k.batch) both)

same_blocks : (x y : List Block) → ◌≡◌ {A = Result (List Block) ℕ} (Ok x) (Ok y) → x ≡ y
same_blocks x y h = cc

sound_more : (clients : ℕ) (b : Block) (rest : List Block) → (batch_fits b.batch ≡ true) × (are_clients clients b.batch ≡ true) → AreSound clients rest
    → AreSound clients (b ∷ rest)
sound_more clients b rest one all zero d l = one
sound_more clients b rest one all (suc k) d l = all k d (omega (arith, l))

none_sound : (clients : ℕ) → AreSound clients []
none_sound clients k d l = absurd (omega (arith, l))

pub are_sound : (z clients : ℕ) (certificates : List CommitCert) (round cluster n : ℕ) (blocks : List Block) → list_all (is_keepable z clients) certificates ≡ true
    → blocks_from certificates round cluster n ≡ Ok blocks → AreWhole n clients blocks
are_sound z clients certificates round cluster zero blocks all h =
    subst (AreWhole 0 clients) (same_blocks [] blocks h) (refl, none_sound clients)
are_sound z clients certificates round cluster (suc n) blocks all h =
    go (λ rest f. are_sound z clients certificates round (cluster + 1) n rest all f) (certificate_for certificates round cluster) refl
    (blocks_from certificates round (cluster + 1) n) refl h
  where
    go : ((rest : List Block) → blocks_from certificates round (cluster + 1) n ≡ Ok rest → AreWhole n clients rest)
        → (o : Option CommitCert) → certificate_for certificates round cluster ≡ o → (r : Result (List Block) ℕ) → blocks_from certificates round (cluster + 1) n ≡ r
        → with_block o round cluster r ≡ Ok blocks → AreWhole (suc n) clients blocks
    go later None e r f q = cc
    go later (Some k) e (Err m) f q = cc
    go later (Some k) e (Ok rest) f q =
        let x = later rest f in
        let kept = each_passes (is_keepable z clients) certificates k all (is_for certificates round cluster k e).inside in
        subst (AreWhole (suc n) clients) (same_blocks (block_of round k ∷ rest) blocks q)
        (ap suc x.0, sound_more clients (block_of round k) rest (sound_one z clients k kept) x.1)

pub next_sound : (z clients : ℕ) (certificates : List CommitCert) (round : ℕ) (gathered : Result (List Block) ℕ) → list_all (is_keepable z clients) certificates ≡ true
    → gathered ≡ blocks_from certificates round 1 z → IfOk gathered (λ blocks. AreWhole z clients blocks)
next_sound z clients certificates round (Ok blocks) all h = are_sound z clients certificates round 1 z blocks all (sym h)
next_sound z clients certificates round (Err m) all h = tt

-- a kept certificate has a batch that fits
pub kept_fits : (z clients : ℕ) (certificates : List CommitCert) (round cluster : ℕ) (k : CommitCert) → list_all (is_keepable z clients) certificates ≡ true
    → certificate_for certificates round cluster ≡ Some k → batch_fits k.batch ≡ true
kept_fits z clients certificates round cluster k all e =
    (sound_one z clients k (each_passes (is_keepable z clients) certificates k all (is_for certificates round cluster k e).inside)).0

-- ---- which is the first

pub missing_begin : (certificates : List CommitCert) (round n : ℕ) → missing_of (blocks_from certificates round 1 (n - 0)) ≡ missing_of (blocks_from certificates round 1 n)
missing_begin certificates round n =
    let e : n - 0 ≡ n = omega arith in
    ap (λ m. missing_of (blocks_from certificates round 1 m)) e

pub missing_step : (certificates : List CommitCert) (round n i : ℕ) (k : CommitCert) (whole : Option ℕ) → i < n → certificate_for certificates round (i + 1) ≡ Some k
    → missing_of (blocks_from certificates round (i + 1) (n - i)) ≡ whole → missing_of (blocks_from certificates round (i + 1 + 1) (n - (i + 1))) ≡ whole
missing_step certificates round n i k whole l found h =
    let rest = blocks_from certificates round (i + 1 + 1) (n - (i + 1)) in
    missing_behind round (i + 1) k rest
    ∙ (ap (λ o. missing_of (with_block o round (i + 1) rest)) (sym found)
    ∙ (ap (λ m. missing_of (blocks_from certificates round (i + 1) m)) (sym (one_less n i l)) ∙ h))

pub missing_here : (certificates : List CommitCert) (round n i : ℕ) (whole : Option ℕ) → i < n → certificate_for certificates round (i + 1) ≡ None
    → missing_of (blocks_from certificates round (i + 1) (n - i)) ≡ whole → Some (i + 1) ≡ whole
missing_here certificates round n i whole l none h =
    let rest = blocks_from certificates round (i + 1 + 1) (n - (i + 1)) in
    ap (λ o. missing_of (with_block o round (i + 1) rest)) (sym none)
    ∙ (ap (λ m. missing_of (blocks_from certificates round (i + 1) m)) (sym (one_less n i l)) ∙ h)

pub missing_end : (certificates : List CommitCert) (round n : ℕ) (whole : Option ℕ) → missing_of (blocks_from certificates round (n + 1) (n - n)) ≡ whole → None ≡ whole
missing_end certificates round n whole h =
    let e : n - n ≡ 0 = omega arith in
    ap (λ m. missing_of (blocks_from certificates round (n + 1) m)) (sym e) ∙ h

pub missing_more : (certificates : List CommitCert) (round n i : ℕ) (r : Option (Bor CommitCert)) (whole : Option ℕ) → i < n
    → option_copied r ≡ certificate_for certificates round (i + 1) → is_some r ≡ true
    → missing_of (blocks_from certificates round (i + 1) (n - i)) ≡ whole → missing_of (blocks_from certificates round (i + 1 + 1) (n - (i + 1))) ≡ whole
missing_more certificates round n i None whole l e s h = cc
missing_more certificates round n i (Some k) whole l e s h = missing_step certificates round n i k.now whole l (sym e) h
