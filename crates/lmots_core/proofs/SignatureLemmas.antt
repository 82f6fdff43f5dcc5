-- What is read back from a signature, and that its candidate is the public key.
use Rattle.std.proofs.Common.{◌≡◌, ℕ, ◌+◌, ◌-◌, ◌*◌, ◌<◌, ◌≤◌, List, ◌++◌, length, take, drop, refl, sym, ap, ◌∙◌, arith, length-append, append_assoc}
use Rattle.std.proofs.lemmas.List.{take_at, drop_at, drop-drop}
use Rattle.std.specs.Int.{w32, to_be_bytes}
use Rattle.lmots_core.specs.declared.kind.OtsKind.{OtsKind}
use Rattle.lmots_core.specs.declared.seed.OtsSeed.{OtsSeed}
use Rattle.lmots_core.specs.Parameters.{width, chain_count, type_code, top_digit, signature_len}
use Rattle.lmots_core.specs.Digits.{coef}
use Rattle.lmots_core.specs.Chains.{chain, chain_start, chain_end, joined}
use Rattle.lmots_core.specs.OneTime.{key_of_ends, public_key, signed_digits, signed_value, signature, randomizer_of, value_of, completed_value, candidate_key}
use Rattle.lmots_core.proofs.DigitLemmas.{coef_le_top}
use Rattle.lmots_core.proofs.ChainLemmas.{chain_add, length-chain, length-chain_step, length-joined, joined_same, value_in_joined}

-- the randomizer behind a type of 4 bytes
randomizer_read : (front randomizer values : List ℕ) → length front ≡ 4 → length randomizer ≡ 32
    → randomizer_of (front ++ randomizer ++ values) ≡ randomizer
randomizer_read front randomizer values four size =
    ap (λ l. take 32 (drop 4 l)) (append_assoc front randomizer values)
    ∙ ap (take 32) (drop_at front (randomizer ++ values) 4 four)
    ∙ take_at randomizer values 32 size

-- the values behind a type and a randomizer
values_read : (front randomizer values : List ℕ) (i : ℕ) → length front ≡ 4 → length randomizer ≡ 32
    → value_of (front ++ randomizer ++ values) i ≡ take 32 (drop (32 * i) values)
values_read front randomizer values i four size =
    let size_of_front : length (front ++ randomizer) ≡ 36 = omega (arith, length-append front randomizer) in
    ap (take 32) (sym (drop-drop (32 * i) 36 (front ++ randomizer ++ values))
    ∙ ap (drop (32 * i)) (drop_at (front ++ randomizer) values 36 size_of_front))

-- a signature is as long as its kind says
pub length-signature : (kind : OtsKind) (seed : OtsSeed) (q : ℕ) (randomizer message : List ℕ) → length randomizer ≡ 32
    → length (signature kind seed q randomizer message) ≡ signature_len kind
length-signature kind seed q randomizer message size =
    let digits = signed_digits kind seed.id q randomizer message in
    let values = joined (signed_value kind seed q digits) (chain_count kind) in
    let long = length-joined (signed_value kind seed q digits) (chain_count kind)
    (λ i. length-chain seed.id q i 0 (coef digits i (width kind)) (chain_start seed q i) (length-chain_step seed.id q i 0xff seed.seed)) in
    let front = length-append (to_be_bytes w32 (type_code kind)) randomizer in
    let whole = length-append (to_be_bytes w32 (type_code kind) ++ randomizer) values in
    let four : length (to_be_bytes w32 (type_code kind)) ≡ 4 = refl in
    omega arith

-- a chain of which the digit's part and the rest are run is run whole
run_whole : (kind : OtsKind) (seed : OtsSeed) (q i digit : ℕ) → digit ≤ top_digit kind
    → chain seed.id q i digit (top_digit kind - digit) (chain seed.id q i 0 digit (chain_start seed q i)) ≡ chain_end kind seed q i
run_whole kind seed q i digit le =
    let sum : digit + (top_digit kind - digit) ≡ top_digit kind = omega arith in
    chain_add seed.id q i digit (top_digit kind - digit) (chain_start seed q i)
    ∙ ap (λ (n : ℕ). chain seed.id q i 0 n (chain_start seed q i)) sum

pub candidate_of_signature : (kind : OtsKind) (seed : OtsSeed) (q : ℕ) (randomizer message : List ℕ) → length randomizer ≡ 32
    → candidate_key kind seed.id q message (signature kind seed q randomizer message) ≡ public_key kind seed q
candidate_of_signature kind seed q randomizer message size =
    let front = to_be_bytes w32 (type_code kind) in
    let digits = signed_digits kind seed.id q randomizer message in
    let y = signed_value kind seed q digits in
    let values = joined y (chain_count kind) in
    let long = λ (i : ℕ). length-chain seed.id q i 0 (coef digits i (width kind)) (chain_start seed q i) (length-chain_step seed.id q i 0xff seed.seed) in
    let same_randomizer : randomizer_of (signature kind seed q randomizer message) ≡ randomizer = randomizer_read front randomizer values refl size in
    let each : (i : ℕ) → i < chain_count kind → completed_value kind seed.id q digits (signature kind seed q randomizer message) i ≡ chain_end kind seed q i =
    λ i lt. ap (λ v. chain seed.id q i (coef digits i (width kind)) (top_digit kind - coef digits i (width kind)) v)
    (values_read front randomizer values i refl size ∙ value_in_joined y (chain_count kind) i long lt)
    ∙ run_whole kind seed q i (coef digits i (width kind)) (coef_le_top kind digits i) in
    ap (λ (c : List ℕ). key_of_ends seed.id q (joined (completed_value kind seed.id q (signed_digits kind seed.id q c message) (signature kind seed q randomizer message)) (chain_count kind))) same_randomizer
    ∙ ap (key_of_ends seed.id q) (joined_same (completed_value kind seed.id q digits (signature kind seed q randomizer message)) (chain_end kind seed q) (chain_count kind) each)
