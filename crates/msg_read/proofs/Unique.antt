-- No spelling begins another, equal spellings are of equal values, and equal contents are of equal statements.
use Rattle.std.proofs.Common.{◌≡◌, ℕ, Bool, true, false, ◌&&◌, List, [], ◌∷◌, ◌++◌, length, refl, sym, ap, ◌∙◌, arith}
use Rattle.std.proofs.lemmas.List.{append-nil, nil_from_length, length-append}
use Rattle.fab_base.specs.declared.messages.Message.{Message}
use Rattle.fab_base.specs.Fields.{op_fits}
use Rattle.fab_rules.specs.Lists.{IsPrefixOf}
use Rattle.fab_rules.specs.Format.{is_u8, is_u32, is_u64, id_fits, digest_fits, batch_fits, proof_fits, certificates_fit, view_changes_fit, lines_fit, fields_fit}
use Rattle.fab_rules.specs.Spelling.{body_of, seal_of, content_of, spelling_of}
use Rattle.fab_rules.specs.Statements.{unsigned}
use Rattle.msg_read.specs.Steps.{At, Reader, moved}
use Rattle.msg_read.proofs.Readers.{IsRead, ok_is}
use Rattle.msg_read.proofs.Messages.{spelled, message_read}

module _ {X : Type 0} {spell : X → List ℕ} {good : X → Bool} {read : Reader X} (law : IsRead spell good read) where
  pub is_unique : (x y : X) (rest : List ℕ) → good x ≡ true → good y ≡ true → spell x ≡ spell y ++ rest → (x ≡ y) × (rest ≡ [])
  is_unique x y rest gx gy e =
      let at : At = record { bytes = spell x; place = 0 } in
      let a = law.again at x [] (omega arith) gx (sym (append-nil (spell x))) in
      let b = law.again at y rest (omega arith) gy e in
      let first : X × At = (x, moved (length (spell x)) at) in
      let second : X × At = (y, moved (length (spell y)) at) in
      let same : x ≡ y = ap (λ (p : X × At). p.0) (ok_is first second (sym a ∙ b)) in
      let lengths : length (spell x) ≡ length (spell y) = ap (λ z. length (spell z)) same in
      (same, nil_from_length rest (omega (arith, lengths, ap length e, length-append (spell y) rest)))

-- ---- messages

without_first : (b : ℕ) (x y : List ℕ) → b ∷ x ≡ b ∷ y → x ≡ y
without_first b x y e = cc

pub begun : (m n : Message) → fields_fit m ≡ true → fields_fit n ≡ true → IsPrefixOf (spelling_of m) (spelling_of n) → m ≡ n
unfolding spelling_of
begun m n fm fn (rest, e) = sym (is_unique message_read n m rest fn fm (without_first 1 (spelled n) (spelled m ++ rest) (sym e))).0

pub equal : (m n : Message) → fields_fit m ≡ true → fields_fit n ≡ true → spelling_of m ≡ spelling_of n → m ≡ n
equal m n fm fn e = begun m n fm fn ([], append-nil (spelling_of m) ∙ e)

-- ---- contents

-- an empty signature with its length, where the kind has one
abbrev empty_seal : Bool → List ℕ
empty_seal true = 0 ∷ 0 ∷ []
empty_seal false = []

-- whether messages of the kind are signed
abbrev is_signed : Message → Bool
is_signed (Message.Share x) = false
is_signed (Message.Fetch x) = false
is_signed m = true

seal_is : (m : Message) → seal_of (unsigned m) ≡ empty_seal (is_signed m)
seal_is (Message.Request x) = refl
seal_is (Message.PrePrepare x) = refl
seal_is m = refl

body_is : (m : Message) → body_of (unsigned m) ≡ body_of m
body_is (Message.Request x) = refl
body_is m = refl

-- a test that ends otherwise
keep : (a x y : Bool) → (x ≡ true → y ≡ true) → (a && x) ≡ true → (a && y) ≡ true
keep true x y f h = f h
keep false x y f h = absurd cc

-- without its signature a statement fits too
fit : (m : Message) → fields_fit m ≡ true → fields_fit (unsigned m) ≡ true
fit (Message.Request x) h = keep (is_u8 x.client.number) _ _ (keep (is_u32 x.stamp) _ _ (keep (op_fits x.op) _ _ (λ s. refl))) h
fit (Message.PrePrepare x) h = keep (id_fits x.signer) _ _ (keep (is_u64 x.view) _ _ (keep (is_u64 x.slot) _ _ (keep (batch_fits x.batch) _ _ (λ s. refl)))) h
fit (Message.Prepare x) h = keep (id_fits x.signer) _ _ (keep (is_u64 x.view) _ _ (keep (is_u64 x.slot) _ _ (keep (digest_fits x.digest) _ _ (λ s. refl)))) h
fit (Message.Commit x) h = keep (id_fits x.signer) _ _ (keep (is_u64 x.view) _ _ (keep (is_u64 x.slot) _ _ (keep (digest_fits x.digest) _ _ (λ s. refl)))) h
fit (Message.Checkpoint x) h = keep (id_fits x.signer) _ _ (keep (is_u64 x.round) _ _ (keep (digest_fits x.digest) _ _ (λ s. refl))) h
fit (Message.ViewChange x) h = keep (id_fits x.signer) _ _ (keep (is_u64 x.view) _ _ (keep (is_u64 x.low) _ _ (keep (proof_fits x.proof) _ _ (keep (certificates_fit x.prepared) _ _ (λ s. refl))))) h
fit (Message.NewView x) h = keep (id_fits x.signer) _ _ (keep (is_u64 x.view) _ _ (keep (view_changes_fit x.changes) _ _ (λ s. refl))) h
fit (Message.Drvc x) h = keep (id_fits x.signer) _ _ (keep (is_u8 x.target) _ _ (keep (is_u64 x.round) _ _ (keep (is_u32 x.count) _ _ (λ s. refl)))) h
fit (Message.Rvc x) h = keep (id_fits x.signer) _ _ (keep (is_u8 x.target) _ _ (keep (is_u64 x.round) _ _ (keep (is_u32 x.count) _ _ (λ s. refl)))) h
fit (Message.ReplyNote x) h = keep (id_fits x.signer) _ _ (keep (is_u64 x.round) _ _ (keep (digest_fits x.digest) _ _ (keep (lines_fit x.lines) _ _ (λ s. refl)))) h
fit (Message.Share x) h = h
fit (Message.Fetch x) h = h

-- an empty signature in one of the two alone would be bytes behind a whole spelling
one_body : (m n : Message) (p q : Bool) (body : List ℕ) → fields_fit m ≡ true → fields_fit n ≡ true → spelled m ≡ body ++ empty_seal p
    → spelled n ≡ body ++ empty_seal q → m ≡ n
one_body m n true true body fm fn e f = (is_unique message_read m n [] fm fn (e ∙ sym f ∙ sym (append-nil (spelled n)))).0
one_body m n false false body fm fn e f = (is_unique message_read m n [] fm fn (e ∙ sym f ∙ sym (append-nil (spelled n)))).0
one_body m n true false body fm fn e f =
    (is_unique message_read m n (0 ∷ 0 ∷ []) fm fn (e ∙ ap (λ l. l ++ 0 ∷ 0 ∷ []) (sym (append-nil body) ∙ sym f))).0
one_body m n false true body fm fn e f =
    sym (is_unique message_read n m (0 ∷ 0 ∷ []) fn fm (f ∙ ap (λ l. l ++ 0 ∷ 0 ∷ []) (sym (append-nil body) ∙ sym e))).0

bare_spelled : (m : Message) → spelled (unsigned m) ≡ body_of m ++ empty_seal (is_signed m)
bare_spelled m = rw (body_is m, seal_is m) refl

pub told : (m n : Message) → fields_fit m ≡ true → fields_fit n ≡ true → content_of m ≡ content_of n → unsigned m ≡ unsigned n
unfolding content_of
told m n fm fn e =
    let same = without_first 1 (body_of m) (body_of n) e in
    one_body (unsigned m) (unsigned n) (is_signed m) (is_signed n) (body_of m) (fit m fm) (fit n fn) (bare_spelled m)
    (bare_spelled n ∙ ap (λ l. l ++ empty_seal (is_signed n)) (sym same))
