-- Whole messages: the law of a reader that must use up all bytes.
use Rattle.std.proofs.Common.{◌≡◌, ℕ, ◌+◌, Bool, true, false, cond, ltb, nat_lt, nat_le, nat_eq, List, [], ◌∷◌, ◌++◌, length, drop, Result, Ok, Err, refl, sym, ap, subst, ◌∙◌, arith}
use Rattle.std.specs.Prelude.{IfOk}
use Rattle.std.proofs.lemmas.List.{append-nil}
use Rattle.std.proofs.lemmas.Bool.Decides.{nat_tests}
use Rattle.fab_base.specs.declared.limits.TheConstants.{LONGEST_MESSAGE}
use Rattle.fab_base.specs.declared.messages.Message.{Message}
use Rattle.fab_base.proofs.Bytes.{AreBytes}
use Rattle.fab_base.proofs.Tests.{and_left, and_right, and_both, same, is_same}
use Rattle.fab_codec.specs.declared.faults.CodeFault.{CodeFault}
use Rattle.fab_codec.specs.declared.faults.CodeFault.TheVariants.{TooLarge, Trailing}
use Rattle.fab_rules.specs.Format.{fields_fit, fits}
use Rattle.fab_rules.specs.Spelling.{spelling_of}
use Rattle.msg_read.specs.declared.faults.DecodeFault.{DecodeFault}
use Rattle.msg_read.specs.Steps.{Gives, At, Reader}
use Rattle.msg_read.specs.Fields.{behind}
use Rattle.msg_read.specs.Reading.{message, whole, reading_of}
use Rattle.msg_read.proofs.Readers.{left, IsRead, bind_ok, passed}
use Rattle.msg_read.proofs.Branches.{behind_read}
use Rattle.msg_read.proofs.Messages.{spelled, message_read}

drop_all : (xs : List ℕ) → drop (length xs) xs ≡ []
drop_all [] = refl
drop_all (x ∷ xs) = drop_all xs

abbrev start : List ℕ → At
start bytes = record { bytes = bytes; place = 0 }

module _ {X : Type 0} {spell : X → List ℕ} {good : X → Bool} {read : Reader X} (law : IsRead spell good read) where
  whole_takes : (bytes : List ℕ) (x : X) → AreBytes bytes → whole read bytes ≡ Ok x → (good x ≡ true) × (bytes ≡ 1 ∷ spell x)
  whole_takes bytes x fit e =
      let a = bind_ok (behind 1 read (start bytes)) (λ x. cond (nat_eq x.1.place (length bytes)) (Ok x.0) (Err (Trailing x.1.place))) x e in
      let p = passed (nat_eq a.0.1.place (length bytes)) (Trailing a.0.1.place) a.0.0 x a.2 in
      let t = (behind_read 1 (omega arith) law).takes (start bytes) a.0.0 a.0.1 fit (omega arith) a.1 in
      let bytes_are : a.0.1.bytes ≡ bytes = ap (λ (n : At). n.bytes) t.0.next_is in
      let ended : left a.0.1 ≡ [] =
      ap (λ (b : List ℕ). drop a.0.1.place b) bytes_are ∙ ap (λ n. drop n bytes) (same a.0.1.place (length bytes) p.0) ∙ drop_all bytes in
      let parts : bytes ≡ 1 ∷ spell a.0.0 = t.0.parts ∙ ap (λ (l : List ℕ). (1 ∷ spell a.0.0) ++ l) ended ∙ append-nil (1 ∷ spell a.0.0) in
      subst (λ (y : X). (good y ≡ true) × (bytes ≡ 1 ∷ spell y)) p.1 (t.1, parts)

  whole_again : (bytes : List ℕ) (x : X) → good x ≡ true → bytes ≡ 1 ∷ spell x → whole read bytes ≡ Ok x
  whole_again bytes x fit e =
      let r = (behind_read 1 (omega arith) law).again (start bytes) x [] (omega arith) fit (e ∙ sym (append-nil (1 ∷ spell x))) in
      let reach : 0 + length (1 ∷ spell x) ≡ length bytes = omega (arith, ap length e) in
      let ends : nat_eq (0 + length (1 ∷ spell x)) (length bytes) ≡ true = ap (λ n. nat_eq n (length bytes)) reach ∙ is_same (length bytes) in
      rw (r, ends) refl

-- ---- messages

not_long : {A : Type 0} (b : Bool) (d : CodeFault) (r : Result A CodeFault) (y : A) → cond b (Err d) r ≡ Ok y → (b ≡ false) × (r ≡ Ok y)
not_long true d r y e = absurd cc
not_long false d r y e = (refl, e)

not_longer : (a b : ℕ) → nat_le a b ≡ true → nat_lt b a ≡ false
not_longer a b h = grind (arith, nat_tests)

short : (a b : ℕ) → nat_lt b a ≡ false → nat_le a b ≡ true
short a b h = grind (arith, nat_tests)

pub is_found : (bytes : List ℕ) (r : Result Message DecodeFault) → AreBytes bytes → Gives (λ m. m) r (reading_of bytes)
    → IfOk r (λ m. (fits m ≡ true) × (bytes ≡ spelling_of m))
unfolding reading_of spelling_of
is_found bytes (Ok m) fit e =
    let g = not_long (ltb LONGEST_MESSAGE (length bytes)) (TooLarge LONGEST_MESSAGE) (whole message bytes) m e in
    let t = whole_takes message_read bytes m fit g.1 in
    let room : nat_le (length (1 ∷ spelled m)) LONGEST_MESSAGE ≡ true =
    ap (λ (l : List ℕ). nat_le (length l) LONGEST_MESSAGE) (sym t.1) ∙ short (length bytes) LONGEST_MESSAGE g.0 in
    (and_both (fields_fit m) _ t.0 room, t.1)
is_found bytes (Err f) fit e = tt

pub is_read : (bytes : List ℕ) (m : Message) → fits m ≡ true → bytes ≡ spelling_of m → reading_of bytes ≡ Ok m
unfolding reading_of spelling_of
is_read bytes m fit e =
    let read = whole_again message_read bytes m (and_left (fields_fit m) _ fit) e in
    let room : nat_le (length bytes) LONGEST_MESSAGE ≡ true = ap (λ (l : List ℕ). nat_le (length l) LONGEST_MESSAGE) e ∙ and_right (fields_fit m) _ fit in
    let long = not_longer (length bytes) LONGEST_MESSAGE room in
    rw long read
