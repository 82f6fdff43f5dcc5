-- Tags: what stands behind one, and one of several.
use Rattle.std.proofs.Common.{◌≡◌, ℕ, suc, ◌<◌, ◌≤◌, Bool, true, false, cond, ◌&&◌, nat_lt, nat_le, nat_eq, List, [], ◌∷◌, ◌++◌, length, Result, Ok, Err, refl, sym, ap, subst, ◌∙◌, arith}
use Rattle.std.specs.Int.{w8}
use Rattle.std.proofs.lemmas.Bool.Decides.{nat_tests}
use Rattle.fab_base.proofs.Bytes.{AreBytes}
use Rattle.fab_base.proofs.Tests.{and_left, and_right, and_both, below, is_below, at_most, same, is_same}
use Rattle.fab_codec.specs.declared.faults.CodeFault.{CodeFault}
use Rattle.fab_codec.specs.declared.faults.CodeFault.TheVariants.{BadTag}
use Rattle.msg_read.specs.Steps.{At, Reader, moved}
use Rattle.msg_read.specs.Fields.{number, tagged, behind, branch, no_branch}
use Rattle.msg_read.proofs.Readers.{Taken, left, IsRead, bind_ok, both_taken, inside_moved, left_moved, moved_twice, both_read, made_read, checked_read, passes_as}
use Rattle.msg_read.proofs.Numbers.{number_read, wide8}

-- ---- one tag

pub tagged_read : (tag : ℕ) → IsRead (λ n. n ∷ []) (λ n. nat_eq n tag && nat_lt n 256) (tagged tag)
unfolding tagged
tagged_read tag = checked_read (λ n. nat_eq n tag) _ (number_read wide8)

pub behind_read : {X : Type 0} {spell : X → List ℕ} {good : X → Bool} {read : Reader X} (tag : ℕ) → tag < 256
    → IsRead spell good read → IsRead (λ x. tag ∷ spell x) good (behind tag read)
behind_read {X} {spell} {good} {read} tag lt r = made_read (record {
  spelled = λ p h. ap (λ n. n ∷ spell p.1) (sym (same p.0 tag (and_left (nat_eq p.0 tag) (nat_lt p.0 256) (and_left (nat_eq p.0 tag && nat_lt p.0 256) (good p.1) h))));
  stays = λ p h. and_right (nat_eq p.0 tag && nat_lt p.0 256) (good p.1) h;
  comes = λ y h. ((tag, y), refl, and_both (nat_eq tag tag && nat_lt tag 256) (good y) (and_both (nat_eq tag tag) (nat_lt tag 256) (is_same tag) (is_below tag 256 lt)) h);
}) (both_read (tagged_read tag) r)

-- ---- one of several readers, by its tag

-- tags go from 1 to the last, and what has one is spelled as the tag and what stands behind it
pub record IsTagged {X : Type 0} (spell tail : X → List ℕ) (tag_of : X → ℕ) (last : ℕ) : Type 0 where
  pub spelled : (x : X) → spell x ≡ tag_of x ∷ tail x
  pub known : (x : X) → (nat_lt 0 (tag_of x) && nat_le (tag_of x) last) ≡ true
  pub small : last < 256

follows : (n tag : ℕ) → nat_eq tag (suc n) ≡ false → nat_lt n tag ≡ true → nat_lt (suc n) tag ≡ true
follows n tag p q = grind (arith, nat_tests)

is_above : (n tag : ℕ) → nat_lt (suc n) tag ≡ true → nat_lt n tag ≡ true
is_above n tag p = grind (arith, nat_tests)

is_here : (n tag : ℕ) → tag ≡ suc n → nat_lt n tag ≡ true
is_here n tag e = grind (arith, nat_tests)

module _ {X : Type 0} {spell tail : X → List ℕ} {tag_of : X → ℕ} {last : ℕ} (good : X → Bool) (t : IsTagged spell tail tag_of last) where
  is_byte : (x : X) → nat_lt (tag_of x) 256 ≡ true
  is_byte x =
      let le = at_most (tag_of x) last (and_right (nat_lt 0 (tag_of x)) _ (t.known x)) in
      let lt = t.small in
      is_below (tag_of x) 256 (omega arith)

  -- the tags up to n were looked for before
  module _ (n : ℕ) {this others : Reader X} (y : IsRead tail (λ x. nat_eq (tag_of x) (suc n) && good x) this)
      (z : IsRead spell (λ x. nat_lt (suc n) (tag_of x) && good x) others) where
    again_at : (at : At) (x : X) (rest : List ℕ) (b : Bool) → nat_eq (tag_of x) (suc n) ≡ b → at.place ≤ length at.bytes
        → (nat_lt n (tag_of x) && good x) ≡ true → left at ≡ spell x ++ rest → left at ≡ (tag_of x ∷ []) ++ (tail x ++ rest)
        → number w8 at ≡ Ok (tag_of x, moved 1 at) → branch (suc n) this others at ≡ Ok (x, moved (length (spell x)) at)
    again_at at x rest true is inside fits e e1 k =
        let r = y.again (moved 1 at) x rest (inside_moved at (tag_of x ∷ []) (tail x ++ rest) inside e1)
        (and_both _ _ is (and_right (nat_lt n (tag_of x)) (good x) fits)) (left_moved at (tag_of x ∷ []) (tail x ++ rest) e1) in
        let w : ◌≡◌ {A = Result (X × At) CodeFault} (branch (suc n) this others at) (Ok (x, moved (length (tail x)) (moved 1 at))) = rw (k, is, r) refl in
        w ∙ ap (λ (next : At). Ok (x, next)) (moved_twice at (tag_of x ∷ []) (tail x)) ∙ ap (λ (l : List ℕ). Ok (x, moved (length l) at)) (sym (t.spelled x))
    again_at at x rest false is inside fits e e1 k =
        let above = follows n (tag_of x) is (and_left (nat_lt n (tag_of x)) (good x) fits) in
        let r = z.again at x rest inside (and_both _ _ above (and_right (nat_lt n (tag_of x)) (good x) fits)) e in
        let w : ◌≡◌ {A = Result (X × At) CodeFault} (branch (suc n) this others at) (Ok (x, moved (length (spell x)) at)) = rw (k, is, r) refl in
        w

    takes_at : (at : At) (x : X) (behind : At) (k : ℕ × At) (b : Bool) → nat_eq k.0 (suc n) ≡ b → AreBytes at.bytes → at.place ≤ length at.bytes
        → Taken at (k.0 ∷ []) k.1 → cond b (this k.1) (others at) ≡ Ok (x, behind) → Taken at (spell x) behind × ((nat_lt n (tag_of x) && good x) ≡ true)
    takes_at at x behind k true is bytes inside s e =
        let whole : k.1.bytes ≡ at.bytes = ap (λ (next : At). next.bytes) s.next_is in
        let r = y.takes k.1 x behind (subst AreBytes (sym whole) bytes) s.inside e in
        let eq = same (tag_of x) (suc n) (and_left _ _ r.1) in
        let joined = both_taken at k.1 behind (k.0 ∷ []) (tail x) s r.0 in
        let text : k.0 ∷ tail x ≡ spell x = ap (λ tag. tag ∷ tail x) (same k.0 (suc n) is ∙ sym eq) ∙ sym (t.spelled x) in
        (subst (λ (l : List ℕ). Taken at l behind) text joined, and_both _ _ (is_here n (tag_of x) eq) (and_right (nat_eq (tag_of x) (suc n)) (good x) r.1))
    takes_at at x behind k false is bytes inside s e =
        let r = z.takes at x behind bytes inside e in
        (r.0, and_both _ _ (is_above n (tag_of x) (and_left _ _ r.1)) (and_right (nat_lt (suc n) (tag_of x)) (good x) r.1))

    pub branch_read : IsRead spell (λ x. nat_lt n (tag_of x) && good x) (branch (suc n) this others)
    branch_read = record {
      again = λ at x rest inside fits e.
          let e1 : left at ≡ (tag_of x ∷ []) ++ (tail x ++ rest) = e ∙ ap (λ (l : List ℕ). l ++ rest) (t.spelled x) in
          let k = (number_read wide8).again at (tag_of x) (tail x ++ rest) inside (is_byte x) e1 in
          again_at at x rest (nat_eq (tag_of x) (suc n)) refl inside fits e e1 k;
      takes = λ at x behind bytes inside e.
          let a = bind_ok (number w8 at) (λ k. cond (nat_eq k.0 (suc n)) (this k.1) (others at)) (x, behind) e in
          let s = (number_read wide8).takes at a.0.0 a.0.1 bytes inside a.1 in
          takes_at at x behind a.0 (nat_eq a.0.0 (suc n)) refl bytes inside s.0 a.2;
    }

  -- behind the last tag nothing is read
  pub none_read : IsRead spell (λ x. nat_lt last (tag_of x) && good x) no_branch
  none_read = record {
    again = λ at x rest inside fits e.
        let lt = below last (tag_of x) (and_left _ _ fits) in
        let le = at_most (tag_of x) last (and_right (nat_lt 0 (tag_of x)) _ (t.known x)) in
        absurd (omega arith);
    takes = λ at x behind bytes inside e.
        let a = bind_ok (number w8 at) (λ k. Err (BadTag at.place)) (x, behind) e in absurd (cc a.2);
  }

  -- all tags were looked for
  pub all_read : {read : Reader X} → IsRead spell (λ x. nat_lt 0 (tag_of x) && good x) read → IsRead spell good read
  all_read r = passes_as (λ x. ap (λ b. b && good x) (and_left (nat_lt 0 (tag_of x)) _ (t.known x))) r
