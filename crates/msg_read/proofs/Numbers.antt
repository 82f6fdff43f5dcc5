-- Numbers and runs of bytes keep the law of a reader.
use Rattle.std.proofs.Common.{◌≡◌, ℕ, ◌+◌, ◌^◌, ◌<◌, ◌≤◌, true, false, ◌&&◌, ltb, nat_lt, nat_eq, nat_le, List, [], ◌∷◌, ◌++◌, length, get_or, take, drop, Result, Ok, refl, sym, ap, subst, ◌∙◌, length-drop, drop-drop, arith, inl, inr}
use Rattle.std.specs.Int.{Width, w8, w16, w32, w64, byte_len, from_be_bytes, to_be_bytes}
use Rattle.std.proofs.lemmas.Bool.{cases_lt, ltb-false, le-ltb}
use Rattle.std.proofs.lemmas.List.{take_at, take-append-drop, length-take, get_or-drop, get_or-take, get_or_past}
use Rattle.std.proofs.lemmas.Nat.{be_bytes_2, be_bytes_4, be_bytes_8, from_be_bytes-to_be_bytes_2, from_be_bytes-to_be_bytes_4, from_be_bytes-to_be_bytes_8}
use Rattle.fab_base.specs.Fields.{are_bytes, bytes_fit}
use Rattle.fab_base.proofs.Bytes.{AreBytes, are_bytes_of}
use Rattle.fab_base.proofs.Tests.{and_left, and_right, and_both, below, is_below, at_most, same, is_same}
use Rattle.fab_codec.specs.declared.faults.CodeFault.{CodeFault}
use Rattle.fab_codec.specs.declared.faults.CodeFault.TheVariants.{Short}
use Rattle.fab_codec.specs.Fields.{number_at, run_at}
use Rattle.msg_read.specs.Steps.{At, moved}
use Rattle.msg_read.specs.Fields.{number, run, limited, sized}
use Rattle.msg_read.proofs.Readers.{Taken, left, IsRead, bind_ok, guard_ok, ok_is, inside_moved, next_read, made_read, checked_read}

-- ---- bytes

AreBytes-drop : (n : ℕ) (bytes : List ℕ) → AreBytes bytes → AreBytes (drop n bytes)
AreBytes-drop n bytes h = record { at_place = λ i. rw get_or-drop (h.at_place (n + i)) }

AreBytes-take : (n : ℕ) (bytes : List ℕ) → AreBytes bytes → AreBytes (take n bytes)
AreBytes-take n bytes h = record {
  at_place = λ i.
      elim (cases_lt i n) [
        | inl lt ↦ rw (get_or-take n bytes i 0 lt) (h.at_place i)
        | inr le ↦ rw (get_or_past (take n bytes) i 0 (omega (arith, length-take n bytes))) (omega arith)
      ];
}

-- ---- numbers

pub record IsWide (w : Width) (limit : ℕ) (spell : ℕ → List ℕ) : Type 0 where
  pub len : (n : ℕ) → length (spell n) ≡ byte_len w
  pub back : (bytes : List ℕ) → length bytes ≡ byte_len w → AreBytes bytes → spell (from_be_bytes w bytes) ≡ bytes
  pub again : (n : ℕ) → n < limit → from_be_bytes w (spell n) ≡ n
  pub below : (bytes : List ℕ) → AreBytes bytes → length bytes ≡ byte_len w → from_be_bytes w bytes < limit

one_byte : (bytes : List ℕ) → length bytes ≡ 1 → bytes ≡ get_or bytes 0 0 ∷ []
one_byte [] e = absurd cc
one_byte (b ∷ []) e = refl
one_byte (b ∷ c ∷ bytes) e = absurd (omega arith)

pub wide8 : IsWide w8 256 (λ n. n ∷ [])
wide8 = record {
  len = λ n. refl;
  back = λ bytes len fits. sym (one_byte bytes len);
  again = λ n lt. refl;
  below = λ bytes fits len. fits.at_place 0;
}

pub wide16 : IsWide w16 (2 ^ 16) (to_be_bytes w16)
wide16 = record {
  len = λ n. refl;
  back = λ bytes len fits. be_bytes_2 bytes _ len fits.at_place refl;
  again = λ n lt. from_be_bytes-to_be_bytes_2 n lt;
  below = λ bytes fits len. omega (arith, fits.at_place 0, fits.at_place 1);
}

pub wide32 : IsWide w32 (2 ^ 32) (to_be_bytes w32)
wide32 = record {
  len = λ n. refl;
  back = λ bytes len fits. be_bytes_4 bytes _ len fits.at_place refl;
  again = λ n lt. from_be_bytes-to_be_bytes_4 n lt;
  below = λ bytes fits len. omega (arith, fits.at_place 0, fits.at_place 1, fits.at_place 2, fits.at_place 3);
}

pub wide64 : IsWide w64 (2 ^ 64) (to_be_bytes w64)
wide64 = record {
  len = λ n. refl;
  back = λ bytes len fits. be_bytes_8 bytes _ len fits.at_place refl;
  again = λ n lt. from_be_bytes-to_be_bytes_8 n lt;
  below = λ bytes fits len.
      omega (arith, fits.at_place 0, fits.at_place 1, fits.at_place 2, fits.at_place 3, fits.at_place 4, fits.at_place 5, fits.at_place 6, fits.at_place 7);
}

pub number_read : {w : Width} {limit : ℕ} {spell : ℕ → List ℕ} → IsWide w limit spell → IsRead spell (λ n. nat_lt n limit) (number w)
unfolding number number_at
number_read {w} {limit} {spell} wide = record {
  again = λ at n rest inside fits e.
      let len = wide.len n in
      let room : at.place + byte_len w ≤ length at.bytes = omega (arith, inside_moved at (spell n) rest inside e, len) in
      let long : ltb (length at.bytes) (at.place + byte_len w) ≡ false = le-ltb _ _ room in
      let w1 : ◌≡◌ {A = Result (ℕ × At) CodeFault} (number w at) (Ok (n, moved (byte_len w) at)) =
      rw (long, e, take_at (spell n) rest (byte_len w) len, wide.again n (below n limit fits)) refl in
      w1 ∙ ap (λ (k : ℕ). Ok (n, moved k at)) (sym len);
  takes = λ at n behind bytes inside e.
      let a = bind_ok (number_at w at.bytes at.place) (λ n. Ok (n, moved (byte_len w) at)) (n, behind) e in
      let front = take (byte_len w) (left at) in
      let g = guard_ok (ltb (length at.bytes) (at.place + byte_len w)) (Short (length at.bytes)) (from_be_bytes w front) a.0 a.1 in
      let room : at.place + byte_len w ≤ length at.bytes = ltb-false _ _ g.0 in
      let fits = AreBytes-take (byte_len w) (left at) (AreBytes-drop at.place at.bytes bytes) in
      let len : length front ≡ byte_len w = omega (arith, length-take (byte_len w) (left at), length-drop at.place at.bytes) in
      let spelled : spell a.0 ≡ front = ap spell (sym g.1) ∙ wide.back front len fits in
      let taken : Taken at (spell a.0) (moved (byte_len w) at) = record {
        next_is = ap (λ (k : ℕ). moved k at) (sym (wide.len a.0));
        inside = room;
        parts = sym (take-append-drop (byte_len w) (left at)) ∙ ap (λ (l : List ℕ). l ++ drop (byte_len w) (left at)) (sym spelled)
            ∙ ap (λ (l : List ℕ). spell a.0 ++ l) (drop-drop (byte_len w) at.place at.bytes);
      } in
      let value : nat_lt a.0 limit ≡ true = ap (λ k. nat_lt k limit) (sym g.1) ∙ is_below (from_be_bytes w front) limit (wide.below front fits len) in
      subst (λ (z : ℕ × At). Taken at (spell z.0) z.1 × (nat_lt z.0 limit ≡ true)) (ok_is (a.0, moved (byte_len w) at) (n, behind) a.2) (taken, value);
}

-- ---- so many bytes

pub run_read : (len : ℕ) → IsRead (λ r. r) (λ r. nat_eq (length r) len && are_bytes r) (run len)
unfolding run run_at
run_read len = record {
  again = λ at r rest inside fits e.
      let is_len : length r ≡ len = same (length r) len (and_left (nat_eq (length r) len) (are_bytes r) fits) in
      let room : at.place + len ≤ length at.bytes = omega (arith, inside_moved at r rest inside e, is_len) in
      let long : ltb (length at.bytes) (at.place + len) ≡ false = le-ltb _ _ room in
      let w1 : ◌≡◌ {A = Result (List ℕ × At) CodeFault} (run len at) (Ok (r, moved len at)) = rw (long, e, take_at r rest len is_len) refl in
      w1 ∙ ap (λ (k : ℕ). Ok (r, moved k at)) (sym is_len);
  takes = λ at r behind bytes inside e.
      let a = bind_ok (run_at len at.bytes at.place) (λ r. Ok (r, moved len at)) (r, behind) e in
      let front = take len (left at) in
      let g = guard_ok (ltb (length at.bytes) (at.place + len)) (Short (length at.bytes)) front a.0 a.1 in
      let room : at.place + len ≤ length at.bytes = ltb-false _ _ g.0 in
      let fits = AreBytes-take len (left at) (AreBytes-drop at.place at.bytes bytes) in
      let is_len : length front ≡ len = omega (arith, length-take len (left at), length-drop at.place at.bytes) in
      let taken : Taken at front (moved len at) = record {
        next_is = ap (λ (k : ℕ). moved k at) (sym is_len);
        inside = room;
        parts = sym (take-append-drop len (left at)) ∙ ap (λ (l : List ℕ). front ++ l) (drop-drop len at.place at.bytes);
      } in
      let value : (nat_eq (length front) len && are_bytes front) ≡ true =
      and_both (nat_eq (length front) len) (are_bytes front) (ap (λ k. nat_eq k len) is_len ∙ is_same len) (are_bytes_of front fits) in
      let pair : List ℕ × At = (a.0, moved len at) in
      subst (λ (z : List ℕ × At). Taken at z.0 z.1 × ((nat_eq (length z.0) len && are_bytes z.0) ≡ true)) (ok_is pair (r, behind) a.2)
      (subst (λ (l : List ℕ). Taken at l (moved len at) × ((nat_eq (length l) len && are_bytes l) ≡ true)) g.1 (taken, value));
}

-- ---- judged numbers

pub limited_read : {w : Width} {limit : ℕ} {spell : ℕ → List ℕ} (most : ℕ) → IsWide w limit spell
    → IsRead spell (λ n. nat_le n most && nat_lt n limit) (limited w most)
unfolding limited
limited_read most wide = checked_read (λ n. nat_le n most) _ (number_read wide)

-- a length and so many bytes
pub sized_read : {w : Width} {limit : ℕ} {spell : ℕ → List ℕ} (most : ℕ) → most < limit → IsWide w limit spell
    → IsRead (λ r. spell (length r) ++ r) (bytes_fit most) (sized w most)
unfolding sized
sized_read {w} {limit} {spell} most lt wide = made_read (record {
  spelled = λ p h. ap (λ n. spell n ++ p.1) (len_is p h);
  stays = λ p h. and_both (nat_le (length p.1) most) (are_bytes p.1)
      (ap (λ n. nat_le n most) (len_is p h) ∙ and_left (nat_le p.0 most) (ltb p.0 limit) (and_left _ _ h))
      (and_right (nat_eq (length p.1) p.0) (are_bytes p.1) (and_right (nat_le p.0 most && ltb p.0 limit) _ h));
  comes = λ r h.
      let le : length r ≤ most = at_most (length r) most (and_left (nat_le (length r) most) (are_bytes r) h) in (
        (length r, r),
        refl,
        and_both _ _ (and_both _ _ (and_left (nat_le (length r) most) (are_bytes r) h) (is_below (length r) limit (omega arith)))
            (and_both _ _ (is_same (length r)) (and_right (nat_le (length r) most) (are_bytes r) h)),
      );
}) (next_read (limited_read most wide) (λ len h. run_read len))
  where
    len_is : (p : ℕ × List ℕ) → (nat_le p.0 most && ltb p.0 limit && (nat_eq (length p.1) p.0 && are_bytes p.1)) ≡ true → length p.1 ≡ p.0
    len_is p h = same (length p.1) p.0 (and_left (nat_eq (length p.1) p.0) (are_bytes p.1) (and_right (nat_le p.0 most && ltb p.0 limit) _ h))
