-- What is read is spelled so, and what is spelled so is read: the law of a reader, and how it passes on.
use Rattle.std.proofs.Common.{◌≡◌, ℕ, ◌+◌, ◌≤◌, Bool, true, false, cond, ◌&&◌, List, ◌++◌, length, drop, Result, Ok, Err, refl, sym, ap, subst, ◌∙◌, append_assoc, length-drop, drop-drop, arith}
use Rattle.std.proofs.lemmas.List.{drop_at, length-append}
use Rattle.fab_codec.specs.declared.faults.CodeFault.{CodeFault}
use Rattle.fab_base.proofs.Bytes.{AreBytes}
use Rattle.fab_base.proofs.Tests.{and_left, and_right, and_both}
use Rattle.msg_read.specs.Steps.{◌>>=◌, At, Reader, moved, next, both, made, checked}

-- ---- results

pub bind_ok : {A B : Type 0} (r : Result A CodeFault) (f : A → Result B CodeFault) (y : B) → (r >>= f) ≡ Ok y
    → (x : A) × (r ≡ Ok x) × (f x ≡ Ok y)
bind_ok (Ok x) f y e = (x, refl, e)
bind_ok (Err d) f y e = absurd cc

pub bind_at : {A B : Type 0} (r : Result A CodeFault) (f : A → Result B CodeFault) (x : A) → r ≡ Ok x → (r >>= f) ≡ f x
bind_at r f x e = ap (λ s. s >>= f) e

abbrev done : {A : Type 0} → A → Result A CodeFault
done x = Ok x

pub ok_is : {A : Type 0} (x y : A) → done x ≡ done y → x ≡ y
ok_is x y e = cc

pub guard_ok : {A : Type 0} (b : Bool) (d : CodeFault) (x y : A) → cond b (Err d) (Ok x) ≡ Ok y → (b ≡ false) × (x ≡ y)
guard_ok true d x y e = absurd cc
guard_ok false d x y e = (refl, cc)

pub passed : {A : Type 0} (b : Bool) (d : CodeFault) (x y : A) → cond b (Ok x) (Err d) ≡ Ok y → (b ≡ true) × (x ≡ y)
passed true d x y e = (refl, cc)
passed false d x y e = absurd cc

-- ---- places

abbrev pub left : At → List ℕ
left at = drop at.place at.bytes

pub record Taken (at : At) (text : List ℕ) (next : At) : Type 0 where
  pub next_is : next ≡ moved (length text) at
  pub inside : next.place ≤ length next.bytes
  pub parts : left at ≡ text ++ left next

drop-more : (m n : ℕ) (xs : List ℕ) → drop (m + n) xs ≡ drop n (drop m xs)
drop-more m n xs = sym (drop-drop n m xs)

pub left_moved : (at : At) (text rest : List ℕ) → left at ≡ text ++ rest → left (moved (length text) at) ≡ rest
left_moved at text rest e =
    drop-more at.place (length text) at.bytes ∙ ap (λ (l : List ℕ). drop (length text) l) e ∙ drop_at text rest (length text) refl

pub inside_moved : (at : At) (text rest : List ℕ) → at.place ≤ length at.bytes → left at ≡ text ++ rest
    → at.place + length text ≤ length at.bytes
inside_moved at text rest h e = omega (arith, ap length e, length-drop at.place at.bytes, length-append text rest)

pub moved_twice : (at : At) (x y : List ℕ) → moved (length y) (moved (length x) at) ≡ moved (length (x ++ y)) at
moved_twice at x y = ap (λ n. record at { place = n }) (let e : at.place + length x + length y ≡ at.place + length (x ++ y) = omega (arith, length-append x y) in e)

pub both_taken : (at mid next : At) (x y : List ℕ) → Taken at x mid → Taken mid y next → Taken at (x ++ y) next
both_taken at mid next x y p q = record {
  next_is = q.next_is ∙ ap (moved (length y)) p.next_is ∙ moved_twice at x y;
  inside = q.inside;
  parts = p.parts ∙ ap (λ (t : List ℕ). x ++ t) q.parts ∙ sym (append_assoc x y (left next));
}

-- ---- the law of a reader

pub record IsRead {X : Type 0} (spell : X → List ℕ) (good : X → Bool) (read : Reader X) : Type 0 where
  pub again : (at : At) (x : X) (rest : List ℕ) → at.place ≤ length at.bytes → good x ≡ true → left at ≡ spell x ++ rest
      → read at ≡ Ok (x, moved (length (spell x)) at)
  pub takes : (at : At) (x : X) (next : At) → AreBytes at.bytes → at.place ≤ length at.bytes → read at ≡ Ok (x, next)
      → Taken at (spell x) next × (good x ≡ true)

module _ {X Y : Type 0} {spell : X → List ℕ} {spell' : X → Y → List ℕ} {good : X → Bool} {good' : X → Y → Bool}
    {read : Reader X} {read' : X → Reader Y} where
  pub next_read : IsRead spell good read → ((x : X) → good x ≡ true → IsRead (spell' x) (good' x) (read' x))
      → IsRead (λ (p : X × Y). spell p.0 ++ spell' p.0 p.1) (λ p. good p.0 && good' p.0 p.1) (next read read')
  next_read f s = record {
    again = λ at p rest inside fits e.
        let x = p.0 in let y = p.1 in
        let fits1 = and_left (good x) (good' x y) fits in
        let e1 : left at ≡ spell x ++ (spell' x y ++ rest) = e ∙ append_assoc (spell x) (spell' x y) rest in
        let r1 = f.again at x (spell' x y ++ rest) inside fits1 e1 in
        let mid = moved (length (spell x)) at in
        let r2 = (s x fits1).again mid y rest (inside_moved at (spell x) (spell' x y ++ rest) inside e1)
        (and_right (good x) (good' x y) fits) (left_moved at (spell x) (spell' x y ++ rest) e1) in
        let w : ◌≡◌ {A = Result ((X × Y) × At) CodeFault} (next read read' at) (Ok ((x, y), moved (length (spell' x y)) mid)) =
        rw (r1, r2) refl in
        w ∙ ap (λ (n : At). Ok ((x, y), n)) (moved_twice at (spell x) (spell' x y));
    takes = λ at p behind bytes inside e.
        let a = bind_ok (read at) (λ x. read' x.0 x.1 >>= λ y. Ok ((x.0, y.0), y.1)) (p, behind) e in
        let b = bind_ok (read' a.0.0 a.0.1) (λ y. Ok ((a.0.0, y.0), y.1)) (p, behind) a.2 in
        let t1 = f.takes at a.0.0 a.0.1 bytes inside a.1 in
        let same : a.0.1.bytes ≡ at.bytes = ap (λ (n : At). n.bytes) t1.0.next_is in
        let t2 = (s a.0.0 t1.1).takes a.0.1 b.0.0 b.0.1 (subst AreBytes (sym same) bytes) t1.0.inside b.1 in
        let pair : (X × Y) × At = ((a.0.0, b.0.0), b.0.1) in
        subst (λ (y : (X × Y) × At). Taken at (spell y.0.0 ++ spell' y.0.0 y.0.1) y.1 × ((good y.0.0 && good' y.0.0 y.0.1) ≡ true)) {x = pair}
        (ok_is pair (p, behind) b.2)
        (both_taken at a.0.1 b.0.1 (spell a.0.0) (spell' a.0.0 b.0.0) t1.0 t2.0, and_both (good a.0.0) (good' a.0.0 b.0.0) t1.1 t2.1);
  }

pub both_read : {X Y : Type 0} {spell : X → List ℕ} {spell' : Y → List ℕ} {good : X → Bool} {good' : Y → Bool}
    {read : Reader X} {read' : Reader Y}
    → IsRead spell good read → IsRead spell' good' read'
    → IsRead (λ (p : X × Y). spell p.0 ++ spell' p.1) (λ p. good p.0 && good' p.1) (both read read')
both_read {X} {Y} {spell} {spell'} {good} {good'} f s = next_read {spell' = λ x. spell'} {good' = λ x. good'} f (λ x h. s)

-- what a value is made of, and that each good value is made so
pub record IsMadeBy {X Y : Type 0} (spell : X → List ℕ) (good : X → Bool) (spell' : Y → List ℕ) (good' : Y → Bool) (to : X → Y) : Type 0 where
  pub spelled : (x : X) → good x ≡ true → spell' (to x) ≡ spell x
  pub stays : (x : X) → good x ≡ true → good' (to x) ≡ true
  pub comes : (y : Y) → good' y ≡ true → (x : X) × (to x ≡ y) × (good x ≡ true)

pub made_read : {X Y : Type 0} {spell : X → List ℕ} {good : X → Bool} {read : Reader X} {spell' : Y → List ℕ} {good' : Y → Bool} {to : X → Y}
    → IsMadeBy spell good spell' good' to → IsRead spell good read → IsRead spell' good' (made to read)
made_read {X} {Y} {spell} {good} {read} {spell'} {good'} {to} m r = record {
  again = λ at y rest inside fits e.
      let x = m.comes y fits in
      let same : spell' y ≡ spell x.0 = ap spell' (sym x.1) ∙ m.spelled x.0 x.2 in
      let r1 = r.again at x.0 rest inside x.2 (e ∙ ap (λ (t : List ℕ). t ++ rest) same) in
      let w : ◌≡◌ {A = Result (Y × At) CodeFault} (made to read at) (Ok (to x.0, moved (length (spell x.0)) at)) = rw r1 refl in
      let w' : ◌≡◌ {A = Result (Y × At) CodeFault} (Ok (to x.0, moved (length (spell x.0)) at)) (Ok (y, moved (length (spell' y)) at)) = rw (x.1, same) refl in
      w ∙ w';
  takes = λ at y behind bytes inside e.
      let a = bind_ok (read at) (λ x. Ok (to x.0, x.1)) (y, behind) e in
      let t = r.takes at a.0.0 a.0.1 bytes inside a.1 in
      let pair : Y × At = (to a.0.0, a.0.1) in
      subst (λ (z : Y × At). Taken at (spell' z.0) z.1 × (good' z.0 ≡ true)) (ok_is pair (y, behind) a.2)
      (subst (λ (l : List ℕ). Taken at l a.0.1) (sym (m.spelled a.0.0 t.1)) t.0, m.stays a.0.0 t.1);
}

-- a made value that shows what it is made of
pub by_parts : {X Y : Type 0} {spell : X → List ℕ} {good : X → Bool} {spell' : Y → List ℕ} {good' : Y → Bool} (to : X → Y) (from : Y → X)
    → ((y : Y) → to (from y) ≡ y) → ((x : X) → spell' (to x) ≡ spell x) → ((x : X) → good' (to x) ≡ good x)
    → IsMadeBy spell good spell' good' to
by_parts {X} {Y} {spell} {good} {spell'} {good'} to from whole spelled same = record {
  spelled = λ x h. spelled x;
  stays = λ x h. same x ∙ h;
  comes = λ y h. (from y, whole y, sym (same (from y)) ∙ ap good' (whole y) ∙ h);
}

-- ---- judged values

pub checked_read : {X : Type 0} {spell : X → List ℕ} {good : X → Bool} {read : Reader X} (passes : X → Bool) (fault : ℕ → CodeFault)
    → IsRead spell good read → IsRead spell (λ x. passes x && good x) (checked passes fault read)
checked_read {X} {spell} {good} {read} passes fault r = record {
  again = λ at x rest inside fits e.
      let r1 = r.again at x rest inside (and_right (passes x) (good x) fits) e in
      let w : ◌≡◌ {A = Result (X × At) CodeFault} (checked passes fault read at) (Ok (x, moved (length (spell x)) at)) =
      rw (r1, and_left (passes x) (good x) fits) refl in
      w;
  takes = λ at x behind bytes inside e.
      let a = bind_ok (read at) (λ x. cond (passes x.0) (Ok x) (Err (fault at.place))) (x, behind) e in
      let g = passed (passes a.0.0) (fault at.place) a.0 (x, behind) a.2 in
      let t = r.takes at a.0.0 a.0.1 bytes inside a.1 in
      subst (λ (z : X × At). Taken at (spell z.0) z.1 × ((passes z.0 && good z.0) ≡ true)) g.1
      (t.0, and_both (passes a.0.0) (good a.0.0) g.0 t.1);
}

-- ---- the same law in other words

-- the same test, said otherwise
pub passes_as : {X : Type 0} {spell : X → List ℕ} {good good' : X → Bool} {read : Reader X}
    → ((x : X) → good x ≡ good' x) → IsRead spell good read → IsRead spell good' read
passes_as {X} {spell} {good} {good'} g r = record {
  again = λ at x rest inside fits e. r.again at x rest inside (g x ∙ fits) e;
  takes = λ at x behind bytes inside e. let t = r.takes at x behind bytes inside e in (t.0, sym (g x) ∙ t.1);
}

-- the same spelling, said otherwise
pub spelled_as : {X : Type 0} {spell spell' : X → List ℕ} {good : X → Bool} {read : Reader X}
    → ((x : X) → spell' x ≡ spell x) → IsRead spell good read → IsRead spell' good read
spelled_as {X} {spell} {spell'} {good} {read} same r = record {
  again = λ at x rest inside fits e.
      r.again at x rest inside fits (e ∙ ap (λ (t : List ℕ). t ++ rest) (same x)) ∙ ap (λ (t : List ℕ). Ok (x, moved (length t) at)) (sym (same x));
  takes = λ at x behind bytes inside e.
      let t = r.takes at x behind bytes inside e in (subst (λ (l : List ℕ). Taken at l behind) (sym (same x)) t.0, t.1);
}
