-- The letters of parcels, and their copies.
use Rattle.std.proofs.Common.{◌≡◌, ℕ, zero, suc, Bool, true, false, cond, List, [], ◌∷◌, ◌++◌, map, replicate, refl, sym, ap, ◌∙◌, append_assoc}
use Rattle.std.specs.List.{flat_map}
use Rattle.std.proofs.lemmas.List.{map-append}
use Rattle.fab_base.specs.declared.ids.ReplicaId.{ReplicaId}
use Rattle.run_words.specs.Keyed.{is_same, of}
use Rattle.run_words.specs.Runs.{copy_of, copies_of}
use Rattle.run_words.specs.declared.logs.Parcel.{Parcel}
use Rattle.run_words.specs.declared.logs.Pending.{Pending}
use Rattle.run_words.proofs.Keys.{of-append}
use Rattle.stage_looks.specs.Letters.{letter_of, letters_of, letters_to, copy_from, CopiesLaw}

pub letters_both : (to : ReplicaId) (a b : List Parcel) → letters_to to (a ++ b) ≡ letters_to to a ++ letters_to to b
letters_both to [] b = refl
letters_both to (p ∷ a) b =
    ap (λ l. cond (is_same to p.to) (letters_of p) [] ++ l) (letters_both to a b)
    ∙ sym (append_assoc (cond (is_same to p.to) (letters_of p) []) (letters_to to a) (letters_to to b))

map_many : {A B : Type 0} (f : A → B) (n : ℕ) (x : A) → map f (replicate n x) ≡ replicate n (f x)
map_many f zero x = refl
map_many f (suc n) x = ap (λ l. f x ∷ l) (map_many f n x)

of_many : (to : ReplicaId) (n : ℕ) (x : ReplicaId × Pending) → of to (replicate n x) ≡ cond (is_same to x.0) (replicate n x.1) []
of_many to zero x = go (is_same to x.0)
  where
    go : (b : Bool) → [] ≡ cond b (replicate {A = Pending} zero x.1) []
    go true = refl
    go false = refl
of_many to (suc n) x = ap (λ l. cond (is_same to x.0) (x.1 ∷ l) l) (of_many to n x) ∙ go (is_same to x.0)
  where
    go : (b : Bool) → cond b (x.1 ∷ cond b (replicate n x.1) []) (cond b (replicate n x.1) []) ≡ cond b (x.1 ∷ replicate n x.1) []
    go true = refl
    go false = refl

-- of one parcel
copies_one : (from to : ReplicaId) (p : Parcel) → map (copy_from from) (cond (is_same to p.to) (letters_of p) []) ≡ of to (copies_of from p)
copies_one from to p = go (is_same to p.to) ∙ sym (of_many to p.passes (copy_of from p))
  where
    go : (b : Bool) → map (copy_from from) (cond b (letters_of p) []) ≡ cond b (replicate p.passes (copy_of from p).1) []
    go true = map_many (copy_from from) p.passes (letter_of p)
    go false = refl

pub copies : CopiesLaw
copies from to [] = refl
copies from to (p ∷ rest) =
    map-append (copy_from from) (cond (is_same to p.to) (letters_of p) []) (letters_to to rest)
    ∙ ap (λ l. l ++ map (copy_from from) (letters_to to rest)) (copies_one from to p)
    ∙ ap (λ l. of to (copies_of from p) ++ l) (copies from to rest)
    ∙ sym (of-append to (copies_of from p) (flat_map (copies_of from) rest))
