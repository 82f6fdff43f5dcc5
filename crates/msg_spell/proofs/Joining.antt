-- Pieces that are written one after another are one piece.
use Rattle.std.proofs.Common.{◌≡◌, ◌<◌, ℕ, ◌+◌, List, [], ◌∷◌, ◌++◌, length, get_or, take, subst, sym, ap, ◌∙◌}
use Rattle.std.specs.List.{flat_map}
use Rattle.std.specs.Int.{w16, to_be_bytes}
use Rattle.std.proofs.lemmas.List.{append_assoc, take_more, flat_map_more}
use Rattle.fab_rules.specs.Spelling.{signed}
use Rattle.msg_spell.specs.Pieces.{Gains}

pub joined : {W : Type 0} {holds : W → List ℕ → Type 0} {a b c : W} {p q : List ℕ} → Gains holds a b p → Gains holds b c q
    → Gains holds a c (p ++ q)
joined {W} {holds} {a} {b} {c} {p} {q} f g =
    record { behind = λ m h. subst (holds c) (append_assoc m p q) (g.behind (m ++ p) (f.behind m h)) }

-- a signature behind what it signs
pub sealed : {W : Type 0} {holds : W → List ℕ → Type 0} {a b c : W} {body : List ℕ} (signature : List ℕ) → Gains holds a b body
    → Gains holds b c (signed [] signature) → Gains holds a c (signed body signature)
sealed {W} {holds} {a} {b} {c} {body} signature f g =
    subst (Gains holds a c) (sym (append_assoc body (to_be_bytes w16 (length signature)) signature)) (joined f g)

-- a loop over a list goes on
pub goes_on : {W X : Type 0} {holds : W → List ℕ → Type 0} {a b c : W} (spell : X → List ℕ) (xs : List X) (i : ℕ) (x : X) → i < length xs
    → x ≡ get_or xs i x → Gains holds a b (flat_map spell (take i xs)) → Gains holds b c (spell x) → Gains holds a c (flat_map spell (take (i + 1) xs))
goes_on {W} {X} {holds} {a} {b} {c} spell xs i x l e f g =
    let item : take (i + 1) xs ≡ take i xs ++ x ∷ [] = take_more xs i x l ∙ ap (λ (y : X). take i xs ++ y ∷ []) (sym e) in
    subst (Gains holds a c) (flat_map_more spell [] (take i xs) x ∙ ap (flat_map spell) (sym item)) (joined f g)
