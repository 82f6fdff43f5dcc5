-- The correct ones among traces.
use Rattle.std.proofs.Common.{◌≡◌, ℕ, ◌+◌, ◌<◌, ◌≤◌, Bool, true, false, cond, List, [], ◌∷◌, length, get_or, drop, sym, ap, ◌∙◌}
use Rattle.std.proofs.Math.ListN.{drop_of_length-le}
use Rattle.std.proofs.lemmas.List.{drop_more}
use Rattle.run_words.specs.declared.logs.Trace.{Trace}
use Rattle.run_worlds.specs.Worlds.{is_correct_one, correct_of}

-- those from this place on, by whether the trace at it is one
abbrev from : Bool → Trace → List Trace → List Trace
from correct t rest = cond correct (t ∷ rest) rest

next_correct : (traces : List Trace) (i : ℕ) (t : Trace) → i < length traces → t ≡ get_or traces i t
    → correct_of (drop i traces) ≡ from (is_correct_one t) t (correct_of (drop (i + 1) traces))
next_correct traces i t below is =
    ap correct_of (drop_more traces i t below)
    ∙ ap (λ (u : Trace). from (is_correct_one u) u (correct_of (drop (i + 1) traces))) (sym is)

-- where the trace at the place is correct, it is the first
pub correct_first : (traces : List Trace) (i : ℕ) (t : Trace) → i < length traces → t ≡ get_or traces i t → is_correct_one t ≡ true
    → correct_of (drop i traces) ≡ t ∷ correct_of (drop (i + 1) traces)
correct_first traces i t below is correct =
    next_correct traces i t below is ∙ ap (λ b. from b t (correct_of (drop (i + 1) traces))) correct

-- where it is faulty, it is passed over
pub correct_later : (traces : List Trace) (i : ℕ) (t : Trace) → i < length traces → t ≡ get_or traces i t → is_correct_one t ≡ false
    → correct_of (drop i traces) ≡ correct_of (drop (i + 1) traces)
correct_later traces i t below is faulty =
    next_correct traces i t below is ∙ ap (λ b. from b t (correct_of (drop (i + 1) traces))) faulty

-- none is left at the end
pub correct_none : (traces : List Trace) (i : ℕ) → length traces ≤ i → correct_of (drop i traces) ≡ []
correct_none traces i past = ap correct_of (drop_of_length-le traces past)
