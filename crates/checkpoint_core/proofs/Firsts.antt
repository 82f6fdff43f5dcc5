-- The first vote that passes a test, and the one of a member for a round.
use Rattle.std.proofs.Common.{◌≡◌, ℕ, ◌≤◌, Bool, true, false, cond, List, [], ◌∷◌, length, Some, None, refl, sym, ap, subst, ◌∙◌, arith}
use Rattle.std.specs.List.{filter, find, count_by, All}
use Rattle.std.proofs.lemmas.List.Elements.{All-head, All-tail, All-cons, All-nil, filter_passes}
use Rattle.std.proofs.lemmas.List.Sums.{length-filter}
use Rattle.std.proofs.lemmas.Option.{same_Some}
use Rattle.fab_base.specs.declared.messages.StableVote.{StableVote}
use Rattle.checkpoint_core.specs.Checkpoints.{is_by, first_in, vote_of}

-- the first of those that pass is the first that passes
pub find_first : (p : StableVote → Bool) (votes : List StableVote) → find p votes ≡ first_in (filter p votes)
find_first p [] = refl
find_first p (v ∷ votes) = ap (λ r. cond (p v) (Some v) r) (find_first p votes) ∙ go (p v)
  where
    go : (t : Bool) → cond t (Some v) (first_in (filter p votes)) ≡ first_in (cond t (v ∷ filter p votes) (filter p votes))
    go true = refl
    go false = refl

first_holds : (P : StableVote → Type 0) (votes : List StableVote) (v : StableVote) → All P votes → first_in votes ≡ Some v → P v
first_holds P [] v h e = absurd cc
first_holds P (x ∷ votes) v h e = subst P (same_Some x v e) (All-head P x votes h)

pub first_passes : (p : StableVote → Bool) (votes : List StableVote) (v : StableVote) → first_in (filter p votes) ≡ Some v → p v ≡ true
first_passes p votes v e = first_holds (λ x. p x ≡ true) (filter p votes) v (filter_passes p votes) e

first_there : (votes : List StableVote) → 1 ≤ length votes → (v : StableVote) × (first_in votes ≡ Some v)
first_there [] l = absurd (omega (arith, l))
first_there (v ∷ votes) l = (v, refl)

-- where some vote passes, there is a first one
pub some_first : (p : StableVote → Bool) (votes : List StableVote) → 1 ≤ count_by p votes → (v : StableVote) × (first_in (filter p votes) ≡ Some v)
some_first p votes l = first_there (filter p votes) (omega (arith, l, length-filter p votes))

-- ---- of one member

pub vote_of-cons : (v : StableVote) (votes : List StableVote) (sender round : ℕ)
    → vote_of (v ∷ votes) sender round ≡ cond (is_by sender round v) (Some v) (vote_of votes sender round)
vote_of-cons v votes sender round = go (is_by sender round v)
  where
    go : (t : Bool) → first_in (cond t (v ∷ filter (is_by sender round) votes) (filter (is_by sender round) votes)) ≡ cond t (Some v) (vote_of votes sender round)
    go true = refl
    go false = refl

-- of whom none counts, there is none
pub none_by : (votes : List StableVote) (sender round : ℕ) → All (λ x. is_by sender round x ≡ false) votes → filter (is_by sender round) votes ≡ []
none_by [] sender round h = refl
none_by (v ∷ votes) sender round h =
    ap (λ t. cond t (v ∷ filter (is_by sender round) votes) (filter (is_by sender round) votes)) (All-head (λ x. is_by sender round x ≡ false) v votes h)
    ∙ none_by votes sender round (All-tail (λ x. is_by sender round x ≡ false) v votes h)

pub by_none : (votes : List StableVote) (sender round : ℕ) → vote_of votes sender round ≡ None → All (λ x. is_by sender round x ≡ false) votes
by_none [] sender round e = All-nil (λ x. is_by sender round x ≡ false)
by_none (v ∷ votes) sender round e = go (is_by sender round v) refl (by_none votes sender round) (sym (vote_of-cons v votes sender round) ∙ e)
  where
    go : (t : Bool) → is_by sender round v ≡ t → (vote_of votes sender round ≡ None → All (λ x. is_by sender round x ≡ false) votes)
        → cond t (Some v) (vote_of votes sender round) ≡ None → All (λ x. is_by sender round x ≡ false) (v ∷ votes)
    go true is rest f = absurd cc
    go false is rest f = All-cons (λ x. is_by sender round x ≡ false) v votes is (rest f)
