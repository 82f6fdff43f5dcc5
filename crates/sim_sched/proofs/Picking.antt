-- The step of a number, at a seat and over all seats.
use Rattle.std.proofs.Common.{◌≡◌, ℕ, zero, suc, ◌+◌, ◌-◌, ◌<◌, ◌≤◌, Bool, true, false, cond, List, [], ◌∷◌, ◌++◌, map, length, get_or, take, drop, refl, sym, ap, subst, ◌∙◌, arith, length-append, add-zero, zero-add, suc-add, add-one}
use Rattle.run_words.specs.declared.movers.Mover.{Mover}
use Rattle.run_words.specs.declared.logs.Pending.{Pending}
use Rattle.run_words.specs.Journal.{moves}
use Rattle.run_words.specs.Runs.{hearings, Step}
use Rattle.sim_sched.specs.declared.seats.Choice.{Choice}
use Rattle.sim_sched.specs.Seats.{SeatView, can, seat_steps, all_steps, number_behind, choice_or, choice_after, IsChosen, IsPossible, Finds, AllOpen}
use Rattle.sim_sched.proofs.SeatFacts.{hearings_long}

pub in_front : {X : Type 0} (a b : List X) (k : ℕ) (d : X) → k < length a → get_or (a ++ b) k d ≡ get_or a k d
in_front [] b k d h = absurd (omega arith)
in_front (x ∷ a) b zero d h = refl
in_front (x ∷ a) b (suc k) d h = in_front a b k d (omega arith)

behind_by : {X : Type 0} (a b : List X) (n : ℕ) (d : X) → get_or (a ++ b) (length a + n) d ≡ get_or b n d
behind_by [] b n d = ap (λ k. get_or b k d) (zero-add n)
behind_by (x ∷ a) b n d = ap (λ k. get_or (x ∷ a ++ b) k d) (suc-add (length a) n) ∙ behind_by a b n d

pub behind : {X : Type 0} (a b : List X) (k : ℕ) (d : X) → length a ≤ k → get_or (a ++ b) k d ≡ get_or b (k - length a) d
behind a b k d h =
    let e : k ≡ length a + (k - length a) = omega arith in
    ap (λ j. get_or (a ++ b) j d) e ∙ behind_by a b (k - length a) d

hearing_at : (s : SeatView) (i : ℕ) (l : List Pending) (rest : List Step) (k : ℕ) (d : Step) → k < length l
    → IsChosen s (Choice.Hear (i + k)) (get_or (hearings s.maker i l ++ rest) k d)
hearing_at s i [] rest k d h = absurd (omega arith)
hearing_at s i (c ∷ l) rest zero d h = (refl, sym (add-zero i))
hearing_at s i (c ∷ l) rest (suc k) d h =
    let e : suc i + k ≡ i + suc k = omega arith in
    let r = hearing_at s (suc i) l rest k d (omega arith) in
    subst (λ j. IsChosen s (Choice.Hear j) (get_or (hearings s.maker (suc i) l ++ rest) k d)) e r

pub chosen_copy : (s : SeatView) (k : ℕ) (d : Step) → k < length s.way → IsChosen s (Choice.Hear k) (get_or (seat_steps s) k d)
unfolding seat_steps
chosen_copy s k d h =
    subst (λ j. IsChosen s (Choice.Hear j) (get_or (seat_steps s) k d)) (zero-add k) (hearing_at s 0 s.way _ k d h)

abbrev event : SeatView → Bool → Mover → List Step
event s b mover = cond b (Step.Give s.maker mover ∷ []) []

-- of a list of steps the one of each number is chosen so, and is possible
abbrev IsPick : SeatView → List Step → (ℕ → Choice) → Type 0
IsPick s steps choice = (n : ℕ) (d : Step) → n < length steps → IsPossible s (choice n) × IsChosen s (choice n) (get_or steps n d)

pick_first : (s : SeatView) (mover : Mover) (b : Bool) (rest : List Step) (later : ℕ → Choice) → moves s.maker s.journal mover ≡ b
    → IsPick s rest later → IsPick s (event s b mover ++ rest) (λ n. choice_or mover later (number_behind b n))
pick_first s mover true rest later e p zero d h = (e, (refl, refl))
pick_first s mover true rest later e p (suc n) d h = p n d (omega arith)
pick_first s mover false rest later e p n d h = p n d h

pick_last : (s : SeatView) (b : Bool) → moves s.maker s.journal Mover.Checkpoint ≡ b
    → IsPick s (event s b Mover.Checkpoint) (λ n. Choice.Give Mover.Checkpoint)
pick_last s true e zero d h = (e, (refl, refl))
pick_last s true e (suc n) d h = absurd (omega arith)
pick_last s false e n d h = absurd (omega arith)

abbrev events : SeatView → List Step
events s = can s Mover.Batch ++ (can s Mover.Emit ++ (can s Mover.Execute ++ can s Mover.Checkpoint))

abbrev pub event_choice : SeatView → ℕ → Choice
event_choice s n =
    choice_after (moves s.maker s.journal Mover.Batch) (moves s.maker s.journal Mover.Emit) (moves s.maker s.journal Mover.Execute) n

pub choice_is : (s : SeatView) (b e x : Bool) (k n : ℕ) → b ≡ moves s.maker s.journal Mover.Batch → e ≡ moves s.maker s.journal Mover.Emit
    → x ≡ moves s.maker s.journal Mover.Execute → k ≡ n → choice_after b e x k ≡ event_choice s n
choice_is s b e x k n p q r u =
    ap (λ v. choice_after v e x k) p ∙ ap (λ v. choice_after (moves s.maker s.journal Mover.Batch) v x k) q
    ∙ ap (λ v. choice_after (moves s.maker s.journal Mover.Batch) (moves s.maker s.journal Mover.Emit) v k) r ∙ ap (event_choice s) u

pick_event : (s : SeatView) → IsPick s (events s) (event_choice s)
pick_event s =
    pick_first s Mover.Batch _ _ _ refl
    (pick_first s Mover.Emit _ _ _ refl (pick_first s Mover.Execute _ _ _ refl (pick_last s _ refl)))

pub chosen_event : (s : SeatView) (k : ℕ) (d : Step) → length s.way ≤ k → k < length (seat_steps s)
    → IsPossible s (event_choice s (k - length s.way)) × IsChosen s (event_choice s (k - length s.way)) (get_or (seat_steps s) k d)
unfolding seat_steps
chosen_event s k d h g =
    let n = hearings_long s.maker 0 s.way in
    let l : length (seat_steps s) ≡ length (hearings s.maker 0 s.way) + length (events s) = length-append (hearings s.maker 0 s.way) (events s) in
    let e : get_or (seat_steps s) k d
    ≡ get_or (events s) (k - length (hearings s.maker 0 s.way)) d = behind (hearings s.maker 0 s.way) (events s) k d (omega arith) in
    let f : k - length (hearings s.maker 0 s.way) ≡ k - length s.way = ap (λ j. k - j) n in
    let short : k - length s.way < length (events s) = omega arith in
    subst (λ (x : Step). IsPossible s (event_choice s (k - length s.way)) × IsChosen s (event_choice s (k - length s.way)) x)
    (sym (e ∙ ap (λ j. get_or (events s) j d) f)) (pick_event s (k - length s.way) d short)

-- ---- over all seats

pub open_at : {X : Type 0} (f : X → SeatView) (xs : List X) (i : ℕ) (d : X) → i < length xs → AllOpen (map f xs)
    → (f (get_or xs i d)).shut ≡ false
open_at f [] i d h a = absurd (omega arith)
open_at f (x ∷ xs) zero d h a = a.0
open_at f (x ∷ xs) (suc i) d h a = open_at f xs i d (omega arith) a.1

pub counted_more : {X : Type 0} (f : X → SeatView) (xs : List X) (i : ℕ) (d : X) → i < length xs
    → length (all_steps (map f (take (suc i) xs))) ≡ length (all_steps (map f (take i xs))) + length (seat_steps (f (get_or xs i d)))
counted_more f [] i d h = absurd (omega arith)
counted_more f (x ∷ xs) zero d h =
    let a = length-append (seat_steps (f x)) [] in
    omega arith
counted_more f (x ∷ xs) (suc i) d h =
    let r = counted_more f xs i d (omega arith) in
    let a = length-append (seat_steps (f x)) (all_steps (map f (take (suc i) xs))) in
    let b = length-append (seat_steps (f x)) (all_steps (map f (take i xs))) in
    omega arith

pub at_map : {X Y : Type 0} (f : X → Y) (xs : List X) (i : ℕ) (d : X) (e : Y) → i < length xs → get_or (map f xs) i e ≡ f (get_or xs i d)
at_map f [] i d e h = absurd (omega arith)
at_map f (x ∷ xs) zero d e h = refl
at_map f (x ∷ xs) (suc i) d e h = at_map f xs i d e (omega arith)

pub long_map : {X Y : Type 0} (f : X → Y) (xs : List X) → length (map f xs) ≡ length xs
long_map f [] = refl
long_map f (x ∷ xs) = ap suc (long_map f xs)

drop_at : {X : Type 0} (xs : List X) (i : ℕ) (d : X) → i < length xs → drop i xs ≡ get_or xs i d ∷ drop (suc i) xs
drop_at [] i d h = absurd (omega arith)
drop_at (x ∷ xs) zero d h = refl
drop_at (x ∷ xs) (suc i) d h = drop_at xs i d (omega arith)

-- what is left of a search
pub record Seeks {X : Type 0} (f : X → SeatView) (xs : List X) (number place left : ℕ) : Type 0 where
  pub ahead : left < length (all_steps (map f (drop place xs)))
  pub same : (s : Step) → get_or (all_steps (map f xs)) number s ≡ get_or (all_steps (map f (drop place xs))) left s

pub seeks_first : {X : Type 0} (f : X → SeatView) (xs : List X) (number : ℕ) → number < length (all_steps (map f xs))
    → Seeks f xs number 0 number
seeks_first f xs number h = record { ahead = h; same = λ s. refl }

here_is : {X : Type 0} (f : X → SeatView) (xs : List X) (i : ℕ) (d : X) → i < length xs
    → all_steps (map f (drop i xs)) ≡ seat_steps (f (get_or xs i d)) ++ all_steps (map f (drop (suc i) xs))
here_is f xs i d h = ap (λ l. all_steps (map f l)) (drop_at xs i d h)

pub seeks_next : {X : Type 0} (f : X → SeatView) (xs : List X) (number place left : ℕ) (d : X) → place < length xs
    → length (seat_steps (f (get_or xs place d))) ≤ left → Seeks f xs number place left
    → Seeks f xs number (suc place) (left - length (seat_steps (f (get_or xs place d))))
seeks_next f xs number place left d h g s =
    let e = here_is f xs place d h in
    let n = ap length e in
    let m = length-append (seat_steps (f (get_or xs place d))) (all_steps (map f (drop (suc place) xs))) in
    let k = s.ahead in
    record {
      ahead = omega arith;
      same = λ x. s.same x ∙ ap (λ (l : List Step). get_or l left x) e
          ∙ behind (seat_steps (f (get_or xs place d))) (all_steps (map f (drop (suc place) xs))) left x g;
    }

pub seeks_found : {X : Type 0} (f : X → SeatView) (xs : List X) (number place left : ℕ) (d : X) → place < length xs
    → left < length (seat_steps (f (get_or xs place d))) → Seeks f xs number place left → Finds (map f xs) number place left
seeks_found f xs number place left d h g s =
    let e = here_is f xs place d h in
    record {
      within = let n = long_map f xs in omega arith;
      own_within = λ v. subst (λ (y : SeatView). left < length (seat_steps y)) (sym (at_map f xs place d v h)) g;
      same = λ v x.
          s.same x ∙ ap (λ (l : List Step). get_or l left x) e
          ∙ in_front (seat_steps (f (get_or xs place d))) (all_steps (map f (drop (suc place) xs))) left x g
          ∙ ap (λ (y : SeatView). get_or (seat_steps y) left x) (sym (at_map f xs place d v h));
    }

pub seeks_ends : {X : Type 0} (f : X → SeatView) (xs : List X) (number place left : ℕ) → length xs ≤ place → Seeks f xs number place left
    → ⊥
seeks_ends f xs number place left h s =
    let e = ap (λ l. length (all_steps (map f l))) (drop_all xs place h) in
    let k = s.ahead in
    omega arith
  where
    drop_all : {Y : Type 0} (ys : List Y) (i : ℕ) → length ys ≤ i → drop i ys ≡ []
    drop_all [] zero g = refl
    drop_all [] (suc i) g = refl
    drop_all (y ∷ ys) zero g = absurd (omega arith)
    drop_all (y ∷ ys) (suc i) g = drop_all ys i (omega arith)

pub counted_step : {X : Type 0} (f : X → SeatView) (xs : List X) (i : ℕ) (d : X) (count own more : ℕ) → i < length xs → d ≡ get_or xs i d
    → count ≡ length (all_steps (map f (take i xs))) → own ≡ length (seat_steps (f d)) → more ≡ count + own
    → more ≡ length (all_steps (map f (take (i + 1) xs)))
counted_step f xs i d count own more h e c o m =
    let r = counted_more f xs i d h in
    let q : length (seat_steps (f d)) ≡ length (seat_steps (f (get_or xs i d))) = ap (λ x. length (seat_steps (f x))) e in
    let t : length (all_steps (map f (take (i + 1) xs)))
    ≡ length (all_steps (map f (take (suc i) xs))) = ap (λ k. length (all_steps (map f (take k xs)))) (add-one i) in
    omega arith
