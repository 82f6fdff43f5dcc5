-- The rule of a turn, and what its steps tell.
use Rattle.std.specs.Prelude.{◌≡◌, ◌≢◌, ◌==◌, MatchBool, ℕ, ◌≤◌, true, false, List, [], ◌∷◌, ◌++◌, length, Option, Some}
use mathlib.Core.Option.{some}
use lib.ListN.{get_elem?}
use Rattle.atomic_table.specs.Table.{State, Me, Step, rest}
use Rattle.turn_lock.specs.Numbers.{has, HasNoOther}
use Rattle.turn_lock.specs.Histories.{IsStartOf, entries, Follows, Legal}
use Rattle.turn_lock.specs.Views.{own, with_mark, IsPart}
use Rattle.turn_lock.specs.declared.known.Part.{Part}
use Rattle.turn_lock.specs.declared.known.Known.{Known}

-- what each view owes to the mark and to the history
pub record Fits {E D : Type 0} (d : D) (seats mark : ℕ) (log : List (ℕ × E)) (v : Known E D) : Type 0 where
  pub same : (x : D) → v.made ≡ Some x → (x ≡ d) × (v.seats ≡ seats)
  pub follows : Follows v.numbers v.seen log
  pub range : HasNoOther seats v.numbers
  -- who holds the machine has seen all
  pub holds : v.mark ≢ 0 → (v.mark ≡ mark) × (has v.numbers mark ≡ true) × (v.seen ≡ log)
  pub parts : (k : ℕ) (p : Part E) → get_elem? v.parts k ≡ some p → IsPart v.numbers v.seen p

module _ {M E D C A : Type 0} (journal : M → List E) (made : M → D) (plays : D → List E → C → A → Option E → Type 0) where
  -- the machine has made this history
  abbrev pub IsHome : D → List (ℕ × E) → M → Type 0
  IsHome d log m = (journal m ≡ entries log) × (made m ≡ d)

  -- The first word is the mark, the second the length of the history. Where the mark is 0 the machine is at home; where it isn't, some view
  -- holds it. No number is in two views
  pub record Keeps (d : D) (seats mark : ℕ) (log : List (ℕ × E)) (s : State (Option M) (Known E D)) : Type 0 where
    pub words : s.words ≡ mark ∷ length log ∷ []
    pub home : mark ≡ 0 → (m : M) × (s.homes ≡ some (Some m) ∷ []) × IsHome d log m
    pub legal : Legal plays d seats log
    pub views : (i : ℕ) (v : Known E D) → get_elem? s.views i ≡ some v → Fits d seats mark log v
    pub apart : (i j n : ℕ) (u v : Known E D) → get_elem? s.views i ≡ some u → get_elem? s.views j ≡ some v → has u.numbers n ≡ true → has v.numbers n ≡ true → i ≡ j
    pub held : mark ≢ 0 → (i : ℕ) × (v : Known E D) × (get_elem? s.views i ≡ some v) × (v.mark ≡ mark)

  abbrev pub Kept : M → ℕ → State (Option M) (Known E D) → Type 0
  Kept first seats s = (mark : ℕ) × (log : List (ℕ × E)) × Keeps (made first) seats mark log s

  abbrev pub Turning : Type 0
  Turning = Me (Option M) (Known E D)

  -- what a legal history says to a pass that knows the machine
  abbrev pub IsLegal : Known E D → List (ℕ × E) → Type 0
  IsLegal v log = (d : D) → v.made ≡ Some d → Legal plays d v.seats log

  -- a claim that found 0 has the machine and has seen all; one that found a mark found another's, and nothing has changed
  abbrev pub Claimed : Step (Option M) → Turning → ℕ → Turning → Type 0
  Claimed s v found w = MatchBool (found == 0)
      ((w.0 ≡ with_mark v.0 s.second w.0.seen) × IsStartOf v.0.seen w.0.seen × (own w.0 ≡ own v.0) × IsLegal v.0 w.0.seen
      × ((m : M) × (w.1 ≡ (0, Some m) ∷ v.1) × (journal m ≡ entries w.0.seen) × ((d : D) → v.0.made ≡ Some d → made m ≡ d)))
      ((w ≡ v) × (has v.0.numbers found ≡ false) × ((d : D) → v.0.made ≡ Some d → found ≤ v.0.seats))

  -- the machine that is back in its slot has one entry more than was seen: it is seen now, under the mark
  abbrev pub Recorded : Step (Option M) → Turning → ℕ → Turning → Type 0
  Recorded s v found w = (w.1 ≡ v.1) × (w.0 ≡ with_mark v.0 v.0.mark w.0.seen) × IsLegal v.0 w.0.seen × ((m : M) (rest : List (ℕ × Option M)) (e : E) → v.1 ≡ (0, Some m) ∷ rest → journal m ≡ entries v.0.seen ++ e ∷ [] → w.0.seen ≡ v.0.seen ++ (v.0.mark, e) ∷ [])

  -- the machine is at home again
  abbrev pub Released : Step (Option M) → Turning → ℕ → Turning → Type 0
  Released s v found w = w ≡ (with_mark v.0 0 v.0.seen, rest v.1)

  -- the second word is the number of entries
  abbrev pub Looked : Step (Option M) → Turning → ℕ → Turning → Type 0
  Looked s v found w = (w ≡ v) × (found ≡ length v.0.seen)

  -- each part of what was joined was a beginning of what is seen now, with all its own entries
  abbrev pub Learned : Step (Option M) → Turning → ℕ → Turning → Type 0
  Learned s v found w = (w.1 ≡ v.1) × (w.0 ≡ with_mark v.0 v.0.mark v.0.seen) × ((k : ℕ) (p : Part E) → get_elem? v.0.parts k ≡ some p → IsPart v.0.numbers v.0.seen p)
