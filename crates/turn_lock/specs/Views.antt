-- What a pass knows, and what the calls make of it.
use Rattle.std.specs.Prelude.{◌≡◌, ◌≢◌, ℕ, ◌≤◌, Bool, true, false, List, [], ◌∷◌, Option, Some, None}
use Rattle.turn_lock.specs.Numbers.{has, least, greatest, without, only, united, HasAll, HasNoOther}
use Rattle.turn_lock.specs.Histories.{IsStartOf, entries, with_mine, of_numbers, longer, Follows, Legal}
use Rattle.turn_lock.specs.declared.known.Part.{Part}
use Rattle.turn_lock.specs.declared.known.Known.{Known}

-- both were beginnings of what is seen now, with all their own entries, and their numbers are among these
abbrev pub IsPart : {E : Type 0} → List Bool → List (ℕ × E) → Part E → Type 0
IsPart ns seen p = Follows p.numbers p.seen seen × ((n : ℕ) → has p.numbers n ≡ true → has ns n ≡ true)

module _ {E D : Type 0} where
  -- the entries that were made under the pass's own numbers
  abbrev pub own : Known E D → List (ℕ × E)
  own v = of_numbers v.numbers v.seen

  -- of the first pass
  abbrev pub at_start : D → ℕ → List Bool → Known E D
  at_start d seats ns = record { made = Some d; seats = seats; numbers = ns; mark = 0; seen = []; parts = [] }

  -- of a pass that was joined away
  abbrev pub spent : Known E D
  spent = record { made = None; seats = 0; numbers = []; mark = 0; seen = []; parts = [] }

  -- with the machine held under this number, or at home where it is 0
  abbrev pub with_mark : Known E D → ℕ → List (ℕ × E) → Known E D
  with_mark v n log = record { made = v.made; seats = v.seats; numbers = v.numbers; mark = n; seen = log; parts = [] }

  -- what a split leaves
  abbrev pub left : Known E D → Known E D
  left v = record { made = v.made; seats = v.seats; numbers = without (greatest v.numbers) v.numbers; mark = 0; seen = v.seen; parts = [] }

  -- what a split gives
  abbrev pub right : Known E D → Known E D
  right v = record { made = v.made; seats = v.seats; numbers = only (greatest v.numbers); mark = 0; seen = v.seen; parts = [] }

  -- what a join makes: it remembers the two until the next step
  abbrev pub both : Known E D → Known E D → Known E D
  both v w = record { made = v.made; seats = v.seats; numbers = united v.numbers w.numbers; mark = 0; seen = longer v.seen w.seen; parts = record { numbers = v.numbers; seen = v.seen } ∷ record { numbers = w.numbers; seen = w.seen } ∷ [] }

-- of a pass that has every number, what it has seen is its own entries
abbrev pub IsWhole : {E D : Type 0} → ℕ → Known E D → Type 0
IsWhole seats v = HasAll seats v.numbers → v.seen ≡ own v

-- it is the number of another seat of the turn
abbrev pub IsOther : ℕ → List Bool → ℕ → Type 0
IsOther seats ns n = (n ≢ 0) × (has ns n ≡ false) × (n ≤ seats)

module _ {E D C A : Type 0} (plays : D → List E → C → A → Option E → Type 0) where
  -- what a pass at rest knows
  pub record Knows (d : D) (seats : ℕ) (ns : List Bool) (v : Known E D) : Type 0 where
    pub made : v.made ≡ Some d
    pub seats_are : v.seats ≡ seats
    pub numbers_are : v.numbers ≡ ns
    pub free : v.mark ≡ 0
    pub no_parts : v.parts ≡ []
    pub legal : Legal plays d seats v.seen
    pub range : HasNoOther seats ns
    pub some_number : (n : ℕ) × (has ns n ≡ true)

  -- One call that was answered: the answer is the machine's after a beginning of the history that goes on from what the pass had seen. Its
  -- entry, where it made one, follows this beginning under the least number of the pass, and is the newest of the pass's own
  abbrev pub Acted : D → Known E D → C → A → Known E D → Type 0
  Acted d v call answer w =
      (before : List (ℕ × E)) × (e : Option E) × IsStartOf v.seen before × plays d (entries before) call answer e
      × (w.seen ≡ with_mine before (least v.numbers) e) × (own w ≡ with_mine (own v) (least v.numbers) e)
