-- What a clause says of a turn and its passes.
use Rattle.std.specs.Prelude.{◌≡◌, ℕ, Bool, List, [], Option}
use Rattle.turn_lock.specs.declared.known.Known.{Known}
use Rattle.turn_lock.specs.declared.lock.Pass.{Pass}
use Rattle.turn_lock.specs.declared.lock.Turn.{Turn}
use Rattle.turn_lock.specs.Numbers.{AreAmong}
use Rattle.turn_lock.specs.Histories.{Follows}
use Rattle.turn_lock.specs.Views.{Knows}

module _ {M C A E D : Type 0} where
  -- what the pass knows
  abbrev pub view : Pass M C A E D → Known E D
  view p = p.seat.me.0

  -- its seat numbers
  abbrev pub numbers : Pass M C A E D → List Bool
  numbers p = p.numbers

  -- the machine as it was handed in
  abbrev pub first_machine : Turn M C A E D → M
  first_machine t = t.table.shared.key.machine.value

  -- how many seats it has
  abbrev pub seats : Turn M C A E D → ℕ
  seats t = t.table.shared.key.seats

  -- it is a pass of this turn, at rest
  pub record IsPassOf (plays : D → List E → C → A → Option E → Type 0) (made : M → D) (t : Turn M C A E D) (p : Pass M C A E D) : Type 0 where
    pub of_table : p.seat.table_id ≡ t.table.shared.table_id
    pub no_slot : p.seat.me.1 ≡ []
    pub knows : Knows plays (made t.table.shared.key.machine.value) t.table.shared.key.seats p.numbers p.seat.me.0

  -- The pass a goes on in b: b has seen on from where a had, has the numbers of a, and nothing was entered under them that a hadn't seen
  pub record GoesOn (a b : Pass M C A E D) : Type 0 where
    pub follows : Follows (numbers a) (view a).seen (view b).seen
    pub among : AreAmong (numbers a) (numbers b)
