-- The kinds of entries: each kind of worker makes one.
use Rattle.std.specs.Prelude.{◌≡◌, ℕ, Bool, true, List}
use Rattle.fab_rules.specs.Lists.{In}
use Rattle.turn_lock.specs.Numbers.{has}
use Rattle.run_words.specs.declared.logs.Entry.{Entry}
use Rattle.run_words.specs.declared.party.Act.{Act}

-- hearings, sendings, and what a replica does of its own accord
pub data Kind : Type 0 where
  Hearing : Kind
  Sending : Kind
  Doing : Kind

abbrev pub kind : Entry → Kind
kind (Entry.Heard origin x) = Kind.Hearing
kind Entry.Proposed = Kind.Doing
kind Entry.Nudged = Kind.Doing
kind (Entry.Sent item) = Kind.Sending
kind Entry.Executed = Kind.Doing
kind Entry.Marked = Kind.Doing
kind Entry.TimedOut = Kind.Doing

abbrev pub kind_of : Act → Kind
kind_of (Act.Hear origin heard) = Kind.Hearing
kind_of Act.Batch = Kind.Doing
kind_of Act.Nudge = Kind.Doing
kind_of Act.Emit = Kind.Sending
kind_of Act.Execute = Kind.Doing
kind_of Act.Checkpoint = Kind.Doing
kind_of Act.Timeout = Kind.Doing

-- each entry is of this kind
abbrev pub AreOf : Kind → List (ℕ × Entry) → Type 0
AreOf k log = (x : ℕ × Entry) → In x log → kind x.1 ≡ k

-- each entry of this kind was made under one of these seat numbers
abbrev pub AreBy : Kind → List Bool → List (ℕ × Entry) → Type 0
AreBy k ns log = (x : ℕ × Entry) → In x log → kind x.1 ≡ k → has ns x.0 ≡ true
