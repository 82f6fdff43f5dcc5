-- What one call of a source or a sink may do (ours). What a device holds is told where it is known, in std's words.
use Rattle.std.specs.Prelude.{◌≡◌, ℕ, ◌+◌, ◌-◌, ◌^◌, ◌<◌, ◌≤◌, ◌⊎◌, min, List, length, take, Option}
use Rattle.std.specs.Io.KnownBytes.{Keeps, Appends, Consumes, IsAtEnd}
use Rattle.fab_io.specs.declared.devices.Got.{Got}
use Rattle.fab_io.specs.declared.devices.Got.TheVariants.{Bytes, End, Failed as ReadFailed}
use Rattle.fab_io.specs.declared.devices.Sunk.{Sunk}
use Rattle.fab_io.specs.declared.devices.Sunk.TheVariants.{Wrote, Failed as WriteFailed}

-- all that is seen of a source
pub record Supply : Type 0 where
  -- the bytes that it has left, where it tells them
  pub left : Option (List ℕ)
  -- how many bytes it gave, as far as a u64 goes
  pub given : ℕ
  -- how many of its reads failed, as far as a u64 goes
  pub faults : ℕ

-- all that is seen of a sink
pub record Intake : Type 0 where
  -- the bytes that it took, where it tells them
  pub taken : Option (List ℕ)
  -- how many of its writes failed, as far as a u64 goes
  pub faults : ℕ

-- a count rose by n, as far as a u64 goes
abbrev pub RoseBy : ℕ → ℕ → ℕ → Type 0
RoseBy old new n = (min (old + n) (2 ^ 64 - 1) ≤ new) × (new ≤ old + n)

-- a count rose, or stands at the last value of a u64
abbrev pub Rose : ℕ → ℕ → Type 0
Rose old new = (old < new) ⊎ (2 ^ 64 - 1 ≤ new)

-- what a read does to the bytes that are left: it gives the first ones, it ends only where none is left, and it loses nothing
abbrev pub Gives : Option (List ℕ) → Option (List ℕ) → Got → List ℕ → Type 0
Gives old new (Bytes n) room = (1 ≤ n) × (n ≤ length room) × Consumes old new (take n room)
Gives old new End room = IsAtEnd old × Keeps old new
Gives old new ReadFailed room = Keeps old new

-- what a read does to the number of bytes given
abbrev pub CountsGiven : ℕ → ℕ → Got → Type 0
CountsGiven old new (Bytes n) = RoseBy old new n
CountsGiven old new End = new ≡ old
CountsGiven old new ReadFailed = new ≡ old

-- the count of faults never falls, and rises where a read fails
abbrev pub CountsReadFaults : ℕ → ℕ → Got → Type 0
CountsReadFaults old new (Bytes n) = old ≤ new
CountsReadFaults old new End = old ≤ new
CountsReadFaults old new ReadFailed = (old ≤ new) × Rose old new

-- what one read does to a source
pub record Reads (old new : Supply) (got : Got) (room : List ℕ) : Type 0 where
  pub bytes : Gives old.left new.left got room
  pub number : CountsGiven old.given new.given got
  pub count : CountsReadFaults old.faults new.faults got

-- what a write does to the bytes taken: they grow by the first ones of the piece, or stay
abbrev pub Takes : Option (List ℕ) → Option (List ℕ) → Sunk → List ℕ → Type 0
Takes old new (Wrote n) piece = (1 ≤ n) × (n ≤ length piece) × Appends old new (take n piece)
Takes old new WriteFailed piece = Keeps old new

-- the count of faults never falls, and rises where a write fails
abbrev pub CountsWriteFaults : ℕ → ℕ → Sunk → Type 0
CountsWriteFaults old new (Wrote n) = old ≤ new
CountsWriteFaults old new WriteFailed = (old ≤ new) × Rose old new

-- what one write does to a sink
pub record Writes (old new : Intake) (sunk : Sunk) (piece : List ℕ) : Type 0 where
  pub bytes : Takes old.taken new.taken sunk piece
  pub count : CountsWriteFaults old.faults new.faults sunk
