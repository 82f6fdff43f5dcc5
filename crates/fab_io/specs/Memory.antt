-- What the devices in memory do, exactly (ours).
use Rattle.std.specs.Prelude.{ℕ, ◌-◌, min, nat_eq, List, [], ◌∷◌, length, Some, if◌then◌else◌}
use Rattle.std.specs.List.{list_any}
use Rattle.fab_io.specs.Devices.{Supply, Intake}
use Rattle.fab_io.specs.declared.devices.Got.{Got}
use Rattle.fab_io.specs.declared.devices.Got.TheVariants.{Bytes, End, Failed as ReadFailed}
use Rattle.fab_io.specs.declared.devices.Sunk.{Sunk}
use Rattle.fab_io.specs.declared.devices.Sunk.TheVariants.{Wrote, Failed as WriteFailed}

-- a source in memory
pub record Feed : Type 0 where
  -- the bytes that it has left
  pub left : List ℕ
  -- how many bytes it gave, as far as a u64 goes
  pub given : ℕ
  -- how many reads failed, as far as a u64 goes
  pub faults : ℕ
  -- the number of the next read, from 1, as far as a u64 goes
  pub next : ℕ
  -- how many bytes it moves at most in one call
  pub piece : ℕ
  -- the numbers of the calls that fail, from 1
  pub failing : List ℕ

-- a sink in memory
pub record Store : Type 0 where
  -- the bytes that it took
  pub taken : List ℕ
  -- how many bytes it takes in all
  pub room : ℕ
  -- how many writes failed, as far as a u64 goes
  pub faults : ℕ
  -- the number of the next write, from 1, as far as a u64 goes
  pub next : ℕ
  -- how many bytes it moves at most in one call
  pub piece : ℕ
  -- the numbers of the calls that fail, from 1
  pub failing : List ℕ

-- what is seen of them as devices: they tell all their bytes
abbrev pub seen_of_feed : Feed → Supply
seen_of_feed feed = record { left = Some feed.left; given = feed.given; faults = feed.faults }

abbrev pub seen_of_store : Store → Intake
seen_of_store store = record { taken = Some store.taken; faults = store.faults }

-- what a read of this much is answered where these bytes are left
abbrev pub bytes_or_end : List ℕ → ℕ → Got
bytes_or_end [] most = End
bytes_or_end (byte ∷ rest) most = Bytes (min most (length (byte ∷ rest)))

-- what a read with this much room is answered
abbrev pub read_answer : Feed → ℕ → Got
read_answer feed room =
    if list_any (λ number. nat_eq number feed.next) feed.failing then ReadFailed
    else bytes_or_end feed.left (min room feed.piece)

-- what a write of a piece of this length is answered
abbrev pub write_answer : Store → ℕ → Sunk
write_answer store len =
    if list_any (λ number. nat_eq number store.next) store.failing then WriteFailed
    else if nat_eq (store.room - length store.taken) 0 then WriteFailed
    else Wrote (min (min len store.piece) (store.room - length store.taken))
