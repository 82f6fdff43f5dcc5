-- What one read or write more adds to what was read or written before.
use Rattle.std.proofs.Common.{◌≡◌, ℕ, ◌+◌, ◌<◌, ◌≤◌, List, ◌++◌, length, take, drop, sym, subst, arith, length-append, length-drop, length-take-le}
use Rattle.std.specs.Io.KnownBytes.{Appends}
use Rattle.std.proofs.KnownBytes.{Consumes-trans, Appends-trans}
use Rattle.std.proofs.Math.Seq.{take-add}
use Rattle.fab_io.specs.Devices.{Supply, Intake, Reads, Writes, RoseBy}
use Rattle.fab_io.specs.declared.devices.Got.TheVariants.{Bytes}
use Rattle.fab_io.specs.declared.devices.Sunk.TheVariants.{Wrote}
use Rattle.fabric_run.specs.declared.transfer.TheConstants.{SCRIPT_BYTES}
use Rattle.fabric_run.specs.Transfer.{GaveBytes, GaveTooMany}

-- ---- the source

-- what is known before each read: the source gave the bytes that are kept, no more than a script may have
pub record ReadSoFar (old new : Supply) (bytes : List ℕ) : Type 0 where
  pub gave : GaveBytes old new bytes
  pub fits : length bytes ≤ SCRIPT_BYTES
  pub faults : old.faults ≤ new.faults

rose_more : (x y z m n : ℕ) → RoseBy x y m → RoseBy y z n → RoseBy x z (m + n)
rose_more x y z m n h k = (omega (arith, h.0, h.1, k.0, k.1), omega (arith, h.1, k.1))

length_more : (bytes room : List ℕ) (n : ℕ) → n ≤ length room → length (bytes ++ take n room) ≡ length bytes + n
length_more bytes room n h = omega (arith, length-append bytes (take n room), length-take-le n room h)

-- the source gave some bytes more
gave_more : (a b c : Supply) (bytes room : List ℕ) (n : ℕ) → GaveBytes a b bytes → Reads b c (Bytes n) room → GaveBytes a c (bytes ++ take n room)
gave_more a b c bytes room n h read = record {
  consumed = Consumes-trans a.left b.left c.left bytes (take n room) h.consumed read.bytes.2;
  counted = subst (RoseBy a.given c.given) (sym (length_more bytes room n read.bytes.1)) (rose_more a.given b.given c.given (length bytes) n h.counted read.number);
}

pub one_more : (a b c : Supply) (bytes room : List ℕ) (n : ℕ) → ReadSoFar a b bytes → Reads b c (Bytes n) room → length bytes + n ≤ SCRIPT_BYTES → ReadSoFar a c (bytes ++ take n room)
one_more a b c bytes room n h read few = record {
  gave = gave_more a b c bytes room n h.gave read;
  fits = omega (arith, few, length_more bytes room n read.bytes.1);
  faults = omega (arith, h.faults, read.count);
}

pub one_too_many : (a b c : Supply) (bytes room : List ℕ) (n : ℕ) → ReadSoFar a b bytes → Reads b c (Bytes n) room → SCRIPT_BYTES < length bytes + n → GaveTooMany a c
one_too_many a b c bytes room n h read many =
    (bytes ++ take n room, gave_more a b c bytes room n h.gave read, omega (arith, many, length_more bytes room n read.bytes.1))

-- ---- the sink

-- what is known before each write: the sink took so many bytes of the text
pub record WrittenSoFar (old new : Intake) (text : List ℕ) (written : ℕ) : Type 0 where
  pub some : written ≤ length text
  pub took : Appends old.taken new.taken (take written text)
  pub faults : old.faults ≤ new.faults

-- the sink took some bytes more of a text
pub took_more : (a b c : Intake) (text : List ℕ) (m n : ℕ) → WrittenSoFar a b text m → Writes b c (Wrote n) (drop m text) → WrittenSoFar a c text (m + n)
took_more a b c text m n h write = record {
  some = omega (arith, write.bytes.1, length-drop m text, h.some);
  took = subst (Appends a.taken c.taken) (sym (take-add m n text)) (Appends-trans a.taken b.taken c.taken (take m text) (take n (drop m text)) h.took write.bytes.2);
  faults = omega (arith, h.faults, write.count);
}
