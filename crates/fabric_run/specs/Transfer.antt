-- What a whole script that is read from a source, and a whole report that is handed to a sink, do to the two (ours).
use Rattle.std.specs.Prelude.{◌≡◌, ℕ, ◌<◌, ◌≤◌, List, length, take, IfSome, Result, Ok, Err}
use Rattle.std.specs.Io.KnownBytes.{Appends, Consumes}
use Rattle.fab_io.specs.Devices.{Supply, Intake, RoseBy, Rose}
use Rattle.fabric_run.specs.declared.transfer.TheConstants.{SCRIPT_BYTES}
use Rattle.fabric_run.specs.declared.transfer.ReadStop.{ReadStop}
use Rattle.fabric_run.specs.declared.transfer.ReadStop.TheVariants.{Fault, TooLong, NoMemory}

-- the source gave just these bytes
pub record GaveBytes (old new : Supply) (bytes : List ℕ) : Type 0 where
  pub consumed : Consumes old.left new.left bytes
  pub counted : RoseBy old.given new.given (length bytes)

-- the source was read to its end, and gave just these bytes: all that it had left, where it tells that
pub record WasRead (old new : Supply) (bytes : List ℕ) : Type 0 where
  pub gave : GaveBytes old new bytes
  pub fits : length bytes ≤ SCRIPT_BYTES
  pub all : IfSome old.left (λ left. left ≡ bytes)

-- the source gave some bytes, no more than a script may have
abbrev pub GaveSome : Supply → Supply → Type 0
GaveSome old new = (bytes : List ℕ) × GaveBytes old new bytes × (length bytes ≤ SCRIPT_BYTES)

-- the source gave more bytes than a script may have
abbrev pub GaveTooMany : Supply → Supply → Type 0
GaveTooMany old new = (bytes : List ℕ) × GaveBytes old new bytes × (SCRIPT_BYTES < length bytes)

-- how reading a script from a source ends: at its end with all bytes that it had left; at a read that fails; at the byte after the last one that a script may have; or where memory is refused
abbrev pub ReadEnds : Supply → Supply → Result (List ℕ) ReadStop → Type 0
ReadEnds old new (Ok bytes) = WasRead old new bytes
ReadEnds old new (Err Fault) = GaveSome old new × Rose old.faults new.faults
ReadEnds old new (Err TooLong) = GaveTooMany old new
ReadEnds old new (Err NoMemory) = GaveSome old new

-- how handing a text to a sink ends: with all of it taken, or at a write that fails with a front part of it taken
abbrev pub WriteEnds : Intake → Intake → List ℕ → Result (Unit {0}) ℕ → Type 0
WriteEnds old new text (Ok u) = Appends old.taken new.taken text
WriteEnds old new text (Err written) = (written < length text) × Appends old.taken new.taken (take written text) × Rose old.faults new.faults
