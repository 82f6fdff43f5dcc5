-- What each exit of the program tells of the source, the sink and the script (ours).
use Rattle.std.specs.Prelude.{◌≡◌, ℕ, ◌<◌, ◌≤◌, ◌⊎◌, ◌↔◌, ◌+◌, ◌-◌, ◌^◌, List, length, take, Some, Ok, Err}
use Rattle.std.specs.Io.KnownBytes.{Keeps, Appends}
use Rattle.fab_io.specs.Devices.{Supply, Intake, Rose}
use Rattle.fault_script.specs.declared.faults.BadScript.{BadScript as Bad}
use Rattle.fault_script.specs.declared.scripts.Script.{Script}
use Rattle.fault_script.specs.Scripts.{script_of}
use Rattle.fabric_run.specs.declared.transfer.TheConstants.{SCRIPT_BYTES}
use Rattle.fabric_run.specs.declared.exits.Exit.{Exit}
use Rattle.fabric_run.specs.declared.exits.Exit.TheVariants.{Usage, ReadFault, WriteFault, TooLong, BadScript, NoMemory}
use Rattle.fabric_run.specs.Transfer.{WasRead, GaveSome, GaveTooMany, WriteEnds}

-- what a run has seen of its two devices, at one moment
pub record Seen : Type 0 where
  pub source : Supply
  pub sink : Intake

abbrev pub seen : Supply → Intake → Seen
seen source sink = record { source = source; sink = sink }

-- the source was read to its end, and its bytes spell this script
abbrev pub GaveScript : Supply → Supply → Script → Type 0
GaveScript old new script = (bytes : List ℕ) × WasRead old new bytes × (script_of bytes ≡ Ok script)

-- what an exit at which nothing is written tells of the source
abbrev pub Stops : Supply → Supply → Exit → Type 0
-- a read failed
Stops old new ReadFault = Rose old.faults new.faults × GaveSome old new
-- the source gave more bytes than a script may have
Stops old new TooLong = GaveTooMany old new
-- the bytes that were read have this first bad line
Stops old new (BadScript bad) = (bytes : List ℕ) × WasRead old new bytes × (script_of bytes ≡ Err bad)
-- memory was refused
Stops old new NoMemory = GaveSome old new
-- at any other exit something is written, or nothing is read
Stops old new exit = ⊥

-- how handing over a text ends that goes with an exit: with all of it taken, or at a write that fails with a front part of it taken
abbrev pub HandsOver : Intake → Intake → List ℕ → Exit → Exit → Type 0
HandsOver old new text wanted exit =
    ((exit ≡ wanted) × WriteEnds old new text (Ok tt)) ⊎ ((written : ℕ) × (exit ≡ WriteFault written) × WriteEnds old new text (Err written))

-- a write failed: the sink took just so many bytes of a text that the command makes of the script that was read, from the front
abbrev pub WroteSome : (Script → Exit → List ℕ → Type 0) → Seen → Seen → ℕ → Type 0
WroteSome makes old new written =
    (script : Script) × GaveScript old.source new.source script
    × ((exit : Exit) × ((text : List ℕ) × makes script exit text
    × (written < length text) × Appends old.sink.taken new.sink.taken (take written text)))

-- the command makes this exit of the script that was read, and the sink took the whole text that goes with it
abbrev pub WroteAll : (Script → Exit → List ℕ → Type 0) → Seen → Seen → Exit → Type 0
WroteAll makes old new exit =
    (script : Script) × GaveScript old.source new.source script
    × ((text : List ℕ) × makes script exit text × Appends old.sink.taken new.sink.taken text)

-- what each exit of a command over a script tells, where `makes` says which exit and text the command makes of a script
abbrev pub Ends : (Script → Exit → List ℕ → Type 0) → Seen → Seen → Exit → Type 0
Ends makes old new (WriteFault written) = Rose old.sink.faults new.sink.faults × WroteSome makes old new written
-- the source, its bytes or the memory gave no text, and nothing was written
Ends makes old new ReadFault = Stops old.source new.source ReadFault × Keeps old.sink.taken new.sink.taken
Ends makes old new TooLong = Stops old.source new.source TooLong × Keeps old.sink.taken new.sink.taken
Ends makes old new (BadScript bad) = Stops old.source new.source (BadScript bad) × Keeps old.sink.taken new.sink.taken
Ends makes old new NoMemory = Stops old.source new.source NoMemory × Keeps old.sink.taken new.sink.taken
-- the words were a command
Ends makes old new Usage = ⊥
-- all was written
Ends makes old new exit = WroteAll makes old new exit

-- a script is too long exactly where the source gave the byte after the last one that a script may have, as far as its count tells
abbrev pub IsTooLong : Supply → Supply → Exit → Type 0
IsTooLong old new exit = new.given < 2 ^ 64 - 1 → ((exit ≡ TooLong) ↔ (old.given + SCRIPT_BYTES < new.given))

-- where no device fails, and the source has the bytes of a script, the exit is one that the command makes of the script
abbrev pub Completes : (Script → Exit → List ℕ → Type 0) → Seen → Seen → Exit → Type 0
Completes makes old new exit =
    (bytes : List ℕ) (script : Script) → old.source.left ≡ Some bytes → length bytes ≤ SCRIPT_BYTES → script_of bytes ≡ Ok script
    → ¬ Rose old.source.faults new.source.faults → ¬ Rose old.sink.faults new.sink.faults
    → ((text : List ℕ) × makes script exit text) ⊎ (exit ≡ NoMemory)

-- where no read fails, and the source has the bytes of a script with a bad line, the first one is named
abbrev pub NamesBad : Supply → Supply → Exit → Type 0
NamesBad old new exit =
    (bytes : List ℕ) (bad : Bad) → old.left ≡ Some bytes → length bytes ≤ SCRIPT_BYTES → script_of bytes ≡ Err bad
    → ¬ Rose old.faults new.faults → (exit ≡ BadScript bad) ⊎ (exit ≡ NoMemory)

-- a run of a command over a script from one moment to the other, and how it ended
pub record IsRun (makes : Script → Exit → List ℕ → Type 0) (old new : Seen) (exit : Exit) : Type 0 where
  pub ends : Ends makes old new exit
  pub too_long : IsTooLong old.source new.source exit
  pub completes : Completes makes old new exit
  pub names_bad : NamesBad old.source new.source exit
