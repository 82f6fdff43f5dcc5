-- The status that the program ends with, for each exit (ours).
use Rattle.std.specs.Prelude.{ℕ}
use Rattle.fabric_run.specs.declared.exits.Exit.{Exit}
use Rattle.fabric_run.specs.declared.exits.Exit.TheVariants.{Done, Usage, ReadFault, WriteFault, TooLong, BadScript, Stalled, Spent, Broken, NoMemory}

abbrev pub status_of : Exit → ℕ
status_of Done = 0
status_of Usage = 2
status_of ReadFault = 3
status_of (WriteFault written) = 4
status_of TooLong = 5
status_of (BadScript bad) = 6
status_of (Stalled client stamp) = 7
status_of (Spent entries) = 8
status_of (Broken evidence) = 9
status_of NoMemory = 10
