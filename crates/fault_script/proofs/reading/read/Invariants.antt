-- the lines that are left, read onto what was declared so far, give what the script gives
use Rattle.std.proofs.Common.{◌≡◌, ◌+◌, ◌≤◌, length}
use Rattle.std.specs.Str.Lines.{lines}
use Rattle.fault_script.specs.Scripts.{draft_of_lines, script_read, script_of}
use Rattle.fault_script.proofs.reading.read.Given as goal

abbrev pub invariant-loop-rest : goal.invariant-loop-rest
invariant-loop-rest l =
    (script_read (draft_of_lines l.number l.draft (lines l.rest)) ≡ script_of l.fn.bytes) × (l.number + length l.rest ≤ length l.fn.bytes + 1)

abbrev pub decreases-loop-rest : goal.decreases-loop-rest
decreases-loop-rest l = length l.rest
