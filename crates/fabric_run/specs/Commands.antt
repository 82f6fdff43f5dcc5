-- The commands of the program (ours), by the words that spell them.
use Rattle.std.specs.Prelude.{ℕ, List, [], ◌∷◌, Option, Some, None, nat_eq, codes, if◌then◌else◌}
use Rattle.std.specs.Cmp.Lexicographic.{pointwise}
use Rattle.fabric_run.specs.declared.command.Command.{Command}
use Rattle.fabric_run.specs.declared.command.Command.TheVariants.{Plain, Sim}

abbrev pub command_named : List ℕ → Option Command
command_named word =
    if pointwise nat_eq word (codes "plain") then Some Plain else if pointwise nat_eq word (codes "sim") then Some Sim else None

abbrev pub command_of : List (List ℕ) → Option Command
command_of [] = None
command_of (word ∷ []) = command_named word
command_of (word ∷ next ∷ rest) = None
