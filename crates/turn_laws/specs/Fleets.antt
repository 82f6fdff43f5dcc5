-- The transcript of a fleet, and the laws of it.
use Rattle.std.specs.Prelude.{ℕ, List, map}
use Rattle.fab_rules.specs.Lists.{In}
use Rattle.run_words.specs.Runs.{Rules}
use Rattle.run_words.specs.Lawful.{Sane, Lawful, Settled}
use Rattle.run_words.specs.declared.logs.Transcript.{Transcript}
use Rattle.run_words.specs.declared.movers.Mover.{Mover}
use Rattle.turn_laws.specs.Ends.{End, trace_at, AreFed, IsCalm, IsQuiet}
use Rattle.turn_laws.specs.Pauses.{Pause, moment_of, AreTimely, IsPatient, AreTried}

abbrev pub transcript_at : Rules → List End → List Pause → ℕ → Transcript
transcript_at r ends pauses left = record { script = r.script; traces = map trace_at ends; moments = map moment_of pauses; timeouts_left = left }

abbrev pub LawfulLaw : Type 0
LawfulLaw = (r : Rules) (ends : List End) (pauses : List Pause) (left : ℕ) → Sane r → AreFed r ends → AreTimely r pauses ends → IsPatient r pauses left
    → Lawful r (transcript_at r ends pauses left)

-- where nothing moves, and no patience is left
abbrev pub SettledLaw : Type 0
SettledLaw = (r : Rules) (ends : List End) (pauses : List Pause) → Sane r → AreFed r ends → AreTimely r pauses ends → IsPatient r pauses 0
    → AreTried pauses ends → ((e : End) → In e ends → IsQuiet e) → ((e : End) → In e ends → IsCalm Mover.Nudge e)
    → Settled r (transcript_at r ends pauses 0)
