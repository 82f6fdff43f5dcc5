-- The least fleet: a replica alone, of which nothing is asked. Its one Timeout comes to nothing, and so do its Nudges.
use Rattle.std.specs.Prelude.{ℕ, Bool, true, false, List, [], ◌∷◌}
use Rattle.fab_rules.specs.Lists.{In}
use Rattle.run_words.specs.Runs.{Rules}
use Rattle.run_words.specs.Lawful.{Sane}
use Rattle.run_words.specs.Examples.{lone_maker, lone_rules}
use Rattle.run_words.specs.declared.movers.Mover.{Mover}
use Rattle.turn_laws.specs.Ends.{End, AreFed, IsCalm, IsQuiet}
use Rattle.turn_laws.specs.Pauses.{Pause, AreTimely, IsPatient, AreTried}

-- one unit of patience
abbrev pub lone_patient : ℕ → (ℕ → List ℕ → List ℕ) → (ℕ → ℕ) → Rules
lone_patient leaves signature word = record (lone_rules leaves signature word) { patience = 1 }

abbrev pub lone_end : ℕ → (ℕ → List ℕ → List ℕ) → End
lone_end leaves signature = record { maker = lone_maker leaves signature; journal = []; took = []; left = []; unheard = []; lined = 0 }

abbrev pub lone_pause : ℕ → (ℕ → List ℕ → List ℕ) → Bool → Pause
lone_pause leaves signature timed = record { ends = lone_end leaves signature ∷ []; timed = timed }

-- all that the laws of fleets ask
pub record IsMet (r : Rules) (ends : List End) (pauses : List Pause) : Type 0 where
  pub sane : Sane r
  pub fed : AreFed r ends
  pub timely : AreTimely r pauses ends
  pub patient : IsPatient r pauses 0
  pub tried : AreTried pauses ends
  pub quiet : (e : End) → In e ends → IsQuiet e
  pub calm : (e : End) → In e ends → IsCalm Mover.Nudge e

abbrev pub MetLaw : Type 0
MetLaw = (leaves : ℕ) (signature : ℕ → List ℕ → List ℕ) (word : ℕ → ℕ)
    → IsMet (lone_patient leaves signature word) (lone_end leaves signature ∷ [])
    (lone_pause leaves signature true ∷ lone_pause leaves signature false ∷ [])
