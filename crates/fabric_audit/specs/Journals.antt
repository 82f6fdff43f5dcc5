-- The entries of journals, as the audit takes them.
use Rattle.std.specs.Prelude.{ℕ, Bool, true, List, Ok}
use Rattle.std.specs.List.{list_all}
use Rattle.fab_base.specs.declared.ids.ReplicaId.{ReplicaId}
use Rattle.fab_base.specs.declared.requests.Request.{Request}
use Rattle.fab_rules.specs.Format.{fits}
use Rattle.run_words.specs.declared.logs.Entry.{Entry}
use Rattle.run_words.specs.declared.logs.Trace.{Trace}
use Rattle.run_words.specs.declared.logs.Transcript.{Transcript}
use Rattle.run_worlds.specs.Sights.{Sight, after_message}

-- what was heard has a spelling
abbrev pub entry_fits : Entry → Bool
entry_fits (Entry.Heard origin m) = fits m
entry_fits e = true

abbrev pub journal_fits : Trace → Bool
journal_fits trace = list_all entry_fits trace.journal

-- one entry at this place of a journal
abbrev pub after_entry : Transcript → ReplicaId → ℕ → List (List Request) → Entry → Sight
after_entry t i place met (Entry.Heard origin m) = after_message t i place met m
after_entry t i place met e = Ok met
