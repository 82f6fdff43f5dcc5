-- What replicas told of blocks: the notes that their journals send.
use Rattle.std.specs.Prelude.{ℕ, nat_eq, ◌&&◌, Bool, List, Option, Some, None, option_to_list}
use Rattle.std.specs.List.{list_any, count_by, flat_map}
use Rattle.fab_base.specs.declared.messages.Note.{Note}
use Rattle.fab_base.specs.declared.messages.Message.{Message}
use Rattle.fab_rules.specs.Ledger.{RunBlock}
use Rattle.run_words.specs.declared.logs.Entry.{Entry}
use Rattle.run_words.specs.declared.logs.Trace.{Trace}
use Rattle.ledger_report.specs.Report.{is_note_of}

-- the cluster of a replica, and the notes that it sent, in order
pub record Telling : Type 0 where
  pub cluster : ℕ
  pub notes : List Note

abbrev pub note_in : Message → Option Note
note_in (Message.ReplyNote note) = Some note
note_in m = None

-- the note that an entry sends
abbrev pub note_sent : Entry → Option Note
note_sent (Entry.Sent item) = note_in item.message
note_sent e = None

abbrev pub notes_in : List Entry → List Note
notes_in journal = flat_map (λ e. option_to_list (note_sent e)) journal

abbrev pub telling_of : Trace → Telling
telling_of t = record { cluster = t.id.cluster; notes = notes_in t.journal }

-- whether it is of the block's cluster and told this of it
abbrev pub has_told : RunBlock → Telling → Bool
has_told ran t = nat_eq t.cluster ran.block.cluster && list_any (is_note_of ran) t.notes

-- how many did
abbrev pub told_by : List Telling → RunBlock → ℕ
told_by tellings ran = count_by (has_told ran) tellings
