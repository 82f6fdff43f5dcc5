-- What replicas told, counted over their notes, is what their journals tell.
use Rattle.std.proofs.Common.{◌≡◌, ◌+◌, nat_eq, Bool, true, false, cond, ◌&&◌, ◌||◌, List, [], ◌∷◌, map, refl, sym, ap, ◌∙◌}
use Rattle.std.specs.Prelude.{option_to_list}
use Rattle.std.specs.List.{list_any, count_by}
use Rattle.std.proofs.lemmas.List.Folds.{list_any-append}
use Rattle.std.proofs.lemmas.List.Sums.{sum_by-cons}
use Rattle.fab_base.specs.declared.messages.Message.{Message}
use Rattle.fab_rules.specs.Ledger.{RunBlock}
use Rattle.run_words.specs.declared.logs.Entry.{Entry}
use Rattle.run_words.specs.declared.logs.Trace.{Trace}
use Rattle.run_worlds.specs.Worlds.{correct_of}
use Rattle.ledger_report.specs.Report.{is_note_of, is_told_by, tells, notes_of}
use Rattle.ledger_report.specs.Telling.{note_in, note_sent, notes_in, telling_of, has_told, told_by}

pub any_map : {X Y : Type 0} (p : Y → Bool) (f : X → Y) (xs : List X) → list_any p (map f xs) ≡ list_any (λ x. p (f x)) xs
any_map p f [] = refl
any_map p f (x ∷ xs) = ap (λ b. p (f x) || b) (any_map p f xs)

or_none : (b : Bool) → (b || false) ≡ b
or_none true = refl
or_none false = refl

message_told : (ran : RunBlock) (m : Message) → list_any (is_note_of ran) (option_to_list (note_in m)) ≡ is_told_by ran m
message_told ran (Message.Request x) = refl
message_told ran (Message.PrePrepare x) = refl
message_told ran (Message.Prepare x) = refl
message_told ran (Message.Commit x) = refl
message_told ran (Message.Checkpoint x) = refl
message_told ran (Message.ViewChange x) = refl
message_told ran (Message.NewView x) = refl
message_told ran (Message.Drvc x) = refl
message_told ran (Message.Rvc x) = refl
message_told ran (Message.ReplyNote note) = or_none (is_note_of ran note)
message_told ran (Message.Share x) = refl
message_told ran (Message.Fetch x) = refl

entry_told : (ran : RunBlock) (e : Entry) → list_any (is_note_of ran) (option_to_list (note_sent e)) ≡ tells ran e
entry_told ran (Entry.Heard origin x) = refl
entry_told ran Entry.Proposed = refl
entry_told ran Entry.Nudged = refl
entry_told ran (Entry.Sent item) = message_told ran item.message
entry_told ran Entry.Executed = refl
entry_told ran Entry.Marked = refl
entry_told ran Entry.TimedOut = refl

journal_told : (ran : RunBlock) (journal : List Entry) → list_any (is_note_of ran) (notes_in journal) ≡ list_any (tells ran) journal
journal_told ran [] = refl
journal_told ran (e ∷ rest) =
    list_any-append (is_note_of ran) (option_to_list (note_sent e)) (notes_in rest)
    ∙ (λ i. entry_told ran e i || journal_told ran rest i)

trace_told : (ran : RunBlock) (t : Trace) → has_told ran (telling_of t) ≡ (nat_eq t.id.cluster ran.block.cluster && list_any (tells ran) t.journal)
trace_told ran t = ap (λ b. nat_eq t.id.cluster ran.block.cluster && b) (journal_told ran t.journal)

-- whether such a trace tells this
abbrev says : RunBlock → Trace → Bool
says ran t = nat_eq t.id.cluster ran.block.cluster && list_any (tells ran) t.journal

counted_so : (traces : List Trace) (ran : RunBlock) → told_by (map telling_of traces) ran ≡ count_by (says ran) traces
counted_so [] ran = refl
counted_so (t ∷ traces) ran =
    sum_by-cons (λ x. cond (has_told ran x) 1 0) (telling_of t) (map telling_of traces)
    ∙ (λ i. cond (trace_told ran t i) 1 0 + counted_so traces ran i)
    ∙ sym (sum_by-cons (λ x. cond (says ran x) 1 0) t traces)

pub notes_are : (traces : List Trace) (ran : RunBlock) → told_by (map telling_of (correct_of traces)) ran ≡ notes_of traces ran
notes_are traces ran = counted_so (correct_of traces) ran
