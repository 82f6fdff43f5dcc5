-- The report of a run (ours): each correct replica's ledger, and how the others are faulty; the longest ledger's blocks, with what their
-- requests came to and how many correct replicas said so; the table; and the end. Each line ends with a line feed, numbers are decimal,
-- digests are in lower-case hex.
use Rattle.std.specs.Prelude.{ℕ, ◌/◌, Bool, true, false, nat_eq, ◌&&◌, List, [], ◌∷◌, ◌++◌, length, sum, codes, decimal, flat_map, Option, Some, None}
use Rattle.std.specs.List.{list_any, count_by}
use Rattle.std.specs.Str.{bytes_eq}
use Rattle.std.specs.Cmp.Lexicographic.{pointwise}
use Rattle.hex.specs.Hex.{encode_lower}
use Rattle.fab_base.specs.Digests.{same_digest}
use Rattle.fab_base.specs.declared.ids.ReplicaId.{ReplicaId}
use Rattle.fab_base.specs.declared.ids.Who.{Who}
use Rattle.fab_base.specs.declared.requests.Reply.TheVariants.{Wrote, Found, Absent}
use Rattle.fab_base.specs.declared.requests.Outcome.{Outcome}
use Rattle.fab_base.specs.declared.requests.Outcome.TheVariants.{Done, Again, Early}
use Rattle.fab_base.specs.declared.messages.NoteLine.{NoteLine}
use Rattle.fab_base.specs.declared.messages.Note.{Note}
use Rattle.fab_base.specs.declared.messages.Message.{Message}
use Rattle.fab_rules.specs.declared.blocks.Block.{Block}
use Rattle.fab_rules.specs.Digests.{batch_digest}
use Rattle.fab_rules.specs.Ledger.{RunBlock, chain_of, run, lines_of, start_of, state_after_blocks}
use Rattle.fab_rules.specs.Diary.{ledger}
use Rattle.fault_script.specs.declared.twists.Fault.{Fault}
use Rattle.world_laws.specs.World.{longest}
use Rattle.run_words.specs.Journal.{Maker, diary}
use Rattle.run_words.specs.declared.ends.End.{End}
use Rattle.run_words.specs.declared.ends.Evidence.{Evidence}
use Rattle.run_words.specs.declared.logs.Entry.{Entry}
use Rattle.run_words.specs.declared.logs.Trace.{Trace}
use Rattle.run_words.specs.declared.logs.Transcript.{Transcript}
use Rattle.run_worlds.specs.Scripts.{roster_of, makers_of}
use Rattle.run_worlds.specs.Worlds.{correct_of, ledgers_of}
use Rattle.ledger_report.specs.Text.{reply_lines, table_text}

-- `C.I`
abbrev pub id_text : ReplicaId → List ℕ
id_text i = decimal i.cluster ++ codes "." ++ decimal i.index

-- `fabric CLUSTERS REPLICAS`
abbrev pub head_line : List ℕ → List ℕ
head_line sizes = codes "fabric " ++ decimal (length sizes) ++ codes " " ++ decimal (sum sizes) ++ codes "\n"

-- ---- the replicas

-- `ledger C.I ROUNDS CHAIN`: in each round each of so many clusters has a block
abbrev pub ledger_line : ℕ → ReplicaId → List Block → List ℕ
ledger_line clusters i blocks =
    codes "ledger " ++ id_text i ++ codes " " ++ decimal (length blocks / clusters) ++ codes " "
    ++ encode_lower (chain_of blocks).bytes ++ codes "\n"

-- what a replica has wrong, as a script says it
abbrev pub kind_text : Fault → List ℕ
kind_text Fault.Silent = codes "silent"
kind_text Fault.Equivocate = codes "equivocate"
kind_text (Fault.Withhold cluster) = codes "withhold " ++ decimal cluster
kind_text (Fault.Garble every) = codes "garble " ++ decimal every
kind_text Fault.Replay = codes "replay"

-- `faulty C.I KIND`
abbrev pub faulty_line : ReplicaId → Fault → List ℕ
faulty_line i fault = codes "faulty " ++ id_text i ++ codes " " ++ kind_text fault ++ codes "\n"

-- the line of a replica: that of its ledger, unless it is faulty
abbrev pub replica_line : ℕ → Option Fault → ReplicaId → List Block → List ℕ
replica_line clusters None i blocks = ledger_line clusters i blocks
replica_line clusters (Some fault) i blocks = faulty_line i fault

abbrev pub replica_lines : ℕ → List Maker → List Trace → List ℕ
replica_lines clusters [] traces = []
replica_lines clusters (m ∷ makers) [] = []
replica_lines clusters (m ∷ makers) (t ∷ traces) =
    replica_line clusters t.fault t.id (ledger (diary m t.journal)) ++ replica_lines clusters makers traces

-- ---- how many said so

abbrev pub same_outcome : Outcome → Outcome → Bool
same_outcome (Done Wrote) (Done Wrote) = true
same_outcome (Done (Found v)) (Done (Found w)) = bytes_eq v w
same_outcome (Done Absent) (Done Absent) = true
same_outcome Again Again = true
same_outcome Early Early = true
same_outcome a b = false

abbrev pub same_line : NoteLine → NoteLine → Bool
same_line a b = nat_eq a.client.number b.client.number && (nat_eq a.stamp b.stamp && same_outcome a.outcome b.outcome)

-- the note tells this of the block: its round, the digest of its batch, and what its requests came to
abbrev pub is_note_of : RunBlock → Note → Bool
is_note_of ran note =
    nat_eq note.round ran.block.round
    && (same_digest note.digest (batch_digest ran.block.batch) && pointwise same_line note.lines (lines_of ran))

abbrev pub is_told_by : RunBlock → Message → Bool
is_told_by ran (Message.ReplyNote note) = is_note_of ran note
is_told_by ran m = false

-- the entry sends such a note
abbrev pub tells : RunBlock → Entry → Bool
tells ran (Entry.Sent item) = is_told_by ran item.message
tells ran e = false

-- how many correct replicas of the block's cluster told this of it
abbrev pub notes_of : List Trace → RunBlock → ℕ
notes_of traces ran = count_by (λ t. nat_eq t.id.cluster ran.block.cluster && list_any (tells ran) t.journal) (correct_of traces)

-- ---- the longest ledger

-- `block ROUND CLUSTER COUNT NOTES`, and a line for each request
abbrev pub block_lines : List Trace → RunBlock → List ℕ
block_lines traces ran =
    codes "block " ++ decimal ran.block.round ++ codes " " ++ decimal ran.block.cluster ++ codes " "
    ++ decimal (length ran.block.batch) ++ codes " " ++ decimal (notes_of traces ran) ++ codes "\n"
    ++ reply_lines ran.block.batch ran.outcomes

-- the longest ledger of a correct replica, the first such by id; of no such replica the empty one
abbrev pub longest_ledger : Transcript → List Block
longest_ledger t = longest (ledgers_of t)

-- ---- the end

abbrev pub who_text : Who → List ℕ
who_text (Who.Replica i) = id_text i
who_text (Who.Client c) = codes "client " ++ decimal c.number

abbrev pub end_text : End → List ℕ
end_text End.Done = codes "done"
end_text (End.Stalled client stamp) = codes "stalled " ++ decimal client.number ++ codes " " ++ decimal stamp
end_text (End.Spent entries) = codes "spent " ++ decimal entries
end_text (End.Broken (Evidence.Forged i place signer)) =
    codes "forged " ++ id_text i ++ codes " " ++ decimal place ++ codes " " ++ who_text signer
end_text (End.Broken (Evidence.Clash digest first second)) = codes "clash " ++ encode_lower digest.bytes

abbrev pub end_line : End → List ℕ
end_line end = codes "end " ++ end_text end ++ codes "\n"

-- ---- the whole

abbrev pub report_text : Transcript → End → List ℕ
report_text t end =
    head_line t.script.sizes
    ++ replica_lines (length t.script.sizes) (makers_of t.script) t.traces
    ++ flat_map (block_lines t.traces) (run (roster_of t.script) (longest_ledger t))
    ++ table_text (state_after_blocks (start_of (roster_of t.script)) (longest_ledger t)).entries
    ++ end_line end
