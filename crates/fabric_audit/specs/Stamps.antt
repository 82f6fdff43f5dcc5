-- Which requests took effect, told by the last effective stamp of each client.
use Rattle.std.specs.Prelude.{ℕ, nat_le, Bool, true, cond, List, slice_index, slice_set, replicate}
use Rattle.std.specs.List.{fold, list_all}
use Rattle.fab_base.specs.Table.{by_stamp}
use Rattle.fab_base.specs.declared.requests.Request.{Request}
use Rattle.fab_rules.specs.declared.blocks.Block.{Block}
use Rattle.fault_script.specs.declared.scripts.Script.{Script}
use Rattle.fault_script.specs.declared.scripts.Wish.{Wish}
use Rattle.run_words.specs.declared.logs.Trace.{Trace}
use Rattle.replica_log.specs.Replayed.{state_after}
use Rattle.run_worlds.specs.Scripts.{roster_of}
use Rattle.run_worlds.specs.Worlds.{is_correct_one}

-- how many numbers a client may have
abbrev pub NUMBERS : ℕ
NUMBERS = 256

-- the last stamps after a request more: one that takes effect has the next stamp of its client
abbrev pub counted : List ℕ → Request → List ℕ
counted last x = by_stamp x.stamp (slice_index last x.client.number) last (slice_set last x.client.number x.stamp) last

abbrev pub counted_all : List ℕ → List Request → List ℕ
counted_all last requests = fold counted last requests

abbrev pub counted_block : List ℕ → Block → List ℕ
counted_block last block = counted_all last block.batch

-- the last stamps after the blocks of a ledger
abbrev pub last_stamps : List Block → List ℕ
last_stamps blocks = fold counted_block (replicate NUMBERS 0) blocks

-- the request took effect, by the last stamps
abbrev pub is_served : List ℕ → Wish → Bool
is_served last wish = nat_le wish.stamp (slice_index last wish.client.number)

-- the last stamps after the ledger of the replica that left the trace
abbrev pub stamps_of : Script → Trace → List ℕ
stamps_of script t = last_stamps (state_after (roster_of script) t).rounds.blocks

-- the request took effect in that ledger, where the replica is correct
abbrev pub is_served_in : Script → Wish → Trace → Bool
is_served_in script wish t = cond (is_correct_one t) (is_served (stamps_of script t) wish) true

-- in that of each of these
abbrev pub served_by : Script → List Trace → Wish → Bool
served_by script traces wish = list_all (is_served_in script wish) traces
