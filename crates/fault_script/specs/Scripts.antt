-- What the bytes of a script mean (ours): the script that they spell, or the first line that is bad and its first cause.
use Rattle.std.specs.Prelude.{ℕ, ◌+◌, ◌<◌, ◌≡◌, ◌&&◌, Bool, true, nat_eq, nat_le, nat_lt, List, [], ◌∷◌, ◌++◌, length, filter, slice_index, sum, Result, Ok, Err}
use Rattle.std.specs.List.{list_all}
use Rattle.std.specs.Str.Lines.{lines}
use Rattle.fab_base.specs.declared.limits.TheConstants.{MOST_CLUSTERS, MOST_MEMBERS, MOST_REPLICAS, MOST_CLIENTS, MOST_STAMPS}
use Rattle.fab_base.specs.Fields.{op_fits}
use Rattle.fault_script.specs.declared.faults.Why.{Why}
use Rattle.fault_script.specs.declared.faults.BadScript.{BadScript}
use Rattle.fault_script.specs.declared.faults.ScriptFault.{ScriptFault}
use Rattle.fault_script.specs.declared.scripts.Script.{Script}
use Rattle.fault_script.specs.declared.scripts.Wish.{Wish}
use Rattle.fault_script.specs.declared.scripts.TheConstants.{MOST_TIMEOUTS}
use Rattle.fault_script.specs.declared.settings.TheConstants.{MOST_TURNS}
use Rattle.fault_script.specs.declared.twists.TimeoutLine.{TimeoutLine}
use Rattle.fault_script.specs.Drafts.{Draft, empty_draft, is_declared}
use Rattle.fault_script.specs.Fields.{is_within}
use Rattle.fault_script.specs.Lines.{line}
use Rattle.fault_script.specs.Settings.{interval_of, are_settings}

-- goes on from a good line, or ends at a bad one of this number
abbrev pub after_line : ℕ → Result Draft Why → (Draft → Result Draft BadScript) → Result Draft BadScript
after_line n (Ok draft) f = f draft
after_line n (Err why) f = Err (record { line = n; why = why })

-- the lines, of which the first has this number
abbrev pub draft_of_lines : ℕ → Draft → List (List ℕ) → Result Draft BadScript
draft_of_lines n draft [] = Ok draft
draft_of_lines n draft (text ∷ rest) = after_line n (line draft text) (λ next. draft_of_lines (n + 1) next rest)

-- what the lines declare in the end
abbrev pub script_made : Draft → Script
script_made draft = record {
  sizes = draft.sizes;
  homes = draft.homes;
  requests = draft.wishes;
  timeouts = draft.timeouts;
  batch = draft.settings.batch.value;
  window = draft.settings.window.value;
  interval = interval_of draft.settings;
  seed = draft.settings.seed.value;
  turns = draft.settings.turns.value;
  patience = draft.settings.patience.value;
  height = draft.settings.height.value;
}

abbrev pub script_read : Result Draft BadScript → Result Script BadScript
script_read (Ok draft) = Ok (script_made draft)
script_read (Err bad) = Err bad

-- the script that the bytes spell, or the first bad line
abbrev pub script_of : List ℕ → Result Script BadScript
script_of bytes = script_read (draft_of_lines 1 empty_draft (lines bytes))

-- what is to hold of a bad line, where that is the fault
abbrev pub IsBad : ScriptFault → (BadScript → Type 0) → Type 0
IsBad (ScriptFault.Bad bad) P = P bad
IsBad ScriptFault.NoMemory P = Unit {0}

-- ---- the limits that a script keeps

-- whether there are no more clusters than there may be, and no more replicas of each and of all
abbrev pub are_sizes : List ℕ → Bool
are_sizes sizes = nat_le (length sizes) MOST_CLUSTERS && (list_all (is_within 1 MOST_MEMBERS) sizes && nat_le (sum sizes) MOST_REPLICAS)

-- whether there are no more clients than there may be, each of one of so many clusters
abbrev pub are_homes : ℕ → List ℕ → Bool
are_homes clusters homes = nat_le (length homes) MOST_CLIENTS && list_all (is_within 1 clusters) homes

-- a request of one of so many clients, whose key and values fit their fields
abbrev pub is_wish : ℕ → Wish → Bool
is_wish clients wish = nat_lt wish.client.number clients && (is_within 1 MOST_STAMPS wish.stamp && op_fits wish.op)

-- how many requests are of this client
abbrev pub count_of : ℕ → List Wish → ℕ
count_of client wishes = length (filter (λ wish. nat_eq wish.client.number client) wishes)

-- whether the stamp of each request is its number among its client's, from 1, where these stand before
abbrev pub stamps_run : List Wish → List Wish → Bool
stamps_run before [] = true
stamps_run before (wish ∷ rest) = nat_eq wish.stamp (count_of wish.client.number before + 1) && stamps_run (before ++ wish ∷ []) rest

-- whether the requests are of so many clients, each fits, and their stamps run from 1
abbrev pub are_wishes : ℕ → List Wish → Bool
are_wishes clients wishes = list_all (is_wish clients) wishes && stamps_run [] wishes

-- whether there are no more timeouts than there may be, each of a replica of clusters of these sizes
abbrev pub is_timeout : List ℕ → TimeoutLine → Bool
is_timeout sizes line = is_declared sizes line.replica && nat_le line.entries MOST_TURNS

abbrev pub are_timeouts : List ℕ → List TimeoutLine → Bool
are_timeouts sizes timeouts = nat_le (length timeouts) MOST_TIMEOUTS && list_all (is_timeout sizes) timeouts

-- whether the clusters, their clients, the requests of these, the timeouts and the settings are within the limits
abbrev pub keeps_limits : Script → Bool
keeps_limits script =
    are_sizes script.sizes
    && (are_homes (length script.sizes) script.homes
    && (are_wishes (length script.homes) script.requests
    && (are_timeouts script.sizes script.timeouts
    && are_settings script.batch script.window script.interval script.seed script.turns script.patience script.height)))

-- the stamps are how many requests each client has
abbrev pub AreCounts : List ℕ → List Wish → Type 0
AreCounts stamps wishes = (client : ℕ) → client < length stamps → slice_index stamps client ≡ count_of client wishes
