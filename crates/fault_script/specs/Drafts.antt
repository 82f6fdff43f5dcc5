-- What the lines of a script so far declare (ours).
use Rattle.std.specs.Prelude.{ℕ, ◌+◌, ◌-◌, ◌&&◌, Bool, nat_eq, nat_le, nat_lt, List, [], ◌∷◌, ◌++◌, length, slice_index, slice_set, Result, Ok, Err, if◌then◌else◌}
use Rattle.fab_base.specs.declared.limits.TheConstants.{MOST_CLIENTS, MOST_STAMPS}
use Rattle.fab_base.specs.declared.ids.ReplicaId.{ReplicaId}
use Rattle.fab_base.specs.declared.requests.Op.{Op}
use Rattle.fault_script.specs.declared.faults.Why.{Why}
use Rattle.fault_script.specs.declared.faults.Why.TheVariants.{Unknown, TooMany}
use Rattle.fault_script.specs.declared.scripts.Wish.{Wish}
use Rattle.fault_script.specs.declared.scripts.TheConstants.{MOST_TIMEOUTS}
use Rattle.fault_script.specs.declared.twists.TimeoutLine.{TimeoutLine}
use Rattle.fault_script.specs.Checks.{and_then}
use Rattle.fault_script.specs.Fields.{number, two_numbers}
use Rattle.fault_script.specs.Settings.{Settings, default_settings, setting_of_kind}

pub record Draft : Type 0 where
  -- the size of each cluster, from cluster 1 on
  pub sizes : List ℕ
  -- the home cluster of each client, from client 0 on
  pub homes : List ℕ
  -- how many requests each client has
  pub stamps : List ℕ
  -- the requests
  pub wishes : List Wish
  -- the timeouts
  pub timeouts : List TimeoutLine
  pub settings : Settings

abbrev pub empty_draft : Draft
empty_draft = record { sizes = []; homes = []; stamps = []; wishes = []; timeouts = []; settings = default_settings }

-- a cluster that is declared
abbrev pub declared_cluster : Draft → List ℕ → Result ℕ Why
declared_cluster draft word = and_then (number word) (λ n. if nat_le 1 n && nat_le n (length draft.sizes) then Ok n else Err Unknown)

-- a client that is declared
abbrev pub declared_client : Draft → List ℕ → Result ℕ Why
declared_client draft word = and_then (number word) (λ n. if nat_lt n (length draft.homes) then Ok n else Err Unknown)

-- whether a replica is one of clusters of these sizes, of which the first is cluster 1
abbrev pub is_declared : List ℕ → ReplicaId → Bool
is_declared sizes i = (nat_le 1 i.cluster && nat_le i.cluster (length sizes)) && nat_lt i.index (slice_index sizes (i.cluster - 1))

-- a replica that is declared: its cluster and its index, with a point between them
abbrev pub declared_replica : Draft → List ℕ → Result ReplicaId Why
declared_replica draft word =
    and_then (two_numbers word) (λ n.
    let id : ReplicaId = record { cluster = n.0; index = n.1 } in if is_declared draft.sizes id then Ok id else Err Unknown)

-- one cluster more, of so many replicas; only one can be run yet
abbrev pub with_cluster : Draft → ℕ → Result Draft Why
with_cluster draft size = if nat_eq (length draft.sizes) 0 then Ok (record draft { sizes = draft.sizes ++ size ∷ [] }) else Err TooMany

-- one client more, of this cluster
abbrev pub with_client : Draft → ℕ → Result Draft Why
with_client draft home =
    if nat_lt (length draft.homes) MOST_CLIENTS
    then Ok (record draft { homes = draft.homes ++ home ∷ []; stamps = draft.stamps ++ 0 ∷ [] })
    else Err TooMany

-- one request more of this client
abbrev pub with_request : Draft → ℕ → Op → Result Draft Why
with_request draft client op =
    let stamp = slice_index draft.stamps client + 1 in
    if nat_le stamp MOST_STAMPS
    then Ok (record draft { stamps = slice_set draft.stamps client stamp; wishes = draft.wishes ++ (record { client = record { number = client }; stamp = stamp; op = op }) ∷ [] })
    else Err TooMany

-- one timeout more, of this replica, once the journals together have so many entries
abbrev pub with_timeout : Draft → ReplicaId → ℕ → Result Draft Why
with_timeout draft replica entries =
    if nat_lt (length draft.timeouts) MOST_TIMEOUTS
    then Ok (record draft { timeouts = draft.timeouts ++ (record { replica = replica; entries = entries }) ∷ [] })
    else Err TooMany

-- one setting more, by the first word of its line
abbrev pub with_setting : Draft → List ℕ → List (List ℕ) → Result Draft Why
with_setting draft kind words = and_then (setting_of_kind draft.settings kind words) (λ settings. Ok (record draft { settings = settings }))
