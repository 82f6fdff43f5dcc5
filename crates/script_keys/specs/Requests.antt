-- The requests of a script, signed before the run (ours): a client signs its request of stamp t by leaf t − 1.
use Rattle.std.specs.Prelude.{ℕ, ◌+◌, ◌-◌, List, [], ◌∷◌, ◌++◌, map, slice_index}
use Rattle.fab_base.specs.declared.ids.ReplicaId.{ReplicaId}
use Rattle.fab_base.specs.declared.ids.Who.TheVariants.{Client}
use Rattle.fab_base.specs.declared.requests.Request.{Request}
use Rattle.fab_base.specs.declared.messages.Message.{Message}
use Rattle.fab_rules.specs.Spelling.{spelling_of, content_of}
pub use Rattle.fault_script.specs.Asking.{asked}
use Rattle.fault_script.specs.declared.scripts.Script.{Script}
use Rattle.fault_script.specs.declared.scripts.Wish.{Wish}
use Rattle.lms_tree.specs.Keys.{TreeKey}
use Rattle.lms_tree.specs.Signatures.{leaf_signature}
use Rattle.run_words.specs.declared.logs.Origin.{Origin}
use Rattle.run_words.specs.declared.logs.Pending.{Pending}
use Rattle.script_keys.specs.Keys.{key_of, members_of}

-- what is signed of it. No content has a signature of its own
abbrev pub asked_content : Wish → List ℕ
asked_content wish = content_of (Message.Request (asked wish []))

-- what is asked for, signed with this key
abbrev pub request_by : TreeKey → Wish → Request
request_by key wish = asked wish (leaf_signature key (wish.stamp - 1) (asked_content wish))

-- what is asked for, signed with the client's key
abbrev pub request_of : Script → Wish → Request
request_of script wish = request_by (key_of script (Client wish.client)) wish

-- the signed requests, in the order of the script
abbrev pub requests_of : Script → List Request
requests_of script = map (request_of script) script.requests

-- ---- copies

-- a request that stands at place k of the script, on its way
abbrev pub pending_of : ℕ → Request → Pending
pending_of k request = record { origin = Origin.Client request.client; number = k; load = spelling_of (Message.Request request) }

-- the replicas of a client's home
abbrev pub receivers_of : Script → Request → List ReplicaId
receivers_of script request =
    let home = slice_index script.homes request.client.number in
    members_of home (slice_index script.sizes (home - 1))

-- a copy for each of these
abbrev pub copies_to : Pending → List ReplicaId → List (ReplicaId × Pending)
copies_to pending receivers = map (λ to. (to, pending)) receivers

-- the copies of these requests, of which the first stands at place k of the script
abbrev pub copies_from : Script → ℕ → List Request → List (ReplicaId × Pending)
copies_from script k [] = []
copies_from script k (request ∷ rest) = copies_to (pending_of k request) (receivers_of script request) ++ copies_from script (k + 1) rest

-- each signed request for each replica of its client's home, in the order of the script
abbrev pub copies_of : Script → List (ReplicaId × Pending)
copies_of script = copies_from script 0 (requests_of script)
