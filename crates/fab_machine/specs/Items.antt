-- What a replica puts into its outbox, and what it says when it sends that.
use Rattle.std.specs.Prelude.{ℕ, List, [], ◌∷◌, map, nat_eq, Bool, true, false, ◌&&◌, Option, Some, None, if◌then◌else◌}
use Rattle.std.specs.List.{filter, flat_map, range_with_len}
use Rattle.fab_base.specs.Limits.{Roster}
use Rattle.fab_base.specs.Roster.{size_of}
use Rattle.fab_base.specs.declared.ids.ReplicaId.{ReplicaId}
use Rattle.fab_base.specs.declared.ids.Hash32.{Hash32}
use Rattle.fab_base.specs.declared.ids.Who.{Who}
use Rattle.fab_base.specs.declared.requests.Request.{Request}
use Rattle.fab_base.specs.declared.messages.Vote.{Vote}
use Rattle.fab_base.specs.declared.messages.PrePrepare.{PrePrepare}
use Rattle.fab_base.specs.declared.messages.Message.{Message}
use Rattle.fab_base.specs.declared.answers.Item.{Item}
use Rattle.fab_rules.specs.Statements.{signer_of, unsigned}
pub use Rattle.fab_rules.specs.Statements.{with_sig}
use Rattle.fab_rules.specs.Spelling.{content_of}
use Rattle.fab_machine.specs.declared.outs.Out.{Out}

-- ---- messages of its own, not signed yet

abbrev pub vote_of : ReplicaId → ℕ → ℕ → Hash32 → Vote
vote_of me view slot digest = record { signer = me; view = view; slot = slot; digest = digest; sig = [] }

abbrev pub proposal_of : ReplicaId → ℕ → ℕ → List Request → PrePrepare
proposal_of me view slot batch = record { signer = me; view = view; slot = slot; batch = batch; sig = [] }

-- ---- to whom

abbrev pub member_of : ReplicaId → ℕ → ReplicaId
member_of me index = record { cluster = me.cluster; index = index }

-- all members of the own cluster, the replica itself too, by rising index
abbrev pub cluster_of : Roster → ReplicaId → List ReplicaId
cluster_of r me = map (member_of me) (range_with_len 0 (size_of r me.cluster))

abbrev pub cluster_item : Roster → ReplicaId → Message → Item
cluster_item r me m = record { message = m; to = cluster_of r me }

abbrev pub to_cluster : Roster → ReplicaId → Message → Out
to_cluster r me m = Out.Put (cluster_item r me m)

-- ---- leaving a view

-- proposals and votes are of a view, and don't stay when it is left
abbrev pub stays : Message → Bool
stays (Message.PrePrepare p) = false
stays (Message.Prepare v) = false
stays (Message.Commit v) = false
stays m = true

abbrev pub those_that_stay : List Item → List Item
those_that_stay items = filter (λ item. stays item.message) items

-- ---- sending

abbrev pub same_id : ReplicaId → ReplicaId → Bool
same_id i j = nat_eq i.cluster j.cluster && nat_eq i.index j.index

-- whether it is this replica that signs
abbrev pub is_own : ReplicaId → Option Who → Bool
is_own me None = false
is_own me (Some (Who.Client c)) = false
is_own me (Some (Who.Replica i)) = same_id i me

-- the item as it is sent: with this signature where the replica itself signs the message, else as it waited
abbrev pub sent_item : ReplicaId → List ℕ → Item → Item
sent_item me sig item = record item { message = if is_own me (signer_of item.message) then with_sig sig item.message else item.message }

-- what is to be signed of an item: nothing, where another signs it or nobody does
abbrev pub draft_of : ReplicaId → Item → List ℕ
draft_of me item = if is_own me (signer_of item.message) then content_of item.message else []

-- what this replica says when it sends a message: its own statement, where it signs it
abbrev pub statements_by : ReplicaId → Message → List Message
statements_by me m = if is_own me (signer_of m) then unsigned m ∷ [] else []

abbrev pub statements_in : ReplicaId → List Item → List Message
statements_in me items = flat_map (λ item. statements_by me item.message) items
