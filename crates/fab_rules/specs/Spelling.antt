-- How messages are spelled as bytes (ours). A number stands high byte first, in as many bytes as its field has.
use Rattle.std.specs.Prelude.{ℕ, List, [], ◌∷◌, ◌++◌, length}
use Rattle.std.specs.List.{flat_map}
use Rattle.std.specs.Int.{w16, w32, w64, to_be_bytes}
use Rattle.fab_base.specs.declared.ids.ReplicaId.{ReplicaId}
use Rattle.fab_base.specs.declared.requests.Op.{Op}
use Rattle.fab_base.specs.declared.requests.Op.TheVariants.{Put, Get, Cut, Swap}
use Rattle.fab_base.specs.declared.requests.Reply.TheVariants.{Wrote, Found, Absent}
use Rattle.fab_base.specs.declared.requests.Outcome.{Outcome}
use Rattle.fab_base.specs.declared.requests.Outcome.TheVariants.{Done, Again, Early}
use Rattle.fab_base.specs.declared.requests.Request.{Request}
use Rattle.fab_base.specs.declared.messages.PrePrepare.{PrePrepare}
use Rattle.fab_base.specs.declared.messages.Vote.{Vote}
use Rattle.fab_base.specs.declared.messages.StableVote.{StableVote}
use Rattle.fab_base.specs.declared.messages.PreparedCert.{PreparedCert}
use Rattle.fab_base.specs.declared.messages.ViewChange.{ViewChange}
use Rattle.fab_base.specs.declared.messages.NewView.{NewView}
use Rattle.fab_base.specs.declared.messages.Plea.{Plea}
use Rattle.fab_base.specs.declared.messages.Note.{Note}
use Rattle.fab_base.specs.declared.messages.NoteLine.{NoteLine}
use Rattle.fab_base.specs.declared.messages.Message.{Message}

-- ---- fields

-- one byte for the length, and the bytes
abbrev pub short_bytes : List ℕ → List ℕ
short_bytes bytes = length bytes ∷ bytes

-- one byte for the number of items, and the items
abbrev pub counted : {X : Type 0} → (X → List ℕ) → List X → List ℕ
counted spell items = length items ∷ flat_map spell items

abbrev pub replica_bytes : ReplicaId → List ℕ
replica_bytes i = i.cluster ∷ i.index ∷ []

-- what is signed, and then the signature with two bytes for its length
abbrev pub signed : List ℕ → List ℕ → List ℕ
signed body signature = body ++ to_be_bytes w16 (length signature) ++ signature

-- ---- requests and batches

abbrev pub op_bytes : Op → List ℕ
op_bytes (Put key value) = 1 ∷ short_bytes key ++ short_bytes value
op_bytes (Get key) = 2 ∷ short_bytes key
op_bytes (Cut key) = 3 ∷ short_bytes key
op_bytes (Swap key expected fresh) = 4 ∷ short_bytes key ++ short_bytes expected ++ short_bytes fresh

abbrev pub request_body : Request → List ℕ
request_body r = 1 ∷ r.client.number ∷ to_be_bytes w32 r.stamp ++ op_bytes r.op

abbrev pub request_bytes : Request → List ℕ
request_bytes r = signed (request_body r) r.sig

-- a batch, within the greatest counts and lengths. It is defined for all
abbrev pub spelling_of_batch : List Request → List ℕ
spelling_of_batch batch = counted request_bytes batch

-- ---- the other statements: a tag, the signer, the fields in their order

abbrev pub pre_prepare_body : PrePrepare → List ℕ
pre_prepare_body p = 2 ∷ replica_bytes p.signer ++ to_be_bytes w64 p.view ++ to_be_bytes w64 p.slot ++ spelling_of_batch p.batch

abbrev pub vote_body : ℕ → Vote → List ℕ
vote_body tag v = tag ∷ replica_bytes v.signer ++ to_be_bytes w64 v.view ++ to_be_bytes w64 v.slot ++ v.digest.bytes

abbrev pub checkpoint_body : StableVote → List ℕ
checkpoint_body v = 5 ∷ replica_bytes v.signer ++ to_be_bytes w64 v.round ++ v.digest.bytes

abbrev pub certificate_bytes : PreparedCert → List ℕ
certificate_bytes k =
    to_be_bytes w64 k.view ++ to_be_bytes w64 k.slot ++ spelling_of_batch k.batch ++ counted (λ v. signed (vote_body 3 v) v.sig) k.votes

abbrev pub view_change_body : ViewChange → List ℕ
view_change_body c =
    6 ∷ replica_bytes c.signer ++ to_be_bytes w64 c.view ++ to_be_bytes w64 c.low ++
    counted (λ v. signed (checkpoint_body v) v.sig) c.proof ++ counted certificate_bytes c.prepared

abbrev pub new_view_body : NewView → List ℕ
new_view_body x = 7 ∷ replica_bytes x.signer ++ to_be_bytes w64 x.view ++ counted (λ c. signed (view_change_body c) c.sig) x.changes

abbrev pub plea_body : ℕ → Plea → List ℕ
plea_body tag p = tag ∷ replica_bytes p.signer ++ p.target ∷ to_be_bytes w64 p.round ++ to_be_bytes w32 p.count

abbrev pub outcome_bytes : Outcome → List ℕ
outcome_bytes (Done Wrote) = 1 ∷ []
outcome_bytes (Done (Found value)) = 2 ∷ short_bytes value
outcome_bytes (Done Absent) = 3 ∷ []
outcome_bytes Again = 4 ∷ []
outcome_bytes Early = 5 ∷ []

abbrev pub line_bytes : NoteLine → List ℕ
line_bytes l = l.client.number ∷ to_be_bytes w32 l.stamp ++ outcome_bytes l.outcome

abbrev pub note_body : Note → List ℕ
note_body n = 10 ∷ replica_bytes n.signer ++ to_be_bytes w64 n.round ++ n.digest.bytes ++ counted line_bytes n.lines

-- ---- a message: the number of the format, and one spelling

-- what is in front of the signature, or all where a kind has none. Of a signed kind it is the content that is signed
abbrev pub body_of : Message → List ℕ
body_of (Message.Request x) = request_body x
body_of (Message.PrePrepare x) = pre_prepare_body x
body_of (Message.Prepare x) = vote_body 3 x
body_of (Message.Commit x) = vote_body 4 x
body_of (Message.Checkpoint x) = checkpoint_body x
body_of (Message.ViewChange x) = view_change_body x
body_of (Message.NewView x) = new_view_body x
body_of (Message.Drvc x) = plea_body 8 x
body_of (Message.Rvc x) = plea_body 9 x
body_of (Message.ReplyNote x) = note_body x
body_of (Message.Share x) = 11 ∷ x.cluster ∷ spelling_of_batch x.batch ++ counted (λ v. signed (vote_body 4 v) v.sig) x.votes
body_of (Message.Fetch x) = 12 ∷ replica_bytes x.asker ++ x.cluster ∷ to_be_bytes w64 x.round

-- the signature with its length, where the kind has one
abbrev pub seal_of : Message → List ℕ
seal_of (Message.Request x) = signed [] x.sig
seal_of (Message.PrePrepare x) = signed [] x.sig
seal_of (Message.Prepare x) = signed [] x.sig
seal_of (Message.Commit x) = signed [] x.sig
seal_of (Message.Checkpoint x) = signed [] x.sig
seal_of (Message.ViewChange x) = signed [] x.sig
seal_of (Message.NewView x) = signed [] x.sig
seal_of (Message.Drvc x) = signed [] x.sig
seal_of (Message.Rvc x) = signed [] x.sig
seal_of (Message.ReplyNote x) = signed [] x.sig
seal_of (Message.Share x) = []
seal_of (Message.Fetch x) = []

-- the content that a signer signs
unfoldable pub content_of : Message → List ℕ
content_of m = 1 ∷ body_of m

unfoldable pub spelling_of : Message → List ℕ
spelling_of m = 1 ∷ body_of m ++ seal_of m
