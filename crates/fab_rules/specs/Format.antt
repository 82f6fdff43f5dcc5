-- The ranges, greatest counts and lengths of a message, and the order of its lists (ours). Within them a message has a spelling, and
-- no other has the same. Each field stands where the format has it, and tests are nested to the right, as a reader takes them.
use Rattle.std.specs.Prelude.{ℕ, ◌^◌, Bool, true, ◌&&◌, ◌||◌, List, length, map, nat_le, nat_lt, nat_eq}
use Rattle.std.specs.List.{list_all}
use Rattle.fab_base.specs.declared.limits.TheConstants.{LONGEST_VALUE, LONGEST_SIGNATURE, LONGEST_MESSAGE, MOST_REQUESTS, MOST_STATEMENTS, MOST_CERTIFICATES}
use Rattle.fab_base.specs.Fields.{are_bytes, bytes_fit, op_fits}
use Rattle.fab_base.specs.declared.ids.ReplicaId.{ReplicaId}
use Rattle.fab_base.specs.declared.ids.Hash32.{Hash32}
use Rattle.fab_base.specs.declared.requests.Outcome.{Outcome}
use Rattle.fab_base.specs.declared.requests.Outcome.TheVariants.{Done}
use Rattle.fab_base.specs.declared.requests.Reply.TheVariants.{Found}
use Rattle.fab_base.specs.declared.requests.Request.{Request}
use Rattle.fab_base.specs.declared.messages.PrePrepare.{PrePrepare}
use Rattle.fab_base.specs.declared.messages.Vote.{Vote}
use Rattle.fab_base.specs.declared.messages.StableVote.{StableVote}
use Rattle.fab_base.specs.declared.messages.PreparedCert.{PreparedCert}
use Rattle.fab_base.specs.declared.messages.CommitCert.{CommitCert}
use Rattle.fab_base.specs.declared.messages.ViewChange.{ViewChange}
use Rattle.fab_base.specs.declared.messages.NewView.{NewView}
use Rattle.fab_base.specs.declared.messages.Plea.{Plea}
use Rattle.fab_base.specs.declared.messages.Note.{Note}
use Rattle.fab_base.specs.declared.messages.NoteLine.{NoteLine}
use Rattle.fab_base.specs.declared.messages.Ask.{Ask}
use Rattle.fab_base.specs.declared.messages.Message.{Message}
use Rattle.fab_rules.specs.Lists.{rises_by}
use Rattle.fab_rules.specs.Spelling.{spelling_of}

-- ---- fields

abbrev pub is_u8 : ℕ → Bool
is_u8 n = nat_lt n 256

abbrev pub is_u32 : ℕ → Bool
is_u32 n = nat_lt n (2 ^ 32)

abbrev pub is_u64 : ℕ → Bool
is_u64 n = nat_lt n (2 ^ 64)

abbrev pub id_fits : ReplicaId → Bool
id_fits i = is_u8 i.cluster && is_u8 i.index

abbrev pub digest_fits : Hash32 → Bool
digest_fits d = nat_eq (length d.bytes) 32 && are_bytes d.bytes

abbrev pub signature_fits : List ℕ → Bool
signature_fits signature = bytes_fit LONGEST_SIGNATURE signature

abbrev pub at_most : {X : Type 0} → ℕ → List X → Bool
at_most most items = nat_le (length items) most

-- the order of signers: by cluster, and then by index
abbrev pub comes_before : ReplicaId → ReplicaId → Bool
comes_before i j = nat_lt i.cluster j.cluster || (nat_eq i.cluster j.cluster && nat_lt i.index j.index)

-- ---- requests and batches

abbrev pub request_fits : Request → Bool
request_fits r = is_u8 r.client.number && (is_u32 r.stamp && (op_fits r.op && signature_fits r.sig))

abbrev pub batch_fits : List Request → Bool
batch_fits batch = at_most MOST_REQUESTS batch && list_all request_fits batch

-- ---- votes and certificates

abbrev pub vote_fits : Vote → Bool
vote_fits v = id_fits v.signer && (is_u64 v.view && (is_u64 v.slot && (digest_fits v.digest && signature_fits v.sig)))

-- the signers of the votes rise, so they are distinct
abbrev pub votes_fit : List Vote → Bool
votes_fit votes = at_most MOST_STATEMENTS votes && (list_all vote_fits votes && rises_by comes_before (map (λ v. v.signer) votes))

abbrev pub stable_vote_fits : StableVote → Bool
stable_vote_fits v = id_fits v.signer && (is_u64 v.round && (digest_fits v.digest && signature_fits v.sig))

abbrev pub proof_fits : List StableVote → Bool
proof_fits votes = at_most MOST_STATEMENTS votes && (list_all stable_vote_fits votes && rises_by comes_before (map (λ v. v.signer) votes))

abbrev pub certificate_fits : PreparedCert → Bool
certificate_fits k = is_u64 k.view && (is_u64 k.slot && (batch_fits k.batch && votes_fit k.votes))

-- the slots of the certificates rise
abbrev pub certificates_fit : List PreparedCert → Bool
certificates_fit certificates =
    at_most MOST_CERTIFICATES certificates && (list_all certificate_fits certificates && rises_by nat_lt (map (λ k. k.slot) certificates))

abbrev pub share_fits : CommitCert → Bool
share_fits k = is_u8 k.cluster && (batch_fits k.batch && votes_fit k.votes)

-- ---- the other statements

abbrev pub proposal_fits : PrePrepare → Bool
proposal_fits p = id_fits p.signer && (is_u64 p.view && (is_u64 p.slot && (batch_fits p.batch && signature_fits p.sig)))

abbrev pub view_change_fits : ViewChange → Bool
view_change_fits c =
    id_fits c.signer && (is_u64 c.view && (is_u64 c.low && (proof_fits c.proof && (certificates_fit c.prepared && signature_fits c.sig))))

-- the signers of the changes rise, so they are distinct
abbrev pub view_changes_fit : List ViewChange → Bool
view_changes_fit changes =
    at_most MOST_STATEMENTS changes && (list_all view_change_fits changes && rises_by comes_before (map (λ c. c.signer) changes))

abbrev pub new_view_fits : NewView → Bool
new_view_fits x = id_fits x.signer && (is_u64 x.view && (view_changes_fit x.changes && signature_fits x.sig))

abbrev pub plea_fits : Plea → Bool
plea_fits p = id_fits p.signer && (is_u8 p.target && (is_u64 p.round && (is_u32 p.count && signature_fits p.sig)))

abbrev pub outcome_fits : Outcome → Bool
outcome_fits (Done (Found value)) = bytes_fit LONGEST_VALUE value
outcome_fits o = true

abbrev pub line_fits : NoteLine → Bool
line_fits l = is_u8 l.client.number && (is_u32 l.stamp && outcome_fits l.outcome)

abbrev pub lines_fit : List NoteLine → Bool
lines_fit lines = at_most MOST_REQUESTS lines && list_all line_fits lines

abbrev pub note_fits : Note → Bool
note_fits n = id_fits n.signer && (is_u64 n.round && (digest_fits n.digest && (lines_fit n.lines && signature_fits n.sig)))

abbrev pub ask_fits : Ask → Bool
ask_fits a = id_fits a.asker && (is_u8 a.cluster && is_u64 a.round)

-- ---- a message

abbrev pub fields_fit : Message → Bool
fields_fit (Message.Request x) = request_fits x
fields_fit (Message.PrePrepare x) = proposal_fits x
fields_fit (Message.Prepare x) = vote_fits x
fields_fit (Message.Commit x) = vote_fits x
fields_fit (Message.Checkpoint x) = stable_vote_fits x
fields_fit (Message.ViewChange x) = view_change_fits x
fields_fit (Message.NewView x) = new_view_fits x
fields_fit (Message.Drvc x) = plea_fits x
fields_fit (Message.Rvc x) = plea_fits x
fields_fit (Message.ReplyNote x) = note_fits x
fields_fit (Message.Share x) = share_fits x
fields_fit (Message.Fetch x) = ask_fits x

-- whether the message has a spelling
abbrev pub fits : Message → Bool
fits m = fields_fit m && at_most LONGEST_MESSAGE (spelling_of m)
