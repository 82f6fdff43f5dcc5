-- Reading bytes as a message (ours). Of a kind that has a tag, NAME_fields reads what stands behind the tag.
--
-- Fields are read from left to right, and the first fault is answered. Short: the field doesn't end inside the bytes; the place is their
-- number. BadTag: the format, a tag, an operation's kind or an outcome isn't an expected one; its own place. TooLarge: a count or a length
-- is above its greatest; the place of its first byte. NotAscending: the signers or the slots of a list don't rise; the place of the first
-- byte of the one that doesn't. Trailing: the place of the first byte behind the spelling. Bytes beyond the greatest length are TooLarge
-- at that length, whatever they are.
use Rattle.std.specs.Prelude.{ℕ, List, length, Option, Some, None, Result, Ok, Err, nat_lt, nat_eq, if◌then◌else◌}
use Rattle.std.specs.Int.{w8, w32, w64}
use Rattle.fab_base.specs.declared.limits.TheConstants.{LONGEST_KEY, LONGEST_VALUE, LONGEST_MESSAGE, MOST_REQUESTS, MOST_STATEMENTS, MOST_CERTIFICATES}
use Rattle.fab_base.specs.declared.ids.ReplicaId.{ReplicaId}
use Rattle.fab_base.specs.declared.ids.Hash32.{Hash32}
use Rattle.fab_base.specs.declared.requests.Op.{Op}
use Rattle.fab_base.specs.declared.requests.Op.TheVariants.{Put, Get, Cut, Swap}
use Rattle.fab_base.specs.declared.requests.Reply.TheVariants.{Wrote, Found, Absent}
use Rattle.fab_base.specs.declared.requests.Outcome.{Outcome}
use Rattle.fab_base.specs.declared.requests.Outcome.TheVariants.{Done, Again, Early}
use Rattle.fab_base.specs.declared.requests.Request.{Request}
use Rattle.fab_base.specs.declared.messages.PrePrepare.{PrePrepare}
use Rattle.fab_base.specs.declared.messages.Vote.{Vote}
use Rattle.fab_base.specs.declared.messages.StableVote.{StableVote}
use Rattle.fab_base.specs.declared.messages.PreparedCert.{PreparedCert}
use Rattle.fab_base.specs.declared.messages.CommitCert.{CommitCert}
use Rattle.fab_base.specs.declared.messages.ViewChange.{ViewChange}
use Rattle.fab_base.specs.declared.messages.NewView.{NewView}
use Rattle.fab_base.specs.declared.messages.Plea.{Plea}
use Rattle.fab_base.specs.declared.messages.NoteLine.{NoteLine}
use Rattle.fab_base.specs.declared.messages.Note.{Note}
use Rattle.fab_base.specs.declared.messages.Ask.{Ask}
use Rattle.fab_base.specs.declared.messages.Message.{Message}
use Rattle.fab_codec.specs.declared.faults.CodeFault.{CodeFault}
use Rattle.fab_codec.specs.declared.faults.CodeFault.TheVariants.{TooLarge, Trailing}
use Rattle.msg_read.specs.Steps.{◌>>=◌, Reader, both, made}
use Rattle.msg_read.specs.Fields.{number, behind, branch, no_branch, counted, short_bytes, signature, digest, replica, signer, next_slot}

-- ---- an operation: its kind, and then a key and values

unfoldable pub put_fields : Reader Op
put_fields at = made (λ p. Put p.0 p.1) (both (short_bytes LONGEST_KEY) (short_bytes LONGEST_VALUE)) at

unfoldable pub get_fields : Reader Op
get_fields at = made (λ key. Get key) (short_bytes LONGEST_KEY) at

unfoldable pub cut_fields : Reader Op
cut_fields at = made (λ key. Cut key) (short_bytes LONGEST_KEY) at

abbrev pub to_swap : List ℕ × (List ℕ × List ℕ) → Op
to_swap (key, (expected, fresh)) = Swap key expected fresh

unfoldable pub swap_fields : Reader Op
swap_fields at = made to_swap (both (short_bytes LONGEST_KEY) (both (short_bytes LONGEST_VALUE) (short_bytes LONGEST_VALUE))) at

unfoldable pub op : Reader Op
op at = branch 1 put_fields (branch 2 get_fields (branch 3 cut_fields (branch 4 swap_fields no_branch))) at

-- ---- 1, a request: the client, the stamp, the operation

abbrev pub to_request : ℕ × (ℕ × (Op × List ℕ)) → Request
to_request (client, (stamp, (op, sig))) = record { client = record { number = client }; stamp = stamp; op = op; sig = sig }

unfoldable pub request_fields : Reader Request
request_fields at = made to_request (both (number w8) (both (number w32) (both op signature))) at

unfoldable pub request : Reader Request
request at = behind 1 request_fields at

-- the requests of a batch stand in any order
unfoldable pub batch : Reader (List Request)
batch at = counted MOST_REQUESTS (λ (last : Unit {0}). request) (λ r. tt) tt at

-- ---- 2, a proposal: the signer, the view, the slot, the batch

abbrev pub to_proposal : ReplicaId × (ℕ × (ℕ × (List Request × List ℕ))) → PrePrepare
to_proposal (signer, (view, (slot, (batch, sig)))) = record { signer = signer; view = view; slot = slot; batch = batch; sig = sig }

unfoldable pub proposal_fields : Reader PrePrepare
proposal_fields at = made to_proposal (both (signer None) (both (number w64) (both (number w64) (both batch signature)))) at

-- ---- 3, a Prepare, and 4, a Commit: the signer, the view, the slot, the digest

abbrev pub to_vote : ReplicaId × (ℕ × (ℕ × (Hash32 × List ℕ))) → Vote
to_vote (signer, (view, (slot, (digest, sig)))) = record { signer = signer; view = view; slot = slot; digest = digest; sig = sig }

unfoldable pub vote_fields : Option ReplicaId → Reader Vote
vote_fields last at = made to_vote (both (signer last) (both (number w64) (both (number w64) (both digest signature)))) at

unfoldable pub vote : ℕ → Option ReplicaId → Reader Vote
vote tag last at = behind tag (vote_fields last) at

-- the votes of a certificate, in the order of their signers
unfoldable pub votes : ℕ → Reader (List Vote)
votes tag at = counted MOST_STATEMENTS (vote tag) (λ v. Some v.signer) None at

-- ---- 5, a Checkpoint: the signer, the round, the digest

abbrev pub to_stable_vote : ReplicaId × (ℕ × (Hash32 × List ℕ)) → StableVote
to_stable_vote (signer, (round, (digest, sig))) = record { signer = signer; round = round; digest = digest; sig = sig }

unfoldable pub checkpoint_fields : Option ReplicaId → Reader StableVote
checkpoint_fields last at = made to_stable_vote (both (signer last) (both (number w64) (both digest signature))) at

unfoldable pub checkpoint : Option ReplicaId → Reader StableVote
checkpoint last at = behind 5 (checkpoint_fields last) at

-- the Checkpoints of a proof, in the order of their signers
unfoldable pub proof : Reader (List StableVote)
proof at = counted MOST_STATEMENTS checkpoint (λ v. Some v.signer) None at

-- ---- a prepared certificate: the view, the slot, the batch, its Prepares

abbrev pub to_certificate : ℕ × (ℕ × (List Request × List Vote)) → PreparedCert
to_certificate (view, (slot, (batch, votes))) = record { view = view; slot = slot; batch = batch; votes = votes }

unfoldable pub certificate : Option ℕ → Reader PreparedCert
certificate last at = made to_certificate (both (number w64) (both (next_slot last) (both batch (votes 3)))) at

-- the certificates of a view change, in the order of their slots
unfoldable pub certificates : Reader (List PreparedCert)
certificates at = counted MOST_CERTIFICATES certificate (λ k. Some k.slot) None at

-- ---- 6, a view change: the signer, the view, the low mark and its proof, the prepared certificates

abbrev pub to_view_change : ReplicaId × (ℕ × (ℕ × (List StableVote × (List PreparedCert × List ℕ)))) → ViewChange
to_view_change (signer, (view, (low, (proof, (prepared, sig))))) =
    record { signer = signer; view = view; low = low; proof = proof; prepared = prepared; sig = sig }

unfoldable pub view_change_fields : Option ReplicaId → Reader ViewChange
view_change_fields last at =
    made to_view_change (both (signer last) (both (number w64) (both (number w64) (both proof (both certificates signature))))) at

unfoldable pub view_change : Option ReplicaId → Reader ViewChange
view_change last at = behind 6 (view_change_fields last) at

-- the changes of a new view, in the order of their signers
unfoldable pub view_changes : Reader (List ViewChange)
view_changes at = counted MOST_STATEMENTS view_change (λ c. Some c.signer) None at

-- ---- 7, a new view: the signer, the view, the view changes

abbrev pub to_new_view : ReplicaId × (ℕ × (List ViewChange × List ℕ)) → NewView
to_new_view (signer, (view, (changes, sig))) = record { signer = signer; view = view; changes = changes; sig = sig }

unfoldable pub new_view_fields : Reader NewView
new_view_fields at = made to_new_view (both (signer None) (both (number w64) (both view_changes signature))) at

-- ---- 8, a Drvc, and 9, an Rvc: the signer, the target, the round, the count

abbrev pub to_plea : ReplicaId × (ℕ × (ℕ × (ℕ × List ℕ))) → Plea
to_plea (signer, (target, (round, (count, sig)))) = record { signer = signer; target = target; round = round; count = count; sig = sig }

unfoldable pub plea_fields : Reader Plea
plea_fields at = made to_plea (both (signer None) (both (number w8) (both (number w64) (both (number w32) signature)))) at

-- ---- 10, a note: the signer, the round, the digest, the lines

unfoldable pub found_fields : Reader Outcome
found_fields at = made (λ value. Done (Found value)) (short_bytes LONGEST_VALUE) at

-- an outcome of which there is no more to be read
abbrev pub bare : Outcome → Reader Outcome
bare o at = Ok (o, at)

unfoldable pub outcome : Reader Outcome
outcome at =
    branch 1 (bare (Done Wrote)) (branch 2 found_fields (branch 3 (bare (Done Absent)) (branch 4 (bare Again) (branch 5 (bare Early) no_branch)))) at

abbrev pub to_line : ℕ × (ℕ × Outcome) → NoteLine
to_line (client, (stamp, outcome)) = record { client = record { number = client }; stamp = stamp; outcome = outcome }

unfoldable pub line : Reader NoteLine
line at = made to_line (both (number w8) (both (number w32) outcome)) at

-- the lines stand in any order
unfoldable pub lines : Reader (List NoteLine)
lines at = counted MOST_REQUESTS (λ (last : Unit {0}). line) (λ l. tt) tt at

abbrev pub to_note : ReplicaId × (ℕ × (Hash32 × (List NoteLine × List ℕ))) → Note
to_note (signer, (round, (digest, (lines, sig)))) = record { signer = signer; round = round; digest = digest; lines = lines; sig = sig }

unfoldable pub note_fields : Reader Note
note_fields at = made to_note (both (signer None) (both (number w64) (both digest (both lines signature)))) at

-- ---- 11, a share: the cluster, the batch, its Commits. It isn't signed

abbrev pub to_share : ℕ × (List Request × List Vote) → CommitCert
to_share (cluster, (batch, votes)) = record { cluster = cluster; batch = batch; votes = votes }

unfoldable pub share_fields : Reader CommitCert
share_fields at = made to_share (both (number w8) (both batch (votes 4))) at

-- ---- 12, a Fetch: the asker, the cluster, the round. It isn't signed

abbrev pub to_ask : ReplicaId × (ℕ × ℕ) → Ask
to_ask (asker, (cluster, round)) = record { asker = asker; cluster = cluster; round = round }

unfoldable pub ask_fields : Reader Ask
ask_fields at = made to_ask (both replica (both (number w8) (number w64))) at

-- ---- a message: the tag says its kind

unfoldable pub message : Reader Message
message at =
    branch 1 (made Message.Request request_fields)
    (branch 2 (made Message.PrePrepare proposal_fields)
    (branch 3 (made Message.Prepare (vote_fields None))
    (branch 4 (made Message.Commit (vote_fields None))
    (branch 5 (made Message.Checkpoint (checkpoint_fields None))
    (branch 6 (made Message.ViewChange (view_change_fields None))
    (branch 7 (made Message.NewView new_view_fields)
    (branch 8 (made Message.Drvc plea_fields)
    (branch 9 (made Message.Rvc plea_fields)
    (branch 10 (made Message.ReplyNote note_fields)
    (branch 11 (made Message.Share share_fields)
    (branch 12 (made Message.Fetch ask_fields)
    no_branch))))))))))) at

-- the number of the format, which is 1, a message, and nothing behind it
abbrev pub whole : {X : Type 0} → Reader X → List ℕ → Result X CodeFault
whole read bytes = do
  x ← behind 1 read (record { bytes = bytes; place = 0 })
  if nat_eq x.1.place (length bytes) then Ok x.0 else Err (Trailing x.1.place)

-- the message that the bytes spell, or their first fault
unfoldable pub reading_of : List ℕ → Result Message CodeFault
reading_of bytes = if nat_lt LONGEST_MESSAGE (length bytes) then Err (TooLarge LONGEST_MESSAGE) else whole message bytes
