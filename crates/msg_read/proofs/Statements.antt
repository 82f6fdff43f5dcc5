-- Operations, requests, votes, certificates and the other statements keep the law of a reader, in the words of their spelling.
use Rattle.std.proofs.Common.{◌≡◌, ℕ, ◌<◌, Bool, true, false, ◌&&◌, nat_lt, nat_le, nat_eq, List, [], ◌∷◌, ◌++◌, length, Option, None, Ok, refl, sym, ap, subst, ◌∙◌, append_assoc, arith}
use Rattle.std.specs.Int.{w16, w32, w64, to_be_bytes}
use Rattle.std.proofs.Math.Bool.{and_assoc}
use Rattle.fab_base.specs.declared.limits.TheConstants.{LONGEST_KEY, LONGEST_VALUE, LONGEST_SIGNATURE, MOST_REQUESTS, MOST_STATEMENTS, MOST_CERTIFICATES}
use Rattle.fab_base.specs.declared.ids.ReplicaId.{ReplicaId}
use Rattle.fab_base.specs.declared.requests.Op.{Op}
use Rattle.fab_base.specs.declared.requests.Op.TheVariants.{Put, Get, Cut, Swap}
use Rattle.fab_base.specs.declared.requests.Reply.TheVariants.{Wrote, Found, Absent}
use Rattle.fab_base.specs.declared.requests.Outcome.{Outcome}
use Rattle.fab_base.specs.declared.requests.Outcome.TheVariants.{Done, Again, Early}
use Rattle.fab_base.specs.declared.requests.Request.{Request}
use Rattle.fab_base.specs.declared.messages.PrePrepare.{PrePrepare}
use Rattle.fab_base.specs.declared.messages.Vote.{Vote}
use Rattle.fab_base.specs.declared.messages.StableVote.{StableVote}
use Rattle.fab_base.specs.declared.messages.CommitCert.{CommitCert}
use Rattle.fab_base.specs.declared.messages.ViewChange.{ViewChange}
use Rattle.fab_base.specs.declared.messages.NewView.{NewView}
use Rattle.fab_base.specs.declared.messages.Plea.{Plea}
use Rattle.fab_base.specs.declared.messages.Note.{Note}
use Rattle.fab_base.specs.declared.messages.Ask.{Ask}
use Rattle.fab_base.specs.Fields.{bytes_fit, op_fits}
use Rattle.fab_rules.specs.Format.{is_u64, id_fits, digest_fits, signature_fits, comes_before, request_fits, batch_fits, vote_fits, votes_fit, stable_vote_fits, proof_fits, certificate_fits, certificates_fit, share_fits, proposal_fits, view_change_fits, view_changes_fit, new_view_fits, plea_fits, outcome_fits, line_fits, lines_fit, note_fits, ask_fits}
use Rattle.fab_rules.specs.Spelling.{short_bytes, counted, replica_bytes, signed, op_bytes, request_body, request_bytes, spelling_of_batch, pre_prepare_body, vote_body, checkpoint_body, certificate_bytes, view_change_body, new_view_body, plea_body, outcome_bytes, line_bytes, note_body}
use Rattle.msg_read.specs.Steps.{At, moved, comes_after}
use Rattle.msg_read.specs.Fields as fields
use Rattle.msg_read.specs.Fields.{to_replica}
use Rattle.msg_read.specs.Reading.{put_fields, get_fields, cut_fields, to_swap, swap_fields, op, to_request, request_fields, request, batch, to_proposal, proposal_fields, to_vote, vote_fields, vote, votes, to_stable_vote, checkpoint_fields, checkpoint, proof, to_certificate, certificate, certificates, to_view_change, view_change_fields, view_change, view_changes, to_new_view, new_view_fields, to_plea, plea_fields, found_fields, bare, outcome, to_line, line, lines, to_note, note_fields, to_share, share_fields, to_ask, ask_fields}
use Rattle.msg_read.proofs.Readers.{Taken, IsRead, ok_is, both_read, made_read, by_parts, checked_read, passes_as, spelled_as}
use Rattle.msg_read.proofs.Numbers.{wide8, wide16, wide32, wide64, number_read, run_read, sized_read}
use Rattle.msg_read.proofs.Branches.{behind_read, IsTagged, branch_read, none_read, all_read}
use Rattle.msg_read.proofs.Counts.{moved_none, plain_read, rising_read}

-- ---- fields

-- a signature with its length
abbrev pub seal : List ℕ → List ℕ
seal sig = to_be_bytes w16 (length sig) ++ sig

pub signature_read : IsRead seal signature_fits fields.signature
signature_read = sized_read LONGEST_SIGNATURE (omega arith) wide16

key_read : IsRead short_bytes (bytes_fit LONGEST_KEY) (fields.short_bytes LONGEST_KEY)
key_read = sized_read LONGEST_KEY (omega arith) wide8

value_read : IsRead short_bytes (bytes_fit LONGEST_VALUE) (fields.short_bytes LONGEST_VALUE)
value_read = sized_read LONGEST_VALUE (omega arith) wide8

digest_read : IsRead (λ d. d.bytes) digest_fits fields.digest
unfolding fields.digest
digest_read = made_read (by_parts (λ r. record { bytes = r }) (λ d. d.bytes) (λ d. refl) (λ r. refl) (λ r. refl)) (run_read 32)

replica_read : IsRead replica_bytes id_fits fields.replica
unfolding fields.replica
replica_read = made_read (by_parts to_replica (λ i. (i.cluster, i.index)) (λ i. refl) (λ p. refl) (λ p. refl)) (both_read (number_read wide8) (number_read wide8))

signer_read : (last : Option ReplicaId) → IsRead replica_bytes (λ i. comes_after comes_before last i && id_fits i) (fields.signer last)
unfolding fields.signer
signer_read last = checked_read (comes_after comes_before last) _ replica_read

slot_read : (last : Option ℕ) → IsRead (to_be_bytes w64) (λ n. comes_after nat_lt last n && is_u64 n) (fields.next_slot last)
unfolding fields.next_slot
slot_read last = checked_read (comes_after nat_lt last) _ (number_read wide64)

-- ---- operations

abbrev op_tag : Op → ℕ
op_tag (Put key value) = 1
op_tag (Get key) = 2
op_tag (Cut key) = 3
op_tag (Swap key expected fresh) = 4

abbrev op_tail : Op → List ℕ
op_tail (Put key value) = short_bytes key ++ short_bytes value
op_tail (Get key) = short_bytes key
op_tail (Cut key) = short_bytes key
op_tail (Swap key expected fresh) = short_bytes key ++ (short_bytes expected ++ short_bytes fresh)

op_spelled : (x : Op) → op_bytes x ≡ op_tag x ∷ op_tail x
op_spelled (Put key value) = refl
op_spelled (Get key) = refl
op_spelled (Cut key) = refl
op_spelled (Swap key expected fresh) = append_assoc (4 ∷ short_bytes key) (short_bytes expected) (short_bytes fresh)

op_known : (x : Op) → (nat_lt 0 (op_tag x) && nat_le (op_tag x) 4) ≡ true
op_known (Put key value) = refl
op_known x = refl

op_tagged : IsTagged op_bytes op_tail op_tag 4
op_tagged = record { spelled = op_spelled; known = op_known; small = omega arith }

abbrev is_op : ℕ → Op → Bool
is_op tag x = nat_eq (op_tag x) tag && op_fits x

is_put : (y : Op) → is_op 1 y ≡ true → (x : List ℕ × List ℕ) × (Put x.0 x.1 ≡ y) × ((bytes_fit LONGEST_KEY x.0 && bytes_fit LONGEST_VALUE x.1) ≡ true)
is_put (Put key value) h = ((key, value), refl, h)
is_put y h = absurd cc

is_get : (y : Op) → is_op 2 y ≡ true → (x : List ℕ) × (Get x ≡ y) × (bytes_fit LONGEST_KEY x ≡ true)
is_get (Get key) h = (key, refl, h)
is_get y h = absurd cc

is_cut : (y : Op) → is_op 3 y ≡ true → (x : List ℕ) × (Cut x ≡ y) × (bytes_fit LONGEST_KEY x ≡ true)
is_cut (Cut key) h = (key, refl, h)
is_cut y h = absurd cc

is_swap : (y : Op) → is_op 4 y ≡ true
    → (x : List ℕ × (List ℕ × List ℕ)) × (to_swap x ≡ y) × ((bytes_fit LONGEST_KEY x.0 && (bytes_fit LONGEST_VALUE x.1.0 && bytes_fit LONGEST_VALUE x.1.1)) ≡ true)
is_swap (Swap key expected fresh) h = ((key, (expected, fresh)), refl, h)
is_swap y h = absurd cc

put_read : IsRead op_tail (is_op 1) put_fields
unfolding put_fields
put_read = made_read (record { spelled = λ x h. refl; stays = λ x h. h; comes = is_put }) (both_read key_read value_read)

get_read : IsRead op_tail (is_op 2) get_fields
unfolding get_fields
get_read = made_read (record { spelled = λ x h. refl; stays = λ x h. h; comes = is_get }) key_read

cut_read : IsRead op_tail (is_op 3) cut_fields
unfolding cut_fields
cut_read = made_read (record { spelled = λ x h. refl; stays = λ x h. h; comes = is_cut }) key_read

swap_read : IsRead op_tail (is_op 4) swap_fields
unfolding swap_fields
swap_read = made_read (record { spelled = λ x h. refl; stays = λ x h. h; comes = is_swap }) (both_read key_read (both_read value_read value_read))

pub op_read : IsRead op_bytes op_fits op
unfolding op
op_read =
    all_read op_fits op_tagged
    (branch_read op_fits op_tagged 0 put_read
    (branch_read op_fits op_tagged 1 get_read
    (branch_read op_fits op_tagged 2 cut_read
    (branch_read op_fits op_tagged 3 swap_read
    (none_read op_fits op_tagged)))))

-- ---- what is signed: the body, and then the signature with its length

signed_is : (body sig : List ℕ) → signed body sig ≡ body ++ seal sig
signed_is body sig = append_assoc body (to_be_bytes w16 (length sig)) sig

two : (front a b : List ℕ) → front ++ a ++ b ≡ front ++ (a ++ b)
two front a b = append_assoc front a b

three : (front a b c : List ℕ) → front ++ a ++ b ++ c ≡ front ++ (a ++ (b ++ c))
three front a b c = simp append_assoc

four : (front a b c d : List ℕ) → front ++ a ++ b ++ c ++ d ≡ front ++ (a ++ (b ++ (c ++ d)))
four front a b c d = simp append_assoc

five : (front a b c d e : List ℕ) → front ++ a ++ b ++ c ++ d ++ e ≡ front ++ (a ++ (b ++ (c ++ (d ++ e))))
five front a b c d e = simp append_assoc

-- ---- requests and batches

abbrev pub request_tail : Request → List ℕ
request_tail r = (r.client.number ∷ []) ++ (to_be_bytes w32 r.stamp ++ (op_bytes r.op ++ seal r.sig))

pub request_spelled : (r : Request) → request_body r ++ seal r.sig ≡ 1 ∷ request_tail r
request_spelled r = three (1 ∷ r.client.number ∷ []) (to_be_bytes w32 r.stamp) (op_bytes r.op) (seal r.sig)

pub request_fields_read : IsRead request_tail request_fits request_fields
unfolding request_fields
request_fields_read =
    made_read (by_parts to_request (λ r. (r.client.number, (r.stamp, (r.op, r.sig)))) (λ r. refl) (λ p. refl) (λ p. refl))
    (both_read (number_read wide8) (both_read (number_read wide32) (both_read op_read signature_read)))

request_read : IsRead request_bytes request_fits request
unfolding request
request_read = spelled_as (λ r. signed_is (request_body r) r.sig ∙ request_spelled r) (behind_read 1 (omega arith) request_fields_read)

batch_read : IsRead spelling_of_batch batch_fits batch
unfolding batch
batch_read = plain_read MOST_REQUESTS (omega arith) request_read

abbrev pub proposal_tail : PrePrepare → List ℕ
proposal_tail p = replica_bytes p.signer ++ (to_be_bytes w64 p.view ++ (to_be_bytes w64 p.slot ++ (spelling_of_batch p.batch ++ seal p.sig)))

pub proposal_spelled : (p : PrePrepare) → pre_prepare_body p ++ seal p.sig ≡ 2 ∷ proposal_tail p
proposal_spelled p = four (2 ∷ replica_bytes p.signer) (to_be_bytes w64 p.view) (to_be_bytes w64 p.slot) (spelling_of_batch p.batch) (seal p.sig)

pub proposal_fields_read : IsRead proposal_tail proposal_fits proposal_fields
unfolding proposal_fields
proposal_fields_read =
    made_read (by_parts to_proposal (λ p. (p.signer, (p.view, (p.slot, (p.batch, p.sig))))) (λ p. refl) (λ p. refl) (λ p. refl))
    (both_read (signer_read None) (both_read (number_read wide64) (both_read (number_read wide64) (both_read batch_read signature_read))))

-- ---- votes

abbrev pub vote_tail : Vote → List ℕ
vote_tail v = replica_bytes v.signer ++ (to_be_bytes w64 v.view ++ (to_be_bytes w64 v.slot ++ (v.digest.bytes ++ seal v.sig)))

pub vote_spelled : (tag : ℕ) (v : Vote) → vote_body tag v ++ seal v.sig ≡ tag ∷ vote_tail v
vote_spelled tag v = four (tag ∷ replica_bytes v.signer) (to_be_bytes w64 v.view) (to_be_bytes w64 v.slot) v.digest.bytes (seal v.sig)

pub vote_fields_read : (last : Option ReplicaId) → IsRead vote_tail (λ v. comes_after comes_before last v.signer && vote_fits v) (vote_fields last)
unfolding vote_fields
vote_fields_read last =
    passes_as (λ v. and_assoc (comes_after comes_before last v.signer) (id_fits v.signer) _)
    (made_read (by_parts to_vote (λ v. (v.signer, (v.view, (v.slot, (v.digest, v.sig))))) (λ v. refl) (λ p. refl) (λ p. refl))
    (both_read (signer_read last) (both_read (number_read wide64) (both_read (number_read wide64) (both_read digest_read signature_read)))))

vote_read : (tag : ℕ) → tag < 256 → (last : Option ReplicaId)
    → IsRead (λ v. signed (vote_body tag v) v.sig) (λ v. comes_after comes_before last v.signer && vote_fits v) (vote tag last)
unfolding vote
vote_read tag lt last = spelled_as (λ v. signed_is (vote_body tag v) v.sig ∙ vote_spelled tag v) (behind_read tag lt (vote_fields_read last))

votes_read : (tag : ℕ) → tag < 256 → IsRead (counted (λ v. signed (vote_body tag v) v.sig)) votes_fit (votes tag)
unfolding votes
votes_read tag lt = rising_read comes_before (λ v. v.signer) vote_fits MOST_STATEMENTS (omega arith) (vote_read tag lt)

-- ---- Checkpoints

abbrev pub checkpoint_tail : StableVote → List ℕ
checkpoint_tail v = replica_bytes v.signer ++ (to_be_bytes w64 v.round ++ (v.digest.bytes ++ seal v.sig))

pub checkpoint_spelled : (v : StableVote) → checkpoint_body v ++ seal v.sig ≡ 5 ∷ checkpoint_tail v
checkpoint_spelled v = three (5 ∷ replica_bytes v.signer) (to_be_bytes w64 v.round) v.digest.bytes (seal v.sig)

pub checkpoint_fields_read : (last : Option ReplicaId)
    → IsRead checkpoint_tail (λ v. comes_after comes_before last v.signer && stable_vote_fits v) (checkpoint_fields last)
unfolding checkpoint_fields
checkpoint_fields_read last =
    passes_as (λ v. and_assoc (comes_after comes_before last v.signer) (id_fits v.signer) _)
    (made_read (by_parts to_stable_vote (λ v. (v.signer, (v.round, (v.digest, v.sig)))) (λ v. refl) (λ p. refl) (λ p. refl))
    (both_read (signer_read last) (both_read (number_read wide64) (both_read digest_read signature_read))))

checkpoint_read : (last : Option ReplicaId)
    → IsRead (λ v. signed (checkpoint_body v) v.sig) (λ v. comes_after comes_before last v.signer && stable_vote_fits v) (checkpoint last)
unfolding checkpoint
checkpoint_read last = spelled_as (λ v. signed_is (checkpoint_body v) v.sig ∙ checkpoint_spelled v) (behind_read 5 (omega arith) (checkpoint_fields_read last))

proof_read : IsRead (counted (λ v. signed (checkpoint_body v) v.sig)) proof_fits proof
unfolding proof
proof_read = rising_read comes_before (λ v. v.signer) stable_vote_fits MOST_STATEMENTS (omega arith) checkpoint_read

-- ---- certificates

to_front : (a b c d : Bool) → (a && ((b && c) && d)) ≡ (b && (a && (c && d)))
to_front true true c d = refl
to_front true false c d = refl
to_front false true c d = refl
to_front false false c d = refl

certificate_read : (last : Option ℕ) → IsRead certificate_bytes (λ k. comes_after nat_lt last k.slot && certificate_fits k) (certificate last)
unfolding certificate
certificate_read last =
    passes_as (λ k. to_front (is_u64 k.view) (comes_after nat_lt last k.slot) (is_u64 k.slot) _)
    (made_read (by_parts to_certificate (λ k. (k.view, (k.slot, (k.batch, k.votes)))) (λ k. refl)
    (λ p. three (to_be_bytes w64 p.0) (to_be_bytes w64 p.1.0) (spelling_of_batch p.1.1.0) (counted (λ v. signed (vote_body 3 v) v.sig) p.1.1.1)) (λ p. refl))
    (both_read (number_read wide64) (both_read (slot_read last) (both_read batch_read (votes_read 3 (omega arith))))))

certificates_read : IsRead (counted certificate_bytes) certificates_fit certificates
unfolding certificates
certificates_read = rising_read nat_lt (λ k. k.slot) certificate_fits MOST_CERTIFICATES (omega arith) certificate_read

-- ---- view changes and new views

abbrev pub view_change_tail : ViewChange → List ℕ
view_change_tail c =
    replica_bytes c.signer ++ (to_be_bytes w64 c.view ++ (to_be_bytes w64 c.low ++
    (counted (λ v. signed (checkpoint_body v) v.sig) c.proof ++ (counted certificate_bytes c.prepared ++ seal c.sig))))

pub view_change_spelled : (c : ViewChange) → view_change_body c ++ seal c.sig ≡ 6 ∷ view_change_tail c
view_change_spelled c =
    five (6 ∷ replica_bytes c.signer) (to_be_bytes w64 c.view) (to_be_bytes w64 c.low) (counted (λ v. signed (checkpoint_body v) v.sig) c.proof)
    (counted certificate_bytes c.prepared) (seal c.sig)

pub view_change_fields_read : (last : Option ReplicaId)
    → IsRead view_change_tail (λ c. comes_after comes_before last c.signer && view_change_fits c) (view_change_fields last)
unfolding view_change_fields
view_change_fields_read last =
    passes_as (λ c. and_assoc (comes_after comes_before last c.signer) (id_fits c.signer) _)
    (made_read (by_parts to_view_change (λ c. (c.signer, (c.view, (c.low, (c.proof, (c.prepared, c.sig)))))) (λ c. refl) (λ p. refl) (λ p. refl))
    (both_read (signer_read last) (both_read (number_read wide64) (both_read (number_read wide64) (both_read proof_read (both_read certificates_read signature_read))))))

view_change_read : (last : Option ReplicaId)
    → IsRead (λ c. signed (view_change_body c) c.sig) (λ c. comes_after comes_before last c.signer && view_change_fits c) (view_change last)
unfolding view_change
view_change_read last = spelled_as (λ c. signed_is (view_change_body c) c.sig ∙ view_change_spelled c) (behind_read 6 (omega arith) (view_change_fields_read last))

view_changes_read : IsRead (counted (λ c. signed (view_change_body c) c.sig)) view_changes_fit view_changes
unfolding view_changes
view_changes_read = rising_read comes_before (λ c. c.signer) view_change_fits MOST_STATEMENTS (omega arith) view_change_read

abbrev pub new_view_tail : NewView → List ℕ
new_view_tail x = replica_bytes x.signer ++ (to_be_bytes w64 x.view ++ (counted (λ c. signed (view_change_body c) c.sig) x.changes ++ seal x.sig))

pub new_view_spelled : (x : NewView) → new_view_body x ++ seal x.sig ≡ 7 ∷ new_view_tail x
new_view_spelled x =
    three (7 ∷ replica_bytes x.signer) (to_be_bytes w64 x.view) (counted (λ c. signed (view_change_body c) c.sig) x.changes) (seal x.sig)

pub new_view_fields_read : IsRead new_view_tail new_view_fits new_view_fields
unfolding new_view_fields
new_view_fields_read =
    made_read (by_parts to_new_view (λ x. (x.signer, (x.view, (x.changes, x.sig)))) (λ x. refl) (λ p. refl) (λ p. refl))
    (both_read (signer_read None) (both_read (number_read wide64) (both_read view_changes_read signature_read)))

-- ---- pleas

abbrev pub plea_tail : Plea → List ℕ
plea_tail p = replica_bytes p.signer ++ ((p.target ∷ []) ++ (to_be_bytes w64 p.round ++ (to_be_bytes w32 p.count ++ seal p.sig)))

pub plea_spelled : (tag : ℕ) (p : Plea) → plea_body tag p ++ seal p.sig ≡ tag ∷ plea_tail p
plea_spelled tag p = four (tag ∷ replica_bytes p.signer) (p.target ∷ []) (to_be_bytes w64 p.round) (to_be_bytes w32 p.count) (seal p.sig)

pub plea_fields_read : IsRead plea_tail plea_fits plea_fields
unfolding plea_fields
plea_fields_read =
    made_read (by_parts to_plea (λ p. (p.signer, (p.target, (p.round, (p.count, p.sig))))) (λ p. refl) (λ p. refl) (λ p. refl))
    (both_read (signer_read None) (both_read (number_read wide8) (both_read (number_read wide64) (both_read (number_read wide32) signature_read))))

-- ---- outcomes, lines and notes

abbrev outcome_tag : Outcome → ℕ
outcome_tag (Done Wrote) = 1
outcome_tag (Done (Found value)) = 2
outcome_tag (Done Absent) = 3
outcome_tag Again = 4
outcome_tag Early = 5

abbrev outcome_tail : Outcome → List ℕ
outcome_tail (Done (Found value)) = short_bytes value
outcome_tail o = []

outcome_spelled : (o : Outcome) → outcome_bytes o ≡ outcome_tag o ∷ outcome_tail o
outcome_spelled (Done Wrote) = refl
outcome_spelled (Done (Found value)) = refl
outcome_spelled (Done Absent) = refl
outcome_spelled Again = refl
outcome_spelled Early = refl

outcome_known : (o : Outcome) → (nat_lt 0 (outcome_tag o) && nat_le (outcome_tag o) 5) ≡ true
outcome_known (Done Wrote) = refl
outcome_known (Done (Found value)) = refl
outcome_known (Done Absent) = refl
outcome_known Again = refl
outcome_known Early = refl

outcome_tagged : IsTagged outcome_bytes outcome_tail outcome_tag 5
outcome_tagged = record { spelled = outcome_spelled; known = outcome_known; small = omega arith }

abbrev is_outcome : ℕ → Outcome → Bool
is_outcome tag o = nat_eq (outcome_tag o) tag && outcome_fits o

is_found : (y : Outcome) → is_outcome 2 y ≡ true → (x : List ℕ) × (Done (Found x) ≡ y) × (bytes_fit LONGEST_VALUE x ≡ true)
is_found (Done Wrote) h = absurd cc
is_found (Done (Found value)) h = (value, refl, h)
is_found (Done Absent) h = absurd cc
is_found Again h = absurd cc
is_found Early h = absurd cc

found_read : IsRead outcome_tail (is_outcome 2) found_fields
unfolding found_fields
found_read = made_read (record { spelled = λ x h. refl; stays = λ x h. h; comes = is_found }) value_read

-- an outcome that is told by its tag
bare_read : (tag : ℕ) (o : Outcome) → outcome_tail o ≡ [] → is_outcome tag o ≡ true → ((y : Outcome) → is_outcome tag y ≡ true → o ≡ y)
    → IsRead outcome_tail (is_outcome tag) (bare o)
bare_read tag o none good only = record {
  again = λ at y rest inside h e.
      let same : o ≡ y = only y h in
      let stays : at ≡ moved (length (outcome_tail y)) at = moved_none at ∙ ap (λ (l : List ℕ). moved (length l) at) (sym none ∙ ap outcome_tail same) in
      ap (λ (z : Outcome). Ok (z, at)) same ∙ ap (λ (next : At). Ok (y, next)) stays;
  takes = λ at y behind bytes inside e.
      let pair : Outcome × At = (o, at) in
      let taken : Taken at [] at = record { next_is = moved_none at; inside = inside; parts = refl } in
      subst (λ (z : Outcome × At). Taken at (outcome_tail z.0) z.1 × (is_outcome tag z.0 ≡ true)) (ok_is pair (y, behind) e)
      (subst (λ (l : List ℕ). Taken at l at) (sym none) taken, good);
}

is_wrote : (y : Outcome) → is_outcome 1 y ≡ true → Done Wrote ≡ y
is_wrote (Done Wrote) h = refl
is_wrote (Done (Found value)) h = absurd cc
is_wrote (Done Absent) h = absurd cc
is_wrote Again h = absurd cc
is_wrote Early h = absurd cc

is_absent : (y : Outcome) → is_outcome 3 y ≡ true → Done Absent ≡ y
is_absent (Done Wrote) h = absurd cc
is_absent (Done (Found value)) h = absurd cc
is_absent (Done Absent) h = refl
is_absent Again h = absurd cc
is_absent Early h = absurd cc

is_again : (y : Outcome) → is_outcome 4 y ≡ true → Again ≡ y
is_again (Done Wrote) h = absurd cc
is_again (Done (Found value)) h = absurd cc
is_again (Done Absent) h = absurd cc
is_again Again h = refl
is_again Early h = absurd cc

is_early : (y : Outcome) → is_outcome 5 y ≡ true → Early ≡ y
is_early (Done Wrote) h = absurd cc
is_early (Done (Found value)) h = absurd cc
is_early (Done Absent) h = absurd cc
is_early Again h = absurd cc
is_early Early h = refl

outcome_read : IsRead outcome_bytes outcome_fits outcome
unfolding outcome
outcome_read =
    all_read outcome_fits outcome_tagged
    (branch_read outcome_fits outcome_tagged 0 (bare_read 1 (Done Wrote) refl refl is_wrote)
    (branch_read outcome_fits outcome_tagged 1 found_read
    (branch_read outcome_fits outcome_tagged 2 (bare_read 3 (Done Absent) refl refl is_absent)
    (branch_read outcome_fits outcome_tagged 3 (bare_read 4 Again refl refl is_again)
    (branch_read outcome_fits outcome_tagged 4 (bare_read 5 Early refl refl is_early)
    (none_read outcome_fits outcome_tagged))))))

line_read : IsRead line_bytes line_fits line
unfolding line
line_read =
    made_read (by_parts to_line (λ l. (l.client.number, (l.stamp, l.outcome))) (λ l. refl)
    (λ p. two (p.0 ∷ []) (to_be_bytes w32 p.1.0) (outcome_bytes p.1.1)) (λ p. refl))
    (both_read (number_read wide8) (both_read (number_read wide32) outcome_read))

lines_read : IsRead (counted line_bytes) lines_fit lines
unfolding lines
lines_read = plain_read MOST_REQUESTS (omega arith) line_read

abbrev pub note_tail : Note → List ℕ
note_tail n = replica_bytes n.signer ++ (to_be_bytes w64 n.round ++ (n.digest.bytes ++ (counted line_bytes n.lines ++ seal n.sig)))

pub note_spelled : (n : Note) → note_body n ++ seal n.sig ≡ 10 ∷ note_tail n
note_spelled n = four (10 ∷ replica_bytes n.signer) (to_be_bytes w64 n.round) n.digest.bytes (counted line_bytes n.lines) (seal n.sig)

pub note_fields_read : IsRead note_tail note_fits note_fields
unfolding note_fields
note_fields_read =
    made_read (by_parts to_note (λ n. (n.signer, (n.round, (n.digest, (n.lines, n.sig))))) (λ n. refl) (λ p. refl) (λ p. refl))
    (both_read (signer_read None) (both_read (number_read wide64) (both_read digest_read (both_read lines_read signature_read))))

-- ---- shares and Fetches, which nobody signs

abbrev pub share_tail : CommitCert → List ℕ
share_tail k = (k.cluster ∷ []) ++ (spelling_of_batch k.batch ++ counted (λ v. signed (vote_body 4 v) v.sig) k.votes)

pub share_spelled : (k : CommitCert)
    → 11 ∷ k.cluster ∷ spelling_of_batch k.batch ++ counted (λ v. signed (vote_body 4 v) v.sig) k.votes ≡ 11 ∷ share_tail k
share_spelled k = two (11 ∷ k.cluster ∷ []) (spelling_of_batch k.batch) (counted (λ v. signed (vote_body 4 v) v.sig) k.votes)

pub share_fields_read : IsRead share_tail share_fits share_fields
unfolding share_fields
share_fields_read =
    made_read (by_parts to_share (λ k. (k.cluster, (k.batch, k.votes))) (λ k. refl) (λ p. refl) (λ p. refl))
    (both_read (number_read wide8) (both_read batch_read (votes_read 4 (omega arith))))

abbrev pub ask_tail : Ask → List ℕ
ask_tail a = replica_bytes a.asker ++ ((a.cluster ∷ []) ++ to_be_bytes w64 a.round)

pub ask_spelled : (a : Ask) → 12 ∷ replica_bytes a.asker ++ a.cluster ∷ to_be_bytes w64 a.round ≡ 12 ∷ ask_tail a
ask_spelled a = refl

pub ask_fields_read : IsRead ask_tail ask_fits ask_fields
unfolding ask_fields
ask_fields_read =
    made_read (by_parts to_ask (λ a. (a.asker, (a.cluster, a.round))) (λ a. refl) (λ p. refl) (λ p. refl))
    (both_read replica_read (both_read (number_read wide8) (number_read wide64)))
