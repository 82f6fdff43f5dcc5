-- What fits is spelled in bytes, and equal spellings are of equal batches.
use Rattle.std.proofs.Common.{◌≡◌, ℕ, ◌<◌, Bool, true, ◌&&◌, nat_lt, List, [], ◌∷◌, ◌++◌, length, refl, ap, arith}
use Rattle.std.specs.List.{flat_map, list_all}
use Rattle.std.specs.Int.{w16, w32, w64, to_be_bytes}
use Rattle.std.proofs.lemmas.List.Elements.{All-nil, All-cons}
use Rattle.lms_laws.specs.Hashed.{IsBytes}
use Rattle.fab_base.specs.declared.limits.TheConstants.{LONGEST_KEY, LONGEST_VALUE, LONGEST_SIGNATURE, MOST_REQUESTS, MOST_STATEMENTS, MOST_CERTIFICATES}
use Rattle.fab_base.specs.declared.ids.ReplicaId.{ReplicaId}
use Rattle.fab_base.specs.declared.ids.Hash32.{Hash32}
use Rattle.fab_base.specs.declared.requests.Op.{Op}
use Rattle.fab_base.specs.declared.requests.Op.TheVariants.{Put, Get, Cut, Swap}
use Rattle.fab_base.specs.declared.requests.Reply.TheVariants.{Wrote, Found, Absent}
use Rattle.fab_base.specs.declared.requests.Outcome.{Outcome}
use Rattle.fab_base.specs.declared.requests.Outcome.TheVariants.{Done, Again, Early}
use Rattle.fab_base.specs.declared.requests.Request.{Request}
use Rattle.fab_base.specs.declared.messages.PrePrepare.{PrePrepare}
use Rattle.fab_base.specs.declared.messages.Vote.{Vote}
use Rattle.fab_base.specs.declared.messages.StableVote.{StableVote}
use Rattle.fab_base.specs.declared.messages.PreparedCert.{PreparedCert}
use Rattle.fab_base.specs.declared.messages.ViewChange.{ViewChange}
use Rattle.fab_base.specs.declared.messages.NewView.{NewView}
use Rattle.fab_base.specs.declared.messages.Plea.{Plea}
use Rattle.fab_base.specs.declared.messages.Note.{Note}
use Rattle.fab_base.specs.declared.messages.NoteLine.{NoteLine}
use Rattle.fab_base.specs.declared.messages.Message.{Message}
use Rattle.fab_base.specs.Fields.{are_bytes, bytes_fit, op_fits}
use Rattle.fab_base.proofs.Tests.{and_left, and_right, and_both, below, is_below}
use Rattle.fab_base.proofs.Tests as tests
use Rattle.fab_base.proofs.Bytes.{are_bytes-append, are_bytes-to_be_bytes}
use Rattle.fab_rules.specs.Spelling.{short_bytes, counted, signed, op_bytes, request_body, request_bytes, spelling_of_batch, vote_body, checkpoint_body, certificate_bytes, view_change_body, plea_body, outcome_bytes, line_bytes, body_of, content_of}
use Rattle.fab_rules.specs.Format.{is_u8, is_u32, is_u64, id_fits, digest_fits, signature_fits, at_most, request_fits, batch_fits, vote_fits, votes_fit, stable_vote_fits, proof_fits, certificate_fits, certificates_fit, proposal_fits, view_change_fits, view_changes_fit, new_view_fits, plea_fits, outcome_fits, line_fits, lines_fit, note_fits, fields_fit}
use Rattle.bft_verify.specs.Sound.{signature_of}
use Rattle.msg_read.proofs.Unique.{told}

-- ---- two words for bytes

pub bytes_from_small : (xs : List ℕ) → are_bytes xs ≡ true → IsBytes xs
bytes_from_small [] h = All-nil (λ b. b < 256)
bytes_from_small (x ∷ xs) h =
    All-cons (λ b. b < 256) x xs (below x 256 (and_left (nat_lt x 256) (are_bytes xs) h)) (bytes_from_small xs (and_right (nat_lt x 256) (are_bytes xs) h))

-- ---- fields and lists

field : (longest : ℕ) (bytes : List ℕ) → bytes_fit longest bytes ≡ true → are_bytes bytes ≡ true
field longest bytes h = and_right _ (are_bytes bytes) h

digest : (d : Hash32) → digest_fits d ≡ true → are_bytes d.bytes ≡ true
digest d h = and_right _ (are_bytes d.bytes) h

-- with one byte for the length
short : (longest : ℕ) (bytes : List ℕ) → longest < 256 → bytes_fit longest bytes ≡ true → are_bytes (short_bytes bytes) ≡ true
short longest bytes small h =
    let few = tests.at_most (length bytes) longest (and_left _ (are_bytes bytes) h) in
    and_both (nat_lt (length bytes) 256) (are_bytes bytes) (is_below (length bytes) 256 (omega (arith, few))) (field longest bytes h)

module _ {X : Type 0} (test : X → Bool) (spell : X → List ℕ) (each : (x : X) → test x ≡ true → are_bytes (spell x) ≡ true) where
  items_are : (items : List X) → list_all test items ≡ true → are_bytes (flat_map spell items) ≡ true
  items_are [] h = refl
  items_are (x ∷ items) h =
      are_bytes-append (spell x) (flat_map spell items) (each x (and_left (test x) (list_all test items) h))
      (items_are items (and_right (test x) (list_all test items) h))

  counted_are : (most : ℕ) (items : List X) → most < 256 → at_most most items ≡ true → list_all test items ≡ true
      → are_bytes (counted spell items) ≡ true
  counted_are most items small few h =
      let count = tests.at_most (length items) most few in
      and_both (nat_lt (length items) 256) (are_bytes (flat_map spell items)) (is_below (length items) 256 (omega (arith, count))) (items_are items h)

sealed : (body signature : List ℕ) → are_bytes body ≡ true → signature_fits signature ≡ true → are_bytes (signed body signature) ≡ true
sealed body signature b s =
    are_bytes-append (body ++ to_be_bytes w16 (length signature)) signature
    (are_bytes-append body (to_be_bytes w16 (length signature)) b (are_bytes-to_be_bytes w16 (length signature)))
    (field LONGEST_SIGNATURE signature s)

-- a number in front of the rest
long : (n : ℕ) (rest : List ℕ) → are_bytes rest ≡ true → are_bytes (to_be_bytes w64 n ++ rest) ≡ true
long n rest h = are_bytes-append (to_be_bytes w64 n) rest (are_bytes-to_be_bytes w64 n) h

word : (n : ℕ) (rest : List ℕ) → are_bytes rest ≡ true → are_bytes (to_be_bytes w32 n ++ rest) ≡ true
word n rest h = are_bytes-append (to_be_bytes w32 n) rest (are_bytes-to_be_bytes w32 n) h

-- a tag and a signer in front of the rest
from : (tag : ℕ) (i : ReplicaId) (rest : List ℕ) → nat_lt tag 256 ≡ true → id_fits i ≡ true → are_bytes rest ≡ true
    → are_bytes (tag ∷ i.cluster ∷ i.index ∷ rest) ≡ true
from tag i rest t h r =
    and_both (nat_lt tag 256) (are_bytes (i.cluster ∷ i.index ∷ rest)) t
    (and_both (is_u8 i.cluster) (are_bytes (i.index ∷ rest)) (and_left (is_u8 i.cluster) (is_u8 i.index) h)
    (and_both (is_u8 i.index) (are_bytes rest) (and_right (is_u8 i.cluster) (is_u8 i.index) h) r))

-- ---- requests and batches

op_are : (op : Op) → op_fits op ≡ true → are_bytes (op_bytes op) ≡ true
op_are (Put key value) h =
    are_bytes-append (short_bytes key) (short_bytes value) (short LONGEST_KEY key (omega arith) (and_left _ (bytes_fit LONGEST_VALUE value) h))
    (short LONGEST_VALUE value (omega arith) (and_right (bytes_fit LONGEST_KEY key) _ h))
op_are (Get key) h = short LONGEST_KEY key (omega arith) h
op_are (Cut key) h = short LONGEST_KEY key (omega arith) h
op_are (Swap key expected fresh) h =
    let rest = and_right (bytes_fit LONGEST_KEY key) _ h in
    are_bytes-append (short_bytes key ++ short_bytes expected) (short_bytes fresh)
    (are_bytes-append (short_bytes key) (short_bytes expected)
    (short LONGEST_KEY key (omega arith) (and_left _ (bytes_fit LONGEST_VALUE expected && bytes_fit LONGEST_VALUE fresh) h))
    (short LONGEST_VALUE expected (omega arith) (and_left _ (bytes_fit LONGEST_VALUE fresh) rest)))
    (short LONGEST_VALUE fresh (omega arith) (and_right (bytes_fit LONGEST_VALUE expected) _ rest))

request_body_are : (r : Request) → request_fits r ≡ true → are_bytes (request_body r) ≡ true
request_body_are r h =
    let rest = and_right (is_u8 r.client.number) _ h in
    let op = and_left (op_fits r.op) _ (and_right (is_u32 r.stamp) _ rest) in
    and_both (is_u8 r.client.number) _ (and_left (is_u8 r.client.number) _ h) (word r.stamp (op_bytes r.op) (op_are r.op op))

request_signed : (r : Request) → request_fits r ≡ true → signature_fits r.sig ≡ true
request_signed r h = and_right (op_fits r.op) _ (and_right (is_u32 r.stamp) _ (and_right (is_u8 r.client.number) _ h))

request_are : (r : Request) → request_fits r ≡ true → are_bytes (request_bytes r) ≡ true
request_are r h = sealed (request_body r) r.sig (request_body_are r h) (request_signed r h)

pub batch_are : (batch : List Request) → batch_fits batch ≡ true → are_bytes (spelling_of_batch batch) ≡ true
batch_are batch h =
    counted_are request_fits request_bytes request_are MOST_REQUESTS batch (omega arith) (and_left (at_most MOST_REQUESTS batch) _ h)
    (and_right (at_most MOST_REQUESTS batch) _ h)

-- ---- votes and certificates

vote_body_are : (tag : ℕ) (v : Vote) → nat_lt tag 256 ≡ true → vote_fits v ≡ true → are_bytes (vote_body tag v) ≡ true
vote_body_are tag v t h =
    let rest = and_right (is_u64 v.slot) _ (and_right (is_u64 v.view) _ (and_right (id_fits v.signer) _ h)) in
    from tag v.signer (to_be_bytes w64 v.view ++ (to_be_bytes w64 v.slot ++ v.digest.bytes)) t (and_left (id_fits v.signer) _ h)
    (long v.view (to_be_bytes w64 v.slot ++ v.digest.bytes) (long v.slot v.digest.bytes (digest v.digest (and_left (digest_fits v.digest) _ rest))))

vote_signed : (v : Vote) → vote_fits v ≡ true → signature_fits v.sig ≡ true
vote_signed v h =
    and_right (digest_fits v.digest) _ (and_right (is_u64 v.slot) _ (and_right (is_u64 v.view) _ (and_right (id_fits v.signer) _ h)))

votes_are : (tag : ℕ) (votes : List Vote) → nat_lt tag 256 ≡ true → votes_fit votes ≡ true
    → are_bytes (counted (λ (v : Vote). signed (vote_body tag v) v.sig) votes) ≡ true
votes_are tag votes t h =
    counted_are vote_fits (λ (v : Vote). signed (vote_body tag v) v.sig)
    (λ v f. sealed (vote_body tag v) v.sig (vote_body_are tag v t f) (vote_signed v f)) MOST_STATEMENTS votes (omega arith)
    (and_left (at_most MOST_STATEMENTS votes) _ h) (and_left (list_all vote_fits votes) _ (and_right (at_most MOST_STATEMENTS votes) _ h))

checkpoint_body_are : (v : StableVote) → stable_vote_fits v ≡ true → are_bytes (checkpoint_body v) ≡ true
checkpoint_body_are v h =
    let rest = and_right (is_u64 v.round) _ (and_right (id_fits v.signer) _ h) in
    from 5 v.signer (to_be_bytes w64 v.round ++ v.digest.bytes) refl (and_left (id_fits v.signer) _ h)
    (long v.round v.digest.bytes (digest v.digest (and_left (digest_fits v.digest) _ rest)))

checkpoint_signed : (v : StableVote) → stable_vote_fits v ≡ true → signature_fits v.sig ≡ true
checkpoint_signed v h = and_right (digest_fits v.digest) _ (and_right (is_u64 v.round) _ (and_right (id_fits v.signer) _ h))

proof_are : (votes : List StableVote) → proof_fits votes ≡ true
    → are_bytes (counted (λ (v : StableVote). signed (checkpoint_body v) v.sig) votes) ≡ true
proof_are votes h =
    counted_are stable_vote_fits (λ (v : StableVote). signed (checkpoint_body v) v.sig)
    (λ v f. sealed (checkpoint_body v) v.sig (checkpoint_body_are v f) (checkpoint_signed v f)) MOST_STATEMENTS votes (omega arith)
    (and_left (at_most MOST_STATEMENTS votes) _ h) (and_left (list_all stable_vote_fits votes) _ (and_right (at_most MOST_STATEMENTS votes) _ h))

certificate_are : (k : PreparedCert) → certificate_fits k ≡ true → are_bytes (certificate_bytes k) ≡ true
certificate_are k h =
    let rest = and_right (is_u64 k.slot) _ (and_right (is_u64 k.view) _ h) in
    let batch = batch_are k.batch (and_left (batch_fits k.batch) _ rest) in
    let votes = votes_are 3 k.votes refl (and_right (batch_fits k.batch) _ rest) in
    are_bytes-append (to_be_bytes w64 k.view ++ to_be_bytes w64 k.slot ++ spelling_of_batch k.batch) (counted (λ (v : Vote). signed (vote_body 3 v) v.sig) k.votes)
    (long k.view (to_be_bytes w64 k.slot ++ spelling_of_batch k.batch) (long k.slot (spelling_of_batch k.batch) batch)) votes

certificates_are : (certificates : List PreparedCert) → certificates_fit certificates ≡ true
    → are_bytes (counted certificate_bytes certificates) ≡ true
certificates_are certificates h =
    counted_are certificate_fits certificate_bytes certificate_are MOST_CERTIFICATES certificates (omega arith)
    (and_left (at_most MOST_CERTIFICATES certificates) _ h)
    (and_left (list_all certificate_fits certificates) _ (and_right (at_most MOST_CERTIFICATES certificates) _ h))

-- ---- the other statements

view_change_body_are : (c : ViewChange) → view_change_fits c ≡ true → are_bytes (view_change_body c) ≡ true
view_change_body_are c h =
    let rest = and_right (is_u64 c.low) _ (and_right (is_u64 c.view) _ (and_right (id_fits c.signer) _ h)) in
    let proof = proof_are c.proof (and_left (proof_fits c.proof) _ rest) in
    let prepared = certificates_are c.prepared (and_left (certificates_fit c.prepared) _ (and_right (proof_fits c.proof) _ rest)) in
    let first : List ℕ = counted (λ (v : StableVote). signed (checkpoint_body v) v.sig) c.proof in
    let second : List ℕ = counted certificate_bytes c.prepared in
    from 6 c.signer (to_be_bytes w64 c.view ++ (to_be_bytes w64 c.low ++ (first ++ second))) refl (and_left (id_fits c.signer) _ h)
    (long c.view (to_be_bytes w64 c.low ++ (first ++ second)) (long c.low (first ++ second) (are_bytes-append first second proof prepared)))

view_change_signed : (c : ViewChange) → view_change_fits c ≡ true → signature_fits c.sig ≡ true
view_change_signed c h =
    let rest = and_right (is_u64 c.low) _ (and_right (is_u64 c.view) _ (and_right (id_fits c.signer) _ h)) in
    and_right (certificates_fit c.prepared) _ (and_right (proof_fits c.proof) _ rest)

view_changes_are : (changes : List ViewChange) → view_changes_fit changes ≡ true
    → are_bytes (counted (λ (c : ViewChange). signed (view_change_body c) c.sig) changes) ≡ true
view_changes_are changes h =
    counted_are view_change_fits (λ (c : ViewChange). signed (view_change_body c) c.sig)
    (λ c f. sealed (view_change_body c) c.sig (view_change_body_are c f) (view_change_signed c f)) MOST_STATEMENTS changes (omega arith)
    (and_left (at_most MOST_STATEMENTS changes) _ h)
    (and_left (list_all view_change_fits changes) _ (and_right (at_most MOST_STATEMENTS changes) _ h))

outcome_are : (o : Outcome) → outcome_fits o ≡ true → are_bytes (outcome_bytes o) ≡ true
outcome_are (Done Wrote) h = refl
outcome_are (Done (Found value)) h = short LONGEST_VALUE value (omega arith) h
outcome_are (Done Absent) h = refl
outcome_are Again h = refl
outcome_are Early h = refl

line_are : (l : NoteLine) → line_fits l ≡ true → are_bytes (line_bytes l) ≡ true
line_are l h =
    let rest = and_right (is_u8 l.client.number) _ h in
    and_both (is_u8 l.client.number) _ (and_left (is_u8 l.client.number) _ h)
    (word l.stamp (outcome_bytes l.outcome) (outcome_are l.outcome (and_right (is_u32 l.stamp) _ rest)))

plea_body_are : (tag : ℕ) (x : Plea) → nat_lt tag 256 ≡ true → plea_fits x ≡ true → are_bytes (plea_body tag x) ≡ true
plea_body_are tag x t h =
    let rest = and_right (id_fits x.signer) _ h in
    let behind : List ℕ = to_be_bytes w64 x.round ++ to_be_bytes w32 x.count in
    from tag x.signer (x.target ∷ behind) t (and_left (id_fits x.signer) _ h)
    (and_both (is_u8 x.target) (are_bytes behind) (and_left (is_u8 x.target) _ rest)
    (long x.round (to_be_bytes w32 x.count) (are_bytes-to_be_bytes w32 x.count)))

-- ---- a message's body

body_are : (m : Message) → fields_fit m ≡ true → are_bytes (body_of m) ≡ true
body_are (Message.Request x) h = request_body_are x h
body_are (Message.PrePrepare x) h =
    let rest = and_right (is_u64 x.slot) _ (and_right (is_u64 x.view) _ (and_right (id_fits x.signer) _ h)) in
    from 2 x.signer (to_be_bytes w64 x.view ++ (to_be_bytes w64 x.slot ++ spelling_of_batch x.batch)) refl (and_left (id_fits x.signer) _ h)
    (long x.view (to_be_bytes w64 x.slot ++ spelling_of_batch x.batch) (long x.slot (spelling_of_batch x.batch) (batch_are x.batch (and_left (batch_fits x.batch) _ rest))))
body_are (Message.Prepare x) h = vote_body_are 3 x refl h
body_are (Message.Commit x) h = vote_body_are 4 x refl h
body_are (Message.Checkpoint x) h = checkpoint_body_are x h
body_are (Message.ViewChange x) h = view_change_body_are x h
body_are (Message.NewView x) h =
    let rest = and_right (is_u64 x.view) _ (and_right (id_fits x.signer) _ h) in
    let spelled : List ℕ = counted (λ (c : ViewChange). signed (view_change_body c) c.sig) x.changes in
    from 7 x.signer (to_be_bytes w64 x.view ++ spelled) refl (and_left (id_fits x.signer) _ h)
    (long x.view spelled (view_changes_are x.changes (and_left (view_changes_fit x.changes) _ rest)))
body_are (Message.Drvc x) h = plea_body_are 8 x refl h
body_are (Message.Rvc x) h = plea_body_are 9 x refl h
body_are (Message.ReplyNote x) h =
    let rest = and_right (is_u64 x.round) _ (and_right (id_fits x.signer) _ h) in
    let behind = and_right (digest_fits x.digest) _ rest in
    let lines = and_left (lines_fit x.lines) _ behind in
    let spelled =
    counted_are line_fits line_bytes line_are MOST_REQUESTS x.lines (omega arith) (and_left (at_most MOST_REQUESTS x.lines) _ lines)
    (and_right (at_most MOST_REQUESTS x.lines) _ lines) in
    let behind_round : List ℕ = x.digest.bytes ++ counted line_bytes x.lines in
    from 10 x.signer (to_be_bytes w64 x.round ++ behind_round) refl (and_left (id_fits x.signer) _ h)
    (long x.round behind_round (are_bytes-append x.digest.bytes (counted line_bytes x.lines) (digest x.digest (and_left (digest_fits x.digest) _ rest)) spelled))
body_are (Message.Share x) h =
    let rest = and_right (is_u8 x.cluster) _ h in
    and_both (is_u8 x.cluster) _ (and_left (is_u8 x.cluster) _ h)
    (are_bytes-append (spelling_of_batch x.batch) (counted (λ (v : Vote). signed (vote_body 4 v) v.sig) x.votes)
    (batch_are x.batch (and_left (batch_fits x.batch) _ rest)) (votes_are 4 x.votes refl (and_right (batch_fits x.batch) _ rest)))
body_are (Message.Fetch x) h =
    let rest = and_right (id_fits x.asker) _ h in
    from 12 x.asker (x.cluster ∷ to_be_bytes w64 x.round) refl (and_left (id_fits x.asker) _ h)
    (and_both (is_u8 x.cluster) (are_bytes (to_be_bytes w64 x.round)) (and_left (is_u8 x.cluster) _ rest) (are_bytes-to_be_bytes w64 x.round))

-- ---- what is hashed

pub content_is_bytes : (m : Message) → fields_fit m ≡ true → IsBytes (content_of m)
unfolding content_of
content_is_bytes m h = bytes_from_small (1 ∷ body_of m) (body_are m h)

pub batch_is_bytes : (batch : List Request) → batch_fits batch ≡ true → IsBytes (spelling_of_batch batch)
batch_is_bytes batch h = bytes_from_small (spelling_of_batch batch) (batch_are batch h)

pub signature_is_bytes : (m : Message) → fields_fit m ≡ true → IsBytes (signature_of m)
signature_is_bytes m h = bytes_from_small (signature_of m) (field LONGEST_SIGNATURE (signature_of m) (signature_does m h))
  where
    proposal_signed : (x : PrePrepare) → proposal_fits x ≡ true → signature_fits x.sig ≡ true
    proposal_signed x f = and_right (batch_fits x.batch) _ (and_right (is_u64 x.slot) _ (and_right (is_u64 x.view) _ (and_right (id_fits x.signer) _ f)))

    plea_signed : (x : Plea) → plea_fits x ≡ true → signature_fits x.sig ≡ true
    plea_signed x f = and_right (is_u32 x.count) _ (and_right (is_u64 x.round) _ (and_right (is_u8 x.target) _ (and_right (id_fits x.signer) _ f)))

    new_view_signed : (x : NewView) → new_view_fits x ≡ true → signature_fits x.sig ≡ true
    new_view_signed x f = and_right (view_changes_fit x.changes) _ (and_right (is_u64 x.view) _ (and_right (id_fits x.signer) _ f))

    note_signed : (x : Note) → note_fits x ≡ true → signature_fits x.sig ≡ true
    note_signed x f = and_right (lines_fit x.lines) _ (and_right (digest_fits x.digest) _ (and_right (is_u64 x.round) _ (and_right (id_fits x.signer) _ f)))

    signature_does : (x : Message) → fields_fit x ≡ true → signature_fits (signature_of x) ≡ true
    signature_does (Message.Request x) f = request_signed x f
    signature_does (Message.PrePrepare x) f = proposal_signed x f
    signature_does (Message.Prepare x) f = vote_signed x f
    signature_does (Message.Commit x) f = vote_signed x f
    signature_does (Message.Checkpoint x) f = checkpoint_signed x f
    signature_does (Message.ViewChange x) f = view_change_signed x f
    signature_does (Message.NewView x) f = new_view_signed x f
    signature_does (Message.Drvc x) f = plea_signed x f
    signature_does (Message.Rvc x) f = plea_signed x f
    signature_does (Message.ReplyNote x) f = note_signed x f
    signature_does (Message.Share x) f = refl
    signature_does (Message.Fetch x) f = refl

-- ---- one batch for a spelling: it stands at the end of a proposal's content

abbrev proposal_of : List Request → PrePrepare
proposal_of batch = record { signer = record { cluster = 0; index = 0 }; view = 0; slot = 0; batch = batch; sig = [] }

proposal_content : (a b : List Request) → spelling_of_batch a ≡ spelling_of_batch b
    → content_of (Message.PrePrepare (proposal_of a)) ≡ content_of (Message.PrePrepare (proposal_of b))
unfolding content_of
proposal_content a b e =
    ap (λ (l : List ℕ). 1 ∷ 2 ∷ 0 ∷ 0 ∷ 0 ∷ 0 ∷ 0 ∷ 0 ∷ 0 ∷ 0 ∷ 0 ∷ 0 ∷ 0 ∷ 0 ∷ 0 ∷ 0 ∷ 0 ∷ 0 ∷ 0 ∷ 0 ∷ l) e

same_batch : (x y : PrePrepare) → Message.PrePrepare x ≡ Message.PrePrepare y → x.batch ≡ y.batch
same_batch x y e = cc

proposal_does : (batch : List Request) → batch_fits batch ≡ true → fields_fit (Message.PrePrepare (proposal_of batch)) ≡ true
proposal_does batch h = and_both (batch_fits batch) true h refl

pub one_batch : (a b : List Request) → batch_fits a ≡ true → batch_fits b ≡ true → spelling_of_batch a ≡ spelling_of_batch b → a ≡ b
one_batch a b fa fb e =
    same_batch (proposal_of a) (proposal_of b)
    (told (Message.PrePrepare (proposal_of a)) (Message.PrePrepare (proposal_of b)) (proposal_does a fa) (proposal_does b fb) (proposal_content a b e))
