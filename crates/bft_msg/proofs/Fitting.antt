-- The parts of a message that has a spelling: each is within the ranges, and there are few.
use Rattle.std.specs.List.{AllByRecursion, flat_map, list_all}
use Rattle.std.proofs.Common.{◌≡◌, ℕ, ◌+◌, ◌*◌, ◌≤◌, true, List, length, map, arith}
use Rattle.std.proofs.lemmas.List.{length-append, length-map}
use Rattle.fab_base.specs.declared.limits.TheConstants.{MOST_CERTIFICATES, MOST_REQUESTS, MOST_STATEMENTS}
use Rattle.fab_base.specs.declared.requests.Request.{Request}
use Rattle.fab_base.specs.declared.messages.Vote.{Vote}
use Rattle.fab_base.specs.declared.messages.StableVote.{StableVote}
use Rattle.fab_base.specs.declared.messages.PreparedCert.{PreparedCert}
use Rattle.fab_base.specs.declared.messages.ViewChange.{ViewChange}
use Rattle.fab_base.specs.declared.messages.Message.{Message}
use Rattle.fab_base.proofs.Tests.{and_left, and_right, at_most}
use Rattle.fab_rules.specs.Statements.{parts_of_certificate, parts_of_change, parts_of}
use Rattle.fab_rules.specs.Format as format
use Rattle.fab_rules.specs.Format.{is_u64, id_fits, request_fits, batch_fits, vote_fits, votes_fit, stable_vote_fits, proof_fits, certificate_fits, certificates_fit, view_change_fits, view_changes_fit, new_view_fits, fields_fit}
use Rattle.fab_rules.proofs.Fitting.{few_requests, proposal_batch_fits, share_batch_fits, share_votes_fit, certificate_batch_fits, certificate_votes_fit, certificates_are, changes_are}
use Rattle.bft_msg.proofs.Alls.{all_append, all_map, all_flat_map, few_in_all}

abbrev Fits : Message → Type 0
Fits p = fields_fit p ≡ true

-- ---- lists

requests_fit : (batch : List Request) → batch_fits batch ≡ true → list_all request_fits batch ≡ true
requests_fit batch h = and_right (format.at_most MOST_REQUESTS batch) _ h

few_votes : (votes : List Vote) → votes_fit votes ≡ true → length votes ≤ MOST_STATEMENTS
few_votes votes h = at_most (length votes) MOST_STATEMENTS (and_left (format.at_most MOST_STATEMENTS votes) _ h)

all_votes_fit : (votes : List Vote) → votes_fit votes ≡ true → list_all vote_fits votes ≡ true
all_votes_fit votes h = and_left (list_all vote_fits votes) _ (and_right (format.at_most MOST_STATEMENTS votes) _ h)

few_stable_votes : (votes : List StableVote) → proof_fits votes ≡ true → length votes ≤ MOST_STATEMENTS
few_stable_votes votes h = at_most (length votes) MOST_STATEMENTS (and_left (format.at_most MOST_STATEMENTS votes) _ h)

all_stable_votes_fit : (votes : List StableVote) → proof_fits votes ≡ true → list_all stable_vote_fits votes ≡ true
all_stable_votes_fit votes h = and_left (list_all stable_vote_fits votes) _ (and_right (format.at_most MOST_STATEMENTS votes) _ h)

few_certificates : (prepared : List PreparedCert) → certificates_fit prepared ≡ true → length prepared ≤ MOST_CERTIFICATES
few_certificates prepared h = at_most (length prepared) MOST_CERTIFICATES (and_left (format.at_most MOST_CERTIFICATES prepared) _ h)

pub all_certificates_fit : (prepared : List PreparedCert) → certificates_fit prepared ≡ true → list_all certificate_fits prepared ≡ true
all_certificates_fit prepared h = and_left (list_all certificate_fits prepared) _ (and_right (format.at_most MOST_CERTIFICATES prepared) _ h)

few_changes : (changes : List ViewChange) → view_changes_fit changes ≡ true → length changes ≤ MOST_STATEMENTS
few_changes changes h = at_most (length changes) MOST_STATEMENTS (and_left (format.at_most MOST_STATEMENTS changes) _ h)

all_changes_fit : (changes : List ViewChange) → view_changes_fit changes ≡ true → list_all view_change_fits changes ≡ true
all_changes_fit changes h = and_left (list_all view_change_fits changes) _ (and_right (format.at_most MOST_STATEMENTS changes) _ h)

proof_is : (c : ViewChange) → view_change_fits c ≡ true → proof_fits c.proof ≡ true
proof_is c h =
    and_left (proof_fits c.proof) _ (and_right (is_u64 c.low) _ (and_right (is_u64 c.view) _ (and_right (id_fits c.signer) _ h)))

-- ---- each part fits

requests_do : (batch : List Request) → batch_fits batch ≡ true → AllByRecursion Fits (map Message.Request batch)
requests_do batch h = all_map Fits request_fits Message.Request (λ x e. e) batch (requests_fit batch h)

certificate_does : (k : PreparedCert) → certificate_fits k ≡ true → AllByRecursion Fits (parts_of_certificate k)
certificate_does k h =
    all_append Fits (map Message.Request k.batch) (map Message.Prepare k.votes) (requests_do k.batch (certificate_batch_fits k h))
    (all_map Fits vote_fits Message.Prepare (λ x e. e) k.votes (all_votes_fit k.votes (certificate_votes_fit k h)))

change_does : (c : ViewChange) → view_change_fits c ≡ true → AllByRecursion Fits (parts_of_change c)
change_does c h = (
  h,
  all_append Fits (map Message.Checkpoint c.proof) (flat_map parts_of_certificate c.prepared)
      (all_map Fits stable_vote_fits Message.Checkpoint (λ x e. e) c.proof (all_stable_votes_fit c.proof (proof_is c h)))
      (all_flat_map Fits certificate_fits parts_of_certificate certificate_does c.prepared (all_certificates_fit c.prepared (certificates_are c h))),
)

pub parts_fit : (m : Message) → fields_fit m ≡ true → AllByRecursion (λ p. fields_fit p ≡ true) (parts_of m)
parts_fit (Message.Request x) h = (h, tt)
parts_fit (Message.PrePrepare x) h = (h, requests_do x.batch (proposal_batch_fits x h))
parts_fit (Message.Prepare x) h = (h, tt)
parts_fit (Message.Commit x) h = (h, tt)
parts_fit (Message.Checkpoint x) h = (h, tt)
parts_fit (Message.ViewChange x) h = change_does x h
parts_fit (Message.NewView x) h = (h, all_flat_map Fits view_change_fits parts_of_change change_does x.changes (all_changes_fit x.changes (changes_are x h)))
parts_fit (Message.Drvc x) h = (h, tt)
parts_fit (Message.Rvc x) h = (h, tt)
parts_fit (Message.ReplyNote x) h = (h, tt)
parts_fit (Message.Share x) h = (
  h,
  all_append Fits (map Message.Request x.batch) (map Message.Commit x.votes) (requests_do x.batch (share_batch_fits x h))
      (all_map Fits vote_fits Message.Commit (λ v e. e) x.votes (all_votes_fit x.votes (share_votes_fit x h))),
)
parts_fit (Message.Fetch x) h = (h, tt)

-- ---- and there are few

abbrev most_in_certificate : ℕ
most_in_certificate = MOST_REQUESTS + MOST_STATEMENTS

abbrev most_in_change : ℕ
most_in_change = 1 + MOST_STATEMENTS + MOST_CERTIFICATES * most_in_certificate

abbrev pub most_parts : ℕ
most_parts = 1 + MOST_STATEMENTS * most_in_change

few_in_certificate : (k : PreparedCert) → certificate_fits k ≡ true → length (parts_of_certificate k) ≤ most_in_certificate
few_in_certificate k h =
    omega (
      arith,
      few_requests k.batch (certificate_batch_fits k h),
      few_votes k.votes (certificate_votes_fit k h),
      length-append (map Message.Request k.batch) (map Message.Prepare k.votes),
      length-map k.batch Message.Request,
      length-map k.votes Message.Prepare,
    )

few_in_change : (c : ViewChange) → view_change_fits c ≡ true → length (parts_of_change c) ≤ most_in_change
few_in_change c h =
    omega (
      arith,
      few_stable_votes c.proof (proof_is c h),
      few_certificates c.prepared (certificates_are c h),
      length-map c.proof Message.Checkpoint,
      few_in_all certificate_fits parts_of_certificate most_in_certificate few_in_certificate c.prepared (all_certificates_fit c.prepared (certificates_are c h)),
      length-append (map Message.Checkpoint c.proof) (flat_map parts_of_certificate c.prepared),
    )

pub few_parts : (m : Message) → fields_fit m ≡ true → length (parts_of m) ≤ most_parts
few_parts (Message.Request x) h = omega arith
few_parts (Message.PrePrepare x) h = omega (arith, few_requests x.batch (proposal_batch_fits x h), length-map x.batch Message.Request)
few_parts (Message.Prepare x) h = omega arith
few_parts (Message.Commit x) h = omega arith
few_parts (Message.Checkpoint x) h = omega arith
few_parts (Message.ViewChange x) h = omega (arith, few_in_change x h)
few_parts (Message.NewView x) h =
    omega (
      arith,
      few_changes x.changes (changes_are x h),
      few_in_all view_change_fits parts_of_change most_in_change few_in_change x.changes (all_changes_fit x.changes (changes_are x h)),
    )
few_parts (Message.Drvc x) h = omega arith
few_parts (Message.Rvc x) h = omega arith
few_parts (Message.ReplyNote x) h = omega arith
few_parts (Message.Share x) h =
    omega (
      arith,
      few_requests x.batch (share_batch_fits x h),
      few_votes x.votes (share_votes_fit x h),
      length-append (map Message.Request x.batch) (map Message.Commit x.votes),
      length-map x.batch Message.Request,
      length-map x.votes Message.Commit,
    )
few_parts (Message.Fetch x) h = omega arith
