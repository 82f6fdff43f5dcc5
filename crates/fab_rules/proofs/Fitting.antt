-- What a message within the ranges, counts and lengths tells of what stands in it.
use Rattle.std.proofs.Common.{◌≡◌, ◌≤◌, true, List, length, map, sym, ap, ◌∙◌, inl, inr}
use Rattle.std.specs.List.{list_all}
use Rattle.fab_base.specs.declared.limits.TheConstants.{LONGEST_MESSAGE, MOST_CERTIFICATES, MOST_REQUESTS, MOST_STATEMENTS}
use Rattle.fab_base.specs.declared.requests.Request.{Request}
use Rattle.fab_base.specs.declared.messages.Vote.{Vote}
use Rattle.fab_base.specs.declared.messages.PreparedCert.{PreparedCert}
use Rattle.fab_base.specs.declared.messages.CommitCert.{CommitCert}
use Rattle.fab_base.specs.declared.messages.PrePrepare.{PrePrepare}
use Rattle.fab_base.specs.declared.messages.ViewChange.{ViewChange}
use Rattle.fab_base.specs.declared.messages.NewView.{NewView}
use Rattle.fab_base.specs.declared.messages.Message.{Message}
use Rattle.fab_base.proofs.Tests.{and_left, and_right, at_most}
use Rattle.fab_rules.specs.Lists.{In, rises_by}
use Rattle.fab_rules.specs.Spelling.{spelling_of}
use Rattle.fab_rules.specs.Format.{is_u8, is_u32, is_u64, id_fits, digest_fits, signature_fits, comes_before, request_fits, batch_fits, vote_fits, votes_fit, proof_fits, certificate_fits, certificates_fit, share_fits, proposal_fits, view_change_fits, view_changes_fit, new_view_fits, fields_fit, fits}
use Rattle.fab_rules.specs.Format as format
use Rattle.fab_rules.specs.Statements.{batches_of_change, batches_of}
use Rattle.fab_rules.proofs.Lists.{each_passes, of_map, of_flat_map}

pub fields_are : (m : Message) → fits m ≡ true → fields_fit m ≡ true
fields_are m h = and_left (fields_fit m) _ h

pub short_message : (m : Message) → fits m ≡ true → length (spelling_of m) ≤ LONGEST_MESSAGE
short_message m h = at_most (length (spelling_of m)) LONGEST_MESSAGE (and_right (fields_fit m) _ h)

-- ---- votes

pub votes_rise : (votes : List Vote) → votes_fit votes ≡ true → rises_by comes_before (map (λ v. v.signer) votes) ≡ true
votes_rise votes h = and_right (list_all vote_fits votes) _ (and_right (format.at_most MOST_STATEMENTS votes) _ h)

pub each_vote_fits : (votes : List Vote) (v : Vote) → votes_fit votes ≡ true → In v votes → vote_fits v ≡ true
each_vote_fits votes v h k = each_passes vote_fits votes v (and_left (list_all vote_fits votes) _ (and_right (format.at_most MOST_STATEMENTS votes) _ h)) k

pub vote_digest_fits : (v : Vote) → vote_fits v ≡ true → digest_fits v.digest ≡ true
vote_digest_fits v h = and_left (digest_fits v.digest) _ (and_right (is_u64 v.slot) _ (and_right (is_u64 v.view) _ (and_right (id_fits v.signer) _ h)))

-- ---- requests and batches

pub few_requests : (batch : List Request) → batch_fits batch ≡ true → length batch ≤ MOST_REQUESTS
few_requests batch h = at_most (length batch) MOST_REQUESTS (and_left (format.at_most MOST_REQUESTS batch) _ h)

pub each_request_fits : (batch : List Request) (x : Request) → batch_fits batch ≡ true → In x batch → request_fits x ≡ true
each_request_fits batch x h k = each_passes request_fits batch x (and_right (format.at_most MOST_REQUESTS batch) _ h) k

pub proposal_batch_fits : (p : PrePrepare) → proposal_fits p ≡ true → batch_fits p.batch ≡ true
proposal_batch_fits p h = and_left (batch_fits p.batch) _ (and_right (is_u64 p.slot) _ (and_right (is_u64 p.view) _ (and_right (id_fits p.signer) _ h)))

pub share_batch_fits : (k : CommitCert) → share_fits k ≡ true → batch_fits k.batch ≡ true
share_batch_fits k h = and_left (batch_fits k.batch) _ (and_right (is_u8 k.cluster) _ h)

pub share_votes_fit : (k : CommitCert) → share_fits k ≡ true → votes_fit k.votes ≡ true
share_votes_fit k h = and_right (batch_fits k.batch) _ (and_right (is_u8 k.cluster) _ h)

pub certificate_batch_fits : (k : PreparedCert) → certificate_fits k ≡ true → batch_fits k.batch ≡ true
certificate_batch_fits k h = and_left (batch_fits k.batch) _ (and_right (is_u64 k.slot) _ (and_right (is_u64 k.view) _ h))

pub certificate_votes_fit : (k : PreparedCert) → certificate_fits k ≡ true → votes_fit k.votes ≡ true
certificate_votes_fit k h = and_right (batch_fits k.batch) _ (and_right (is_u64 k.slot) _ (and_right (is_u64 k.view) _ h))

-- ---- view changes and new views

pub certificates_are : (c : ViewChange) → view_change_fits c ≡ true → certificates_fit c.prepared ≡ true
certificates_are c h =
    and_left (certificates_fit c.prepared) _
    (and_right (proof_fits c.proof) _ (and_right (is_u64 c.low) _ (and_right (is_u64 c.view) _ (and_right (id_fits c.signer) _ h))))

pub each_certificate_fits : (c : ViewChange) (k : PreparedCert) → view_change_fits c ≡ true → In k c.prepared → certificate_fits k ≡ true
each_certificate_fits c k h q =
    each_passes certificate_fits c.prepared k
    (and_left (list_all certificate_fits c.prepared) _ (and_right (format.at_most MOST_CERTIFICATES c.prepared) _ (certificates_are c h))) q

pub changes_are : (x : NewView) → new_view_fits x ≡ true → view_changes_fit x.changes ≡ true
changes_are x h = and_left (view_changes_fit x.changes) _ (and_right (is_u64 x.view) _ (and_right (id_fits x.signer) _ h))

pub changes_rise : (changes : List ViewChange) → view_changes_fit changes ≡ true → rises_by comes_before (map (λ c. c.signer) changes) ≡ true
changes_rise changes h = and_right (list_all view_change_fits changes) _ (and_right (format.at_most MOST_STATEMENTS changes) _ h)

pub each_change_fits : (changes : List ViewChange) (c : ViewChange) → view_changes_fit changes ≡ true → In c changes → view_change_fits c ≡ true
each_change_fits changes c h q =
    each_passes view_change_fits changes c
    (and_left (list_all view_change_fits changes) _ (and_right (format.at_most MOST_STATEMENTS changes) _ h)) q

-- ---- the batches in a message

change_batch_fits : (c : ViewChange) (batch : List Request) → view_change_fits c ≡ true → In batch (batches_of_change c) → batch_fits batch ≡ true
change_batch_fits c batch h q =
    let m = of_map (λ k. k.batch) batch c.prepared q in
    ap batch_fits (sym m.same) ∙ certificate_batch_fits m.from (each_certificate_fits c m.from h m.is_in)

pub each_batch_fits : (m : Message) (batch : List Request) → fields_fit m ≡ true → In batch (batches_of m) → batch_fits batch ≡ true
each_batch_fits (Message.PrePrepare x) batch h (inl e) = ap batch_fits (sym e) ∙ proposal_batch_fits x h
each_batch_fits (Message.PrePrepare x) batch h (inr q) = absurd q
each_batch_fits (Message.ViewChange x) batch h q = change_batch_fits x batch h q
each_batch_fits (Message.NewView x) batch h q =
    let from = of_flat_map batches_of_change batch x.changes q in
    change_batch_fits from.from batch (each_change_fits x.changes from.from (changes_are x h) from.is_in) from.inside
each_batch_fits (Message.Share x) batch h (inl e) = ap batch_fits (sym e) ∙ share_batch_fits x h
each_batch_fits (Message.Share x) batch h (inr q) = absurd q
each_batch_fits m batch h q = absurd q
