-- What stands in a share: its Commits and its requests are statements of it.
use Rattle.std.proofs.Common.{map, inr, refl}
use Rattle.std.specs.Option.{is_some}
use Rattle.fab_base.specs.declared.requests.Request.{Request}
use Rattle.fab_base.specs.declared.messages.Vote.{Vote}
use Rattle.fab_base.specs.declared.messages.CommitCert.{CommitCert}
use Rattle.fab_base.specs.declared.messages.Message.{Message}
use Rattle.fab_rules.specs.Lists.{In}
use Rattle.fab_rules.specs.Statements.{signer_of, parts_of, statements_of}
use Rattle.fab_rules.proofs.Lists.{in_append_left, in_append_right, in_map, in_filter}

pub commit_in_share : (k : CommitCert) (v : Vote) → In v k.votes → In (Message.Commit v) (statements_of (Message.Share k))
commit_in_share k v h =
    in_filter (λ p. is_some (signer_of p)) (Message.Commit v) (parts_of (Message.Share k))
    (inr (in_append_right (Message.Commit v) (map Message.Request k.batch) (map Message.Commit k.votes) (in_map Message.Commit v k.votes h))) refl

pub request_in_share : (k : CommitCert) (x : Request) → In x k.batch → In (Message.Request x) (statements_of (Message.Share k))
request_in_share k x h =
    in_filter (λ p. is_some (signer_of p)) (Message.Request x) (parts_of (Message.Share k))
    (inr (in_append_left (Message.Request x) (map Message.Request k.batch) (map Message.Commit k.votes) (in_map Message.Request x k.batch h))) refl
