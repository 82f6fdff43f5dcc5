-- What stands among the parts of a message: the changes of a new view, the Prepares that they quote, the requests of each batch.
use Rattle.std.proofs.Common.{◌≡◌, true, List, map, inl, inr, refl, sym, subst}
use Rattle.std.specs.Option.{is_some}
use Rattle.std.specs.List.{flat_map}
use Rattle.fab_base.specs.declared.requests.Request.{Request}
use Rattle.fab_base.specs.declared.messages.PreparedCert.{PreparedCert}
use Rattle.fab_base.specs.declared.messages.ViewChange.{ViewChange}
use Rattle.fab_base.specs.declared.messages.NewView.{NewView}
use Rattle.fab_base.specs.declared.messages.Vote.{Vote}
use Rattle.fab_base.specs.declared.messages.Message.{Message}
use Rattle.fab_rules.specs.Lists.{In}
use Rattle.fab_rules.specs.Statements.{signer_of, parts_of_certificate, parts_of_change, parts_of, statements_of, batches_of_change, batches_of}
use Rattle.fab_rules.proofs.Lists.{in_append_left, in_append_right, in_map, of_map, in_flat_map, of_flat_map, in_filter}

-- a part that somebody signs is a statement
pub part_is_statement : (m p : Message) → In p (parts_of m) → is_some (signer_of p) ≡ true → In p (statements_of m)
part_is_statement m p h signed = in_filter (λ q. is_some (signer_of q)) p (parts_of m) h signed

pub change_is_part : (x : NewView) (c : ViewChange) → In c x.changes → In (Message.ViewChange c) (parts_of (Message.NewView x))
change_is_part x c h = inr (in_flat_map parts_of_change c (Message.ViewChange c) x.changes h (inl refl))

-- what stands in a certificate of a change stands in the change
in_change : (c : ViewChange) (k : PreparedCert) (p : Message) → In k c.prepared → In p (parts_of_certificate k) → In p (parts_of_change c)
in_change c k p h q =
    inr (in_append_right p (map Message.Checkpoint c.proof) (flat_map parts_of_certificate c.prepared)
    (in_flat_map parts_of_certificate k p c.prepared h q))

pub prepare_is_part : (x : NewView) (c : ViewChange) (k : PreparedCert) (v : Vote) → In c x.changes → In k c.prepared → In v k.votes
    → In (Message.Prepare v) (parts_of (Message.NewView x))
prepare_is_part x c k v h q l =
    let p : Message = Message.Prepare v in
    let in_certificate = in_append_right p (map Message.Request k.batch) (map Message.Prepare k.votes) (in_map Message.Prepare v k.votes l) in
    inr (in_flat_map parts_of_change c p x.changes h (in_change c k p q in_certificate))

request_in_change : (c : ViewChange) (batch : List Request) (x : Request) → In batch (batches_of_change c) → In x batch
    → In (Message.Request x) (parts_of_change c)
request_in_change c batch x h l =
    let p : Message = Message.Request x in
    let from = of_map (λ q. q.batch) batch c.prepared h in
    let k : PreparedCert = from.from in
    let in_batch = in_map Message.Request x k.batch (subst (λ b. In x b) (sym from.same) l) in
    in_change c k p from.is_in (in_append_left p (map Message.Request k.batch) (map Message.Prepare k.votes) in_batch)

-- each request of each batch
pub request_is_part : (m : Message) (batch : List Request) (x : Request) → In batch (batches_of m) → In x batch
    → In (Message.Request x) (parts_of m)
request_is_part (Message.PrePrepare m) batch x (inl e) l = inr (in_map Message.Request x m.batch (subst (λ b. In x b) (sym e) l))
request_is_part (Message.PrePrepare m) batch x (inr h) l = absurd h
request_is_part (Message.ViewChange m) batch x h l = request_in_change m batch x h l
request_is_part (Message.NewView m) batch x h l =
    let from = of_flat_map batches_of_change batch m.changes h in
    inr (in_flat_map parts_of_change from.from (Message.Request x) m.changes from.is_in (request_in_change from.from batch x from.inside l))
request_is_part (Message.Share m) batch x (inl e) l =
    let in_batch = in_map Message.Request x m.batch (subst (λ b. In x b) (sym e) l) in
    inr (in_append_left (Message.Request x) (map Message.Request m.batch) (map Message.Commit m.votes) in_batch)
request_is_part (Message.Share m) batch x (inr h) l = absurd h
request_is_part m batch x h l = absurd h
