use Rattle.std.proofs.Common.{◌<◌, ◌++◌, ◌∷◌, [], List, length, ap, sym, ◌∙◌, subst}
use Rattle.std.proofs.lemmas.List.FromFn.{length-map-range_with_len}
use Rattle.fab_base.specs.declared.requests.Request.{Request}
use Rattle.lms_tree.specs.Keys.{TreeKey}
use Rattle.script_keys.specs.Keys.{key_of, client}
use Rattle.script_keys.proofs.Wishes.{asked_at, key_at, one_more}
use Rattle.script_keys.proofs.requests.signed_requests.Goals as goal

pub bounds-clients-wish : goal.bounds-clients-wish
bounds-clients-wish c =
    let w = c.index-wishes-k.result in
    let a = asked_at c.args.script.now c.as_slice-wishes.result.now c.loop-k.k w w c.requires.limits c.as_slice-wishes.ensures c.loop-k-test.true c.index-wishes-k.is in
    let long = ap length c.requires.clients ∙ length-map-range_with_len (λ number. key_of c.args.script.now (client number)) 0 (length c.args.script.now.homes) in
    subst (λ n. w.client.number < n) (sym long) a.declared

pub request_by-requires-clause-height : goal.request_by-requires-clause-height
request_by-requires-clause-height c =
    let w = c.index-wishes-k.result in
    let a = asked_at c.args.script.now c.as_slice-wishes.result.now c.loop-k.k w w c.requires.limits c.as_slice-wishes.ensures c.loop-k-test.true c.index-wishes-k.is in
    ap (λ (k : TreeKey). k.height)
    (key_at c.args.script.now c.args.clients.now w.client.number c.index-clients-wish.result c.index-clients-wish.result c.requires.clients a.declared c.index-clients-wish.is)

pub request_by-requires-clause-number : goal.request_by-requires-clause-number
request_by-requires-clause-number c =
    let w = c.index-wishes-k.result in
    (asked_at c.args.script.now c.as_slice-wishes.result.now c.loop-k.k w w c.requires.limits c.as_slice-wishes.ensures c.loop-k-test.true c.index-wishes-k.is).number

pub request_by-requires-clause-stamp : goal.request_by-requires-clause-stamp
request_by-requires-clause-stamp c =
    let w = c.index-wishes-k.result in
    (asked_at c.args.script.now c.as_slice-wishes.result.now c.loop-k.k w w c.requires.limits c.as_slice-wishes.ensures c.loop-k-test.true c.index-wishes-k.is).stamp

pub request_by-requires-clause-op : goal.request_by-requires-clause-op
request_by-requires-clause-op c =
    let w = c.index-wishes-k.result in
    (asked_at c.args.script.now c.as_slice-wishes.result.now c.loop-k.k w w c.requires.limits c.as_slice-wishes.ensures c.loop-k-test.true c.index-wishes-k.is).op

pub loop-k-preserved : goal.loop-k-preserved
loop-k-preserved c =
    let script = c.args.script.now in
    let ws = c.as_slice-wishes.result.now in
    let w = c.index-wishes-k.result in
    let a = asked_at script ws c.loop-k.k w w c.requires.limits c.as_slice-wishes.ensures c.loop-k-test.true c.index-wishes-k.is in
    let key = key_at script c.args.clients.now w.client.number c.index-clients-wish.result c.index-clients-wish.result c.requires.clients a.declared c.index-clients-wish.is in
    c.in_ok-push.ensures.ok ∙ ap (λ (l : List Request). l ++ c.in_ok-request_by.field-0 ∷ []) c.loop-k.invariant
    ∙ one_more script ws c.loop-k.k w w c.index-clients-wish.result c.in_ok-request_by.field-0 c.loop-k-test.true c.index-wishes-k.is key c.in_ok-request_by.ensures
