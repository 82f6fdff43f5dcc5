use Rattle.script_keys.proofs.Wishes.{signed_at}
use Rattle.script_keys.proofs.copies.request_copies.Goals as goal

pub put_request-requires-clause-declared : goal.put_request-requires-clause-declared
put_request-requires-clause-declared c =
    let r = c.index-requests-k.result in
    (signed_at c.args.script.now c.args.requests.now c.loop-k.k r r c.requires.limits c.requires.requests c.loop-k-test.true c.index-requests-k.is).declared

pub put_request-requires-clause-fits : goal.put_request-requires-clause-fits
put_request-requires-clause-fits c =
    let r = c.index-requests-k.result in
    (signed_at c.args.script.now c.args.requests.now c.loop-k.k r r c.requires.limits c.requires.requests c.loop-k-test.true c.index-requests-k.is).has_fields
