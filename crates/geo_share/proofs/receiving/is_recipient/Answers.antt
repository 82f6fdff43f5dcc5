use Rattle.std.proofs.Common.{◌∙◌, ap}
use Rattle.fab_base.specs.Quorums.{is_member}
use Rattle.geo_share.specs.Receiving.{receivers}
use Rattle.geo_share.proofs.Listed.{listed}
use Rattle.geo_share.proofs.receiving.is_recipient.Goals as goal

pub returns-clause-listed : goal.returns-clause-listed
returns-clause-listed c =
    let me = c.args.me in
    let answer = c.receives.ensures ∙ ap (λ n. is_member (receivers n c.args.round) me.index) c.size.ensures.is in
    listed c.args.members.now me c.args.round c.receives.result answer
