use Rattle.fab_rules.specs.Spelling.{signed, vote_body}
use Rattle.msg_spell.proofs.Joining.{goes_on}
use Rattle.msg_spell.proofs.votes.put_each_vote.Goals as goal

pub loop-vote-preserved : goal.loop-vote-preserved
loop-vote-preserved g c =
    goes_on (λ v. signed (vote_body c.args.tag v) v.sig) c.args.votes.now c.loop-vote.vote-index c.vote-item.result c.loop-vote-test.true c.vote-item.is
    c.loop-vote.invariant c.in_ok-put_vote.ensures
