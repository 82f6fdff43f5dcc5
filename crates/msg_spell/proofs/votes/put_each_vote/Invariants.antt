use Rattle.std.proofs.Common.{take}
use Rattle.std.specs.List.{flat_map}
use Rattle.fab_rules.specs.Spelling.{signed, vote_body}
use Rattle.msg_spell.specs.Pieces.{Gains}
use Rattle.msg_spell.proofs.votes.put_each_vote.Given as goal

abbrev pub invariant-loop-vote : goal.invariant-loop-vote
invariant-loop-vote g l = Gains g.W.Writer.holds l.fn.out l.out (flat_map (λ v. signed (vote_body l.tag v) v.sig) (take l.vote-index l.votes))
