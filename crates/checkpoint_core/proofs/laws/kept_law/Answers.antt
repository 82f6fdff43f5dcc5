use Rattle.checkpoint_core.proofs.Keeping.{none_are, vote_keeps, pruned_keeps}
use Rattle.checkpoint_core.proofs.laws.kept_law.Goals as goal

pub returns-clause-none : goal.returns-clause-none
returns-clause-none c = none_are

pub returns-clause-vote : goal.returns-clause-vote
returns-clause-vote c = vote_keeps

pub returns-clause-prune : goal.returns-clause-prune
returns-clause-prune c = pruned_keeps
