use Rattle.forged_example.proofs.Hearings.{heard_at}
use Rattle.forged_example.proofs.hearing.hear_at.Goals as goal

pub hear-requires-clause-made : goal.hear-requires-clause-made
hear-requires-clause-made c = c.requires.made c.args.place c.index-logs-place.result c.requires.there

pub returns : goal.returns
returns c = heard_at c.hear.result c.args.logs.now c.args.place c.index-logs-place.result c.hear.new.log c.hear.ensures
