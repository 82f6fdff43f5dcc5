use Rattle.sha_lanes.proofs.HashLemmas.{windows}
use Rattle.sha_lanes.proofs.states.absorb4.Goals as goal

pub returns : goal.returns
returns c = λ b held i lt. c.compress.ensures b (windows c.args.words.now b c.told-words held) i lt
