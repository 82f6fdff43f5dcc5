use Rattle.fab_rules.proofs.Fitting.{fields_are}
use Rattle.bft_msg.proofs.Fitting.{parts_fit}
use Rattle.bft_msg.proofs.judging.judge_parts.Goals as goal

pub walk-requires-clause-may : goal.walk-requires-clause-may
walk-requires-clause-may g c = parts_fit c.args.message.now (fields_are c.args.message.now c.requires)
