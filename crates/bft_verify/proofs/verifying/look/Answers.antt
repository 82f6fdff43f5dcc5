use Rattle.bft_verify.proofs.verifying.look.Goals as goal

pub returns : goal.returns
returns c = c.judge_parts.ensures
