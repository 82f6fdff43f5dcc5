use Rattle.bft_verify.specs.Ring.{is_fabric_key}
use Rattle.message_check.proofs.Gaining.{one_more}
use Rattle.message_check.proofs.keys.put_key.Goals as goal

pub returns-clause-kinds : goal.returns-clause-kinds
returns-clause-kinds c = one_more is_fabric_key _ _ _ c.in_ok-push.ensures.items c.requires.kinds c.requires.key
