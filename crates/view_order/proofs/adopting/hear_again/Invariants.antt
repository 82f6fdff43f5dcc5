-- what was heard so far, and then those that are left, is the whole
use Rattle.view_order.proofs.HeardAgain.{HeardSo}
use Rattle.view_order.proofs.adopting.hear_again.Given as goal

abbrev pub invariant-loop-message : goal.invariant-loop-message
invariant-loop-message l = HeardSo l.initial.order l.order l.fn.messages l.message-iterator.rest.items l.initial.outs l.outs
