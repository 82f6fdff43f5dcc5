use Rattle.view_order.proofs.HeardAgain.{first_shaped, heard_more}
use Rattle.view_order.proofs.adopting.hear_again.Goals as goal

pub hear_one-requires : goal.hear_one-requires
hear_one-requires c =
    first_shaped c.args.order.now c.loop-message.order c.args.messages c.loop-message.message-iterator.rest.items c.next.new.self.rest.items c.args.outs.now
    c.loop-message.outs c.in-Some.message c.in-Some.ensures.steps.0 c.loop-message.invariant c.requires.shaped

pub loop-message-preserved : goal.loop-message-preserved
loop-message-preserved c =
    heard_more c.args.order.now c.loop-message.order c.hear_one.new.order c.args.messages c.loop-message.message-iterator.rest.items c.next.new.self.rest.items
    c.args.outs.now c.loop-message.outs c.hear_one.new.outs c.in-Some.message c.in-Some.ensures.steps.0 c.in_ok-hear_one.ensures.state
    c.in_ok-hear_one.ensures.outs c.loop-message.invariant
