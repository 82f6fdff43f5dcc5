use Rattle.std.proofs.Common.{sym}
use Rattle.view_order.proofs.Keeping.{always, and_if}
use Rattle.view_order.proofs.Entering.{adopted_answer}
use Rattle.view_order.proofs.adopting.adopt.Goals as goal

pub returns-clause-answer : goal.returns-clause-answer
returns-clause-answer c =
    let o = c.args.order.now in
    let x = c.args.new_view.now in
    and_if _ c.put_adopted.result _ c.and.result c.and.ensures (always c.put_adopted.result (sym (adopted_answer o x)))
