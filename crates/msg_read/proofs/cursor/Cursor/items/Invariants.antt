use Rattle.std.proofs.Common.{◌≡◌, ◌-◌}
use Rattle.msg_read.specs.Steps.{items}
use Rattle.msg_read.proofs.Loops.{with_front}
use Rattle.msg_read.proofs.cursor.Cursor.items.Given as goal

abbrev pub invariant-loop : goal.invariant-loop
invariant-loop g l =
    with_front l.items (items (g.T.Listed.reads l.tag) g.T.Listed.keeps (l.count - l.counter) l.last l.self) ≡ items (g.T.Listed.reads l.tag) g.T.Listed.keeps l.count l.fn.none l.fn.self
