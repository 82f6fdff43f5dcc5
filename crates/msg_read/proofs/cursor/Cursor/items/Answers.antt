use Rattle.std.proofs.lemmas.Result.{err_from_is_err_and}
use Rattle.msg_read.specs.Steps.{items}
use Rattle.msg_read.proofs.Loops.{goes_on, ends, is_done}
use Rattle.msg_read.proofs.cursor.Cursor.items.Goals as goal

pub returns-in_err-item : goal.returns-in_err-item
returns-in_err-item g c =
    let p = err_from_is_err_and c.from_residual.result c.from_residual.ensures.1 in
    rw (p.1, p.2) (ends (g.T.Listed.reads c.args.tag) g.T.Listed.keeps c.in_err-item.field-0.0 c.loop.items c.args.count c.loop.counter c.loop.last c.loop.self (items (g.T.Listed.reads c.args.tag) g.T.Listed.keeps c.args.count c.args.none c.args.self.now) c.loop-test.true c.in_err-item.ensures c.loop.invariant)

pub loop-preserved : goal.loop-preserved
loop-preserved g c =
    rw (c.in_ok-push.ensures.ok, c.kept-last.ensures) (goes_on (g.T.Listed.reads c.args.tag) g.T.Listed.keeps c.loop.items c.args.count c.loop.counter c.loop.last c.loop.self c.in_ok-item.item c.read.new.cursor (items (g.T.Listed.reads c.args.tag) g.T.Listed.keeps c.args.count c.args.none c.args.self.now) c.loop-test.true c.in_ok-item.ensures c.loop.invariant)

pub returns : goal.returns
returns g c = is_done (g.T.Listed.reads c.args.tag) g.T.Listed.keeps c.loop.items c.args.count c.loop.counter c.loop.last c.loop.self (items (g.T.Listed.reads c.args.tag) g.T.Listed.keeps c.args.count c.args.none c.args.self.now) c.loop-test.false c.loop.invariant
