use Rattle.std.proofs.Common.{arith}
use Rattle.turn_lock.proofs.Keeping.{learns}
use Rattle.turn_lock.proofs.lock.Turn.learn.Goals as goal

pub load-requires : goal.load-requires
load-requires g c =
    let J = g.M.Machine in
    let p = c.requires.pass in
    let setup = c.args.self.now.table.shared.key in (
      p,
      omega (arith, c.args.self.now.counts.0),
      learns J.journal J.made J.plays setup.machine.value setup.seats _ _ c.args.pass.now.me,
    )
