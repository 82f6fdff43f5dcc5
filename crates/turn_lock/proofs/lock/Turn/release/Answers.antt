use Rattle.std.proofs.Common.{arith}
use Rattle.turn_lock.proofs.Keeping.{releases}
use Rattle.turn_lock.proofs.lock.Turn.release.Goals as goal

pub store-requires : goal.store-requires
store-requires g c =
    let J = g.M.Machine in
    let p = c.requires.pass in
    let h = c.requires.held in
    let setup = c.args.self.now.table.shared.key in (
      p.0,
      omega (arith, c.args.self.now.counts.0),
      releases J.journal J.made J.plays setup.machine.value setup.seats _ _ c.args.pass.now.me h.0 c.args.self.now.counts.1 h.1 p.1 h.2 h.3,
    )
