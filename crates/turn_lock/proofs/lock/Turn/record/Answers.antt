use Rattle.std.proofs.Common.{arith}
use Rattle.turn_lock.proofs.Keeping.{records}
use Rattle.turn_lock.proofs.lock.Turn.record.Goals as goal

pub fetch_add-requires : goal.fetch_add-requires
fetch_add-requires g c =
    let J = g.M.Machine in
    let p = c.requires.pass in
    let h = c.requires.held in
    let setup = c.args.self.now.table.shared.key in (
      p.0,
      omega (arith, c.args.self.now.counts.0),
      records J.journal J.made J.plays setup.machine.value setup.seats _ _ c.args.pass.now.me h.0 h.1 h.2 h.3 h.4 p.1 p.3 p.2 h.5 h.6 h.7,
    )
