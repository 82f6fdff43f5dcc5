use Rattle.std.proofs.Common.{arith}
use Rattle.turn_lock.proofs.Keeping.{claims}
use Rattle.turn_lock.proofs.lock.Turn.claim.Goals as goal

pub compare_exchange-requires : goal.compare_exchange-requires
compare_exchange-requires g c =
    let p = c.requires.pass in
    let n = c.requires.number in
    let setup = c.args.self.now.table.shared.key in (
      p.0,
      omega (arith, c.args.self.now.counts.0),
      claims g.M.Machine.journal g.M.Machine.made g.M.Machine.plays setup.machine.value setup.seats _ _ _ c.args.pass.now.me p.1 n.0 n.1 p.2 p.3,
    )
