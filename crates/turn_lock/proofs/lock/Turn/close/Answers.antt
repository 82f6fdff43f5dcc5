use Rattle.std.proofs.Common.{◌≡◌, Some, sym, ap, subst, ◌∙◌, true≢false}
use mathlib.Core.Option.{some-injective}
use Rattle.turn_lock.specs.Numbers.{HasAll}
use Rattle.turn_lock.proofs.Keeping.{ends, is_there, value_or}
use Rattle.turn_lock.proofs.lock.Turn.close.Goals as goal

pub unreachable-requires : goal.unreachable-requires
unreachable-requires g c =
    let J = g.M.Machine in
    let setup = c.args.self.table.shared.key in
    let k = c.requires.pass.knows in
    let v = c.args.pass.seat.me.0 in
    let e = ends J.journal J.made J.plays setup.machine.value setup.seats c.args.pass.seat.id v (subst (HasAll setup.seats) (sym k.numbers_are) c.requires.every) k.made k.free _ _ c.close_with-closed.ensures.values.2 in
    true≢false (ap is_there (some-injective (Some e.0) c.take.result (sym e.1 ∙ c.take.ensures.value) ∙ c.in-None.is))

pub returns-clause-journal : goal.returns-clause-journal
returns-clause-journal g c =
    let J = g.M.Machine in
    let setup = c.args.self.table.shared.key in
    let k = c.requires.pass.knows in
    let v = c.args.pass.seat.me.0 in
    let e = ends J.journal J.made J.plays setup.machine.value setup.seats c.args.pass.seat.id v (subst (HasAll setup.seats) (sym k.numbers_are) c.requires.every) k.made k.free _ _ c.close_with-closed.ensures.values.2 in
    let same : e.0 ≡ c.in-Some.machine = ap (value_or e.0) (some-injective (Some e.0) c.take.result (sym e.1 ∙ c.take.ensures.value) ∙ c.in-Some.is) in
    sym (ap J.journal same) ∙ e.2

pub returns-clause-own : goal.returns-clause-own
returns-clause-own g c =
    let J = g.M.Machine in
    let setup = c.args.self.table.shared.key in
    let k = c.requires.pass.knows in
    let v = c.args.pass.seat.me.0 in
    (ends J.journal J.made J.plays setup.machine.value setup.seats c.args.pass.seat.id v (subst (HasAll setup.seats) (sym k.numbers_are) c.requires.every) k.made k.free _ _ c.close_with-closed.ensures.values.2).4

pub returns-clause-legal : goal.returns-clause-legal
returns-clause-legal g c = c.requires.pass.knows.legal

pub returns-clause-made : goal.returns-clause-made
returns-clause-made g c =
    let J = g.M.Machine in
    let setup = c.args.self.table.shared.key in
    let k = c.requires.pass.knows in
    let v = c.args.pass.seat.me.0 in
    let e = ends J.journal J.made J.plays setup.machine.value setup.seats c.args.pass.seat.id v (subst (HasAll setup.seats) (sym k.numbers_are) c.requires.every) k.made k.free _ _ c.close_with-closed.ensures.values.2 in
    let same : e.0 ≡ c.in-Some.machine = ap (value_or e.0) (some-injective (Some e.0) c.take.result (sym e.1 ∙ c.take.ensures.value) ∙ c.in-Some.is) in
    sym (ap J.made same) ∙ e.3
