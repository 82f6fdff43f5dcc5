use Rattle.std.proofs.Common.{rules, arith, ◌≡◌, slice_set, ap, sym, subst, ◌∙◌, length, false}
use Rattle.turn_lock.specs.Numbers.{has, greatest, without, only, AreFirst}
use Rattle.turn_lock.specs.Views.{left, right}
use Rattle.turn_lock.proofs.Keeping.{splits}
use Rattle.turn_lock.proofs.SeatRows.{split_back, other_than, has_greatest, first_without}
use Rattle.turn_lock.proofs.Telling.{knows_left, knows_right}
use Rattle.turn_lock.proofs.lock.Turn.split.Goals as goal

pub split_seat-seat-requires : goal.split_seat-seat-requires
split_seat-seat-requires g c =
    let J = g.M.Machine in
    let setup = c.args.self.now.table.shared.key in
    let k = c.requires.pass.knows in
    let v = c.args.pass.now.seat.me.0 in
    let long : length c.args.pass.now.numbers ≡ 256 = search rules in (
      c.requires.pass.of_table,
      omega (arith, c.args.self.now.counts.0),
      splits J.journal J.made J.plays setup.machine.value setup.seats c.args.pass.now.seat.id v k.some_number.0 (ap (λ l. has l k.some_number.0) k.numbers_are ∙ k.some_number.1) (ap length k.numbers_are ∙ long) k.free k.no_parts,
    )

pub returns-clause-pass : goal.returns-clause-pass
returns-clause-pass g c =
    let J = g.M.Machine in
    let setup = c.args.self.now.table.shared.key in
    let k = c.requires.pass.knows in
    let v = c.args.pass.now.seat.me.0 in
    let ns = c.args.pass.now.numbers in
    let long : length ns ≡ 256 = search rules in
    let q = c.requires.two in
    let two = other_than ns (greatest ns) q.0 q.1 q.2 q.3 q.4 in
    let view : c.split_seat-seat.new.seat.me.0 ≡ left v = search rules in
    let top : slice_set ns c.greatest_of-top.result false ≡ without (greatest ns) ns = ap (λ n. slice_set ns n false) c.greatest_of-top.ensures.same in
    record { of_table = search rules; no_slot = search rules; knows = rw (view, top) (knows_left J.plays (J.made setup.machine.value) setup.seats ns v two.0 k long two.1 two.2) }

pub returns-clause-new : goal.returns-clause-new
returns-clause-new g c =
    let J = g.M.Machine in
    let setup = c.args.self.now.table.shared.key in
    let k = c.requires.pass.knows in
    let v = c.args.pass.now.seat.me.0 in
    let ns = c.args.pass.now.numbers in
    let long : length ns ≡ 256 = search rules in
    let view : c.split_seat-seat.result.me.0 ≡ right v = search rules in
    let top : c.one_number.result ≡ only (greatest ns) = c.one_number.ensures ∙ ap only c.greatest_of-top.ensures.same in
    record { of_table = search rules; no_slot = search rules; knows = rw (view, top) (knows_right J.plays (J.made setup.machine.value) setup.seats ns v k long) }

pub returns-clause-numbers : goal.returns-clause-numbers
returns-clause-numbers g c =
    let k = c.requires.pass.knows in
    let ns = c.args.pass.now.numbers in
    let long : length ns ≡ 256 = search rules in
    let top : slice_set ns c.greatest_of-top.result false ≡ without (greatest ns) ns = ap (λ n. slice_set ns n false) c.greatest_of-top.ensures.same in
    let one : c.one_number.result ≡ only (greatest ns) = c.one_number.ensures ∙ ap only c.greatest_of-top.ensures.same in
    rw (top, one) (split_back ns (greatest ns) long (has_greatest ns k.some_number.0 k.some_number.1))

pub returns-clause-first : goal.returns-clause-first
returns-clause-first g c n are =
    let ns = c.args.pass.now.numbers in
    let rest = first_without n ns are in
    let top : slice_set ns c.greatest_of-top.result false ≡ without (greatest ns) ns = ap (λ n. slice_set ns n false) c.greatest_of-top.ensures.same in
    let one : c.one_number.result ≡ only (greatest ns) = c.one_number.ensures ∙ ap only c.greatest_of-top.ensures.same in
    (subst (AreFirst n) (sym top) rest.0, one ∙ rest.1)
