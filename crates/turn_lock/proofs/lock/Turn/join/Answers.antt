use Rattle.std.proofs.Common.{rules, arith, ◌≡◌, sym, ap, subst, ◌∙◌, length}
use lib.ListN.{get_elem?}
use Rattle.turn_lock.specs.Histories.{longer, Follows}
use Rattle.turn_lock.specs.Views.{both, with_mark}
use Rattle.turn_lock.proofs.Keeping.{joins}
use Rattle.turn_lock.proofs.Telling.{knows_both, whole}
use Rattle.turn_lock.proofs.Joining.{left_goes, right_goes}
use Rattle.turn_lock.proofs.lock.Turn.join.Goals as goal

pub join_seat-requires : goal.join_seat-requires
join_seat-requires g c =
    let J = g.M.Machine in
    let setup = c.args.self.now.table.shared.key in
    let k = c.requires.pass.knows in
    let l = c.requires.other.knows in
    let v = c.args.pass.now.seat.me.0 in
    let w = c.args.other.seat.me.0 in
    let long : length c.args.pass.now.numbers ≡ length c.args.other.numbers = search rules in (
      c.requires.pass.of_table,
      c.requires.other.of_table,
      c.requires.other.no_slot,
      omega (arith, c.args.self.now.counts.0),
      joins J.journal J.made J.plays setup.machine.value setup.seats c.args.pass.now.seat.id v c.args.other.seat.id w (ap length k.numbers_are ∙ long ∙ sym (ap length l.numbers_are)) k.free l.free,
    )

pub returns-clause-pass : goal.returns-clause-pass
returns-clause-pass g c =
    let J = g.M.Machine in
    let setup = c.args.self.now.table.shared.key in
    let v = c.args.pass.now.seat.me.0 in
    let w = c.args.other.seat.me.0 in
    let long : length c.args.pass.now.numbers ≡ length c.args.other.numbers = search rules in
    let view : c.learn.new.pass.me.0 ≡ with_mark (both v w) 0 (longer v.seen w.seen) = c.learn.ensures.same.3 ∙ ap (λ x. with_mark x.0 x.0.mark x.0.seen) c.join_seat.ensures.2 in
    record { of_table = search rules; no_slot = search rules; knows = rw (view, c.unite.ensures) (knows_both J.plays (J.made setup.machine.value) setup.seats c.args.pass.now.numbers c.args.other.numbers v w c.requires.pass.knows c.requires.other.knows long) }

pub returns-clause-mine : goal.returns-clause-mine
returns-clause-mine g c =
    let k = c.requires.pass.knows in
    let v = c.args.pass.now.seat.me.0 in
    let u = c.join_seat.new.seat.me.0 in
    let part = c.learn.ensures.told 0 record { numbers = v.numbers; seen = v.seen } (ap (λ x. get_elem? x.0.parts 0) c.join_seat.ensures.2) in
    let same : c.learn.new.pass.me.0.seen ≡ u.seen = ap (λ x. x.seen) c.learn.ensures.same.3 in
    left_goes c.args.pass.now c.args.other record { seat = c.learn.new.pass; numbers = c.unite.new.numbers } (subst (λ l. Follows l v.seen c.learn.new.pass.me.0.seen) k.numbers_are (subst (Follows v.numbers v.seen) (sym same) part.0)) c.unite.ensures

pub returns-clause-theirs : goal.returns-clause-theirs
returns-clause-theirs g c =
    let k = c.requires.other.knows in
    let w = c.args.other.seat.me.0 in
    let u = c.join_seat.new.seat.me.0 in
    let long : length c.args.pass.now.numbers ≡ length c.args.other.numbers = search rules in
    let part = c.learn.ensures.told 1 record { numbers = w.numbers; seen = w.seen } (ap (λ x. get_elem? x.0.parts 1) c.join_seat.ensures.2) in
    let same : c.learn.new.pass.me.0.seen ≡ u.seen = ap (λ x. x.seen) c.learn.ensures.same.3 in
    right_goes c.args.pass.now c.args.other record { seat = c.learn.new.pass; numbers = c.unite.new.numbers } long (subst (λ l. Follows l w.seen c.learn.new.pass.me.0.seen) k.numbers_are (subst (Follows w.numbers w.seen) (sym same) part.0)) c.unite.ensures

pub returns-clause-whole : goal.returns-clause-whole
returns-clause-whole g c = whole g.M.Machine.plays _ _ c.unite.new.numbers c.learn.new.pass.me.0 (returns-clause-pass g c).knows
