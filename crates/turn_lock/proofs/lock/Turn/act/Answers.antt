use Rattle.std.proofs.Common.{arith, ◌≡◌, [], ◌∷◌, ◌++◌, sym, ap, subst, ◌∙◌, length}
use Rattle.turn_lock.specs.Numbers.{least}
use Rattle.turn_lock.specs.Histories.{Legal}
use Rattle.turn_lock.specs.Views.{IsWhole, with_mark}
use Rattle.turn_lock.proofs.Telling.{number_of, whole, grown, not_grown, acted_plain, acted_grown, knows_again, played_by}
use Rattle.turn_lock.proofs.lock.Turn.act.Goals as goal

pub take-requires-clause-number : goal.take-requires-clause-number
take-requires-clause-number g c = rw c.least_of-number.ensures (number_of g.M.Machine.plays _ _ c.args.pass.now.numbers c.args.pass.now.seat.me.0 c.requires.pass.knows)

pub put_back-requires-clause-pass : goal.put_back-requires-clause-pass
put_back-requires-clause-pass g c =
    let view = c.in-Ok.ensures.view in
    let n = (number_of g.M.Machine.plays _ _ c.args.pass.now.numbers c.args.pass.now.seat.me.0 c.requires.pass.knows).0 in
    let number = c.least_of-number.ensures in
    (c.take.ensures.same.0 ∙ c.requires.pass.of_table, view.1, λ z. let m = sym (ap (λ x. x.mark) view.0) ∙ z in omega arith)

pub returns-then-after-before-clause-acted : goal.returns-then-after-before-clause-acted
returns-then-after-before-clause-acted g c =
    let J = g.M.Machine in
    let view = c.in-Ok.ensures.view in
    let seen = c.in-Ok.ensures.seen in
    let machine = c.in-Ok.ensures.machine in
    let played = c.play-answer.ensures.played in
    let same : length (J.journal c.play-answer.new.self) ≡ length (J.journal c.in-Ok.machine) = sym c.entries-after.ensures ∙ c.if-after-before.true ∙ c.entries-before.ensures in
    let none = not_grown (J.journal c.in-Ok.machine) (J.journal c.play-answer.new.self) played.0 played.2 same in
    acted_plain J.plays _ c.least_of-number.result c.args.pass.now.seat.me.0 c.take.new.pass.me.0 c.put_back.new.pass.me.0 c.args.call c.play-answer.result
    view.0 (ap (λ x. x.0) c.put_back.ensures.told) seen.0 seen.1 (played_by J.plays c.args.call c.play-answer.result machine.1 machine.0 none.0 played.1)

pub returns-then-after-before-clause-whole : goal.returns-then-after-before-clause-whole
returns-then-after-before-clause-whole g c =
    let J = g.M.Machine in
    let view = c.in-Ok.ensures.view in
    let told = ap (λ x. x.0) c.put_back.ensures.told in
    let u = c.take.new.pass.me.0 in
    let w = c.put_back.new.pass.me.0 in
    let same : w.seen ≡ u.seen = ap (λ x. x.seen) told in
    whole J.plays _ _ c.args.pass.now.numbers w (knows_again J.plays _ _ c.least_of-number.result c.args.pass.now.numbers c.args.pass.now.seat.me.0 u w c.requires.pass.knows view.0 (told ∙ ap (with_mark u 0) (sym same)) (subst (Legal J.plays (J.made c.args.self.now.table.shared.key.machine.value) c.args.pass.now.seat.me.0.seats) (sym same) c.in-Ok.ensures.seen.2))

pub put_back_grown-requires-clause-pass : goal.put_back_grown-requires-clause-pass
put_back_grown-requires-clause-pass g c =
    let view = c.in-Ok.ensures.view in
    let knows = c.requires.pass.knows in
    let n = (number_of g.M.Machine.plays _ _ c.args.pass.now.numbers c.args.pass.now.seat.me.0 knows).0 in
    let number = c.least_of-number.ensures in
    (c.take.ensures.same.0 ∙ c.requires.pass.of_table, view.1, (λ z. let m = sym (ap (λ x. x.mark) view.0) ∙ z in omega arith), ap (λ x. x.parts) view.0, ap (λ x. x.made) view.0 ∙ knows.made)

pub returns-in-Err-clause-whole : goal.returns-in-Err-clause-whole
returns-in-Err-clause-whole g c =
    subst (IsWhole c.args.self.now.table.shared.key.seats) (ap (λ x. x.0) (sym c.in-Err.ensures.busy.1)) (whole g.M.Machine.plays _ _ c.args.pass.now.numbers c.args.pass.now.seat.me.0 c.requires.pass.knows)

pub returns-else-after-before-clause-acted : goal.returns-else-after-before-clause-acted
returns-else-after-before-clause-acted g c =
    let J = g.M.Machine in
    let knows = c.requires.pass.knows in
    let view = c.in-Ok.ensures.view in
    let seen = c.in-Ok.ensures.seen in
    let machine = c.in-Ok.ensures.machine in
    let played = c.play-answer.ensures.played in
    let differs : ¬ (length (J.journal c.play-answer.new.self) ≡ length (J.journal c.in-Ok.machine)) = λ e. c.if-after-before.false (c.entries-after.ensures ∙ e ∙ sym c.entries-before.ensures) in
    let some = grown (J.journal c.in-Ok.machine) (J.journal c.play-answer.new.self) played.0 played.2 differs in
    let more = c.put_back_grown.ensures.told some.0 (some.2 ∙ ap (λ l. l ++ some.0 ∷ []) machine.0) in
    let number = c.least_of-number.ensures in
    let v = c.args.pass.now.seat.me.0 in
    let n = number_of J.plays _ _ c.args.pass.now.numbers v knows in
    let is = number ∙ ap least (sym knows.numbers_are) in
    acted_grown J.plays _ c.least_of-number.result v c.take.new.pass.me.0 c.put_back_grown.new.pass.me.0 c.args.call c.play-answer.result some.0
    view.0 c.put_back_grown.ensures.view.0 seen.0 seen.1 (rw number n.1) is (played_by J.plays c.args.call c.play-answer.result machine.1 machine.0 some.1 played.1) (more ∙ ap (λ k. c.take.new.pass.me.0.seen ++ (k, some.0) ∷ []) (ap (λ x. x.mark) view.0))

pub returns-else-after-before-clause-whole : goal.returns-else-after-before-clause-whole
returns-else-after-before-clause-whole g c =
    let J = g.M.Machine in
    let view = c.in-Ok.ensures.view in
    let u = c.take.new.pass.me.0 in
    let w = c.put_back_grown.new.pass.me.0 in
    let seats : u.seats ≡ c.args.pass.now.seat.me.0.seats = ap (λ x. x.seats) view.0 in
    whole J.plays _ _ c.args.pass.now.numbers w (knows_again J.plays _ _ c.least_of-number.result c.args.pass.now.numbers c.args.pass.now.seat.me.0 u w c.requires.pass.knows view.0 c.put_back_grown.ensures.view.0 (subst (λ n. Legal J.plays (J.made c.args.self.now.table.shared.key.machine.value) n w.seen) seats c.put_back_grown.ensures.legal))
