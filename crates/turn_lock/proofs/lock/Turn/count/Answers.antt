use Rattle.std.proofs.Common.{rules, arith, ◌≡◌, ◌≢◌, sym, ap, subst, ◌∙◌}
use Rattle.std.proofs.lemmas.Bool.Decides.{nat_tests}
use Rattle.turn_lock.specs.Histories.{Legal}
use Rattle.turn_lock.specs.Views.{IsWhole, with_mark}
use Rattle.turn_lock.proofs.Telling.{number_of, whole, knows_again}
use Rattle.turn_lock.proofs.lock.Turn.count.Goals as goal

pub claim-found-requires-clause-number : goal.claim-found-requires-clause-number
claim-found-requires-clause-number g c = rw c.least_of-number.ensures (number_of g.M.Machine.plays _ _ c.args.pass.now.numbers c.args.pass.now.seat.me.0 c.requires.pass.knows)

pub returns-then-found-ne0-clause-whole : goal.returns-then-found-ne0-clause-whole
returns-then-found-ne0-clause-whole g c =
    let taken : c.claim-found.result ≢ 0 = c.if-found-ne0.true in
    subst (IsWhole c.args.self.now.table.shared.key.seats) (ap (λ x. x.0) (sym (c.claim-found.ensures.busy taken).0)) (whole g.M.Machine.plays _ _ c.args.pass.now.numbers c.args.pass.now.seat.me.0 c.requires.pass.knows)

pub look-count-requires : goal.look-count-requires
look-count-requires g c =
    let zero : c.claim-found.result ≡ 0 = search (rules, nat_tests) in
    let view = (c.claim-found.ensures.got zero).0 in
    let n = (number_of g.M.Machine.plays _ _ c.args.pass.now.numbers c.args.pass.now.seat.me.0 c.requires.pass.knows).0 in
    let number = c.least_of-number.ensures in
    record { pass = (c.claim-found.ensures.same.0 ∙ c.requires.pass.of_table, λ z. let m = sym (ap (λ x. x.mark) view) ∙ z in omega arith) }

pub release-requires-clause-pass : goal.release-requires-clause-pass
release-requires-clause-pass g c =
    let zero : c.claim-found.result ≡ 0 = search (rules, nat_tests) in
    let view = (c.claim-found.ensures.got zero).0 in
    let n = (number_of g.M.Machine.plays _ _ c.args.pass.now.numbers c.args.pass.now.seat.me.0 c.requires.pass.knows).0 in
    let number = c.least_of-number.ensures in
    let same = c.look-count.ensures.same in
    (same.0 ∙ c.claim-found.ensures.same.0 ∙ c.requires.pass.of_table, λ z. let m = sym (ap (λ x. x.mark) view) ∙ sym (ap (λ x. x.0.mark) same.2) ∙ z in omega arith)

pub returns-clause-whole : goal.returns-clause-whole
returns-clause-whole g c =
    let J = g.M.Machine in
    let d = J.made c.args.self.now.table.shared.key.machine.value in
    let zero : c.claim-found.result ≡ 0 = search (rules, nat_tests) in
    let got = c.claim-found.ensures.got zero in
    let v = c.args.pass.now.seat.me.0 in
    let u = c.claim-found.new.pass.me.0 in
    let w = c.release.new.pass.me.0 in
    let told : w ≡ with_mark u 0 u.seen = ap (λ x. x.0) c.release.ensures.told ∙ ap (λ x. with_mark x.0 0 x.0.seen) c.look-count.ensures.same.2 in
    let same : w.seen ≡ u.seen = ap (λ x. x.seen) told in
    let legal : Legal J.plays d v.seats u.seen = got.3 d c.requires.pass.knows.made in
    whole J.plays d _ c.args.pass.now.numbers w (knows_again J.plays d _ c.least_of-number.result c.args.pass.now.numbers v u w c.requires.pass.knows got.0 (told ∙ ap (with_mark u 0) (sym same)) (subst (Legal J.plays d v.seats) (sym same) legal))
