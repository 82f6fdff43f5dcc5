use Rattle.std.proofs.Common.{rules, ◌≡◌, sym, ◌∙◌}
use Rattle.std.proofs.lemmas.Bool.Decides.{nat_tests}
use Rattle.turn_lock.specs.Numbers.{least, greatest}
use Rattle.turn_lock.specs.Passes.{numbers}
use Rattle.turn_lock.proofs.SeatRows.{two_of, two_apart}
use Rattle.turn_lock.proofs.lock.Turn.may_split.Goals as goal

pub returns-clause-two : goal.returns-clause-two
returns-clause-two g c differs =
    let ns = numbers c.args.pass.now in
    let low : c.least_of.result ≡ least ns = c.least_of.ensures in
    let high : c.greatest_of.result ≡ greatest ns = c.greatest_of.ensures.same in
    let other : ¬ (c.least_of.result ≡ c.greatest_of.result) = search (rules, nat_tests) in
    two_of ns c.requires.pass.knows.some_number.0 c.requires.pass.knows.some_number.1 (λ e. other (low ∙ e ∙ sym high))

pub returns-clause-one : goal.returns-clause-one
returns-clause-one g c two =
    let ns = numbers c.args.pass.now in
    let low : c.least_of.result ≡ least ns = c.least_of.ensures in
    let high : c.greatest_of.result ≡ greatest ns = c.greatest_of.ensures.same in
    let apart = two_apart ns two in
    let other : ¬ (c.least_of.result ≡ c.greatest_of.result) = λ e. apart (sym low ∙ e ∙ high) in
    search (rules, nat_tests)
