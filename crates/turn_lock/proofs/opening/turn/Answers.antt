use Rattle.std.proofs.Common.{rules, ◌≡◌, [], ◌∷◌, Some}
use Rattle.turn_lock.proofs.Keeping.{opens}
use Rattle.turn_lock.proofs.opening.turn.Goals as goal

pub new-made-requires : goal.new-made-requires
new-made-requires g c =
    let J = g.M.Machine in
    let items : c.push.new.self.items ≡ Some c.args.machine ∷ [] = search rules in
    let same : c.of.result.value ≡ c.args.machine = search rules in
    rw (items, same) (opens J.journal J.made J.plays c.args.machine c.args.seats c.first_numbers-numbers.result c.requires.fresh c.first_numbers-numbers.ensures.no_other)
