use Rattle.std.proofs.Common.{rules, ◌≡◌, [], ◌∷◌, ◌++◌, Some, sym, ap, ◌∙◌}
use Rattle.turn_lock.specs.Histories.{entries}
use Rattle.turn_lock.proofs.Histories.{entries_more}
use Rattle.turn_lock.proofs.lock.Turn.put_back_grown.Goals as goal

pub release-requires-clause-held : goal.release-requires-clause-held
release-requires-clause-held g c =
    let J = g.M.Machine in
    let q = c.requires.machine in
    let m = c.args.machine in
    let list : c.put_in.new.pass.me.1 ≡ (0, Some m) ∷ [] = search rules in
    let v = c.put_in.new.pass.me.0 in
    let same : v.seen ≡ c.args.pass.now.me.0.seen = search rules in
    let new : J.journal m ≡ entries v.seen ++ q.2 ∷ [] = q.3 ∙ ap (λ l. entries l ++ q.2 ∷ []) (sym same) in
    let seen = c.record.ensures.told m [] q.2 list new in
    (m, c.record.ensures.same.2 ∙ list, new ∙ sym (ap entries seen ∙ entries_more v.seen (v.mark, q.2)), q.6)
