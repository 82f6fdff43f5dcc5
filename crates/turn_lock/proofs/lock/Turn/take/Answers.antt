use Rattle.std.proofs.Common.{rules, ◌≡◌, ◌∷◌, Some, sym, ap, ◌∙◌}
use Rattle.std.proofs.lemmas.Bool.Decides.{nat_tests}
use Rattle.atomic_table.specs.Table.{rest}
use Rattle.turn_lock.proofs.lock.Turn.take.Goals as goal

pub exchange-requires : goal.exchange-requires
exchange-requires g c =
    let zero : c.claim-found.result ≡ 0 = search (rules, nat_tests) in
    let h = (c.claim-found.ensures.got zero).4 in
    (c.claim-found.ensures.same.0 ∙ c.requires.pass.0, (Some h.0, h.1 ∙ sym (ap (λ l. (0, Some h.0) ∷ rest l) h.1)))
