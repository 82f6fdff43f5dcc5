use Rattle.std.proofs.Common.{true, false, sym, ◌∙◌}
use Rattle.replica_log.specs.Keeping.{maker_of}
use Rattle.replica_log.proofs.Asked.{blocked_is}
use Rattle.replica_log.proofs.keepers.Keeper.is_blocked.Goals as goal

pub returns-then-needs_leaf : goal.returns-then-needs_leaf
returns-then-needs_leaf g c =
    let k = c.args.self.now in
    blocked_is (maker_of g.S.Signer.limit g.S.Signer.gives k) k.journal.items k.core k.clock k.signed.items k.numbers (g.S.Signer.made k.signer)
    true c.spent-spent.result c.requires.kept c.requires.live (sym c.if-needs_leaf.true ∙ c.needs_leaf.ensures) c.spent-spent.ensures

pub returns-else-needs_leaf : goal.returns-else-needs_leaf
returns-else-needs_leaf g c =
    let k = c.args.self.now in
    c.if-needs_leaf.false
    ∙ blocked_is (maker_of g.S.Signer.limit g.S.Signer.gives k) k.journal.items k.core k.clock k.signed.items k.numbers (g.S.Signer.made k.signer)
    false c.spent-spent.result c.requires.kept c.requires.live (sym c.if-needs_leaf.false ∙ c.needs_leaf.ensures) c.spent-spent.ensures
