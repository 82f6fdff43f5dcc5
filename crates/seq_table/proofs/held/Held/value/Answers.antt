use Rattle.std.proofs.Common.{ap, sym, ◌∙◌}
use Rattle.seq_table.proofs.Pairs.{flat, found_there, value_there}
use Rattle.seq_table.proofs.held.Held.value.Goals as goal

pub returns-in-Some : goal.returns-in-Some
returns-in-Some c =
    c.as_ref.ensures.value
    ∙ ap flat (c.in-Some.ensures.value ∙ found_there c.self.inside.pairs.entries c.args.self.now c.args.key.now c.self.view_is)
    ∙ sym (value_there c.args.self.now c.args.key.now)

pub returns-in-None : goal.returns-in-None
returns-in-None c =
    ap flat (c.in-None.ensures.value ∙ found_there c.self.inside.pairs.entries c.args.self.now c.args.key.now c.self.view_is)
    ∙ sym (value_there c.args.self.now c.args.key.now)
