use Rattle.std.proofs.Common.{ap, sym, ◌∙◌, is_some}
use Rattle.seq_table.proofs.Pairs.{found_there, is_held-there}
use Rattle.seq_table.proofs.held.Held.has.Goals as goal

pub returns : goal.returns
returns c =
    c.contains_key.ensures
    ∙ ap is_some (found_there c.self.inside.pairs.entries c.args.self.now c.args.key.now c.self.view_is)
    ∙ sym (is_held-there c.args.self.now c.args.key.now)
