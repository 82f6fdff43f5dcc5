use Rattle.std.proofs.Common.{ap, ◌∙◌, take}
use Rattle.seq_table.proofs.Pairs.{listed, map_keys-take}
use Rattle.seq_table.proofs.held.Held.truncate.Goals as goal

pub returns : goal.returns
returns c =
    ap listed c.truncate.ensures.entries ∙ map_keys-take (λ k. k.items) c.args.len c.self.inside.pairs.entries ∙ ap (λ h. take c.args.len h) c.self.view_is
