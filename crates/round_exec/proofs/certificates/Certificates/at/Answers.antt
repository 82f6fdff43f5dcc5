use Rattle.std.proofs.Common.{Some, None, sym, ap, ◌∙◌}
use Rattle.std.specs.Option.{option_map}
use Rattle.std.specs.Map.Iter.{deref_pair}
use Rattle.round_exec.proofs.Finding.{value_at}
use Rattle.round_exec.proofs.certificates.Certificates.at.Goals as goal

pub returns-in-Some : goal.returns-in-Some
returns-in-Some c =
    value_at c.self.inside.held.entries c.args.self.now c.args.place (Some (c.in-Some.field-0-0, c.in-Some.cert)) c.self.view_is
    (ap (option_map deref_pair) (sym c.in-Some.is) ∙ c.get_index.ensures.entry)

pub returns-in-None : goal.returns-in-None
returns-in-None c =
    value_at c.self.inside.held.entries c.args.self.now c.args.place None c.self.view_is
    (ap (option_map deref_pair) (sym c.in-None.is) ∙ c.get_index.ensures.entry)
