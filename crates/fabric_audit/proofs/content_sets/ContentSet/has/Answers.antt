use Rattle.std.proofs.Common.{ap, ◌∙◌}
use Rattle.std.specs.List.{list_any}
use Rattle.std.specs.Str.{bytes_eq}
use Rattle.fabric_audit.proofs.Contents.{found}
use Rattle.fabric_audit.proofs.content_sets.ContentSet.has.Goals as goal

pub returns : goal.returns
returns c =
    c.contains.ensures ∙ found c.args.content.now c.self.inside.contents.keys ∙ ap (list_any (bytes_eq c.args.content.now)) c.self.view_is
