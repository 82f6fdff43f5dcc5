use Rattle.std.proofs.Common.{ap, ◌∙◌}
use Rattle.std.specs.Map.{lookup}
use Rattle.std.specs.Option.{option_map}
use Rattle.std.specs.Str.{bytes_eq}
use Rattle.fabric_audit.proofs.Clashes.{looked_up}
use Rattle.fabric_audit.proofs.meetings.Meetings.first.Goals as goal

pub returns-in-Some : goal.returns-in-Some
returns-in-Some c =
    ap (option_map (λ b. b.now)) c.in-Some.ensures.value
    ∙ looked_up c.args.digest.now.bytes c.self.inside.firsts.entries ∙ ap (lookup (bytes_eq c.args.digest.now.bytes)) c.self.view_is

pub returns-in-None : goal.returns-in-None
returns-in-None c =
    ap (option_map (λ b. b.now)) c.in-None.ensures.value
    ∙ looked_up c.args.digest.now.bytes c.self.inside.firsts.entries ∙ ap (lookup (bytes_eq c.args.digest.now.bytes)) c.self.view_is
