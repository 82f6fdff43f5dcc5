use Rattle.std.proofs.Common.{ap, ◌∙◌}
use Rattle.run_worlds.specs.Sights.{is_asked_by}
use Rattle.fabric_audit.proofs.Forging.{asked_by_part}
use Rattle.fabric_audit.proofs.makers.Makers.has_asked.Goals as goal

pub returns : goal.returns
returns c =
    let content = c.args.content.now in
    let of = c.requires.1 in
    c.has.ensures
    ∙ c.self.invariant.requests content
    ∙ asked_by_part of.part c.args.client content c.self.inside.transcript.now.script.requests of.signer_is of.content_is
    ∙ ap (λ t. is_asked_by t.script c.args.client content) c.self.view_is
