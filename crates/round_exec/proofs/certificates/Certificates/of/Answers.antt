use Rattle.std.proofs.Common.{◌∙◌, refl, ap}
use Rattle.fab_machine.specs.Rounds.{certificate_for}
use Rattle.round_exec.proofs.Finding.{lookup_finds}
use Rattle.round_exec.proofs.certificates.Certificates.of.Goals as goal

pub returns : goal.returns
returns c =
    c.get.ensures.value ∙ (lookup_finds _ c.args.round c.args.cluster (λ q. refl) c.self.inside.held.entries c.self.invariant
    ∙ ap (λ l. certificate_for l c.args.round c.args.cluster) c.self.view_is)
