use Rattle.std.proofs.Common.{ap, ◌∙◌}
use Rattle.fabric_audit.specs.Makers.{is_within, has_signed}
use Rattle.fabric_audit.proofs.Signed.{found}
use Rattle.fabric_audit.proofs.signers.Signers.has_signed.Goals as goal

pub returns-in-Some : goal.returns-in-Some
returns-in-Some c =
    c.has.ensures
    ∙ ap (λ o. is_within o c.args.content.now) (c.in-Some.ensures.value ∙ found c.args.signer c.self.inside.sets.entries)
    ∙ ap (λ s. has_signed s c.args.signer c.args.content.now) c.self.view_is

pub returns-in-None : goal.returns-in-None
returns-in-None c =
    ap (λ o. is_within o c.args.content.now) (c.in-None.ensures.value ∙ found c.args.signer c.self.inside.sets.entries)
    ∙ ap (λ s. has_signed s c.args.signer c.args.content.now) c.self.view_is
