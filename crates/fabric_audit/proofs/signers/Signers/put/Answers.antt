use Rattle.std.proofs.Common.{ap, ◌∙◌, cond}
use Rattle.std.specs.List.{list_any}
use Rattle.std.specs.Str.{bytes_eq}
use Rattle.run_words.specs.Keyed.{is_same}
use Rattle.fabric_audit.specs.Makers.{has_signed}
use Rattle.fabric_audit.proofs.Signed.{gained}
use Rattle.fabric_audit.proofs.signers.Signers.put.Goals as goal

pub returns : goal.returns
returns c = λ i x.
    gained c.self.inside.sets.entries c.insert.new.self.entries c.args.set c.args.signer c.in_ok-insert.ensures.updates.0 i x
    ∙ ap (λ s. cond (is_same i c.args.signer) (list_any (bytes_eq x) c.args.set) (has_signed s i x)) c.self.view_is
