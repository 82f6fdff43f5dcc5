use Rattle.std.proofs.Common.{length, sym, ap, ◌∙◌}
use Rattle.std.proofs.lemmas.List.{length-map}
use Rattle.round_exec.proofs.certificates.Certificates.len.Goals as goal

pub returns : goal.returns
returns c = c.len.ensures.len ∙ (sym (length-map c.self.inside.held.entries (λ e. e.1)) ∙ ap length c.self.view_is)
