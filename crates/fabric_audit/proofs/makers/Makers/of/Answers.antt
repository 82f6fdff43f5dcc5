use Rattle.std.proofs.Common.{ap, ◌∙◌}
use Rattle.std.specs.List.{list_any}
use Rattle.std.specs.Str.{bytes_eq}
use Rattle.run_worlds.specs.Worlds.{correct_of}
use Rattle.run_worlds.specs.Sights.{is_signed_by}
use Rattle.fabric_audit.proofs.makers.Makers.of.Goals as goal

pub invariant_of-result : goal.invariant_of-result
invariant_of-result c = record {
  signed = λ i x. c.in_ok-signers.ensures i x ∙ ap (λ traces. is_signed_by (correct_of traces) i x) c.as_slice.ensures;
  requests = λ x. c.in_ok-asked.ensures x ∙ ap (list_any (bytes_eq x)) c.requires;
}
