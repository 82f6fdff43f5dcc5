-- A message that was admitted, with the members and the keys for which it was looked at (ours).
use Rattle.fab_base.specs.Limits.{Roster}
use Rattle.fab_base.specs.declared.messages.Message.{Message}
use Rattle.bft_verify.specs.Ring.{Ring}

pub record Admitted : Type 0 where
  pub members : Roster
  pub ring : Ring
  pub message : Message
