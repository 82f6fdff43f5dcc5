-- A message and those for whom it was looked at (ours).
use Rattle.fab_base.specs.Limits.{Roster}
use Rattle.fab_base.specs.declared.messages.Message.{Message}

pub record Judged : Type 0 where
  pub members : Roster
  pub message : Message
