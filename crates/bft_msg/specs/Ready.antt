-- What is found out of a part before its own misfits are looked for (ours).
use Rattle.std.specs.Prelude.{◌≡◌, true}
use Rattle.std.specs.List.{AllByRecursion}
use Rattle.fab_base.specs.Limits.{Roster}
use Rattle.fab_base.specs.declared.messages.Message.{Message}
use Rattle.fab_rules.specs.Format.{fields_fit}
use Rattle.fab_rules.specs.Shape.{is_known}
use Rattle.fab_rules.specs.Statements.{parts_of}

-- it is within the ranges, and no stranger has a part in it
pub record IsReady (r : Roster) (p : Message) : Type 0 where
  pub fits : fields_fit p ≡ true
  pub known : AllByRecursion (λ q. is_known r q ≡ true) (parts_of p)
