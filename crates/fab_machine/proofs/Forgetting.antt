-- What is let go of the pleas about a certificate that is kept leaves the others as they were.
use Rattle.std.proofs.Common.{◌≡◌, ℕ, not, List}
use Rattle.fab_base.specs.Limits.{Roster}
use Rattle.fab_base.specs.declared.ids.ReplicaId.{ReplicaId}
use Rattle.fab_rules.specs.Diary.{Entry}
use Rattle.fab_rules.proofs.Lists.{of_filter}
use Rattle.remote_view.specs.Heard.{is_on}
use Rattle.remote_view.specs.Calls.{Call}
use Rattle.remote_view.specs.Pleading.{Pleading, after_forgetting}
use Rattle.remote_view.proofs.Worth.{stays}
use Rattle.fab_machine.specs.ReplicaState.{IsPleadingOf}
use Rattle.fab_machine.specs.Relation.{ArePleas}

pub forgotten_pleading : (r : Roster) (me : ReplicaId) (p : Pleading) (target round : ℕ) → IsPleadingOf r me p
    → IsPleadingOf r me (after_forgetting p target round)
forgotten_pleading r me p target round of =
    record { is = stays p (Call.Forget target round) of.is tt; roster_is = of.roster_is; me_is = of.me_is }

pub forgotten_pleas : (r : Roster) (me : ReplicaId) (p : Pleading) (target round : ℕ) (full : List Entry) → ArePleas r me p full
    → ArePleas r me (after_forgetting p target round) full
forgotten_pleas r me p target round full are = record {
  is = forgotten_pleading r me p target round are.is;
  heard = λ h i. are.heard h (of_filter (λ x. not (is_on target round x.matter)) h p.drvcs i).0;
}
