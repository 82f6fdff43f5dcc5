-- A ViewChange that is taken.
use Rattle.std.proofs.Common.{◌≡◌, List, [], ◌∷◌, ◌++◌, sym, ap, ◌∙◌}
use Rattle.fab_base.specs.Limits.{Roster}
use Rattle.fab_base.specs.declared.ids.ReplicaId.{ReplicaId}
use Rattle.fab_base.specs.declared.messages.ViewChange.{ViewChange}
use Rattle.fab_base.specs.declared.answers.Take.{Take}
use Rattle.fab_machine.specs.State.{Local}
use Rattle.fab_machine.specs.Changing.{change_answer, changes_by, change_taken, change_told, hear_change}

pub taken_is : (r : Roster) (me : ReplicaId) (l : Local) (changes : List ViewChange) (c : ViewChange) → change_answer me l changes c ≡ Take.Taken
    → change_taken r me l (changes ++ c ∷ []) c ≡ hear_change r me l changes c
taken_is r me l changes c how = ap (λ h. change_told r me l (changes_by h changes c) c h) (sym how)

-- and it is kept
pub kept_is : (me : ReplicaId) (l : Local) (changes now : List ViewChange) (c : ViewChange) → change_answer me l changes c ≡ Take.Taken
    → now ≡ changes ++ c ∷ [] → now ≡ changes_by (change_answer me l changes c) changes c
kept_is me l changes now c how is = is ∙ ap (λ h. changes_by h changes c) (sym how)
