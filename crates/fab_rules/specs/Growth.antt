-- A diary that has grown, as the rules see it: more was heard or done, and no more was said.
use Rattle.std.specs.Prelude.{◌≡◌, ℕ, List, [], ◌∷◌, Some}
use Rattle.fab_base.specs.declared.messages.NewView.{NewView}
use Rattle.fab_base.specs.declared.messages.Message.{Message}
use Rattle.fab_rules.specs.Lists.{In, IsPrefixOf}
use Rattle.fab_rules.specs.Diary.{Entry, Heard, Said, ledger, first_new_view}

pub record HasGrown (a b : List Entry) : Type 0 where
  pub heard : (m : Message) → In (Heard m) a → In (Heard m) b
  pub said : (m : Message) → In (Said m) b → In (Said m) a
  pub done : IsPrefixOf (ledger a) (ledger b)
  pub first : (cluster view : ℕ) (x : NewView) → first_new_view cluster view a ≡ Some x → first_new_view cluster view b ≡ Some x

-- the diary once these are said, in their order: what waits to be sent
abbrev pub after_saying : List Entry → List Message → List Entry
after_saying diary [] = diary
after_saying diary (m ∷ rest) = after_saying (Said m ∷ diary) rest
