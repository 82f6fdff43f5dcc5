-- To go on is transitive, and a join goes on from both. When parts of a pass go on in a pass, that one has the numbers of the whole.
use Rattle.std.proofs.Common.{◌≡◌, ℕ, Bool, List, length, ap, ◌∙◌, subst, ⊎_elim}
use Rattle.turn_lock.specs.Numbers.{has, united, AreAmong, HasAll}
use Rattle.turn_lock.specs.Histories.{Follows}
use Rattle.turn_lock.specs.Passes.{view, numbers, GoesOn}
use Rattle.turn_lock.specs.declared.lock.Pass.{Pass}
use Rattle.turn_lock.proofs.SeatRows.{has_left, has_right, has_both, either_of}
use Rattle.turn_lock.proofs.Histories.{follows_on}

-- of two rows whose numbers are all there, those of both are
pub among_united : (xs ys zs : List Bool) → AreAmong xs zs → AreAmong ys zs → AreAmong (united xs ys) zs
among_united xs ys zs f g n h = ⊎_elim (λ x. f n x) (λ y. g n y) (either_of (has xs n) (has ys n) (has_both xs ys n h))

pub among_on : (xs ys zs : List Bool) → AreAmong xs ys → AreAmong ys zs → AreAmong xs zs
among_on xs ys zs f g n h = g n (f n h)

-- a row is put together of two, and each number of the two is there: so each of its own is
pub among_parts : (whole xs ys zs : List Bool) → united xs ys ≡ whole → AreAmong xs zs → AreAmong ys zs → AreAmong whole zs
among_parts whole xs ys zs e f g = subst (λ l. AreAmong l zs) e (among_united xs ys zs f g)

pub among_all : (seats : ℕ) (whole zs : List Bool) → HasAll seats whole → AreAmong whole zs → HasAll seats zs
among_all seats whole zs h f n some small = f n (h n some small)

module _ {M C A E D : Type 0} where
  pub goes_on : (a b c : Pass M C A E D) → GoesOn a b → GoesOn b c → GoesOn a c
  goes_on a b c f g = record {
    follows = follows_on (numbers a) (numbers b) (view a).seen (view b).seen (view c).seen f.among f.follows g.follows;
    among = among_on (numbers a) (numbers b) (numbers c) f.among g.among;
  }

  pub left_goes : (a b c : Pass M C A E D) → Follows (numbers a) (view a).seen (view c).seen → numbers c ≡ united (numbers a) (numbers b) → GoesOn a c
  left_goes a b c f e = record {
    follows = f;
    among = λ n h. ap (λ l. has l n) e ∙ has_left (numbers a) (numbers b) n h;
  }

  pub right_goes : (a b c : Pass M C A E D) → length (numbers a) ≡ length (numbers b) → Follows (numbers b) (view b).seen (view c).seen
      → numbers c ≡ united (numbers a) (numbers b)
      → GoesOn b c
  right_goes a b c l f e = record {
    follows = f;
    among = λ n h. ap (λ l. has l n) e ∙ has_right (numbers a) (numbers b) n l h;
  }
