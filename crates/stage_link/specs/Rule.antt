-- The rule of the stage queue. `took` is all that was taken and `held` what the queue holds, each item with its producer.
use Rattle.std.specs.Prelude.{◌≡◌, ◌≢◌, ℕ, ◌≤◌, ◌<◌, true, List, [], ◌++◌, map}
use mathlib.Core.Option.{some}
use lib.ListN.{get_elem?}
use Rattle.stage_link.specs.declared.known.Known.{Known}
use Rattle.stage_link.specs.Producers.{of}

module _ {T : Type 0} where
  -- what each view owes, where `all` is what was taken and then what the queue holds
  pub record Fits (all took : List (ℕ × T)) (v : Known T) : Type 0 where
    pub put_is : v.puts ≡ true → v.put ≡ of v.from all
    pub took_is : v.takes ≡ true → v.took ≡ took
    -- no producer has that number yet
    pub later : v.takes ≡ true → (p : ℕ) → v.made ≤ p → of p all ≡ []
    pub joined_are : v.takes ≡ true → (k : ℕ) (x : ℕ × List T) → get_elem? v.joined k ≡ some x → (x.0 < v.made) × (of x.0 all ≡ x.1)

  -- no two producers have one number; there is one consumer; each producer's number is below those that are free, and of none that was joined
  pub record Keeps (took held : List (ℕ × T)) (items : List T) (views : List (Known T)) : Type 0 where
    pub items_are : map (λ x. x.1) held ≡ items
    pub fits : (i : ℕ) (v : Known T) → get_elem? views i ≡ some v → Fits (took ++ held) took v
    pub apart : (i j : ℕ) (u v : Known T) → get_elem? views i ≡ some u → get_elem? views j ≡ some v → u.puts ≡ true → v.puts ≡ true → u.from ≡ v.from → i ≡ j
    pub one : (i j : ℕ) (u v : Known T) → get_elem? views i ≡ some u → get_elem? views j ≡ some v → u.takes ≡ true → v.takes ≡ true → i ≡ j
    pub fresh : (i j : ℕ) (u v : Known T) → get_elem? views i ≡ some u → get_elem? views j ≡ some v → u.takes ≡ true → v.puts ≡ true → v.from < u.made
    pub gone : (i j k : ℕ) (u v : Known T) (x : ℕ × List T) → get_elem? views i ≡ some u → get_elem? views j ≡ some v → u.takes ≡ true → v.puts ≡ true → get_elem? u.joined k ≡ some x → x.0 ≢ v.from

  abbrev pub Kept : List T → List (Known T) → Type 0
  Kept items views = (took : List (ℕ × T)) × (held : List (ℕ × T)) × Keeps took held items views
