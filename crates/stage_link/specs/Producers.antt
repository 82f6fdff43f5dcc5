-- What the passes of a stage queue know: each producer's items leave in its order, each once.
use Rattle.std.specs.Prelude.{◌≡◌, ◌==◌, ℕ, ◌+◌, ◌<◌, cond, true, false, List, [], ◌∷◌, ◌++◌}
use mathlib.Core.Option.{some}
use lib.ListN.{get_elem?}
use Rattle.stage_link.specs.declared.known.Known.{Known}

-- the one list begins with the other
abbrev pub IsStartOf : {A : Type 0} → List A → List A → Type 0
IsStartOf {A} xs ys = (rest : List A) × (xs ++ rest ≡ ys)

module _ {T : Type 0} where
  -- the items of one producer, in order
  abbrev pub of : ℕ → List (ℕ × T) → List T
  of p [] = []
  of p (x ∷ xs) = cond (x.0 == p) (x.1 ∷ of p xs) (of p xs)

  -- the consumer, which has put and taken nothing
  abbrev pub consumer : Known T
  consumer = record { puts = false; takes = true; from = 0; put = []; took = []; made = 0; joined = [] }

  -- a producer, which has put nothing
  abbrev pub producer : ℕ → Known T
  producer p = record { puts = true; takes = false; from = p; put = []; took = []; made = 0; joined = [] }

  -- of a pass that was joined away
  abbrev pub spent : Known T
  spent = record { puts = false; takes = false; from = 0; put = []; took = []; made = 0; joined = [] }

  -- an item more was put
  abbrev pub with_put : Known T → T → Known T
  with_put v x = record { puts = v.puts; takes = v.takes; from = v.from; put = v.put ++ x ∷ []; took = v.took; made = v.made; joined = v.joined }

  -- an item more was taken, which the producer p put
  abbrev pub with_taken : Known T → ℕ → T → Known T
  with_taken v p x = record { puts = v.puts; takes = v.takes; from = v.from; put = v.put; took = v.took ++ (p, x) ∷ []; made = v.made; joined = v.joined }

  -- one producer more
  abbrev pub with_producer : Known T → Known T
  with_producer v = record { puts = v.puts; takes = v.takes; from = v.from; put = v.put; took = v.took; made = v.made + 1; joined = v.joined }

  -- what a producer has put is known
  abbrev pub with_joined : Known T → Known T → Known T
  with_joined v w = record { puts = v.puts; takes = v.takes; from = v.from; put = v.put; took = v.took; made = v.made; joined = (w.from, w.put) ∷ v.joined }

  -- what was taken of each producer that was joined is a beginning of what it put
  abbrev pub TookStarts : Known T → Type 0
  TookStarts v = (k : ℕ) (x : ℕ × List T) → get_elem? v.joined k ≡ some x → IsStartOf (of x.0 v.took) x.1

  -- what was taken of each producer that was joined is all that it put
  abbrev pub TookAll : Known T → Type 0
  TookAll v = (k : ℕ) (x : ℕ × List T) → get_elem? v.joined k ≡ some x → of x.0 v.took ≡ x.1

  -- an item of some producer was taken, and what was taken of each joined one is still a beginning of what it put
  abbrev pub Took : Known T → T → Known T → Type 0
  Took v x w = (p : ℕ) × (p < v.made) × (w ≡ with_taken v p x) × TookStarts w
