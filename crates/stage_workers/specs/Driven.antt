-- What the looks of one worker come to, and those of all.
use Rattle.std.specs.Prelude.{◌≡◌, List, [], ◌∷◌}
use Rattle.stage_workers.specs.declared.look.Look.{Look}
use Rattle.stage_workers.specs.declared.look.Look.TheVariants.{Moved, Idle, NoMemory}

module _ {C H : Type 0} (fits : C → H → Type 0) (follows : C → H → H → Type 0) (looked : C → H → Look → H → Type 0) where
  -- The hand that is left fits and follows. There was a look with this answer, somewhere between the hand before and the hand after; at Idle it was
  -- the only one
  abbrev pub Driven : C → H → Look → H → Type 0
  Driven c old said new =
      fits c new × follows c old new
      × ((a b : H) × looked c a said b × follows c old a × follows c b new × (said ≡ Idle → (a ≡ old) × (b ≡ new)))

-- NoMemory before Moved before Idle
abbrev pub worse : Look → Look → Look
worse NoMemory b = NoMemory
worse Moved NoMemory = NoMemory
worse Moved Moved = Moved
worse Moved Idle = Moved
worse Idle b = b

-- the worst of these
abbrev pub told : Look → List Look → Look
told a [] = a
told a (b ∷ bs) = told (worse a b) bs
