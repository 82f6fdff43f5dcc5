-- What a clause says of the ends of a link.
use Rattle.std.specs.Prelude.{ℕ, List}
use Rattle.rtrb.specs.Ring.{sent, received, known_items, known_free, IsPair, SameProducer, SameConsumer}
use Rattle.stage_link.specs.declared.links.LinkIn.{LinkIn}
use Rattle.stage_link.specs.declared.links.LinkOut.{LinkOut}

module _ {T : Type 0} where
  -- all that was pushed, the first first
  abbrev pub pushed : LinkIn T → List T
  pushed l = sent l.end

  -- how many places this end knows to be free
  abbrev pub free : LinkIn T → ℕ
  free l = known_free l.end

  -- all that was popped, the first first
  abbrev pub popped : LinkOut T → List T
  popped l = received l.end

  -- what this end knows to wait: the next pops give it
  abbrev pub waiting : LinkOut T → List T
  waiting l = known_items l.end

  -- the two ends of one link
  abbrev pub AreEnds : LinkIn T → LinkOut T → Type 0
  AreEnds a b = IsPair a.end b.end

  -- the same end of the same link
  abbrev pub IsSameIn : LinkIn T → LinkIn T → Type 0
  IsSameIn a b = SameProducer a.end b.end

  abbrev pub IsSameOut : LinkOut T → LinkOut T → Type 0
  IsSameOut a b = SameConsumer a.end b.end
