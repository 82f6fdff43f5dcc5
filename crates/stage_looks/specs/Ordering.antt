-- What the order worker holds, beside what it has heard.
use Rattle.std.specs.Prelude.{◌≡◌, ◌++◌, ℕ, ◌<◌, true, false, List, map}
use Rattle.fab_base.specs.Limits.{Roster}
use Rattle.fab_rules.specs.Lists.{In}
use Rattle.bft_verify.specs.Ring.{Ring}
use Rattle.turn_lock.specs.Views.{own}
use Rattle.turn_lock.specs.Passes.{view, numbers, first_machine}
use Rattle.stage_link.specs.Queues.{known, IsQueuePass}
use Rattle.stage_link.specs.declared.queue.StageQueue.{StageQueue}
use Rattle.run_words.specs.Journal.{Maker}
use Rattle.run_words.specs.declared.logs.Entry.{Entry}
use Rattle.party_turn.specs.Turns.{PartyTurn, IsPartyPass}
use Rattle.turn_laws.specs.Workers.{Kind, AreOf}
use Rattle.turn_laws.specs.Doings.{hearings}
use Rattle.turn_laws.specs.Takings.{item_of}
use Rattle.stage_looks.specs.Items.{taken, in_hand}
use Rattle.stage_looks.specs.declared.items.Item.{Item}
use Rattle.stage_looks.specs.declared.ordering.OrderHand.{OrderHand}

module _ {P : Type 0} where
  -- its passes are of this turn and this queue; it hears and does nothing else; and what it took is what it has heard and then `rest`
  pub record Holds (made : P → Maker) (turn : PartyTurn P) (queue : StageQueue Item) (h : OrderHand P) (rest : List Entry) : Type 0 where
    pub of_queue : IsQueuePass queue h.take
    pub may_take : (known h.take).takes ≡ true
    -- it took of no producer but those that were split off its pass
    pub of_producers : (x : ℕ × Entry) → In x (taken (known h.take).took) → x.0 < (known h.take).made
    pub of_turn : IsPartyPass made turn h.act
    pub kinds : AreOf Kind.Hearing (own (view h.act))
    pub hears : hearings (own (view h.act)) ++ rest ≡ map item_of (taken (known h.take).took)

  -- what is unheard is what is in hand, unless something was lost
  pub record FitsOrder (made : P → Maker) (turn : PartyTurn P) (queue : StageQueue Item) (h : OrderHand P) : Type 0 where
    pub rest : List Entry
    pub holds : Holds made turn queue h rest
    pub in_hand_is : h.lost ≡ false → rest ≡ in_hand h.held

  -- members and keys are those that the party was made with
  abbrev pub AreOfParty : (P → Maker) → PartyTurn P → Roster → Ring → Type 0
  AreOfParty made turn roster ring = ((made (first_machine turn).first).roster ≡ roster) × ((made (first_machine turn).first).ring ≡ ring)

  -- the same seats; as many producers were split off, and the same were joined
  pub record IsSameOrder (a b : OrderHand P) : Type 0 where
    pub numbers_are : numbers b.act ≡ numbers a.act
    pub made_is : (known b.take).made ≡ (known a.take).made
    pub joined_are : (known b.take).joined ≡ (known a.take).joined
