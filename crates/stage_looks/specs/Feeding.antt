-- What an input worker has put and refused of what it popped.
use Rattle.std.specs.Prelude.{◌≡◌, ◌++◌, ◌⊎◌, true, List, [], ◌∷◌, Option, Some, None}
use Rattle.std.specs.List.{flat_map}
use Rattle.fab_base.specs.Limits.{Roster}
use Rattle.bft_verify.specs.Ring.{Ring}
use Rattle.copy_reader.specs.Reading.{IsMadeWith}
use Rattle.stage_link.specs.Producers.{with_put}
use Rattle.stage_link.specs.Queues.{known, IsQueuePass}
use Rattle.stage_link.specs.declared.queue.StageQueue.{StageQueue}
use Rattle.stage_workers.specs.declared.look.Look.{Look}
use Rattle.run_words.specs.Journal.{Maker}
use Rattle.run_words.specs.Runs.{turned_of}
use Rattle.run_words.specs.declared.logs.Pending.{Pending}
use Rattle.turn_laws.specs.Copies.{items, refused}
use Rattle.stage_looks.specs.Items.{entries_of, in_hand}
use Rattle.stage_looks.specs.declared.items.Item.{Item}
use Rattle.stage_looks.specs.declared.reading.InputHand.{InputHand}

abbrev pub kept_copy : Option Pending → List Pending
kept_copy None = []
kept_copy (Some c) = c ∷ []

-- What was popped is what it took and then what it keeps. What it put, and then what it holds, is what a replica of this maker reads of what it took;
-- and what it refused is what such a replica refuses of it
pub record Feeds (m : Maker) (popped : List Pending) (h : InputHand) : Type 0 where
  pub took : List Pending
  pub pops : took ++ kept_copy h.kept ≡ popped
  pub puts : entries_of (known h.put).put ++ in_hand h.held ≡ items m took
  pub turns : h.refused ≡ flat_map turned_of (refused m took)

-- so it does for each replica with these members and keys
abbrev pub IsFeeder : Roster → Ring → List Pending → InputHand → Type 0
IsFeeder members ring popped h = (m : Maker) → IsMadeWith members ring m → Feeds m popped h

-- its pass is a producer's, of this queue
pub record FitsInput (queue : StageQueue Item) (h : InputHand) : Type 0 where
  pub of_queue : IsQueuePass queue h.put
  pub may_put : (known h.put).puts ≡ true

-- it has nothing in hand
abbrev pub IsFree : InputHand → Type 0
IsFree h = (h.held ≡ None) × (h.kept ≡ None)

-- the copy is kept where memory is refused, and there alone
abbrev pub IsToldOf : Pending → Look → InputHand → Type 0
IsToldOf copy told h = ((told ≡ Look.Moved) × (h.kept ≡ None)) ⊎ ((told ≡ Look.NoMemory) × (h.kept ≡ Some copy))

-- the item was put, or is held still
abbrev pub IsHandedOn : InputHand → Item → InputHand → Type 0
IsHandedOn a item b =
    ((known b.put ≡ with_put (known a.put) item) × (b.held ≡ None)) ⊎ ((known b.put ≡ known a.put) × (b.held ≡ Some item))

-- the same producer
abbrev pub IsSameProducer : InputHand → InputHand → Type 0
IsSameProducer a b = (known b.put).from ≡ (known a.put).from
