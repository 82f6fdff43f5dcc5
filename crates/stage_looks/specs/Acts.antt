-- What one act of each kind of worker does to what its pass knows.
use Rattle.std.specs.Prelude.{◌≡◌, ◌⊎◌, ℕ, false, cond, List, [], ◌∷◌, ◌++◌, length}
use Rattle.turn_lock.specs.Histories.{IsStartOf, entries}
use Rattle.turn_lock.specs.Views.{own}
use Rattle.turn_lock.specs.declared.known.Known.{Known}
use Rattle.turn_lock.specs.Numbers.{least}
use Rattle.run_words.specs.Journal.{Maker, moves, entry_of as entry_by}
use Rattle.run_words.specs.Acts.{told_entry}
use Rattle.run_words.specs.declared.logs.Entry.{Entry}
use Rattle.run_words.specs.declared.movers.Mover.{Mover}
use Rattle.run_words.specs.declared.party.Act.{Act}
use Rattle.run_words.specs.declared.party.Told.{Told}
use Rattle.stage_workers.specs.declared.look.Look.{Look}
use Rattle.turn_laws.specs.Workers.{Kind, AreOf}
use Rattle.turn_laws.specs.Doings.{hearings, put_of, is_refused}
use Rattle.stage_looks.specs.Items.{entry_of}
use Rattle.stage_looks.specs.declared.doing.Did.{Did}
use Rattle.stage_looks.specs.declared.hearing.Heard.{Heard}
use Rattle.stage_looks.specs.declared.items.Item.{Item}
use Rattle.stage_looks.specs.declared.sending.Sent.{Sent}

abbrev pub IsHear : Act → Type 0
IsHear (Act.Hear origin heard) = Unit {0}
IsHear act = ⊥

-- ---- what came of an act, by what was told

abbrev pub heard_of : Told → Heard
heard_of told = cond (is_refused told) Heard.Lost Heard.Done

abbrev pub sent_of : Told → ℕ → Sent
sent_of (Told.Out parcels) count = Sent.Out parcels
sent_of Told.NoMemory count = Sent.Lost
sent_of (Told.KeySpent used) count = Sent.Nothing count
sent_of (Told.Core answer) count = Sent.Nothing count

abbrev pub did_of : Told → ℕ → Did
did_of told count = cond (told_entry told) Did.Moved (cond (is_refused told) Did.Lost (Did.Nothing count))

-- ---- and what it did

module _ {P : Type 0} where
  -- who has only entries of this kind has only such after it
  abbrev pub KeepsKind : Kind → Known Entry P → Known Entry P → Type 0
  KeepsKind k v w = AreOf k (own v) → AreOf k (own w)

  -- after a history of so many entries, which goes on from what was seen, it has nothing to do
  abbrev pub IsStill : Maker → Mover → ℕ → Known Entry P → Type 0
  IsStill m mover count w = (log : List (ℕ × Entry)) → IsStartOf w.seen log → count ≡ length log → moves m (entries log) mover ≡ false

  -- the item is heard, or is lost, or comes back
  abbrev pub Hears : Heard → Item → Known Entry P → Known Entry P → Type 0
  Hears Heard.Done item v w = hearings (own w) ≡ hearings (own v) ++ entry_of item ∷ []
  Hears Heard.Lost item v w = hearings (own w) ≡ hearings (own v)
  Hears (Heard.Busy back) item v w = (back ≡ item) × (w ≡ v)

  -- what was put grows by the parcels that were told, or stays
  abbrev pub Sends : Maker → Sent → Known Entry P → Known Entry P → Type 0
  Sends m (Sent.Out parcels) v w = put_of m w.numbers w.seen ≡ put_of m v.numbers v.seen ++ parcels
  Sends m (Sent.Nothing count) v w = (put_of m w.numbers w.seen ≡ put_of m v.numbers v.seen) × IsStill m Mover.Emit count w
  Sends m Sent.Lost v w = put_of m w.numbers w.seen ≡ put_of m v.numbers v.seen
  Sends m Sent.Busy v w = w ≡ v

  -- just one entry more is its own, the mover's
  abbrev pub DoesOne : Maker → Mover → Known Entry P → Known Entry P → Type 0
  DoesOne m mover v w = (journal : List Entry) × (own w ≡ own v ++ (least v.numbers, entry_by m journal mover) ∷ [])

  abbrev pub Does : Maker → Mover → Did → Known Entry P → Known Entry P → Type 0
  Does m mover Did.Moved v w = DoesOne m mover v w
  Does m mover (Did.Nothing count) v w = (own w ≡ own v) × IsStill m mover count w
  Does m mover Did.Lost v w = own w ≡ own v
  Does m mover Did.Busy v w = w ≡ v

  -- what a look enters: where it moved, one such entry, or none where another worker had the turn
  abbrev pub Enters : Maker → Mover → Look → Known Entry P → Known Entry P → Type 0
  Enters m mover Look.Moved v w = (own w ≡ own v) ⊎ DoesOne m mover v w
  Enters m mover Look.Idle v w = own w ≡ own v
  Enters m mover Look.NoMemory v w = own w ≡ own v
