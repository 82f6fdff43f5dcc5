-- What holds of what a log keeps, and what an act does to it.
use Rattle.std.specs.Prelude.{◌≡◌, ℕ, Bool, false, cond, List, [], ◌∷◌, ◌++◌, length, None, IsTrue}
use Rattle.fab_base.specs.Limits.{IsWithinLimits}
use Rattle.fab_base.specs.Roster.{is_replica}
use Rattle.fab_base.specs.declared.messages.Message.{Message}
use Rattle.replica_core.specs.Cores.{Machine}
use Rattle.replica_core.specs.declared.events.Event.{Event}
use Rattle.run_words.specs.declared.logs.Entry.{Entry}
use Rattle.run_words.specs.Journal.{Maker, state, clock, parcels_of, signed_of, IsMade, AreSound}
use Rattle.run_words.specs.Lawful.{IsKeyed}
use Rattle.run_words.specs.Acts.{Acted}
use Rattle.run_words.specs.declared.party.Act.{Act}
use Rattle.run_words.specs.declared.party.Told.{Told}
use Rattle.parcel_post.specs.Posting.{Counts, AreNumbers, SendsPlainly}
use Rattle.replica_log.specs.declared.keepers.Keeper.{Keeper}

-- ---- a journal and what is kept of it

-- the journal is one that the replica's machine makes, each message that it heard is sound, and what is kept beside it is read off it
pub record IsKept (m : Maker) (journal : List Entry) (clock_now : ℕ) (signed : List (List ℕ)) (counts : Counts) (made : ℕ) : Type 0 where
  pub limits : IsWithinLimits m.roster
  pub member : IsTrue (is_replica m.roster m.id)
  -- it sends as a correct replica does, and signs nothing beside what it says
  pub plain : SendsPlainly m
  pub alone : m.seconds ≡ []
  pub replays : IsMade m journal
  pub sound : AreSound m journal
  pub clock_is : clock_now ≡ clock m journal
  pub signed_is : signed ≡ signed_of m journal
  pub numbers : AreNumbers counts (parcels_of m journal)
  pub used : made ≡ length signed
  -- the replica's key is in the ring, its signatures are valid under it and have a place in a message
  pub keyed : IsKeyed m

-- the core of a replica after the journal
abbrev pub core_after : Maker → List Entry → Machine
core_after m journal = record { roster = m.roster; me = m.id; state = state m journal; shut = false }

-- ---- a keeper

abbrev pub maker_of : {S : Type 0} → (S → ℕ) → (S → ℕ → List ℕ → List ℕ) → Keeper S → Maker
maker_of limit gives k = record {
  id = k.me;
  roster = k.members;
  ring = k.ring;
  losses = [];
  fault = None;
  seconds = [];
  leaves = limit k.signer;
  signature = gives k.signer;
}

abbrev pub Keeps : {S : Type 0} → (S → ℕ) → (S → ℕ) → (S → ℕ → List ℕ → List ℕ) → Keeper S → Type 0
Keeps limit made gives k = IsKept (maker_of limit gives k) k.journal.items k.clock k.signed.items k.numbers (made k.signer)

-- its core is the one after its journal
abbrev pub IsLive : {S : Type 0} → (S → ℕ) → (S → ℕ → List ℕ → List ℕ) → Keeper S → Type 0
IsLive limit gives k = k.core ≡ core_after (maker_of limit gives k) k.journal.items

-- unless the log was shut, the core is the one after the journal
pub record IsLog {S : Type 0} (limit made : S → ℕ) (gives : S → ℕ → List ℕ → List ℕ) (k : Keeper S) (shut : Bool) : Type 0 where
  pub kept : Keeps limit made gives k
  pub live : shut ≡ false → IsLive limit gives k

-- ---- what a call does to a keeper

-- it is still of the same replica, and has this journal
pub record IsThen {S : Type 0} (limit made : S → ℕ) (gives : S → ℕ → List ℕ → List ℕ) (old : Keeper S) (journal : List Entry) (now : Keeper S) : Type 0 where
  pub same : maker_of limit gives now ≡ maker_of limit gives old
  pub journal_is : now.journal.items ≡ journal
  pub kept : Keeps limit made gives now

-- and its core is the one after it
pub record IsLiveThen {S : Type 0} (limit made : S → ℕ) (gives : S → ℕ → List ℕ → List ℕ) (old : Keeper S) (journal : List Entry) (now : Keeper S) : Type 0 where
  pub whole : IsThen limit made gives old journal now
  pub live : IsLive limit gives now

-- of the core nothing is said, and nothing else has changed
abbrev pub Stays : {S : Type 0} → (S → ℕ) → (S → ℕ) → (S → ℕ → List ℕ → List ℕ) → Keeper S → Keeper S → Type 0
Stays limit made gives old now = IsThen limit made gives old old.journal.items now

-- an entry more
abbrev pub Enters : {S : Type 0} → (S → ℕ) → (S → ℕ) → (S → ℕ → List ℕ → List ℕ) → Keeper S → Entry → Keeper S → Type 0
Enters limit made gives old e now = IsLiveThen limit made gives old (old.journal.items ++ e ∷ []) now

-- an entry more, where there is one
abbrev pub Moves : {S : Type 0} → (S → ℕ) → (S → ℕ) → (S → ℕ → List ℕ → List ℕ) → Keeper S → Entry → Bool → Keeper S → Type 0
Moves limit made gives old e moved now = IsLiveThen limit made gives old (cond moved (old.journal.items ++ e ∷ []) old.journal.items) now

-- ---- what the core does of its own accord

-- an event, and the entry that it makes
abbrev pub IsMoving : Event → Entry → Type 0
IsMoving Event.Batch Entry.Proposed = Unit {0}
IsMoving Event.Nudge Entry.Nudged = Unit {0}
IsMoving Event.Execute Entry.Executed = Unit {0}
IsMoving Event.Checkpoint Entry.Marked = Unit {0}
IsMoving Event.Timeout Entry.TimedOut = Unit {0}
IsMoving event entry = ⊥

-- ---- what the core hears

-- the entry of a message that is heard
abbrev pub IsHearing : Entry → Message → Type 0
IsHearing (Entry.Heard origin x) heard = x ≡ heard
IsHearing entry heard = ⊥

-- ---- acts

-- what is told of an act, and what it leaves: a core after its journal
pub record HasActed {S : Type 0} (limit made : S → ℕ) (gives : S → ℕ → List ℕ → List ℕ) (old : Keeper S) (act : Act) (told : Told) (now : Keeper S) : Type 0 where
  pub acted : Acted (maker_of limit gives old) old.journal.items act told now.journal.items
  pub whole : IsLiveThen limit made gives old now.journal.items now

abbrev pub IsEmit : Act → Type 0
IsEmit Act.Emit = Unit {0}
IsEmit act = ⊥

-- a refusal of memory that leaves a core after its journal is told of Emit alone
abbrev pub MayBeTold : Act → Told → Type 0
MayBeTold act Told.NoMemory = IsEmit act
MayBeTold act told = Unit {0}
