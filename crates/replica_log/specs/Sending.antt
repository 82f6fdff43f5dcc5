-- What Emit does, step by step.
use Rattle.std.specs.Prelude.{◌≡◌, ℕ, ◌++◌, List, [], ◌∷◌, length, Option, Some, None, IsTrue}
use Rattle.fab_base.specs.declared.ids.ReplicaId.{ReplicaId}
use Rattle.fab_base.specs.declared.answers.Item.{Item}
use Rattle.fab_rules.specs.Format.{fits}
use Rattle.fab_rules.specs.Spelling.{signed, spelling_of}
use Rattle.fab_machine.specs.Items.{sent_item, draft_of}
use Rattle.fab_machine.specs.Step.{emit_step, first}
use Rattle.replica_core.specs.Cores.{Machine, with_state}
use Rattle.run_words.specs.Journal.{Maker, walk, added, no_item, entry_of}
use Rattle.run_words.specs.declared.movers.Mover.{Mover}
use Rattle.run_words.specs.declared.logs.Entry.{Entry}
use Rattle.run_words.specs.declared.logs.Parcel.{Parcel}
use Rattle.parcel_post.specs.Posting.{Counts, Draft, numbered, raised_by, sent_with}
use Rattle.replica_log.specs.declared.keepers.Keeper.{Keeper}

-- ---- the first item that waits

abbrev pub Waits : Option Item → Type 0
Waits None = ⊥
Waits (Some item) = Unit {0}

-- what is signed of it, to whom it goes, and the item as it is sent with this signature
abbrev pub content_in : ReplicaId → Option Item → List ℕ
content_in me None = []
content_in me (Some item) = draft_of me item

-- its spelling, as it waits, which it has
abbrev pub bytes_in : Option Item → List ℕ
bytes_in None = []
bytes_in (Some item) = spelling_of item.message

abbrev pub IsSpelledIn : Option Item → Type 0
IsSpelledIn None = Unit {0}
IsSpelledIn (Some item) = IsTrue (fits item.message)

abbrev pub receivers_in : Option Item → List ReplicaId
receivers_in None = []
receivers_in (Some item) = item.to

abbrev pub sent_in : ReplicaId → List ℕ → Option Item → Item
sent_in me sig None = no_item
sent_in me sig (Some item) = sent_item me sig item

-- a core after its first item was sent
abbrev pub after_sending : Machine → List ℕ → Machine
after_sending core sig = with_state core (emit_step core.me core.state sig core.state.outbox).state

-- the parcels of the next item of a journal
abbrev pub parcels_next : Maker → List Entry → List Parcel
parcels_next m journal = added m (walk m journal) (entry_of m journal Mover.Emit)

-- ---- parcels

-- that wait for a signature of so many bytes
pub record ArePacked (counts : Counts) (time : ℕ) (content : List ℕ) (to : List ReplicaId) (long : ℕ) (draft : Draft) : Type 0 where
  pub parcels : (sig : List ℕ) → length sig ≡ long → sent_with sig draft ≡ numbered counts time (signed content sig) to
  pub counts_are : draft.counts ≡ raised_by counts to
  pub room_is : draft.room ≡ long

-- that wait for nothing
pub record AreWhole (counts : Counts) (time : ℕ) (bytes : List ℕ) (to : List ReplicaId) (draft : Draft) : Type 0 where
  pub parcels : sent_with [] draft ≡ numbered counts time bytes to
  pub counts_are : draft.counts ≡ raised_by counts to
  pub room_is : draft.room ≡ 0

-- ---- a keeper that sends

-- whose it is, its clock and its signer, which have stayed
pub record IsOf {S : Type 0} (old now : Keeper S) : Type 0 where
  pub me : now.me ≡ old.me
  pub members : now.members ≡ old.members
  pub ring : now.ring ≡ old.ring
  pub clock : now.clock ≡ old.clock
  pub signer : now.signer ≡ old.signer

-- what is sent is entered: the item bears this signature where the replica signs it, and these contents were signed for it
pub record IsSealed {S : Type 0} (old : Keeper S) (contents : List (List ℕ)) (draft : Draft) (sig : List ℕ) (now : Keeper S) : Type 0 where
  pub same : IsOf old now
  pub core : now.core ≡ after_sending old.core sig
  pub journal : now.journal.items ≡ old.journal.items ++ Entry.Sent (sent_in old.core.me sig (first old.core.state)) ∷ []
  pub contents_are : now.signed.items ≡ old.signed.items ++ contents
  pub counts : now.numbers ≡ draft.counts
