-- What a journal tells. Each word is a walk from its first entry to its last, or is read off such a walk.
use Rattle.std.specs.Prelude.{◌≡◌, ℕ, ◌+◌, ◌++◌, max, nat_le, nat_eq, cond, Bool, true, false, not, ◌&&◌, List, [], ◌∷◌, map, length, drop, Option, Some, None, Result, Err, if◌then◌else◌}
use Rattle.std.specs.List.{fold, flat_map}
use Rattle.fab_base.specs.Fields.{are_bytes}
use Rattle.fab_base.specs.Limits.{Roster}
use Rattle.fab_base.specs.declared.ids.ReplicaId.{ReplicaId}
use Rattle.fab_base.specs.declared.messages.Message.{Message}
use Rattle.fab_base.specs.declared.answers.Item.{Item}
use Rattle.fab_codec.specs.declared.faults.CodeFault.{CodeFault}
use Rattle.fab_rules.specs.Diary as diaries
use Rattle.fab_rules.specs.Diary.{Heard, Said, Did}
use Rattle.fab_rules.specs.Growth.{after_saying}
use Rattle.fab_rules.specs.Spelling.{content_of}
use Rattle.fab_rules.specs.Statements.{signer_of}
use Rattle.fab_machine.specs.State.{Replica, fresh}
use Rattle.fab_machine.specs.Items.{is_own, with_sig, sent_item, draft_of, statements_by}
use Rattle.fab_machine.specs.Step as machine
use Rattle.fab_machine.specs.Step.{Event, step, first}
use Rattle.fab_machine.specs.Diaries.{state_of, diary_did}
use Rattle.fault_script.specs.declared.twists.Fault.{Fault}
use Rattle.fault_script.specs.declared.twists.Loss.{Loss}
use Rattle.msg_read.specs.Reading.{reading_of}
use Rattle.bft_verify.specs.declared.refusals.Refusal.{Refusal}
use Rattle.bft_verify.specs.Answers.{judged_as_read}
use Rattle.bft_verify.specs.Ring.{Ring}
use Rattle.bft_verify.specs.Sound.{IsSound, signature_of}
use Rattle.run_words.specs.declared.movers.Mover.{Mover}
use Rattle.run_words.specs.Twists.{Copy, is_beside, is_proposal, null_of, copies_from, shares_of, put}
use Rattle.run_words.specs.declared.logs.Origin.{Origin}
use Rattle.run_words.specs.declared.logs.Entry.{Entry}
use Rattle.run_words.specs.declared.logs.Parcel.{Parcel}

-- what a party is made with
pub record Maker : Type 0 where
  pub id : ReplicaId
  pub roster : Roster
  pub ring : Ring
  -- what is lost and repeated in the run
  pub losses : List Loss
  -- how it is faulty, where it is
  pub fault : Option Fault
  -- what else was signed beside what was said, by its place among what was signed
  pub seconds : List (ℕ × List ℕ)
  -- how many signatures its key gives, and the one of a content as number k, from 0
  pub leaves : ℕ
  pub signature : ℕ → List ℕ → List ℕ

-- the same, that signed one content more beside what it said
abbrev pub with_second : Maker → ℕ → List ℕ → Maker
with_second m n c = record m { seconds = m.seconds ++ (n, c) ∷ [] }

-- ---- the machine after the journal

-- the event of an entry: a sent item bears its signature. It looks at messages, and never at origins
abbrev pub event_of : Entry → Event
event_of (Entry.Heard origin x) = Event.Hear x
event_of Entry.Proposed = Event.Batch
event_of Entry.Nudged = Event.Nudge
event_of (Entry.Sent item) = Event.Emit (signature_of item.message)
event_of Entry.Executed = Event.Execute
event_of Entry.Marked = Event.Checkpoint
event_of Entry.TimedOut = Event.Timeout

unfoldable pub state : Maker → List Entry → Replica
state m journal = state_of m.roster m.id (map event_of journal)

unfoldable pub waits : Maker → List Entry → ℕ
waits m journal = length (state m journal).outbox

-- ---- the diary

-- what an entry adds, by the states before and after it: what was heard; what was said, where the replica signs what it sent; each block
-- that the ledger gained
abbrev pub diary_by : ReplicaId → Replica → Entry → Replica → List diaries.Entry → List diaries.Entry
diary_by me s (Entry.Heard origin x) now past = Heard x ∷ past
diary_by me s (Entry.Sent item) now past = after_saying past (statements_by me item.message)
diary_by me s Entry.Executed now past = diary_did past (drop (length s.rounds.blocks) now.rounds.blocks)
diary_by me s e now past = past

abbrev pub diary_from : Maker → Replica → List diaries.Entry → List Entry → List diaries.Entry
diary_from m s past [] = past
diary_from m s past (e ∷ rest) =
    diary_from m (step m.roster m.id s (event_of e)).state (diary_by m.id s e (step m.roster m.id s (event_of e)).state past) rest

unfoldable pub diary : Maker → List Entry → List diaries.Entry
diary m journal = diary_from m (fresh m.roster m.id) [] journal

-- the contents of what was said, in order: a diary has its newest entry first
abbrev pub said : List diaries.Entry → List (List ℕ)
said [] = []
said (Said x ∷ past) = said past ++ content_of x ∷ []
said (Heard x ∷ past) = said past
said (Did block ∷ past) = said past

-- ---- the clock: it counts hops, and moves at hearings alone (Lamport)

abbrev pub tick_by : ℕ → Origin → ℕ
tick_by c (Origin.Client k) = c
tick_by c (Origin.Replica from time) = max c (1 + time)

abbrev pub tick : ℕ → Entry → ℕ
tick c (Entry.Heard origin x) = tick_by c origin
tick c e = c

-- ---- one walk for what grows

pub record Walk : Type 0 where
  pub clock : ℕ
  pub parcels : List Parcel
  -- the receivers of the certificates among the parcels
  pub shares : List ReplicaId
  -- the contents that were signed
  pub signed : List (List ℕ)

-- the null proposal that is signed beside a message of the replica's own whose signature has this number, by the next leaf
unfoldable pub null_beside : Maker → ℕ → Message → Option Message
null_beside m k x =
    if is_beside m.id m.leaves m.fault k x then Some (with_sig (m.signature (k + 1) (content_of (null_of x))) (null_of x)) else None

-- the copies that an entry puts
unfoldable pub copies : Maker → Walk → Entry → List Copy
copies m w (Entry.Sent item) =
    copies_from m.fault (is_proposal m.id item.message) (null_beside m (length w.signed) item.message) item.message item.to
copies m w e = []

-- the parcels that an entry adds
unfoldable pub added : Maker → Walk → Entry → List Parcel
added m w e = put m.id m.losses m.fault w.clock w.parcels w.shares (copies m w e)

-- what a replica says by an entry: the content of an item that it signs itself
unfoldable pub stated_by : Maker → Entry → List (List ℕ)
stated_by m (Entry.Sent item) = if is_own m.id (signer_of item.message) then content_of item.message ∷ [] else []
stated_by m e = []

-- what stands at a place
abbrev pub second_at : ℕ → List (ℕ × List ℕ) → List (List ℕ)
second_at k [] = []
second_at k (p ∷ rest) = cond (nat_eq p.0 k) (p.1 ∷ []) (second_at k rest)

-- what it signs beside that, the own signature having this number
unfoldable pub signed_beside : Maker → ℕ → Entry → List (List ℕ)
signed_beside m k (Entry.Sent item) =
    if is_beside m.id m.leaves m.fault k item.message then content_of (null_of item.message) ∷ []
    else if is_own m.id (signer_of item.message) then second_at (k + 1) m.seconds else []
signed_beside m k e = []

-- what is signed for an entry
unfoldable pub signed_by : Maker → Walk → Entry → List (List ℕ)
signed_by m w e = stated_by m e ++ signed_beside m (length w.signed) e

abbrev pub after_entry : Maker → Walk → Entry → Walk
after_entry m w e = record {
  clock = tick w.clock e;
  parcels = w.parcels ++ added m w e;
  shares = w.shares ++ shares_of (copies m w e);
  signed = w.signed ++ signed_by m w e;
}

unfoldable pub walk : Maker → List Entry → Walk
walk m journal = fold (after_entry m) (record { clock = 0; parcels = []; shares = []; signed = [] }) journal

abbrev pub clock : Maker → List Entry → ℕ
clock m journal = (walk m journal).clock

abbrev pub parcels_of : Maker → List Entry → List Parcel
parcels_of m journal = (walk m journal).parcels

abbrev pub signed_of : Maker → List Entry → List (List ℕ)
signed_of m journal = (walk m journal).signed

-- what it said, entry by entry
abbrev pub stated : Maker → List Entry → List (List ℕ)
stated m journal = flat_map (stated_by m) journal

-- ---- what may come next

-- the first item that waits is to be signed by the replica
abbrev pub needs_leaf : ReplicaId → Option Item → Bool
needs_leaf me None = false
needs_leaf me (Some item) = is_own me (signer_of item.message)

-- and no leaf is left
unfoldable pub is_blocked : Maker → List Entry → Bool
is_blocked m journal = needs_leaf m.id (first (state m journal)) && nat_le m.leaves (length (signed_of m journal))

-- whether an event would make an entry: where it would by the machine, but for Emit behind a used-up key
unfoldable pub moves : Maker → List Entry → Mover → Bool
moves m journal Mover.Batch = machine.moves m.roster m.id (state m journal) Event.Batch
moves m journal Mover.Nudge = machine.moves m.roster m.id (state m journal) Event.Nudge
moves m journal Mover.Emit = machine.moves m.roster m.id (state m journal) (Event.Emit []) && not (is_blocked m journal)
moves m journal Mover.Execute = machine.moves m.roster m.id (state m journal) Event.Execute
moves m journal Mover.Checkpoint = machine.moves m.roster m.id (state m journal) Event.Checkpoint
moves m journal Mover.Timeout = machine.moves m.roster m.id (state m journal) Event.Timeout

-- nothing, for nobody
abbrev pub no_item : Item
no_item = record { message = Message.Share (record { cluster = 0; batch = []; votes = [] }); to = [] }

-- an item as it is sent: where the replica signs it, by the signature of this number
abbrev pub item_by : Maker → ℕ → Option Item → Item
item_by m k None = no_item
item_by m k (Some item) = sent_item m.id (m.signature k (draft_of m.id item)) item

-- the first item that waits, as Emit sends it. Where none waits, Emit sends nothing
unfoldable pub next_item : Maker → List Entry → Item
next_item m journal = item_by m (length (signed_of m journal)) (first (state m journal))

-- the entry that an event makes where it makes one
abbrev pub entry_of : Maker → List Entry → Mover → Entry
entry_of m journal Mover.Batch = Entry.Proposed
entry_of m journal Mover.Nudge = Entry.Nudged
entry_of m journal Mover.Emit = Entry.Sent (next_item m journal)
entry_of m journal Mover.Execute = Entry.Executed
entry_of m journal Mover.Checkpoint = Entry.Marked
entry_of m journal Mover.Timeout = Entry.TimedOut

-- the next entry is one that the machine makes after these. Hearing always makes one
abbrev pub IsNext : Maker → List Entry → Entry → Type 0
IsNext m journal (Entry.Heard origin x) = Unit {0}
IsNext m journal Entry.Proposed = moves m journal Mover.Batch ≡ true
IsNext m journal Entry.Nudged = moves m journal Mover.Nudge ≡ true
IsNext m journal (Entry.Sent sent) = (moves m journal Mover.Emit ≡ true) × (sent ≡ next_item m journal)
IsNext m journal Entry.Executed = moves m journal Mover.Execute ≡ true
IsNext m journal Entry.Marked = moves m journal Mover.Checkpoint ≡ true
IsNext m journal Entry.TimedOut = moves m journal Mover.Timeout ≡ true

abbrev pub IsMadeFrom : Maker → List Entry → List Entry → Type 0
IsMadeFrom m earlier [] = Unit {0}
IsMadeFrom m earlier (e ∷ rest) = IsNext m earlier e × IsMadeFrom m (earlier ++ e ∷ []) rest

-- each entry is made by its event after those before it: a sent item is the first that waited, and bears the signature of its own number
abbrev pub IsMade : Maker → List Entry → Type 0
IsMade m journal = IsMadeFrom m [] journal

-- ---- what is heard

-- what a receiver makes of a load: the message that it spells, where it is sound, or else the first refusal. A list with a number that is
-- no byte spells nothing
unfoldable pub reads : Maker → List ℕ → Result Message Refusal
reads m load =
    if are_bytes load then judged_as_read m.roster m.ring (reading_of load) else Err (Refusal.Decode (CodeFault.BadTag 0))

abbrev pub IsHeardSound : Maker → Entry → Type 0
IsHeardSound m (Entry.Heard origin x) = IsSound m.roster m.ring x
IsHeardSound m e = Unit {0}

-- each heard message is sound
abbrev pub AreSound : Maker → List Entry → Type 0
AreSound m [] = Unit {0}
AreSound m (e ∷ rest) = IsHeardSound m e × AreSound m rest
