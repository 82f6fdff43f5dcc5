-- What Emit sends is the next item of the journal, and the journal with it is kept.
use Rattle.std.proofs.Common.{◌≡◌, ℕ, ◌+◌, ◌<◌, Bool, true, false, cond, not, ◌&&◌, List, [], ◌∷◌, ◌++◌, length, Option, Some, None, refl, sym, ap, subst, ◌∙◌, arith}
use Rattle.std.specs.Prelude.{nat_le}
use Rattle.std.proofs.lemmas.Bool.Decides.{nat_tests}
use Rattle.fab_base.specs.declared.ids.ReplicaId.{ReplicaId}
use Rattle.fab_base.specs.declared.ids.Who.{Who}
use Rattle.fab_base.specs.declared.messages.Message.{Message}
use Rattle.fab_base.specs.declared.answers.Answer.{Answer}
use Rattle.fab_base.specs.declared.answers.Item.{Item}
use Rattle.fab_rules.specs.Lists.{first_of}
use Rattle.fab_rules.specs.Spelling.{content_of, spelling_of, signed}
use Rattle.fab_rules.specs.Statements.{signer_of}
use Rattle.fab_machine.specs.State.{Replica}
use Rattle.fab_machine.specs.Items.{is_own, with_sig, draft_of}
use Rattle.fab_machine.specs.Step as machine
use Rattle.fab_machine.specs.Step.{Event, makes_entry, emit_step, first}
use Rattle.fab_base.specs.Limits.{Roster}
use Rattle.bft_verify.specs.Ring.{Ring}
use Rattle.bft_verify.specs.Sound.{signature_of}
use Rattle.run_words.specs.declared.movers.Mover.{Mover}
use Rattle.run_words.specs.declared.logs.Entry.{Entry}
use Rattle.run_words.specs.declared.logs.Parcel.{Parcel}
use Rattle.run_words.specs.Journal.{Maker, state, walk, parcels_of, signed_of, added, stated_by, signed_by, needs_leaf, is_blocked, moves, item_by, next_item, entry_of}
use Rattle.run_words.specs.Acts.{told_of_emit}
use Rattle.run_words.specs.declared.party.Told.{Told}
use Rattle.run_words.proofs.Placing.{content_signed}
use Rattle.run_words.proofs.Replays.{state_more, said_signed}
use Rattle.run_words.proofs.Signing.{signed_plainly}
use Rattle.replica_core.specs.Cores.{Machine}
use Rattle.replica_log.specs.Keeping.{IsKept, core_after, maker_of, Keeps, IsLive, Enters, Moves}
use Rattle.parcel_post.specs.Posting.{Counts, Draft, AreNumbers, numbered, raised_by, sent_with}
use Rattle.replica_log.specs.Sending.{Waits, content_in, bytes_in, receivers_in, sent_in, after_sending, parcels_next, ArePacked, AreWhole, IsSealed}
use Rattle.replica_log.specs.declared.keepers.Keeper.{Keeper}
use Rattle.parcel_post.proofs.Numbered.{added_is, numbers_added}
use Rattle.replica_log.proofs.Signed.{signed_spelling}
use Rattle.replica_log.proofs.Growing.{kept_more}
use Rattle.replica_log.proofs.Asked.{signs_alone}

-- ---- the item as it is sent

item_sent : (m : Maker) (k : ℕ) (o : Option Item) → sent_in m.id (m.signature k (content_in m.id o)) o ≡ item_by m k o
item_sent m k None = refl
item_sent m k (Some item) = refl

own_spelled : (me : ReplicaId) (sig : List ℕ) (x : Message) (b : Bool) → is_own me (signer_of x) ≡ true → b ≡ true
    → spelling_of (cond b (with_sig sig x) x) ≡ signed (cond b (content_of x) []) sig
own_spelled me sig x true own e = signed_spelling me sig x own
own_spelled me sig x false own e = absurd cc

-- is spelled as its content and the signature
sent_spelling : (me : ReplicaId) (sig : List ℕ) (o : Option Item) → needs_leaf me o ≡ true
    → (spelling_of (sent_in me sig o).message ≡ signed (content_in me o) sig) × ((sent_in me sig o).to ≡ receivers_in o)
sent_spelling me sig None h = absurd cc
sent_spelling me sig (Some item) h = (own_spelled me sig item.message (is_own me (signer_of item.message)) h h, refl)

abbrev signs_by : ReplicaId → Option Who → List ℕ → List (List ℕ)
signs_by me signer content = cond (is_own me signer) (content ∷ []) []

own_signed : (me : ReplicaId) (sig : List ℕ) (x : Message) (b : Bool) → is_own me (signer_of x) ≡ true → b ≡ true
    → signs_by me (signer_of (cond b (with_sig sig x) x)) (content_of (cond b (with_sig sig x) x)) ≡ cond b (content_of x) [] ∷ []
own_signed me sig x true own e =
    ap (λ (w : Option Who). signs_by me w (content_of (with_sig sig x))) (said_signed sig x).0
    ∙ ap (signs_by me (signer_of x)) (content_signed sig x)
    ∙ ap (λ (b : Bool). cond b (content_of x ∷ []) []) own
own_signed me sig x false own e = absurd cc

-- and what is signed for it is its content
sent_signs : (m : Maker) (sig : List ℕ) (o : Option Item) → needs_leaf m.id o ≡ true
    → stated_by m (Entry.Sent (sent_in m.id sig o)) ≡ content_in m.id o ∷ []
unfolding stated_by
sent_signs m sig None h = absurd cc
sent_signs m sig (Some item) h = own_signed m.id sig item.message (is_own m.id (signer_of item.message)) h h

-- ---- the item as it is passed on

-- is what it was, whatever signature is at hand
passed_item : (m : Maker) (k : ℕ) (sig : List ℕ) (o : Option Item) → needs_leaf m.id o ≡ false → sent_in m.id sig o ≡ item_by m k o
passed_item m k sig None h = refl
passed_item m k sig (Some item) h =
    let by : List ℕ → Bool → Item = λ s b. record item { message = cond b (with_sig s item.message) item.message } in
    ap (by sig) h ∙ sym (ap (by (m.signature k (draft_of m.id item))) h)

passed_spelling : (me : ReplicaId) (sig : List ℕ) (o : Option Item) → Waits o → needs_leaf me o ≡ false
    → (spelling_of (sent_in me sig o).message ≡ bytes_in o) × ((sent_in me sig o).to ≡ receivers_in o)
passed_spelling me sig None w h = absurd w
passed_spelling me sig (Some item) w h = (ap (λ (b : Bool). spelling_of (cond b (with_sig sig item.message) item.message)) h, refl)

-- and nothing is signed for it
passed_signs : (m : Maker) (sig : List ℕ) (o : Option Item) → Waits o → needs_leaf m.id o ≡ false → stated_by m (Entry.Sent (sent_in m.id sig o)) ≡ []
unfolding stated_by
passed_signs m sig None w h = absurd w
passed_signs m sig (Some item) w h =
    let signs : Message → List (List ℕ) = λ x. signs_by m.id (signer_of x) (content_of x) in
    ap (λ (b : Bool). signs (cond b (with_sig sig item.message) item.message)) h
    ∙ ap (λ (b : Bool). cond b (content_of item.message ∷ []) []) h

-- ---- it moves

some_waits : (me : ReplicaId) (s : Replica) (sig : List ℕ) (items : List Item) → Waits (first_of items)
    → makes_entry (emit_step me s sig items).answer ≡ true
some_waits me s sig [] w = absurd w
some_waits me s sig (x ∷ rest) w = refl

none_waits : (me : ReplicaId) (s : Replica) (sig : List ℕ) (items : List Item) → first_of items ≡ None
    → makes_entry (emit_step me s sig items).answer ≡ false
none_waits me s sig [] w = refl
none_waits me s sig (x ∷ rest) w = absurd cc

both_true : (a b : Bool) → a ≡ true → b ≡ false → a && not b ≡ true
both_true a b p q = cc

above : (a b : ℕ) → b < a → nat_le a b ≡ false
above a b h = grind (arith, nat_tests)

and_false : (a b : Bool) → b ≡ false → (a && b) ≡ false
and_false true b h = h
and_false false b h = refl

moves_unless : (m : Maker) (journal : List Entry) → Waits (first (state m journal)) → is_blocked m journal ≡ false → moves m journal Mover.Emit ≡ true
unfolding moves
moves_unless m journal waits free =
    both_true (machine.moves m.roster m.id (state m journal) (Event.Emit [])) (is_blocked m journal)
    (some_waits m.id (state m journal) [] (state m journal).outbox waits) free

-- where a leaf is left
pub moves_first : (m : Maker) (journal : List Entry) → Waits (first (state m journal)) → length (signed_of m journal) < m.leaves
    → moves m journal Mover.Emit ≡ true
unfolding is_blocked
moves_first m journal waits left =
    moves_unless m journal waits
    (and_false (needs_leaf m.id (first (state m journal))) (nat_le m.leaves (length (signed_of m journal))) (above m.leaves (length (signed_of m journal)) left))

-- and where none is needed
pub moves_passed : (m : Maker) (journal : List Entry) → Waits (first (state m journal)) → needs_leaf m.id (first (state m journal)) ≡ false
    → moves m journal Mover.Emit ≡ true
unfolding is_blocked
moves_passed m journal waits another =
    moves_unless m journal waits (ap (λ (b : Bool). b && nat_le m.leaves (length (signed_of m journal))) another)

-- ---- all that is known when the first item is sent

-- with what is kept of the journal: with this signature it is the next item, for which these contents are signed, and the parcels wait for it
pub record IsReady (m : Maker) (journal : List Entry) (now : ℕ) (earlier : List (List ℕ)) (counts : Counts) (made : ℕ) (contents : List (List ℕ)) (draft : Draft) (sig : List ℕ) : Type 0 where
  pub kept : IsKept m journal now earlier counts made
  pub moved : moves m journal Mover.Emit ≡ true
  pub item : sent_in m.id sig (first (state m journal)) ≡ next_item m journal
  pub signs : stated_by m (Entry.Sent (next_item m journal)) ≡ contents
  pub parcels : sent_with sig draft ≡ numbered counts now (spelling_of (next_item m journal).message) (next_item m journal).to
  pub counts_are : draft.counts ≡ raised_by counts (next_item m journal).to

next_is : (m : Maker) (journal : List Entry) → next_item m journal ≡ item_by m (length (signed_of m journal)) (first (state m journal))
unfolding next_item
next_is m journal = refl

emitted : (me : ReplicaId) (s : Replica) (sig other : List ℕ) (items : List Item)
    → (emit_step me s sig items).state ≡ (emit_step me s other items).state
emitted me s sig other [] = refl
emitted me s sig other (x ∷ rest) = refl

module _ (m : Maker) (journal : List Entry) (now : ℕ) (earlier : List (List ℕ)) (counts : Counts) (made : ℕ) (contents : List (List ℕ)) (draft : Draft) (sig : List ℕ) (r : IsReady m journal now earlier counts made contents draft sig) where
  abbrev entry : Entry
  entry = Entry.Sent (next_item m journal)

  -- its parcels are those of the next item
  pub parcels_are : sent_with sig draft ≡ parcels_next m journal
  parcels_are =
      r.parcels ∙ ap (λ (c : ℕ). numbered counts c (spelling_of (next_item m journal).message) (next_item m journal).to) r.kept.clock_is
      ∙ added_is m (walk m journal) counts (next_item m journal) r.kept.plain r.kept.numbers

  signs : signed_by m (walk m journal) entry ≡ contents
  signs = signed_plainly m (walk m journal) entry (signs_alone m journal now earlier counts made r.kept) ∙ r.signs

  -- what is kept with it
  pub kept_next : IsKept m (journal ++ entry ∷ []) now (earlier ++ contents) draft.counts (made + length contents)
  kept_next =
      kept_more m journal entry now now earlier (earlier ++ contents) counts draft.counts made (made + length contents) r.kept (record {
        next = (r.moved, refl);
        sound = tt;
        ticks = refl;
        signs = ap (λ (l : List (List ℕ)). earlier ++ l) (sym signs);
        numbers =
            subst (λ (c : Counts). AreNumbers c (parcels_of m journal ++ added m (walk m journal) entry)) (sym r.counts_are)
            (numbers_added m (walk m journal) counts (next_item m journal) r.kept.plain r.kept.numbers);
        makes = ap (λ (l : List (List ℕ)). made + length l) (sym signs);
      })

  -- the core, too
  pub core_next : after_sending (core_after m journal) sig ≡ core_after m (journal ++ entry ∷ [])
  core_next =
      let core : Replica → Machine = λ s. record { roster = m.roster; me = m.id; state = s; shut = false } in
      ap core (emitted m.id (state m journal) sig (signature_of (next_item m journal).message) (state m journal).outbox)
      ∙ ap core (sym (state_more m journal entry))

-- ---- what the call knows is all that

module _ (m : Maker) (journal : List Entry) (now : ℕ) (earlier : List (List ℕ)) (counts : Counts) (made : ℕ) (core : Machine) (draft : Draft) (kept : IsKept m journal now earlier counts made) (live : core ≡ core_after m journal) (waits : Waits (first core.state)) where
  abbrev o : Option Item
  o = first (state m journal)

  waits_there : Waits o
  waits_there = subst (λ (c : Machine). Waits (first c.state)) live waits

  number : made ≡ length (signed_of m journal)
  number = kept.used ∙ ap length kept.signed_is

  -- of an item that the replica signs
  pub signed_ready : (content sig : List ℕ) (long : ℕ) → needs_leaf m.id (first core.state) ≡ true → made < m.leaves
      → content ≡ content_in core.me (first core.state) → ArePacked counts now content (receivers_in (first core.state)) long draft
      → (given : List ℕ) → given ≡ content → sig ≡ m.signature made given → length sig ≡ long
      → IsReady m journal now earlier counts made (content ∷ []) draft sig
  signed_ready content sig long own left content_is packed given given_is sig_is long_is =
      let mine : needs_leaf m.id o ≡ true = ap (λ (c : Machine). needs_leaf m.id (first c.state)) (sym live) ∙ own in
      let content_at : content ≡ content_in m.id o = content_is ∙ ap (λ (c : Machine). content_in c.me (first c.state)) live in
      let same : sent_in m.id sig o ≡ next_item m journal =
      ap (λ (g : List ℕ). sent_in m.id g o)
      (sig_is ∙ ap (m.signature made) given_is ∙ ap (λ (n : ℕ). m.signature n content) number
      ∙ ap (m.signature (length (signed_of m journal))) content_at)
      ∙ item_sent m (length (signed_of m journal)) o ∙ sym (next_is m journal) in
      let spelled = sent_spelling m.id sig o mine in
      let bytes : signed content sig ≡ spelling_of (next_item m journal).message =
      ap (λ (c : List ℕ). signed c sig) content_at ∙ sym spelled.0 ∙ ap (λ (i : Item). spelling_of i.message) same in
      let receivers : receivers_in (first core.state) ≡ (next_item m journal).to =
      ap (λ (c : Machine). receivers_in (first c.state)) live ∙ sym spelled.1 ∙ ap (λ (i : Item). i.to) same in
      record {
        kept = kept;
        moved = moves_first m journal waits_there (subst (λ (n : ℕ). n < m.leaves) number left);
        item = same;
        signs = ap (λ (i : Item). stated_by m (Entry.Sent i)) (sym same) ∙ sent_signs m sig o mine ∙ ap (λ (c : List ℕ). c ∷ []) (sym content_at);
        parcels =
            packed.parcels sig long_is ∙ ap (λ (b : List ℕ). numbered counts now b (receivers_in (first core.state))) bytes
            ∙ ap (numbered counts now (spelling_of (next_item m journal).message)) receivers;
        counts_are = packed.counts_are ∙ ap (raised_by counts) receivers;
      }

  -- of one that it passes on
  pub passed_ready : (sig : List ℕ) → sig ≡ [] → needs_leaf m.id (first core.state) ≡ false
      → AreWhole counts now (bytes_in (first core.state)) (receivers_in (first core.state)) draft
      → IsReady m journal now earlier counts made [] draft sig
  passed_ready sig none another whole =
      let other : needs_leaf m.id o ≡ false = ap (λ (c : Machine). needs_leaf m.id (first c.state)) (sym live) ∙ another in
      let same : sent_in m.id sig o ≡ next_item m journal = passed_item m (length (signed_of m journal)) sig o other ∙ sym (next_is m journal) in
      let spelled = passed_spelling m.id sig o waits_there other in
      let bytes : bytes_in (first core.state) ≡ spelling_of (next_item m journal).message =
      ap (λ (c : Machine). bytes_in (first c.state)) live ∙ sym spelled.0 ∙ ap (λ (i : Item). spelling_of i.message) same in
      let receivers : receivers_in (first core.state) ≡ (next_item m journal).to =
      ap (λ (c : Machine). receivers_in (first c.state)) live ∙ sym spelled.1 ∙ ap (λ (i : Item). i.to) same in
      record {
        kept = kept;
        moved = moves_passed m journal waits_there other;
        item = same;
        signs = ap (λ (i : Item). stated_by m (Entry.Sent i)) (sym same) ∙ passed_signs m sig o waits_there other;
        parcels =
            ap (λ (g : List ℕ). sent_with g draft) none ∙ whole.parcels
            ∙ ap (λ (b : List ℕ). numbered counts now b (receivers_in (first core.state))) bytes
            ∙ ap (numbered counts now (spelling_of (next_item m journal).message)) receivers;
        counts_are = whole.counts_are ∙ ap (raised_by counts) receivers;
      }

-- ---- the keeper that has sent it

-- a keeper with room for an entry more, whose signer has made so many signatures more
pub record IsSigned {S : Type 0} (limit made : S → ℕ) (gives : S → ℕ → List ℕ → List ℕ) (more : ℕ) (old mid : Keeper S) : Type 0 where
  pub me : mid.me ≡ old.me
  pub members : mid.members ≡ old.members
  pub ring : mid.ring ≡ old.ring
  pub core : mid.core ≡ old.core
  pub journal : mid.journal.items ≡ old.journal.items
  pub clock : mid.clock ≡ old.clock
  pub earlier : mid.signed.items ≡ old.signed.items
  pub limit_is : limit mid.signer ≡ limit old.signer
  pub gives_is : gives mid.signer ≡ gives old.signer
  pub makes : made mid.signer ≡ made old.signer + more

abbrev made_with : ReplicaId → Roster → Ring → ℕ → (ℕ → List ℕ → List ℕ) → Maker
made_with id roster ring leaves signature =
    record { id = id; roster = roster; ring = ring; losses = []; fault = None; seconds = []; leaves = leaves; signature = signature }

-- makers of correct replicas, of which nothing is lost, are the same by the rest
same_maker : (i j : ReplicaId) (r s : Roster) (k l : Ring) (a b : ℕ) (f g : ℕ → List ℕ → List ℕ) → i ≡ j → r ≡ s → k ≡ l → a ≡ b → f ≡ g
    → made_with i r k a f ≡ made_with j s l b g
same_maker i j r s k l a b f g same_id same_roster same_ring same_leaves same_signature =
    ap (λ (x : ReplicaId). made_with x r k a f) same_id ∙ ap (λ (x : Roster). made_with j x k a f) same_roster
    ∙ ap (λ (x : Ring). made_with j s x a f) same_ring ∙ ap (λ (x : ℕ). made_with j s l x f) same_leaves ∙ ap (made_with j s l b) same_signature

kept_by : (m n : Maker) (j l : List Entry) (c d : ℕ) (p q : List (List ℕ)) (t u : Counts) (a b : ℕ) → n ≡ m → l ≡ j → d ≡ c → q ≡ p → u ≡ t → b ≡ a
    → IsKept m j c p t a
    → IsKept n l d q u b
kept_by m n j l c d p q t u a b em el ed eq eu eb h =
    subst (λ (x : Maker). IsKept x l d q u b) (sym em)
    (subst (λ (x : List Entry). IsKept m x d q u b) (sym el)
    (subst (λ (x : ℕ). IsKept m j x q u b) (sym ed)
    (subst (λ (x : List (List ℕ)). IsKept m j c x u b) (sym eq)
    (subst (λ (x : Counts). IsKept m j c p x b) (sym eu) (subst (λ (x : ℕ). IsKept m j c p t x) (sym eb) h)))))

module _ {S : Type 0} (limit made : S → ℕ) (gives : S → ℕ → List ℕ → List ℕ) (old mid now : Keeper S) (contents : List (List ℕ)) (draft : Draft) (sig : List ℕ) (r : IsReady (maker_of limit gives old) old.journal.items old.clock old.signed.items old.numbers (made old.signer) contents draft sig) (live : IsLive limit gives old) (signed_is : IsSigned limit made gives (length contents) old mid) (sealed : IsSealed mid contents draft sig now) where
  abbrev m : Maker
  m = maker_of limit gives old

  signer_is : now.signer ≡ mid.signer
  signer_is = sealed.same.signer

  same : maker_of limit gives now ≡ m
  same =
      same_maker now.me old.me now.members old.members now.ring old.ring (limit now.signer) (limit old.signer) (gives now.signer) (gives old.signer)
      (sealed.same.me ∙ signed_is.me) (sealed.same.members ∙ signed_is.members) (sealed.same.ring ∙ signed_is.ring)
      (ap limit signer_is ∙ signed_is.limit_is) (ap gives signer_is ∙ signed_is.gives_is)

  core_is : mid.core ≡ core_after m old.journal.items
  core_is = signed_is.core ∙ live

  item_is : sent_in mid.core.me sig (first mid.core.state) ≡ next_item m old.journal.items
  item_is = ap (λ (c : Machine). sent_in c.me sig (first c.state)) core_is ∙ r.item

  journal_now : now.journal.items ≡ old.journal.items ++ Entry.Sent (next_item m old.journal.items) ∷ []
  journal_now =
      sealed.journal ∙ ap (λ (l : List Entry). l ++ Entry.Sent (sent_in mid.core.me sig (first mid.core.state)) ∷ []) signed_is.journal
      ∙ ap (λ (item : Item). old.journal.items ++ Entry.Sent item ∷ []) item_is

  -- is kept, and its core is the one after its journal
  pub entered : Enters limit made gives old (Entry.Sent (next_item m old.journal.items)) now
  entered = record {
    whole = record {
      same = same;
      journal_is = journal_now;
      kept =
          kept_by m (maker_of limit gives now) (old.journal.items ++ Entry.Sent (next_item m old.journal.items) ∷ []) now.journal.items old.clock now.clock
          (old.signed.items ++ contents) now.signed.items draft.counts now.numbers (made old.signer + length contents) (made now.signer) same journal_now
          (sealed.same.clock ∙ signed_is.clock) (sealed.contents_are ∙ ap (λ (l : List (List ℕ)). l ++ contents) signed_is.earlier) sealed.counts
          (ap made signer_is ∙ signed_is.makes)
          (kept_next m old.journal.items old.clock old.signed.items old.numbers (made old.signer) contents draft sig r);
    };
    live =
        sealed.core ∙ ap (λ (c : Machine). after_sending c sig) core_is
        ∙ core_next m old.journal.items old.clock old.signed.items old.numbers (made old.signer) contents draft sig r
        ∙ ap (core_after m) (sym journal_now) ∙ ap (λ (x : Maker). core_after x now.journal.items) (sym same);
  }

-- ---- where nothing is sent

-- no item waits
pub none_moves : (m : Maker) (journal : List Entry) → first (state m journal) ≡ None
    → (moves m journal Mover.Emit ≡ false) × (is_blocked m journal ≡ false)
unfolding moves is_blocked
none_moves m journal e = (
  ap (λ (b : Bool). b && not (is_blocked m journal)) (none_waits m.id (state m journal) [] (state m journal).outbox e),
  ap (λ (o : Option Item). needs_leaf m.id o && nat_le m.leaves (length (signed_of m journal))) e,
)

none_false : (a b : Bool) → b ≡ true → (a && not b) ≡ false
none_false true true h = refl
none_false false true h = refl
none_false a false h = absurd cc

all_used : (a b : ℕ) → b ≡ a → nat_le a b ≡ true
all_used a b h = grind (arith, nat_tests)

-- no leaf is left for the first item
pub spent_moves : (m : Maker) (journal : List Entry) → needs_leaf m.id (first (state m journal)) ≡ true → length (signed_of m journal) ≡ m.leaves
    → (moves m journal Mover.Emit ≡ false) × (is_blocked m journal ≡ true)
unfolding moves is_blocked
spent_moves m journal own all =
    let blocked : is_blocked m journal ≡ true =
    ap (λ (b : Bool). b && nat_le m.leaves (length (signed_of m journal))) own ∙ all_used m.leaves (length (signed_of m journal)) all in
    (none_false (machine.moves m.roster m.id (state m journal) (Event.Emit [])) (is_blocked m journal) blocked, blocked)

-- ---- what is told

pub told_nothing : (m : Maker) (journal : List Entry) → (moves m journal Mover.Emit ≡ false) × (is_blocked m journal ≡ false)
    → Told.Core Answer.Nothing ≡ told_of_emit m journal
told_nothing m journal h = cc

pub told_spent : (m : Maker) (journal : List Entry) (used : ℕ) → used ≡ length (signed_of m journal)
    → (moves m journal Mover.Emit ≡ false) × (is_blocked m journal ≡ true)
    → Told.KeySpent used ≡ told_of_emit m journal
told_spent m journal used u h = cc

pub told_out : (m : Maker) (journal : List Entry) (parcels : List Parcel) → parcels ≡ parcels_next m journal
    → moves m journal Mover.Emit ≡ true
    → Told.Out parcels ≡ told_of_emit m journal
told_out m journal parcels p h = cc

-- ---- the same of a keeper

module _ {S : Type 0} (limit made : S → ℕ) (gives : S → ℕ → List ℕ → List ℕ) (k : Keeper S) (kept : Keeps limit made gives k) (live : IsLive limit gives k) where
  -- nothing is sent, and it is what it was
  stays : moves (maker_of limit gives k) k.journal.items Mover.Emit ≡ false
      → Moves limit made gives k (entry_of (maker_of limit gives k) k.journal.items Mover.Emit) (moves (maker_of limit gives k) k.journal.items Mover.Emit) k
  stays h =
      subst (λ (b : Bool). Moves limit made gives k (entry_of (maker_of limit gives k) k.journal.items Mover.Emit) b k) (sym h)
      (record { whole = record { same = refl; journal_is = refl; kept = kept }; live = live })

  pub nothing_waits : first k.core.state ≡ None
      → (moves (maker_of limit gives k) k.journal.items Mover.Emit ≡ false) × (is_blocked (maker_of limit gives k) k.journal.items ≡ false)
  nothing_waits e = none_moves (maker_of limit gives k) k.journal.items (sym (ap (λ (c : Machine). first c.state) live) ∙ e)

  pub nothing_moves : first k.core.state ≡ None
      → Moves limit made gives k (entry_of (maker_of limit gives k) k.journal.items Mover.Emit) (moves (maker_of limit gives k) k.journal.items Mover.Emit) k
  nothing_moves e = stays (nothing_waits e).0

  number_is : made k.signer ≡ length (signed_of (maker_of limit gives k) k.journal.items)
  number_is = kept.used ∙ ap length kept.signed_is

  waits_still : Waits (first k.core.state) → Waits (first (state (maker_of limit gives k) k.journal.items))
  waits_still w = subst (λ (c : Machine). Waits (first c.state)) live w

  mine : needs_leaf k.me (first k.core.state) ≡ true → needs_leaf k.me (first (state (maker_of limit gives k) k.journal.items)) ≡ true
  mine own = ap (λ (c : Machine). needs_leaf k.me (first c.state)) (sym live) ∙ own

  spent_waits : needs_leaf k.me (first k.core.state) ≡ true → made k.signer ≡ limit k.signer
      → (moves (maker_of limit gives k) k.journal.items Mover.Emit ≡ false) × (is_blocked (maker_of limit gives k) k.journal.items ≡ true)
  spent_waits own e = spent_moves (maker_of limit gives k) k.journal.items (mine own) (sym number_is ∙ e)

  pub nothing_told : first k.core.state ≡ None → Told.Core Answer.Nothing ≡ told_of_emit (maker_of limit gives k) k.journal.items
  nothing_told e = told_nothing (maker_of limit gives k) k.journal.items (nothing_waits e)

  pub spent_told : (used : ℕ) → needs_leaf k.me (first k.core.state) ≡ true → made k.signer ≡ limit k.signer → used ≡ made k.signer
      → Told.KeySpent used ≡ told_of_emit (maker_of limit gives k) k.journal.items
  spent_told used own e u = told_spent (maker_of limit gives k) k.journal.items used (u ∙ number_is) (spent_waits own e)

  pub spent_stays : needs_leaf k.me (first k.core.state) ≡ true → made k.signer ≡ limit k.signer
      → Moves limit made gives k (entry_of (maker_of limit gives k) k.journal.items Mover.Emit) (moves (maker_of limit gives k) k.journal.items Mover.Emit) k
  spent_stays own e = stays (spent_waits own e).0

  -- with a leaf left it moves, and where none is needed
  pub moves_with : Waits (first k.core.state) → made k.signer < limit k.signer → moves (maker_of limit gives k) k.journal.items Mover.Emit ≡ true
  moves_with w left = moves_first (maker_of limit gives k) k.journal.items (waits_still w) (subst (λ (n : ℕ). n < limit k.signer) number_is left)

  pub moves_without : Waits (first k.core.state) → needs_leaf k.me (first k.core.state) ≡ false → moves (maker_of limit gives k) k.journal.items Mover.Emit ≡ true
  moves_without w another =
      moves_passed (maker_of limit gives k) k.journal.items (waits_still w) (ap (λ (c : Machine). needs_leaf k.me (first c.state)) (sym live) ∙ another)

  pub sent_told : (parcels : List Parcel) → moves (maker_of limit gives k) k.journal.items Mover.Emit ≡ true
      → parcels ≡ parcels_next (maker_of limit gives k) k.journal.items
      → Told.Out parcels ≡ told_of_emit (maker_of limit gives k) k.journal.items
  sent_told parcels moved p = told_out (maker_of limit gives k) k.journal.items parcels p moved

  pub sent_moves : (now : Keeper S) → moves (maker_of limit gives k) k.journal.items Mover.Emit ≡ true
      → Enters limit made gives k (entry_of (maker_of limit gives k) k.journal.items Mover.Emit) now
      → Moves limit made gives k (entry_of (maker_of limit gives k) k.journal.items Mover.Emit) (moves (maker_of limit gives k) k.journal.items Mover.Emit) now
  sent_moves now moved h =
      subst (λ (b : Bool). Moves limit made gives k (entry_of (maker_of limit gives k) k.journal.items Mover.Emit) b now) (sym moved) h
