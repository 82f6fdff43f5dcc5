-- What an input worker has put and refused, copy by copy.
use Rattle.std.proofs.Common.{◌≡◌, ◌++◌, ℕ, List, [], ◌∷◌, Some, None, Result, Ok, Err, refl, sym, ap, subst, ◌∙◌, inl, inr, append-nil, append_assoc}
use Rattle.std.specs.List.{flat_map}
use Rattle.std.proofs.lemmas.List.{append_cancel_right}
use Rattle.fab_base.specs.declared.messages.Message.{Message}
use Rattle.fab_base.specs.Limits.{Roster}
use Rattle.bft_verify.specs.Admitted.{Admitted}
use Rattle.bft_verify.specs.Ring.{Ring}
use Rattle.bft_verify.specs.declared.refusals.Refusal.{Refusal}
use Rattle.copy_reader.specs.Reading.{IsMadeWith, IsRead}
use Rattle.run_words.specs.Journal.{Maker, reads}
use Rattle.run_words.specs.Runs.{Declined, turned_of, turned_by}
use Rattle.run_words.specs.declared.logs.Entry.{Entry}
use Rattle.run_words.specs.declared.logs.Pending.{Pending}
use Rattle.run_words.specs.declared.logs.Turned.{Turned}
use Rattle.stage_link.specs.Queues.{known}
use Rattle.turn_laws.specs.Copies.{item_by, declined_by, items, refused}
use Rattle.stage_looks.specs.Items.{entry_of, entries_of, in_hand}
use Rattle.stage_looks.specs.Feeding.{kept_copy, Feeds, IsFeeder, IsHandedOn}
use Rattle.stage_looks.specs.declared.items.Item.{Item}
use Rattle.stage_looks.specs.declared.reading.InputHand.{InputHand}

-- ---- one copy more

items_more : (m : Maker) (took : List Pending) (c : Pending) (b : Result Message Refusal) → reads m c.load ≡ b
    → items m (took ++ c ∷ []) ≡ items m took ++ item_by c b
items_more m [] c b e = append-nil (item_by c (reads m c.load)) ∙ ap (item_by c) e
items_more m (x ∷ took) c b e =
    ap (λ l. item_by x (reads m x.load) ++ l) (items_more m took c b e)
    ∙ sym (append_assoc (item_by x (reads m x.load)) (items m took) (item_by c b))

refused_more : (m : Maker) (took : List Pending) (c : Pending) (b : Result Message Refusal) → reads m c.load ≡ b
    → refused m (took ++ c ∷ []) ≡ refused m took ++ declined_by c b
refused_more m [] c b e = append-nil (declined_by c (reads m c.load)) ∙ ap (declined_by c) e
refused_more m (x ∷ took) c b e =
    ap (λ l. declined_by x (reads m x.load) ++ l) (refused_more m took c b e)
    ∙ sym (append_assoc (declined_by x (reads m x.load)) (refused m took) (declined_by c b))

flat_both : (a b : List Declined) → flat_map turned_of (a ++ b) ≡ flat_map turned_of a ++ flat_map turned_of b
flat_both [] b = refl
flat_both (x ∷ a) b = ap (λ l. turned_of x ++ l) (flat_both a b) ∙ sym (append_assoc (turned_of x) (flat_map turned_of a) (flat_map turned_of b))

-- what was read is in hand
put_read : (m : Maker) (took : List Pending) (c : Pending) (x : Message) (put : List Entry) → reads m c.load ≡ Ok x
    → put ++ [] ≡ items m took
    → put ++ Entry.Heard c.origin x ∷ [] ≡ items m (took ++ c ∷ [])
put_read m took c x put e h =
    ap (λ l. l ++ Entry.Heard c.origin x ∷ []) (sym (append-nil put) ∙ h) ∙ sym (items_more m took c (Ok x) e)

turned_read : (m : Maker) (took : List Pending) (c : Pending) (x : Message) (turned : List Turned) → reads m c.load ≡ Ok x
    → turned ≡ flat_map turned_of (refused m took)
    → turned ≡ flat_map turned_of (refused m (took ++ c ∷ []))
turned_read m took c x turned e h = h ∙ ap (flat_map turned_of) (sym (append-nil (refused m took)) ∙ sym (refused_more m took c (Ok x) e))

-- what was refused is noted
put_refused : (m : Maker) (took : List Pending) (c : Pending) (x : Refusal) (put : List Entry) → reads m c.load ≡ Err x
    → put ≡ items m took
    → put ≡ items m (took ++ c ∷ [])
put_refused m took c x put e h = h ∙ sym (append-nil (items m took)) ∙ sym (items_more m took c (Err x) e)

turned_refused : (m : Maker) (took : List Pending) (c : Pending) (x : Refusal) (turned now : List Turned) → reads m c.load ≡ Err x
    → now ≡ turned ++ turned_by c.number x c.origin
    → turned ≡ flat_map turned_of (refused m took)
    → now ≡ flat_map turned_of (refused m (took ++ c ∷ []))
turned_refused m took c x turned now e n h =
    n ∙ ap (λ l. l ++ turned_by c.number x c.origin) h
    ∙ ap (λ l. flat_map turned_of (refused m took) ++ l) (sym (append-nil (turned_by c.number x c.origin)))
    ∙ sym (flat_both (refused m took) (record { copy = c; refusal = x } ∷ []))
    ∙ ap (flat_map turned_of) (sym (refused_more m took c (Err x) e))

-- what was in hand is put
entries_more : (put : List Item) (item : Item) → entries_of (put ++ item ∷ []) ≡ entries_of put ++ entry_of item ∷ []
entries_more [] item = refl
entries_more (x ∷ put) item = ap (λ l. entry_of x ∷ l) (entries_more put item)

-- ---- a hand

-- with nothing kept, all that was popped was taken
took_all : (m : Maker) (popped : List Pending) (h : InputHand) → h.kept ≡ None → (f : Feeds m popped h) → f.took ≡ popped
took_all m popped h none f = sym (append-nil f.took) ∙ ap (λ k. f.took ++ kept_copy k) (sym none) ∙ f.pops

-- what holds of a hand that has only other copies in keeping
pub rekept : (m : Maker) (popped more : List Pending) (a b : InputHand) → b.put ≡ a.put → b.held ≡ a.held → b.refused ≡ a.refused
    → ((took : List Pending) → took ++ kept_copy a.kept ≡ popped → took ++ kept_copy b.kept ≡ more)
    → Feeds m popped a
    → Feeds m more b
rekept m popped more a b put held turned pops f = record {
  took = f.took;
  pops = pops f.took f.pops;
  puts = ap (λ x. entries_of (known x).put ++ in_hand b.held) put ∙ ap (λ x. entries_of (known a.put).put ++ in_hand x) held ∙ f.puts;
  turns = turned ∙ f.turns;
}

read_feeds : (m : Maker) (popped : List Pending) (c : Pending) (item : Item) (a b : InputHand) → a.held ≡ None → a.kept ≡ None → b.put ≡ a.put
    → b.held ≡ Some item → b.kept ≡ None → b.refused ≡ a.refused
    → reads m c.load ≡ Ok item.heard.message → item.origin ≡ c.origin
    → Feeds m popped a
    → Feeds m (popped ++ c ∷ []) b
read_feeds m popped c item a b free none put held kept turned e o f = record {
  took = f.took ++ c ∷ [];
  pops = ap (λ k. (f.took ++ c ∷ []) ++ kept_copy k) kept ∙ append-nil (f.took ++ c ∷ []) ∙ ap (λ l. l ++ c ∷ []) (took_all m popped a none f);
  puts =
      ap (λ x. entries_of (known x).put ++ in_hand b.held) put ∙ ap (λ x. entries_of (known a.put).put ++ in_hand x) held
      ∙ ap (λ x. entries_of (known a.put).put ++ Entry.Heard x item.heard.message ∷ []) o
      ∙ put_read m f.took c item.heard.message (entries_of (known a.put).put) e (ap (λ x. entries_of (known a.put).put ++ in_hand x) (sym free) ∙ f.puts);
  turns = turned ∙ turned_read m f.took c item.heard.message a.refused e f.turns;
}

refused_feeds : (m : Maker) (popped : List Pending) (c : Pending) (x : Refusal) (a b : InputHand) → a.kept ≡ None → b.put ≡ a.put
    → b.held ≡ a.held → b.kept ≡ a.kept → reads m c.load ≡ Err x → b.refused ≡ a.refused ++ turned_by c.number x c.origin
    → Feeds m popped a
    → Feeds m (popped ++ c ∷ []) b
refused_feeds m popped c x a b none put held kept e turned f = record {
  took = f.took ++ c ∷ [];
  pops = ap (λ k. (f.took ++ c ∷ []) ++ kept_copy k) (kept ∙ none) ∙ append-nil (f.took ++ c ∷ []) ∙ ap (λ l. l ++ c ∷ []) (took_all m popped a none f);
  puts =
      ap (λ y. entries_of (known y).put ++ in_hand b.held) put ∙ ap (λ y. entries_of (known a.put).put ++ in_hand y) held
      ∙ put_refused m f.took c x (entries_of (known a.put).put ++ in_hand a.held) e f.puts;
  turns = turned_refused m f.took c x a.refused b.refused e turned f.turns;
}

-- ---- a feeder

read_ok : (members : Roster) (ring : Ring) (load : List ℕ) (r : Result Admitted Refusal) (v : Admitted) → r ≡ Ok v → IsRead members ring load r
    → (m : Maker) → IsMadeWith members ring m → reads m load ≡ Ok v.message
read_ok members ring load r v e h = (subst (IsRead members ring load) e h).2

read_err : (members : Roster) (ring : Ring) (load : List ℕ) (r : Result Admitted Refusal) (x : Refusal) → r ≡ Err x → IsRead members ring load r
    → (m : Maker) → IsMadeWith members ring m → reads m load ≡ Err x
read_err members ring load r x e h = subst (IsRead members ring load) e h

module _ (members : Roster) (ring : Ring) (popped : List Pending) (c : Pending) (a b : InputHand) where
  pub reads_on : (load : List ℕ) (r : Result Admitted Refusal) (item : Item) → load ≡ c.load → r ≡ Ok item.heard → IsRead members ring load r
      → item.origin ≡ c.origin → a.held ≡ None → a.kept ≡ None → b.put ≡ a.put → b.held ≡ Some item → b.kept ≡ None → b.refused ≡ a.refused
      → IsFeeder members ring popped a
      → IsFeeder members ring (popped ++ c ∷ []) b
  reads_on load r item l e h o free none put held kept turned f m w =
      read_feeds m popped c item a b free none put held kept turned (ap (reads m) (sym l) ∙ read_ok members ring load r item.heard e h m w) o (f m w)

  pub refuses_on : (load : List ℕ) (r : Result Admitted Refusal) (x : Refusal) → load ≡ c.load → r ≡ Err x → IsRead members ring load r
      → a.kept ≡ None → b.put ≡ a.put → b.held ≡ a.held → b.kept ≡ a.kept → b.refused ≡ a.refused ++ turned_by c.number x c.origin
      → IsFeeder members ring popped a
      → IsFeeder members ring (popped ++ c ∷ []) b
  refuses_on load r x l e h none put held kept turned f m w =
      refused_feeds m popped c x a b none put held kept (ap (reads m) (sym l) ∙ read_err members ring load r x e h m w) turned (f m w)

  -- memory was refused: the copy is kept
  pub keeps_on : a.kept ≡ None → b.put ≡ a.put → b.held ≡ a.held → b.kept ≡ Some c → b.refused ≡ a.refused → IsFeeder members ring popped a
      → IsFeeder members ring (popped ++ c ∷ []) b
  keeps_on none put held kept turned f m w =
      rekept m popped (popped ++ c ∷ []) a b put held turned
      (λ took p. ap (λ k. took ++ kept_copy k) kept ∙ ap (λ l. l ++ c ∷ []) (sym (append-nil took) ∙ ap (λ k. took ++ kept_copy k) (sym none) ∙ p)) (f m w)

-- what was in hand is put, or is in hand again
pub handed_feeds : (m : Maker) (popped : List Pending) (item : Item) (a mid b : InputHand) → a.held ≡ Some item → mid.put ≡ a.put → b.kept ≡ a.kept
    → b.refused ≡ a.refused → IsHandedOn mid item b
    → Feeds m popped a
    → Feeds m popped b
handed_feeds m popped item a mid b held same kept turned (inl h) f = record {
  took = f.took;
  pops = ap (λ k. f.took ++ kept_copy k) kept ∙ f.pops;
  puts =
      ap (λ x. entries_of x.put ++ in_hand b.held) h.0 ∙ ap (λ x. entries_of ((known mid.put).put ++ item ∷ []) ++ in_hand x) h.1
      ∙ append-nil (entries_of ((known mid.put).put ++ item ∷ [])) ∙ entries_more (known mid.put).put item
      ∙ ap (λ x. entries_of (known x).put ++ entry_of item ∷ []) same ∙ ap (λ x. entries_of (known a.put).put ++ in_hand x) (sym held) ∙ f.puts;
  turns = turned ∙ f.turns;
}
handed_feeds m popped item a mid b held same kept turned (inr h) f = record {
  took = f.took;
  pops = ap (λ k. f.took ++ kept_copy k) kept ∙ f.pops;
  puts =
      ap (λ x. entries_of x.put ++ in_hand b.held) h.0 ∙ ap (λ x. entries_of (known mid.put).put ++ in_hand x) h.1
      ∙ ap (λ x. entries_of (known x).put ++ entry_of item ∷ []) same ∙ ap (λ x. entries_of (known a.put).put ++ in_hand x) (sym held) ∙ f.puts;
  turns = turned ∙ f.turns;
}

-- the copy that was kept is out of keeping
unkept : (m : Maker) (popped before : List Pending) (a mid : InputHand) → mid.kept ≡ None → mid.put ≡ a.put → mid.held ≡ a.held
    → mid.refused ≡ a.refused
    → (f : Feeds m popped a) → f.took ≡ before
    → Feeds m before mid
unkept m popped before a mid none put held turned f same = record {
  took = f.took;
  pops = ap (λ k. f.took ++ kept_copy k) none ∙ append-nil f.took ∙ same;
  puts = ap (λ x. entries_of (known x).put ++ in_hand mid.held) put ∙ ap (λ x. entries_of (known a.put).put ++ in_hand x) held ∙ f.puts;
  turns = turned ∙ f.turns;
}

-- it is read again, as the one that was popped last
pub retries_on : (members : Roster) (ring : Ring) (popped : List Pending) (c : Pending) (a mid b : InputHand) → a.kept ≡ Some c → mid.kept ≡ None
    → mid.put ≡ a.put → mid.held ≡ a.held → mid.refused ≡ a.refused
    → ((before : List Pending) → IsFeeder members ring before mid → IsFeeder members ring (before ++ c ∷ []) b)
    → IsFeeder members ring popped a
    → IsFeeder members ring popped b
retries_on members ring popped c a mid b kept none put held turned again f m w =
    let before = (f m w).took in
    let pops : (n : Maker) (x : IsMadeWith members ring n) → (f n x).took ++ c ∷ [] ≡ popped =
    λ n x. ap (λ k. (f n x).took ++ kept_copy k) (sym kept) ∙ (f n x).pops in
    subst (λ (l : List Pending). Feeds m l b) (pops m w)
    (again before (λ n x. unkept n popped before a mid none put held turned (f n x) (append_cancel_right (f n x).took before (c ∷ []) (pops n x ∙ sym (pops m w)))) m w)
