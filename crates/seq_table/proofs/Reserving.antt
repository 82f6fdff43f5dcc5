-- Keys that are held for a batch: the entries stay as they were, no held key is lost, and each key that the batch may write is held.
use Rattle.std.proofs.Common.{◌≡◌, ℕ, zero, suc, Bool, true, false, ◌||◌, List, [], ◌∷◌, ◌++◌, slice_index_or, None, refl, sym, ap, ◌∙◌, if◌then◌else◌, append_assoc, arith}
use Rattle.std.specs.List.{All}
use Rattle.std.specs.Ordering.{is_eq}
use Rattle.std.specs.BTreeMap.{is_at}
use Rattle.std.specs.Map.{keys_of}
use Rattle.std.proofs.lemmas.Cmp.{nat_list_cmp_total, tied_itself}
use Rattle.std.proofs.lemmas.List.Folds.{list_any-append}
use Rattle.fab_base.specs.Table.{State, byte_order, outcome_of, outcomes_of, state_after, state_after_all}
use Rattle.fab_base.specs.declared.requests.Op.{Op}
use Rattle.fab_base.specs.declared.requests.Op.TheVariants.{Put, Get, Cut, Swap}
use Rattle.fab_base.specs.declared.requests.Outcome.{Outcome}
use Rattle.fab_base.specs.declared.requests.Request.{Request}
use Rattle.fab_base.proofs.Entries.{with_value-same}
use Rattle.seq_table.specs.Holding.{Held, entries_of, is_held}
use Rattle.seq_table.specs.Batches.{HoldsFor, with_room, held_for, held_for_all}
use Rattle.seq_table.proofs.Pairs.{flat, value_there, none_there, ordered, entries_of-push}
use Rattle.seq_table.proofs.Steps.{keys_of-push}

-- ---- the entries

entries_of-with_room : (held : Held) (k : List ℕ) → entries_of (with_room held k) ≡ entries_of held
entries_of-with_room held k = by (is_held (keys_of held) k) refl
  where
    by : (b : Bool) → is_held (keys_of held) k ≡ b → entries_of (if b then held else held ++ (k, None) ∷ []) ≡ entries_of held
    by true h = refl
    by false h =
        let none = none_there held k h in
        entries_of-push held k None none
        ∙ with_value-same (entries_of held) k None (ordered held) (value_there held k ∙ ap flat none)

entries_of-held_for : (held : Held) (op : Op) → entries_of (held_for held op) ≡ entries_of held
entries_of-held_for held (Put k v) = entries_of-with_room held k
entries_of-held_for held (Get k) = refl
entries_of-held_for held (Cut k) = refl
entries_of-held_for held (Swap k e f) = entries_of-with_room held k

pub entries_of-held_for_all : (held : Held) (batch : List Request) → entries_of (held_for_all held batch) ≡ entries_of held
entries_of-held_for_all held [] = refl
entries_of-held_for_all held (r ∷ rest) = entries_of-held_for_all (held_for held r.op) rest ∙ entries_of-held_for held r.op

-- ---- the keys

either : (a b : Bool) → a ≡ true → (a || b) ≡ true
either a b h = ap (λ c. c || b) h

or_later : (a b : Bool) → b ≡ true → (a || b) ≡ true
or_later true b h = refl
or_later false b h = h

still_held : (keys : List (List ℕ)) (k q : List ℕ) → is_held keys q ≡ true → is_held (keys ++ k ∷ []) q ≡ true
still_held keys k q h = list_any-append (is_at (byte_order q)) keys (k ∷ []) ∙ either (is_held keys q) (is_held (k ∷ []) q) h

now_held : (keys : List (List ℕ)) (k : List ℕ) → is_held (keys ++ k ∷ []) k ≡ true
now_held keys k =
    list_any-append (is_at (byte_order k)) keys (k ∷ [])
    ∙ or_later (is_held keys k) (is_held (k ∷ []) k) (either (is_at (byte_order k) k) false (ap is_eq (tied_itself nat_list_cmp_total k)))

with_room-keeps : (held : Held) (k q : List ℕ) → is_held (keys_of held) q ≡ true → is_held (keys_of (with_room held k)) q ≡ true
with_room-keeps held k q h = by (is_held (keys_of held) k)
  where
    by : (b : Bool) → is_held (keys_of (if b then held else held ++ (k, None) ∷ [])) q ≡ true
    by true = h
    by false = ap (λ keys. is_held keys q) (keys_of-push held k None) ∙ still_held (keys_of held) k q h

with_room-holds : (held : Held) (k : List ℕ) → is_held (keys_of (with_room held k)) k ≡ true
with_room-holds held k = by (is_held (keys_of held) k) refl
  where
    by : (b : Bool) → is_held (keys_of held) k ≡ b → is_held (keys_of (if b then held else held ++ (k, None) ∷ [])) k ≡ true
    by true h = h
    by false h = ap (λ keys. is_held keys k) (keys_of-push held k None) ∙ now_held (keys_of held) k

held_for-keeps : (held : Held) (op : Op) (q : List ℕ) → is_held (keys_of held) q ≡ true → is_held (keys_of (held_for held op)) q ≡ true
held_for-keeps held (Put k v) q h = with_room-keeps held k q h
held_for-keeps held (Get k) q h = h
held_for-keeps held (Cut k) q h = h
held_for-keeps held (Swap k e f) q h = with_room-keeps held k q h

pub held_for_all-keeps : (held : Held) (batch : List Request) (q : List ℕ) → is_held (keys_of held) q ≡ true → is_held (keys_of (held_for_all held batch)) q ≡ true
held_for_all-keeps held [] q h = h
held_for_all-keeps held (r ∷ rest) q h = held_for_all-keeps (held_for held r.op) rest q (held_for-keeps held r.op q h)

-- the key of an operation stays held for it
holds_on : (held : Held) (batch : List Request) (op : Op) → HoldsFor (keys_of (held_for held op)) op → HoldsFor (keys_of (held_for_all (held_for held op) batch)) op
holds_on held batch (Put k v) h = held_for_all-keeps (held_for held (Put k v)) batch k h
holds_on held batch (Get k) h = tt
holds_on held batch (Cut k) h = tt
holds_on held batch (Swap k e f) h = held_for_all-keeps (held_for held (Swap k e f)) batch k h

holds_one : (held : Held) (op : Op) → HoldsFor (keys_of (held_for held op)) op
holds_one held (Put k v) = with_room-holds held k
holds_one held (Get k) = tt
holds_one held (Cut k) = tt
holds_one held (Swap k e f) = with_room-holds held k

pub holds_all : (held : Held) (batch : List Request) → All (λ r. HoldsFor (keys_of (held_for_all held batch)) r.op) batch
holds_all held [] k d h = absurd (omega arith)
holds_all held (r ∷ rest) zero d h = holds_on held rest r.op (holds_one held r.op)
holds_all held (r ∷ rest) (suc k) d h = holds_all (held_for held r.op) rest k d (omega arith)

-- ---- a step of a run

pub outcomes_step : (done new whole : List Outcome) (s t : State) (left rest : List Request) (r : Request) (o : Outcome) → new ≡ done ++ o ∷ [] → o ≡ outcome_of s r → t ≡ state_after s r → left ≡ r ∷ rest
    → done ++ outcomes_of s left ≡ whole → new ++ outcomes_of t rest ≡ whole
outcomes_step done new whole s t left rest r o n e a l h =
    (λ i. n i ++ outcomes_of (a i) rest)
    ∙ append_assoc done (o ∷ []) (outcomes_of (state_after s r) rest)
    ∙ ap (λ x. done ++ x ∷ outcomes_of (state_after s r) rest) e
    ∙ sym (ap (λ x. done ++ outcomes_of s x) l) ∙ h

pub state_step : (whole s t : State) (left rest : List Request) (r : Request) → t ≡ state_after s r → left ≡ r ∷ rest → state_after_all s left ≡ whole → state_after_all t rest ≡ whole
state_step whole s t left rest r a l h = ap (λ x. state_after_all x rest) a ∙ sym (ap (λ x. state_after_all s x) l) ∙ h

-- ---- more held keys

holds_for_more : (keys more : List (List ℕ)) → ((key : List ℕ) → is_held keys key ≡ true → is_held more key ≡ true) → (op : Op) → HoldsFor keys op → HoldsFor more op
holds_for_more keys more h (Put k v) held = h k held
holds_for_more keys more h (Get k) held = tt
holds_for_more keys more h (Cut k) held = tt
holds_for_more keys more h (Swap k e f) held = h k held

-- the keys that a batch may write are held still where none was lost
pub all_hold_for_more : (keys more : List (List ℕ)) (batch : List Request) → ((key : List ℕ) → is_held keys key ≡ true → is_held more key ≡ true)
    → All (λ r. HoldsFor keys r.op) batch → All (λ r. HoldsFor more r.op) batch
all_hold_for_more keys more batch h all = λ k d l. holds_for_more keys more h (slice_index_or batch k d).op (all k d l)
