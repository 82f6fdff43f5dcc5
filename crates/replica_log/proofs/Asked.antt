-- Whether an act would make an entry, by the core and the signer.
use Rattle.std.proofs.Common.{◌≡◌, ℕ, ◌≤◌, Bool, true, false, not, ◌&&◌, nat_le, List, [], ◌∷◌, ◌++◌, length, cond, ◌+◌, append_assoc, append-nil, length-append, refl, sym, ap, subst, ◌∙◌, arith}
use Rattle.std.specs.Prelude.{IsTrue, ◌↔◌}
use Rattle.std.proofs.lemmas.Bool.Decides.{nat_tests}
use Rattle.fab_machine.specs.Step.{first}
use Rattle.replica_core.specs.Cores.{Machine, moves_by}
use Rattle.replica_core.specs.declared.events.Mover as cores
use Rattle.run_words.specs.declared.movers.Mover.{Mover}
use Rattle.run_words.specs.declared.logs.Entry.{Entry}
use Rattle.run_words.specs.Twists.{is_equivocate}
use Rattle.run_words.specs.Journal.{Maker, Walk, state, walk, stated_by, signed_by, signed_of, needs_leaf, is_blocked, moves, IsMade}
use Rattle.run_words.proofs.Placing.{by_leaf}
use Rattle.run_words.proofs.Signing.{IsPlain, signed_plainly}
use Rattle.run_words.proofs.Walks.{walk_more}
use Rattle.fab_rules.specs.Spelling.{content_of}
use Rattle.fab_rules.specs.Statements.{signer_of}
use Rattle.fab_machine.specs.Items.{is_own}
use Rattle.parcel_post.specs.Posting.{Counts}
use Rattle.replica_log.specs.Keeping.{IsKept, core_after}

pub can_batch : (m : Maker) (journal : List Entry) (core : Machine) → core ≡ core_after m journal
    → moves_by core cores.Mover.Batch ≡ moves m journal Mover.Batch
unfolding moves
can_batch m journal core h = ap (λ (c : Machine). moves_by c cores.Mover.Batch) h

pub can_nudge : (m : Maker) (journal : List Entry) (core : Machine) → core ≡ core_after m journal
    → moves_by core cores.Mover.Nudge ≡ moves m journal Mover.Nudge
unfolding moves
can_nudge m journal core h = ap (λ (c : Machine). moves_by c cores.Mover.Nudge) h

pub can_execute : (m : Maker) (journal : List Entry) (core : Machine) → core ≡ core_after m journal
    → moves_by core cores.Mover.Execute ≡ moves m journal Mover.Execute
unfolding moves
can_execute m journal core h = ap (λ (c : Machine). moves_by c cores.Mover.Execute) h

pub can_time_out : (m : Maker) (journal : List Entry) (core : Machine) → core ≡ core_after m journal
    → moves_by core cores.Mover.Timeout ≡ moves m journal Mover.Timeout
unfolding moves
can_time_out m journal core h = ap (λ (c : Machine). moves_by c cores.Mover.Timeout) h

pub can_checkpoint : (m : Maker) (journal : List Entry) (core : Machine) → core ≡ core_after m journal
    → moves_by core cores.Mover.Checkpoint ≡ moves m journal Mover.Checkpoint
unfolding moves
can_checkpoint m journal core h = ap (λ (c : Machine). moves_by c cores.Mover.Checkpoint) h

-- ---- a leaf was left for whatever was signed

abbrev IsWithin : Maker → List Entry → Type 0
IsWithin m journal = length (signed_of m journal) ≤ m.leaves

-- nothing is signed beside what is said
pub signs_alone : (m : Maker) (journal : List Entry) (now : ℕ) (signed : List (List ℕ)) (counts : Counts) (made : ℕ)
    → IsKept m journal now signed counts made → IsPlain m
signs_alone m journal now signed counts made h = (ap is_equivocate h.plain.correct, h.alone)

signed_more : (m : Maker) (journal : List Entry) (e : Entry) → IsPlain m
    → length (signed_of m (journal ++ e ∷ [])) ≡ length (signed_of m journal) + length (stated_by m e)
signed_more m journal e plain =
    ap (λ (w : Walk). length w.signed) (walk_more m journal e) ∙ length-append (signed_of m journal) (signed_by m (walk m journal) e)
    ∙ ap (λ (l : List (List ℕ)). length (signed_of m journal) + length l) (signed_plainly m (walk m journal) e plain)

one_within : (m : Maker) (journal rest : List Entry) (e : Entry) → IsMade m (journal ++ e ∷ rest) → IsWithin m journal
    → length (signed_of m journal) + length (stated_by m e) ≤ m.leaves
unfolding stated_by
one_within m journal rest (Entry.Sent item) made h = go (is_own m.id (signer_of item.message)) refl
  where
    go : (b : Bool) → is_own m.id (signer_of item.message) ≡ b
        → length (signed_of m journal) + length (cond b (content_of item.message ∷ []) []) ≤ m.leaves
    go true own = let left = (by_leaf m journal rest item made own).left in omega arith
    go false own = omega arith
one_within m journal rest (Entry.Heard origin x) made h = omega arith
one_within m journal rest Entry.Proposed made h = omega arith
one_within m journal rest Entry.Nudged made h = omega arith
one_within m journal rest Entry.Executed made h = omega arith
one_within m journal rest Entry.Marked made h = omega arith
one_within m journal rest Entry.TimedOut made h = omega arith

within_from : (m : Maker) (earlier rest : List Entry) → IsPlain m → IsMade m (earlier ++ rest) → IsWithin m earlier → IsWithin m (earlier ++ rest)
within_from m earlier [] plain made h = subst (IsWithin m) (sym (append-nil earlier)) h
within_from m earlier (e ∷ rest) plain made h =
    let whole = append_assoc earlier (e ∷ []) rest in
    let more = signed_more m earlier e plain in
    let one = one_within m earlier rest e made h in
    let now : IsWithin m (earlier ++ e ∷ []) = omega (arith, more, one) in
    subst (IsWithin m) whole (within_from m (earlier ++ e ∷ []) rest plain (subst (IsMade m) (sym whole) made) now)

none_within : (m : Maker) → IsWithin m []
unfolding walk
none_within m = omega arith

signed_within : (m : Maker) (journal : List Entry) → IsPlain m → IsMade m journal → length (signed_of m journal) ≤ m.leaves
signed_within m journal plain made = within_from m [] journal plain made (none_within m)

-- ---- Emit

spent_is : (spent : Bool) (used leaves : ℕ) → (IsTrue spent ↔ (used ≡ leaves)) → used ≤ leaves → nat_le leaves used ≡ spent
spent_is true used leaves h le = let e = h.0 refl in grind (arith, nat_tests)
spent_is false used leaves h le = go (nat_le leaves used) refl
  where
    go : (b : Bool) → nat_le leaves used ≡ b → b ≡ false
    go false e = refl
    go true e = let q : used ≡ leaves = grind (arith, nat_tests) in sym (h.1 q)

-- the first item needs a leaf, and none is left
pub blocked_is : (m : Maker) (journal : List Entry) (core : Machine) (now : ℕ) (signed : List (List ℕ)) (counts : Counts) (made : ℕ) (needs spent : Bool)
    → IsKept m journal now signed counts made → core ≡ core_after m journal → needs ≡ needs_leaf m.id (first core.state)
    → (IsTrue spent ↔ (made ≡ m.leaves))
    → (needs && spent) ≡ is_blocked m journal
unfolding is_blocked
blocked_is m journal core now signed counts made needs spent h live needs_is is =
    let used : made ≡ length (signed_of m journal) = h.used ∙ ap length h.signed_is in
    let kept = signed_within m journal (signs_alone m journal now signed counts made h) h.replays in
    let le : made ≤ m.leaves = omega arith in
    let left : nat_le m.leaves (length (signed_of m journal)) ≡ spent = ap (nat_le m.leaves) (sym used) ∙ spent_is spent made m.leaves is le in
    ap (λ (b : Bool). b && spent) (needs_is ∙ ap (λ (c : Machine). needs_leaf m.id (first c.state)) live)
    ∙ ap (λ (b : Bool). needs_leaf m.id (first (state m journal)) && b) (sym left)

pub emit_moves : (m : Maker) (journal : List Entry) (core : Machine) (blocked : Bool) → core ≡ core_after m journal → blocked ≡ is_blocked m journal
    → (moves_by core cores.Mover.Emit && not blocked) ≡ moves m journal Mover.Emit
unfolding moves
emit_moves m journal core blocked live is =
    ap (λ (c : Machine). moves_by c cores.Mover.Emit && not blocked) live
    ∙ ap (λ (b : Bool). moves_by (core_after m journal) cores.Mover.Emit && not b) is
