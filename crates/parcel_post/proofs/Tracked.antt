-- The walk over a journal gives its clock, its parcels and their numbers, whatever else a replica that sends plainly was made with.
use Rattle.std.proofs.Common.{◌≡◌, ℕ, zero, suc, ◌+◌, ◌<◌, ◌≤◌, List, [], ◌∷◌, ◌++◌, take, length, get_or, refl, sym, ap, subst, ◌∙◌, arith, take_all, append-nil}
use Rattle.std.specs.List.{fold}
use Rattle.std.proofs.lemmas.List.{take_more}
use Rattle.std.proofs.lemmas.List.Sums.{fold_push}
use Rattle.fab_rules.specs.Spelling.{spelling_of}
use Rattle.run_words.specs.Journal as journals
use Rattle.run_words.specs.Journal.{Maker, tick_by, tick, copies, after_entry, walk, added, parcels_of}
use Rattle.run_words.specs.declared.logs.Entry.{Entry}
use Rattle.run_words.specs.declared.logs.Parcel.{Parcel}
use Rattle.parcel_post.specs.Posting.{Counts, AreNumbers, numbered, SendsPlainly, IsSpelled, AreSpelled}
use Rattle.parcel_post.specs.Walking.{walked}
use Rattle.parcel_post.specs.declared.tracing.Walk.{Walk}
use Rattle.parcel_post.proofs.Numbered.{added_is, numbers_added}

abbrev pub nothing : Walk
nothing = record { clock = 0; numbers = []; parcels = [] }

-- after the entries before a place
abbrev pub walked_to : List Entry → ℕ → Walk
walked_to journal k = fold walked nothing (take k journal)

pub walked_more : (journal : List Entry) (k : ℕ) (e : Entry) (now new : Walk) → k < length journal → e ≡ get_or journal k e → now ≡ walked_to journal k
    → new ≡ walked now e
    → new ≡ walked_to journal (k + 1)
walked_more journal k e now new lt is h done =
    done ∙ ap (λ (w : Walk). walked w e) h ∙ ap (λ (x : Entry). walked (walked_to journal k) x) is
    ∙ sym (fold_push walked nothing (take k journal) (get_or journal k e))
    ∙ ap (λ (l : List Entry). fold walked nothing l) (sym (take_more journal k e lt))

-- ---- it is the journal's

-- a walk's clock and parcels are the journal's, and its numbers those of the parcels
record IsWalk (w : journals.Walk) (now : Walk) : Type 0 where
  clock : now.clock ≡ w.clock
  parcels : now.parcels ≡ w.parcels
  numbers : AreNumbers now.numbers w.parcels

-- an entry that isn't sent puts nothing
unsent : (m : Maker) (w : journals.Walk) (e : Entry) → added m w e ≡ [] → (now new : Walk) → IsWalk w now → new.clock ≡ tick w.clock e
    → new.numbers ≡ now.numbers → new.parcels ≡ now.parcels
    → IsWalk (after_entry m w e) new
unsent m w e none now new h clock numbers parcels =
    let stay : w.parcels ≡ w.parcels ++ added m w e = sym (ap (λ (l : List Parcel). w.parcels ++ l) none ∙ append-nil w.parcels) in
    record {
      clock = clock;
      parcels = parcels ∙ h.parcels ∙ stay;
      numbers = subst (λ (c : Counts). AreNumbers c (w.parcels ++ added m w e)) (sym numbers) (subst (AreNumbers now.numbers) stay h.numbers);
    }

walk_more : (m : Maker) (w : journals.Walk) (now : Walk) (e : Entry) → SendsPlainly m → IsWalk w now → IsWalk (after_entry m w e) (walked now e)
unfolding added copies
walk_more m w now (Entry.Sent item) plain h = record {
  clock = h.clock;
  parcels =
      ap (λ (l : List Parcel). l ++ numbered now.numbers now.clock (spelling_of item.message) item.to) h.parcels
      ∙ ap (λ (c : ℕ). w.parcels ++ numbered now.numbers c (spelling_of item.message) item.to) h.clock
      ∙ ap (λ (l : List Parcel). w.parcels ++ l) (added_is m w now.numbers item plain h.numbers);
  numbers = numbers_added m w now.numbers item plain h.numbers;
}
walk_more m w now (Entry.Heard origin x) plain h =
    unsent m w (Entry.Heard origin x) refl now (walked now (Entry.Heard origin x)) h (ap (λ (c : ℕ). tick_by c origin) h.clock) refl refl
walk_more m w now Entry.Proposed plain h = unsent m w Entry.Proposed refl now (walked now Entry.Proposed) h h.clock refl refl
walk_more m w now Entry.Nudged plain h = unsent m w Entry.Nudged refl now (walked now Entry.Nudged) h h.clock refl refl
walk_more m w now Entry.Executed plain h = unsent m w Entry.Executed refl now (walked now Entry.Executed) h h.clock refl refl
walk_more m w now Entry.Marked plain h = unsent m w Entry.Marked refl now (walked now Entry.Marked) h h.clock refl refl
walk_more m w now Entry.TimedOut plain h = unsent m w Entry.TimedOut refl now (walked now Entry.TimedOut) h h.clock refl refl

walk_on : (m : Maker) (w : journals.Walk) (now : Walk) (rest : List Entry) → SendsPlainly m → IsWalk w now
    → IsWalk (fold (after_entry m) w rest) (fold walked now rest)
walk_on m w now [] plain h = h
walk_on m w now (e ∷ rest) plain h = walk_on m (after_entry m w e) (walked now e) rest plain (walk_more m w now e plain h)

-- its parcels are the journal's
pub walked_all : (m : Maker) (journal : List Entry) (k : ℕ) (now : Walk) → length journal ≤ k → now ≡ walked_to journal k → SendsPlainly m
    → now.parcels ≡ parcels_of m journal
unfolding walk
walked_all m journal k now le h plain =
    let none : journals.Walk = record { clock = 0; parcels = []; shares = []; signed = [] } in
    let starts : IsWalk none nothing = record { clock = refl; parcels = refl; numbers = λ i. refl } in
    ap (λ (w : Walk). w.parcels) (h ∙ ap (λ (l : List Entry). fold walked nothing l) (take_all k journal le))
    ∙ (walk_on m none nothing journal plain starts).parcels

-- ---- each entry has a spelling

spelled_in : (journal : List Entry) (k : ℕ) (d : Entry) → k < length journal → AreSpelled journal → IsSpelled (get_or journal k d)
spelled_in [] k d lt h = absurd (omega arith)
spelled_in (e ∷ rest) zero d lt h = h.0
spelled_in (e ∷ rest) (suc k) d lt h = spelled_in rest k d (omega arith) h.1

pub spelled_at : (journal : List Entry) (k : ℕ) (e : Entry) → k < length journal → e ≡ get_or journal k e → AreSpelled journal → IsSpelled e
spelled_at journal k e lt is h = subst IsSpelled (sym is) (spelled_in journal k e lt h)
