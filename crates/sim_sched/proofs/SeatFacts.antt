-- What a call of a party leaves at its seat.
use Rattle.std.proofs.Common.{◌≡◌, ℕ, zero, suc, ◌+◌, ◌<◌, Bool, true, false, cond, not, ◌&&◌, List, [], ◌∷◌, ◌++◌, length, refl, sym, ap, ◌∙◌, arith, Ok, Err, remove, length-append, get_or}
use Rattle.bft_verify.specs.Admitted.{Admitted}
use Rattle.bft_verify.specs.declared.refusals.Refusal.{Refusal}
use Rattle.run_words.specs.declared.logs.Entry.{Entry}
use Rattle.run_words.specs.declared.logs.Pending.{Pending}
use Rattle.run_words.specs.declared.logs.Turned.{Turned}
use Rattle.run_words.specs.declared.movers.Mover.{Mover}
use Rattle.run_words.specs.declared.party.Act.{Act}
use Rattle.run_words.specs.declared.party.Told.{Told}
use Rattle.run_words.specs.Journal.{Maker, walk, added, moves, entry_of, reads}
use Rattle.run_words.specs.Runs.{hearings}
use Rattle.run_words.specs.Acts.{Acted, Does, StaysOpen, act_of, would, made_by, told_of, told_entry, told_parcels}
use Rattle.run_words.proofs.Tellings.{tells, puts}
use Rattle.sim_sched.specs.Seats.{SeatView, can, seat_steps, seat_given, parcels_given, heard_by, with_turned, seat_heard}

abbrev pub seat : Maker → List Entry → Bool → List Pending → List Turned → SeatView
seat m journal shut way turned = record { maker = m; journal = journal; shut = shut; way = way; turned = turned }

pub does_of : (m : Maker) (j : List Entry) (act : Act) (told : Told) (now : List Entry) → (told ≡ Told.NoMemory → ⊥)
    → Acted m j act told now → Does m j act told now
does_of m j act Told.NoMemory now n a = absurd (n refl)
does_of m j act (Told.Core answer) now n a = a
does_of m j act (Told.Out parcels) now n a = a
does_of m j act (Told.KeySpent used) now n a = a

pub stays_open : (act : Act) (told : Told) (before now : Bool) → (told ≡ Told.NoMemory → ⊥) → StaysOpen act told before now → now ≡ false
stays_open act Told.NoMemory before now n a = absurd (n refl)
stays_open act (Told.Core answer) before now n a = a.1
stays_open act (Told.Out parcels) before now n a = a.1
stays_open act (Told.KeySpent used) before now n a = a.1

changed : (m m' : Maker) (now : List Entry) (shut : Bool) (way : List Pending) (turned : List Turned) → m' ≡ m → shut ≡ false
    → seat m' now shut way turned ≡ seat m now false way turned
changed m m' now shut way turned e f = ap (λ (x : Maker). seat x now shut way turned) e ∙ ap (λ b. seat m now b way turned) f

one_choice : (b : Bool) (m : Maker) (j : List Entry) (e : Entry) (way : List Pending) (turned : List Turned)
    → seat m (cond b (j ++ e ∷ []) j) false way turned ≡ cond b (seat m (j ++ e ∷ []) false way turned) (seat m j false way turned)
one_choice true m j e way turned = refl
one_choice false m j e way turned = refl

would_move : (m : Maker) (j : List Entry) (mover : Mover) → would m j (act_of mover) ≡ moves m j mover
would_move m j Mover.Batch = refl
would_move m j Mover.Nudge = refl
would_move m j Mover.Emit = refl
would_move m j Mover.Execute = refl
would_move m j Mover.Checkpoint = refl
would_move m j Mover.Timeout = refl

made_of : (m : Maker) (j : List Entry) (mover : Mover) → made_by m j (act_of mover) ≡ entry_of m j mover
made_of m j Mover.Batch = refl
made_of m j Mover.Nudge = refl
made_of m j Mover.Emit = refl
made_of m j Mover.Execute = refl
made_of m j Mover.Checkpoint = refl
made_of m j Mover.Timeout = refl

grown : (m : Maker) (j : List Entry) (mover : Mover)
    → cond (would m j (act_of mover)) (j ++ made_by m j (act_of mover) ∷ []) j ≡ cond (moves m j mover) (j ++ entry_of m j mover ∷ []) j
grown m j mover =
    ap (λ b. cond b (j ++ made_by m j (act_of mover) ∷ []) j) (would_move m j mover)
    ∙ ap (λ (e : Entry). cond (moves m j mover) (j ++ e ∷ []) j) (made_of m j mover)

pub given : (m m' : Maker) (j now : List Entry) (mover : Mover) (act : Act) (told : Told) (was shut : Bool) (way : List Pending) (turned : List Turned)
    → act ≡ act_of mover → m' ≡ m → was ≡ false → shut ≡ false → Does m j act told now
    → (seat m' now shut way turned ≡ seat_given mover (seat m j was way turned)) × (told_parcels told
    ≡ parcels_given mover (seat m j was way turned)) × (told_entry told ≡ moves m j mover)
unfolding seat_given parcels_given
given m m' j now mover act told was shut way turned q e f s d =
    let t : told ≡ told_of m j (act_of mover) = d.tells ∙ ap (told_of m j) q in
    let g : now ≡ cond (would m j (act_of mover)) (j ++ made_by m j (act_of mover) ∷ []) j = d.grows
    ∙ ap (λ (a : Act). cond (would m j a) (j ++ made_by m j a ∷ []) j) q in (
      changed m m' now shut way turned e s ∙ ap (λ l. seat m l false way turned) (g ∙ grown m j mover)
          ∙ one_choice (moves m j mover) m j (entry_of m j mover) way turned
          ∙ ap (λ b. cond (moves m j mover) (seat m (j ++ entry_of m j mover ∷ []) b way turned) (seat m j b way turned)) (sym f),
      ap told_parcels t ∙ puts m j (act_of mover)
          ∙ ap (λ b. cond b (added m (walk m j) (made_by m j (act_of mover))) []) (would_move m j mover)
          ∙ ap (λ (x : Entry). cond (moves m j mover) (added m (walk m j) x) []) (made_of m j mover),
      ap told_entry t ∙ tells m j (act_of mover) ∙ would_move m j mover,
    )

pub heard : (m m' : Maker) (j now : List Entry) (k : ℕ) (c : Pending) (v : Admitted) (told : Told) (was shut : Bool) (way : List Pending) (turned : List Turned)
    → m' ≡ m → was ≡ false → shut ≡ false → reads m c.load ≡ Ok v.message → Does m j (Act.Hear c.origin v) told now
    → seat m' now shut (remove way k) turned ≡ seat_heard k c (seat m j was way turned)
unfolding seat_heard
heard m m' j now k c v told was shut way turned e f s r d =
    changed m m' now shut (remove way k) turned e s ∙ ap (λ l. seat m l false (remove way k) turned) d.grows
    ∙ ap (λ b. seat m (j ++ Entry.Heard c.origin v.message ∷ []) b (remove way k) turned) (sym f)
    ∙ ap (λ q. heard_by c (seat m j was (remove way k) turned) q) (sym r)

pub refused : (m : Maker) (j : List Entry) (k : ℕ) (c : Pending) (x : Refusal) (was : Bool) (way way' : List Pending) (turned : List Turned) (now : SeatView)
    → way' ≡ remove way k → now ≡ with_turned c.origin c.number x (seat m j was way' turned) → reads m c.load ≡ Err x
    → now ≡ seat_heard k c (seat m j was way turned)
unfolding seat_heard
refused m j k c x was way way' turned now e f r =
    f ∙ ap (λ l. with_turned c.origin c.number x (seat m j was l turned)) e
    ∙ ap (λ q. heard_by c (seat m j was (remove way k) turned) q) (sym r)

pub hearings_long : (m : Maker) (k : ℕ) (l : List Pending) → length (hearings m k l) ≡ length l
hearings_long m k [] = refl
hearings_long m k (c ∷ rest) = ap suc (hearings_long m (suc k) rest)

pub count_is : (s : SeatView)
    → length (seat_steps s)
    ≡ length s.way + length (can s Mover.Batch) + length (can s Mover.Emit) + length (can s Mover.Execute) + length (can s Mover.Checkpoint)
unfolding seat_steps
count_is s =
    let a = hearings_long s.maker 0 s.way in
    let b = length-append (hearings s.maker 0 s.way)
    (can s Mover.Batch ++ (can s Mover.Emit ++ (can s Mover.Execute ++ can s Mover.Checkpoint))) in
    let c = length-append (can s Mover.Batch) (can s Mover.Emit ++ (can s Mover.Execute ++ can s Mover.Checkpoint)) in
    let d = length-append (can s Mover.Emit) (can s Mover.Execute ++ can s Mover.Checkpoint) in
    let e = length-append (can s Mover.Execute) (can s Mover.Checkpoint) in
    omega arith

pub at_any : {X : Type 0} (xs : List X) (k : ℕ) (a b : X) → k < length xs → get_or xs k a ≡ get_or xs k b
at_any [] k a b h = absurd (omega arith)
at_any (x ∷ xs) zero a b h = refl
at_any (x ∷ xs) (suc k) a b h = at_any xs k a b (omega arith)

pub same_copy : (xs : List Pending) (k : ℕ) (a b : Pending) → k < length xs → a ≡ get_or xs k a → get_or xs k b ≡ b → a ≡ b
same_copy xs k a b h e f = e ∙ at_any xs k a b h ∙ f

-- what an open party says of an event is what its journal tells
pub open_moves : (told shut moves : Bool) → told ≡ (not shut && moves) → shut ≡ false → told ≡ moves
open_moves told true moves h e = absurd (cc)
open_moves told false moves h e = h
