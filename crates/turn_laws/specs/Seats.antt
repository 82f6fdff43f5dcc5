-- What the workers of a replica enter, each under its own seat numbers, and what follows of a history for what was heard and what was put.
use Rattle.std.specs.Prelude.{◌≡◌, ℕ, Bool, true, false, ◌++◌, List, length}
use Rattle.turn_lock.specs.Numbers.{has, least}
use Rattle.turn_lock.specs.Histories.{IsStartOf, of_numbers, entries}
use Rattle.turn_lock.specs.Views.{own}
use Rattle.turn_lock.specs.declared.known.Known.{Known}
use Rattle.bft_verify.specs.Admitted.{Admitted}
use Rattle.run_words.specs.Journal.{Maker, parcels_of, moves}
use Rattle.run_words.specs.Lawful.{Test, heard_counted}
use Rattle.run_words.specs.Acts.{act_of, told_entry, told_parcels}
use Rattle.run_words.specs.declared.logs.Entry.{Entry}
use Rattle.run_words.specs.declared.logs.Origin.{Origin}
use Rattle.run_words.specs.declared.movers.Mover.{Mover}
use Rattle.run_words.specs.declared.party.Act.{Act}
use Rattle.party_turn.specs.Turns.{Acts}
use Rattle.party_turn.specs.declared.answered.Answered.{Answered}
use Rattle.turn_laws.specs.Workers.{Kind, kind_of, AreOf, AreBy}
use Rattle.turn_laws.specs.Doings.{hearings, heard_by, is_refused, put_of}

-- ---- one act

-- a worker enters what is of its act's kind
abbrev pub KindLaw : {P : Type 0} → (P → Maker) → Type 0
KindLaw {P} made = (first : P) (v w : Known Entry P) (act : Act) (answer : Answered) → Acts made first v act answer w
    → AreOf (kind_of act) (own v)
    → AreOf (kind_of act) (own w)

-- who hears what it takes has heard just that, in order
abbrev pub HearLaw : {P : Type 0} → (P → Maker) → Type 0
HearLaw {P} made = (first : P) (v w : Known Entry P) (origin : Origin) (heard : Admitted) (answer : Answered)
    → Acts made first v (Act.Hear origin heard) answer w
    → hearings (own w) ≡ hearings (own v) ++ heard_by answer.told (Entry.Heard origin heard.message)

-- who sends has been told just what its entries put, in order, whatever others enter between
abbrev pub EmitLaw : {P : Type 0} → (P → Maker) → Type 0
EmitLaw {P} made = (first : P) (v w : Known Entry P) (answer : Answered) → Acts made first v Act.Emit answer w
    → w.numbers ≡ v.numbers → has v.numbers (least v.numbers) ≡ true
    → put_of (made first) w.numbers w.seen ≡ put_of (made first) v.numbers v.seen ++ told_parcels answer.told

-- whose act made no entry, and was told as many entries as all have made in the end, has nothing more to do
abbrev pub StillLaw : {P : Type 0} → (P → Maker) → Type 0
StillLaw {P} made = (first : P) (v w : Known Entry P) (mover : Mover) (answer : Answered) (log : List (ℕ × Entry))
    → Acts made first v (act_of mover) answer w
    → told_entry answer.told ≡ false → is_refused answer.told ≡ false
    → IsStartOf w.seen log → answer.entries ≡ length log
    → moves (made first) (entries log) mover ≡ false

-- ---- a whole history

-- where all hearings are under these numbers, what was heard is what was heard under them
abbrev pub HeardLaw : Type 0
HeardLaw = (p : Test) (ns : List Bool) (log : List (ℕ × Entry)) → AreBy Kind.Hearing ns log
    → heard_counted p (entries log) ≡ heard_counted p (hearings (of_numbers ns log))

-- where all sendings are under these numbers, what was put is what was put under them
abbrev pub PutLaw : Type 0
PutLaw = (m : Maker) (ns : List Bool) (log : List (ℕ × Entry)) → AreBy Kind.Sending ns log → parcels_of m (entries log) ≡ put_of m ns log
