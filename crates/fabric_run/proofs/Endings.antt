-- What follows from the exit of a run: which exits are left where a cause is given.
use Rattle.std.proofs.Common.{◌≡◌, ℕ, ◌+◌, ◌<◌, ◌≤◌, List, length, Some, None, Ok, Err, inl, inr, refl, sym, ap, subst, ◌∙◌, arith, length-append}
use Rattle.std.specs.Prelude.{Option, IfSome, Result}
use Rattle.std.specs.Io.KnownBytes.{Keeps, Consumes}
use Rattle.fab_io.specs.Devices.{Supply}
use Rattle.fault_script.specs.declared.faults.BadScript.{BadScript as Bad}
use Rattle.fault_script.specs.declared.scripts.Script.{Script}
use Rattle.fault_script.specs.Scripts.{script_of}
use Rattle.fabric_run.specs.declared.transfer.TheConstants.{SCRIPT_BYTES}
use Rattle.fabric_run.specs.declared.exits.Exit.{Exit}
use Rattle.fabric_run.specs.declared.exits.Exit.TheVariants.{Done, Usage, ReadFault, WriteFault, TooLong, BadScript, Stalled, Spent, Broken, NoMemory}
use Rattle.fabric_run.specs.Transfer.{WasRead, GaveSome, GaveTooMany}
use Rattle.fabric_run.specs.Exits.{Seen, GaveScript, Stops, HandsOver, WroteAll, Ends, IsTooLong, Completes, NamesBad, IsRun}

-- an exit at which nothing is written
pub stopped : (makes : Script → Exit → List ℕ → Type 0) (old new : Seen) (exit : Exit) → Stops old.source new.source exit → Keeps old.sink.taken new.sink.taken → Ends makes old new exit
stopped makes old new Done s kept = absurd s
stopped makes old new (Stalled client stamp) s kept = absurd s
stopped makes old new (Spent entries) s kept = absurd s
stopped makes old new (Broken evidence) s kept = absurd s
stopped makes old new (WriteFault n) s kept = absurd s
stopped makes old new ReadFault s kept = (s, kept)
stopped makes old new TooLong s kept = (s, kept)
stopped makes old new (BadScript bad) s kept = (s, kept)
stopped makes old new NoMemory s kept = (s, kept)
stopped makes old new Usage s kept = absurd s

-- ---- a text that is handed over

-- a text and its exit that the command makes of the script that was read, by how handing it over ends
pub handed : (makes : Script → Exit → List ℕ → Type 0) (old new : Seen) (script : Script) (wanted : Exit) (text : List ℕ) (exit : Exit)
    → GaveScript old.source new.source script → makes script wanted text → (WroteAll makes old new wanted → Ends makes old new wanted)
    → HandsOver old.sink new.sink text wanted exit → Ends makes old new exit
handed makes old new script wanted text exit gave made all (inl done) =
    subst (Ends makes old new) (sym done.0) (all (script, gave, (text, made, done.1)))
handed makes old new script wanted text exit gave made all (inr failed) =
    subst (Ends makes old new) (sym failed.1) (failed.2.2, (script, gave, (wanted, (text, made, failed.2.0, failed.2.1))))

-- ---- the number of bytes given

-- a source that gave few bytes gave none beyond the limit
few : (old new : Supply) → GaveSome old new → old.given + SCRIPT_BYTES < new.given → ⊥
few old new g more = omega (arith, g.1.counted.1, g.2)

read_few : (old new : Supply) (bytes : List ℕ) → WasRead old new bytes → old.given + SCRIPT_BYTES < new.given → ⊥
read_few old new bytes r more = few old new (bytes, r.gave, r.fits) more

too_long_from_ends : (makes : Script → Exit → List ℕ → Type 0) (old new : Seen) (exit : Exit) → Ends makes old new exit → IsTooLong old.source new.source exit
too_long_from_ends makes old new Done e small = (λ q. cc, λ more. absurd (read_few old.source new.source e.1.0 e.1.1 more))
too_long_from_ends makes old new (Stalled client stamp) e small = (λ q. cc, λ more. absurd (read_few old.source new.source e.1.0 e.1.1 more))
too_long_from_ends makes old new (Spent entries) e small = (λ q. cc, λ more. absurd (read_few old.source new.source e.1.0 e.1.1 more))
too_long_from_ends makes old new (Broken evidence) e small = (λ q. cc, λ more. absurd (read_few old.source new.source e.1.0 e.1.1 more))
too_long_from_ends makes old new (WriteFault n) e small = (λ q. cc, λ more. absurd (read_few old.source new.source e.1.1.0 e.1.1.1 more))
too_long_from_ends makes old new ReadFault e small = (λ q. cc, λ more. absurd (few old.source new.source e.0.1 more))
too_long_from_ends makes old new TooLong e small = (λ q. omega (arith, e.0.1.counted.0, e.0.2), λ more. refl)
too_long_from_ends makes old new (BadScript bad) e small = (λ q. cc, λ more. absurd (read_few old.source new.source e.0.0 e.0.1 more))
too_long_from_ends makes old new NoMemory e small = (λ q. cc, λ more. absurd (few old.source new.source e.0 more))
too_long_from_ends makes old new Usage e small = absurd e

-- ---- a source that tells its bytes

-- what it gave is what it had
same_bytes : (old new : Supply) (bytes read : List ℕ) → old.left ≡ Some bytes → WasRead old new read → bytes ≡ read
same_bytes old new bytes read told r = subst (λ o. IfSome o (λ left. left ≡ read)) told r.all

-- it can't give more than it had
no_more : (left left' : Option (List ℕ)) (bytes read : List ℕ) → left ≡ Some bytes → Consumes left left' read → length read ≤ length bytes
no_more None left' bytes read told c = cc
no_more (Some xs) None bytes read told c = absurd c
no_more (Some xs) (Some ys) bytes read told c =
    let same : xs ≡ bytes = cc in
    omega (arith, ap length same, ap length c, length-append read ys)

too_many : (old new : Supply) (bytes : List ℕ) → old.left ≡ Some bytes → length bytes ≤ SCRIPT_BYTES → GaveTooMany old new → ⊥
too_many old new bytes told fits r = omega (arith, no_more old.left new.left bytes r.0 told r.1.consumed, r.2)

-- the script that was read is the one that its bytes spell
same_script : (r : Result Script Bad) (script other : Script) → r ≡ Ok script → r ≡ Ok other → other ≡ script
same_script r script other p q = cc

script_is : (old new : Supply) (bytes : List ℕ) (script other : Script) → old.left ≡ Some bytes → script_of bytes ≡ Ok script → GaveScript old new other → other ≡ script
script_is old new bytes script other told is gave =
    same_script (script_of bytes) script other is (ap script_of (same_bytes old new bytes gave.0 told gave.1) ∙ gave.2)

-- bytes that spell a script have no bad line
no_script : (r : Result Script Bad) (script : Script) (bad : Bad) → r ≡ Ok script → r ≡ Err bad → ⊥
no_script r script bad p q = cc

none_given : (old new : Supply) (bytes : List ℕ) (bad : Bad) (script : Script) → old.left ≡ Some bytes → script_of bytes ≡ Err bad → GaveScript old new script → ⊥
none_given old new bytes bad script told is gave =
    no_script (script_of bytes) script bad (ap script_of (same_bytes old new bytes gave.0 told gave.1) ∙ gave.2) is

same_bad : (r : Result Script Bad) (bad other : Bad) → r ≡ Err bad → r ≡ Err other → other ≡ bad
same_bad r bad other p q = cc

-- where all was written, the exit is one that the command makes of the script whose bytes the source had
made_of : (makes : Script → Exit → List ℕ → Type 0) (old new : Seen) (exit : Exit) (bytes : List ℕ) (script : Script) → WroteAll makes old new exit
    → old.source.left ≡ Some bytes → script_of bytes ≡ Ok script → (text : List ℕ) × makes script exit text
made_of makes old new exit bytes script e told is =
    (e.2.0, subst (λ s. makes s exit e.2.0) (script_is old.source new.source bytes script e.0 told is e.1) e.2.1)

completes_from_ends : (makes : Script → Exit → List ℕ → Type 0) (old new : Seen) (exit : Exit) → Ends makes old new exit → Completes makes old new exit
completes_from_ends makes old new Done e bytes script told fits is no_read no_write = inl (made_of makes old new Done bytes script e told is)
completes_from_ends makes old new (Stalled client stamp) e bytes script told fits is no_read no_write =
    inl (made_of makes old new (Stalled client stamp) bytes script e told is)
completes_from_ends makes old new (Spent entries) e bytes script told fits is no_read no_write = inl (made_of makes old new (Spent entries) bytes script e told is)
completes_from_ends makes old new (Broken evidence) e bytes script told fits is no_read no_write = inl (made_of makes old new (Broken evidence) bytes script e told is)
completes_from_ends makes old new (WriteFault n) e bytes script told fits is no_read no_write = absurd (no_write e.0)
completes_from_ends makes old new ReadFault e bytes script told fits is no_read no_write = absurd (no_read e.0.0)
completes_from_ends makes old new TooLong e bytes script told fits is no_read no_write = absurd (too_many old.source new.source bytes told fits e.0)
completes_from_ends makes old new (BadScript bad) e bytes script told fits is no_read no_write =
    absurd (no_script (script_of bytes) script bad is (ap script_of (same_bytes old.source new.source bytes e.0.0 told e.0.1) ∙ e.0.2))
completes_from_ends makes old new NoMemory e bytes script told fits is no_read no_write = inr refl
completes_from_ends makes old new Usage e bytes script told fits is no_read no_write = absurd e

names_bad_from_ends : (makes : Script → Exit → List ℕ → Type 0) (old new : Seen) (exit : Exit) → Ends makes old new exit → NamesBad old.source new.source exit
names_bad_from_ends makes old new Done e bytes bad told fits is no_read = absurd (none_given old.source new.source bytes bad e.0 told is e.1)
names_bad_from_ends makes old new (Stalled client stamp) e bytes bad told fits is no_read = absurd (none_given old.source new.source bytes bad e.0 told is e.1)
names_bad_from_ends makes old new (Spent entries) e bytes bad told fits is no_read = absurd (none_given old.source new.source bytes bad e.0 told is e.1)
names_bad_from_ends makes old new (Broken evidence) e bytes bad told fits is no_read = absurd (none_given old.source new.source bytes bad e.0 told is e.1)
names_bad_from_ends makes old new (WriteFault n) e bytes bad told fits is no_read = absurd (none_given old.source new.source bytes bad e.1.0 told is e.1.1)
names_bad_from_ends makes old new ReadFault e bytes bad told fits is no_read = absurd (no_read e.0.0)
names_bad_from_ends makes old new TooLong e bytes bad told fits is no_read = absurd (too_many old.source new.source bytes told fits e.0)
names_bad_from_ends makes old new (BadScript other) e bytes bad told fits is no_read =
    inl (ap BadScript (same_bad (script_of bytes) bad other is (ap script_of (same_bytes old.source new.source bytes e.0.0 told e.0.1) ∙ e.0.2)))
names_bad_from_ends makes old new NoMemory e bytes bad told fits is no_read = inr refl
names_bad_from_ends makes old new Usage e bytes bad told fits is no_read = absurd e

pub run_from_ends : (makes : Script → Exit → List ℕ → Type 0) (old new : Seen) (exit : Exit) → Ends makes old new exit → IsRun makes old new exit
run_from_ends makes old new exit e = record {
  ends = e;
  too_long = too_long_from_ends makes old new exit e;
  completes = completes_from_ends makes old new exit e;
  names_bad = names_bad_from_ends makes old new exit e;
}
