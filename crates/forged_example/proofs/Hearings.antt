-- Logs that stand go on standing when one of them hears what was let in for it.
use Rattle.std.proofs.Common.{◌≡◌, ℕ, zero, suc, ◌<◌, Bool, false, List, [], ◌∷◌, ◌++◌, map, length, take, get_or, refl, sym, ap, subst, ◌∙◌, arith, Result, Ok, Err, OnOk}
use Rattle.std.specs.List.{All}
use Rattle.std.proofs.Math.ListN.{set}
use Rattle.fab_base.specs.Limits.{Roster}
use Rattle.fab_base.specs.declared.ids.ReplicaId.{ReplicaId}
use Rattle.fault_script.specs.declared.scripts.Script.{Script}
use Rattle.bft_verify.specs.Admitted.{Admitted}
use Rattle.bft_verify.specs.Ring.{Ring}
use Rattle.bft_verify.specs.Sound.{IsSound}
use Rattle.lms_leaf.specs.Leaves.{Leaves}
use Rattle.replica_log.specs.Logs.{Log}
use Rattle.run_words.specs.Acts.{Acted, StaysOpen}
use Rattle.run_words.specs.Journal.{Maker, IsMade, AreSound}
use Rattle.run_words.specs.declared.logs.Entry.{Entry}
use Rattle.run_words.specs.declared.logs.Origin.{Origin}
use Rattle.run_words.specs.declared.party.Act.{Act}
use Rattle.run_words.specs.declared.party.Told.{Told}
use Rattle.run_words.proofs.Walks.{made_more, sound_more}
use Rattle.run_worlds.specs.Scripts.{roster_of, maker_of, makers_of}
use Rattle.script_keys.specs.Keys.{replicas_of}
use Rattle.script_keys.specs.Rings.{ring_of}
use Rattle.script_sim.specs.Schedules.{log_of, logs_of}
use Rattle.script_sim.proofs.Ready.{made_as}
use Rattle.forged_example.specs.Standing.{maker_in, IsStanding, AreStanding, IsForLog}

-- ---- before anything was heard

-- a log that has done nothing stands
fresh_from : (script : Script) (ids : List ReplicaId) → AreStanding (map (maker_of script) ids) (map (log_of script) ids)
fresh_from script [] = tt
fresh_from script (i ∷ ids) = (record { made = made_as script i; is_open = refl; replays = tt; sound = tt }, fresh_from script ids)

pub fresh_stand : (script : Script) (logs : List (Log Leaves)) → logs ≡ logs_of script → AreStanding (makers_of script) logs
fresh_stand script logs e = subst (λ (l : List (Log Leaves)). AreStanding (makers_of script) l) (sym e) (fresh_from script (replicas_of script))

-- what was let in for a script's members and keys was let in for each of its logs
for_from : (script : Script) (heard : Admitted) → heard.members ≡ roster_of script → heard.ring ≡ ring_of script
    → (ids : List ReplicaId) (k : ℕ) (d : Log Leaves) → k < length (map (log_of script) ids) → IsForLog heard (get_or (map (log_of script) ids) k d)
for_from script heard m r [] k d h = absurd (omega arith)
for_from script heard m r (i ∷ ids) zero d h = (m, r)
for_from script heard m r (i ∷ ids) (suc k) d h = for_from script heard m r ids k d (omega arith)

pub for_all : (script : Script) (heard : Admitted) (members : Roster) (ring : Ring) (logs : List (Log Leaves)) → heard.members ≡ members
    → heard.ring ≡ ring → members ≡ roster_of script → ring ≡ ring_of script → logs ≡ logs_of script → All (IsForLog heard) logs
for_all script heard members ring logs m r n s e =
    subst (λ (l : List (Log Leaves)). All (IsForLog heard) l) (sym e) (for_from script heard (m ∙ n) (r ∙ s) (replicas_of script))

-- ---- one hearing

-- where memory isn't refused there is an entry
grown : (m : Maker) (journal : List Entry) (origin : Origin) (heard : Admitted) (told : Told) (now : List Entry) → (told ≡ Told.NoMemory → ⊥)
    → Acted m journal (Act.Hear origin heard) told now → now ≡ journal ++ Entry.Heard origin heard.message ∷ []
grown m journal origin heard Told.NoMemory now n a = absurd (n refl)
grown m journal origin heard (Told.Core answer) now n a = a.grows
grown m journal origin heard (Told.Out parcels) now n a = a.grows
grown m journal origin heard (Told.KeySpent used) now n a = a.grows

-- and the log stays open
still_open : (act : Act) (told : Told) (before now : Bool) → (told ≡ Told.NoMemory → ⊥) → StaysOpen act told before now → now ≡ false
still_open act Told.NoMemory before now n a = absurd (n refl)
still_open act (Told.Core answer) before now n a = a.1
still_open act (Told.Out parcels) before now n a = a.1
still_open act (Told.KeySpent used) before now n a = a.1

pub stands : (was now : Log Leaves) (origin : Origin) (heard : Admitted) (told : Told) → (told ≡ Told.NoMemory → ⊥)
    → maker_in now ≡ maker_in was → Acted (maker_in was) was.journal (Act.Hear origin heard) told now.journal
    → StaysOpen (Act.Hear origin heard) told was.shut now.shut → IsForLog heard was → IsSound heard.members heard.ring heard.message
    → (m : Maker) → IsStanding m was → IsStanding m now
stands was now origin heard told n same acted opened own sound m s =
    let e = grown (maker_in was) was.journal origin heard told now.journal n acted in
    let entry = Entry.Heard origin heard.message in
    let let_in : IsSound m.roster m.ring heard.message =
    subst (λ (x : Maker). IsSound x.roster x.ring heard.message) s.made
    (subst (λ (x : Ring). IsSound was.roster x heard.message) own.1
    (subst (λ (x : Roster). IsSound x heard.ring heard.message) own.0 sound)) in
    record {
      made = same ∙ s.made;
      is_open = still_open (Act.Hear origin heard) told was.shut now.shut n opened;
      replays = subst (λ (l : List Entry). IsMade m l) (sym e) (made_more m was.journal entry s.replays tt);
      sound = subst (λ (l : List Entry). AreSound m l) (sym e) (sound_more m was.journal entry s.sound let_in);
    }

-- what holds anyway holds where a call succeeds; where it fails nothing is said
pub on_ok : {A E : Type 0} (told : Result A E) (P : Type 0) → P → OnOk told P
on_ok (Ok a) P p = p
on_ok (Err e) P p = tt

pub on_err : {A E : Type 0} (told : Result A E) (e : E) (P : Type 0) → told ≡ Err e → OnOk told P
on_err (Ok a) e P is = absurd cc
on_err (Err x) e P is = tt

-- ---- at a place

take_front : {X : Type 0} (xs ys : List X) → take (length xs) (xs ++ ys) ≡ xs
take_front [] ys = refl
take_front (x ∷ xs) ys = ap (λ l. x ∷ l) (take_front xs ys)

-- what a `Vec` is once the call is over that had it as a slice
pub put_back : {X : Type 0} (n : ℕ) (xs ys : List X) → n ≡ length xs → take n (xs ++ ys) ≡ xs
put_back n xs ys e = ap (λ k. take k (xs ++ ys)) e ∙ take_front xs ys

stand_at : (makers : List Maker) (logs : List (Log Leaves)) (place : ℕ) (d now : Log Leaves)
    → ((m : Maker) → IsStanding m (get_or logs place d) → IsStanding m now) → AreStanding makers logs → AreStanding makers (set logs place now)
stand_at [] [] place d now t s = tt
stand_at [] (log ∷ logs) place d now t s = absurd s
stand_at (m ∷ makers) [] place d now t s = absurd s
stand_at (m ∷ makers) (log ∷ logs) zero d now t s = (t m s.0, s.1)
stand_at (m ∷ makers) (log ∷ logs) (suc place) d now t s = (s.0, stand_at makers logs place d now t s.1)

pub heard_at : {A E : Type 0} (told : Result A E) (logs : List (Log Leaves)) (place : ℕ) (d now : Log Leaves)
    → OnOk told ((m : Maker) → IsStanding m (get_or logs place d) → IsStanding m now)
    → OnOk told ((makers : List Maker) → AreStanding makers logs → AreStanding makers (set logs place now))
heard_at (Err e) logs place d now t = tt
heard_at (Ok a) logs place d now t = λ makers s. stand_at makers logs place d now t s
