-- The logs of a script stand ready for its run.
use Rattle.std.proofs.Common.{◌≡◌, ℕ, Bool, true, false, List, [], ◌∷◌, map, Option, None, refl, sym, ap, subst, ◌∙◌}
use Rattle.fab_base.specs.declared.ids.ReplicaId.{ReplicaId}
use Rattle.std.specs.List.{list_all}
use Rattle.fab_base.specs.Limits.{Roster}
use Rattle.fab_base.proofs.Tests.{and_left, and_right}
use Rattle.fab_rules.proofs.Lists.{in_map}
use Rattle.bft_verify.specs.Ring.{Ring}
use Rattle.fault_script.specs.declared.scripts.Script.{Script}
use Rattle.fault_script.specs.declared.twists.Fault.{Fault}
use Rattle.fault_script.specs.declared.twists.Loss.{Loss}
use Rattle.fault_script.specs.declared.twists.TimeoutLine.{TimeoutLine}
use Rattle.fault_script.specs.Drafts.{is_declared}
use Rattle.fault_script.specs.Scripts.{is_timeout, keeps_limits}
use Rattle.lms_leaf.specs.Leaves.{Leaves}
use Rattle.lms_tree.specs.Heights.{leaf_count}
use Rattle.lms_tree.specs.Signatures.{leaf_signature}
use Rattle.replica_log.specs.Logs.{Log, made_of}
use Rattle.run_words.specs.Journal.{Maker}
use Rattle.run_words.specs.Lawful.{IsApart, AreApart}
use Rattle.run_words.specs.Runs.{IsSchedule, Line}
use Rattle.run_words.specs.declared.logs.Entry.{Entry}
use Rattle.run_words.specs.declared.logs.Pending.{Pending}
use Rattle.run_words.specs.declared.logs.Transcript.{Transcript}
use Rattle.sim_sched.specs.Putting.{IsNone, AreDistinct}
use Rattle.sim_sched.specs.Simulating.{AreLines}
use Rattle.sim_sched.specs.Whole.{rules_of, IsLawfulRun, IsRunBy, IsLawfulBy, AreFresh, AreMadeWith}
use Rattle.script_keys.specs.Keys.{replicas_of}
use Rattle.script_keys.specs.Rings.{ring_of}
use Rattle.script_keys.specs.Requests.{copies_of}
use Rattle.run_worlds.specs.Scripts.{roster_of, maker_of, makers_of, line_of, script_rules}
use Rattle.run_worlds.specs.Endings.{IsRunOf}
use Rattle.run_worlds.specs.Troubles.{losses_of}
use Rattle.run_worlds.proofs.Untroubled.{none_faulty, no_losses}
use Rattle.audit_laws.specs.Laws.{SaneLaw}
use Rattle.audit_laws.proofs.Members.{is_listed}
use Rattle.audit_laws.proofs.Sanity.{timeouts_fit}
use Rattle.script_sim.specs.Schedules.{log_of, logs_of, IsScheduleOf}

-- ---- apart

none_same : (script : Script) (i : ReplicaId) (ids : List ReplicaId) → IsApart (maker_of script i) (map (maker_of script) ids) → IsNone i ids
none_same script i [] h = tt
none_same script i (j ∷ ids) h = (h.0, none_same script i ids h.1)

all_apart : (script : Script) (ids : List ReplicaId) → AreApart (map (maker_of script) ids) → AreDistinct ids
all_apart script [] h = tt
all_apart script (i ∷ ids) h = (none_same script i ids h.0, all_apart script ids h.1)

pub distinct : (script : Script) (ids : List ReplicaId) → AreApart (makers_of script) → ids ≡ replicas_of script → AreDistinct ids
distinct script ids h e = subst AreDistinct (sym e) (all_apart script (replicas_of script) h)

-- ---- the lines of a script

abbrev lines_in : Script → List Line
lines_in script = map (line_of script) script.timeouts

lines_from : (script : Script) (timeouts : List TimeoutLine) → list_all (is_timeout script.sizes) timeouts ≡ true
    → AreLines (makers_of script) timeouts (map (line_of script) timeouts)
lines_from script [] h = tt
lines_from script (t ∷ rest) h =
    let declared = and_left (is_declared script.sizes t.replica) _ (and_left (is_timeout script.sizes t) _ h) in (
      (in_map (maker_of script) t.replica (replicas_of script) (is_listed script t.replica declared), refl, refl),
      lines_from script rest (and_right (is_timeout script.sizes t) _ h),
    )

pub are_lines : (script : Script) → keeps_limits script ≡ true → AreLines (makers_of script) script.timeouts (lines_in script)
are_lines script limits = lines_from script script.timeouts (timeouts_fit script limits)

-- ---- as their logs are made

module _ (made : Log Leaves → Maker) (journal : Log Leaves → List Entry) (shut : Log Leaves → Bool) (script : Script)
    (made_is : (i : ReplicaId) → made (log_of script i) ≡ maker_of script i)
    (empty : (i : ReplicaId) → journal (log_of script i) ≡ [])
    (calm : (i : ReplicaId) → shut (log_of script i) ≡ false) where
  makers_from : (ids : List ReplicaId) → map made (map (log_of script) ids) ≡ map (maker_of script) ids
  makers_from [] = refl
  makers_from (i ∷ ids) = ap (λ m. m ∷ map made (map (log_of script) ids)) (made_is i) ∙ ap (λ l. maker_of script i ∷ l) (makers_from ids)

  ids_from : (ids : List ReplicaId) → ids ≡ map (λ p. (made p).id) (map (log_of script) ids)
  ids_from [] = refl
  ids_from (i ∷ ids) =
      ap (λ j. j ∷ ids) (sym (ap (λ (m : Maker). m.id) (made_is i))) ∙ ap (λ l. (made (log_of script i)).id ∷ l) (ids_from ids)

  fresh_from : (ids : List ReplicaId) → AreFresh journal shut (map (log_of script) ids)
  fresh_from [] = tt
  fresh_from (i ∷ ids) = ((empty i, calm i), fresh_from ids)

  made_from : (ids : List ReplicaId) → AreMadeWith made (roster_of script) (ring_of script) (map (log_of script) ids)
  made_from [] = tt
  made_from (i ∷ ids) = ((ap (λ (m : Maker). m.roster) (made_is i), ap (λ (m : Maker). m.ring) (made_is i)), made_from ids)

  pub named : (ids : List ReplicaId) (logs : List (Log Leaves)) → ids ≡ replicas_of script → logs ≡ logs_of script → ids ≡ map (λ p. (made p).id) logs
  named ids logs e l = e ∙ ids_from (replicas_of script) ∙ ap (map (λ p. (made p).id)) (sym l)

  pub fresh : (logs : List (Log Leaves)) → logs ≡ logs_of script → AreFresh journal shut logs
  fresh logs l = subst (AreFresh journal shut) (sym l) (fresh_from (replicas_of script))

  pub made_with : (members : Roster) (ring : Ring) (logs : List (Log Leaves)) → members ≡ roster_of script → ring ≡ ring_of script → logs ≡ logs_of script
      → AreMadeWith made members ring logs
  made_with members ring logs m r l =
      subst (λ (x : Roster). AreMadeWith made x ring logs) (sym m)
      (subst (λ (x : Ring). AreMadeWith made (roster_of script) x logs) (sym r)
      (subst (AreMadeWith made (roster_of script) (ring_of script)) (sym l) (made_from (replicas_of script))))

  same_makers : (logs : List (Log Leaves)) → logs ≡ logs_of script → map made logs ≡ makers_of script
  same_makers logs l = ap (map made) l ∙ makers_from (replicas_of script)

  same_rules : (logs : List (Log Leaves)) (copies : List (ReplicaId × Pending)) → logs ≡ logs_of script → copies ≡ copies_of script
      → rules_of script (map made logs) (lines_in script) copies ≡ script_rules script
  same_rules logs copies l c =
      ap (λ (x : List Maker). rules_of script x (lines_in script) copies) (same_makers logs l)
      ∙ ap (rules_of script (makers_of script) (lines_in script)) c

  lines_there : (logs : List (Log Leaves)) → logs ≡ logs_of script → keeps_limits script ≡ true → AreLines (map made logs) script.timeouts (lines_in script)
  lines_there logs l limits = subst (λ (x : List Maker). AreLines x script.timeouts (lines_in script)) (sym (same_makers logs l)) (are_lines script limits)

  pub scheduled : (logs : List (Log Leaves)) (copies : List (ReplicaId × Pending)) (t : Transcript) (spent : Bool)
      → logs ≡ logs_of script → copies ≡ copies_of script → keeps_limits script ≡ true → IsRunBy script (map made logs) copies t spent → IsScheduleOf script t
  scheduled logs copies t spent l c limits h =
      (spent, subst (λ r. IsSchedule r t spent) (same_rules logs copies l c) (h (lines_in script) (lines_there logs l limits)))

  pub is_run : SaneLaw → (logs : List (Log Leaves)) (copies : List (ReplicaId × Pending)) (t : Transcript) (spent : Bool)
      → logs ≡ logs_of script → copies ≡ copies_of script → keeps_limits script ≡ true
      → IsLawfulBy script (map made logs) copies t spent → IsRunOf script t
  is_run sane logs copies t spent l c limits h =
      let lawful = subst (λ r. IsLawfulRun r t spent) (same_rules logs copies l c) (h (lines_in script) (lines_there logs l limits)) in
      record { limits = limits; lawful = (lawful (sane script limits)).0 }

-- ---- what a log is made with, and what it begins with

abbrev pub made : Log Leaves → Maker
made = made_of (λ (s : Leaves). leaf_count s.key.height) (λ (s : Leaves) (k : ℕ) (content : List ℕ). leaf_signature s.key k content)

-- no script has losses or faults: what it makes a replica with is what a log is made with
abbrev maker_with : Script → ReplicaId → List Loss → Option Fault → Maker
maker_with script i losses fault = record (made (log_of script i)) { losses = losses; fault = fault }

pub made_as : (script : Script) (i : ReplicaId) → made (log_of script i) ≡ maker_of script i
made_as script i =
    ap (λ l. maker_with script i l None) (sym (no_losses script)) ∙ ap (maker_with script i (losses_of script)) (sym (none_faulty script i))

abbrev pub journal : Log Leaves → List Entry
journal log = log.journal

abbrev pub shut : Log Leaves → Bool
shut log = log.shut
