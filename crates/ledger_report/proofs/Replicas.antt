-- The replicas of a script's run: each trace can be replayed, and what its machine comes to has the ledger of its diary. A faulty replica
-- runs the same machine.
use Rattle.std.proofs.Common.{◌≡◌, length, Bool, true, false, cond, List, [], ◌∷◌, ◌++◌, map, inl, inr, refl, sym, ap, subst, ◌∙◌}
use Rattle.std.specs.Prelude.{IsTrue}
use Rattle.std.specs.List.{All, flat_map}
use Rattle.std.proofs.lemmas.List.Elements.{All-nil, All-cons}
use Rattle.std.proofs.lemmas.List.Concat.{flat_map-cons}
use Rattle.fab_base.specs.Limits.{Roster, IsWithinLimits}
use Rattle.fab_base.specs.Roster.{is_replica}
use Rattle.fab_base.specs.declared.ids.ReplicaId.{ReplicaId}
use Rattle.fab_rules.specs.Diary as diaries
use Rattle.fab_rules.specs.Diary.{ledger}
use Rattle.fab_rules.specs.Lists.{In}
use Rattle.fab_rules.proofs.Lists.{of_map}
use Rattle.fab_rules.proofs.Saying.{ledger-after_saying}
use Rattle.fab_rules.specs.declared.blocks.Block.{Block}
use Rattle.fab_machine.specs.State.{Replica, fresh}
use Rattle.fab_machine.specs.Items.{statements_in}
use Rattle.fab_machine.specs.Step.{step}
use Rattle.fab_machine.specs.Diaries.{MayCome, state_from, diary_after, diary_from, diary_of}
use Rattle.fab_machine.specs.Relation.{AreRelated}
use Rattle.fab_machine.proofs.Steps.{step_keeps, starts_related}
use Rattle.bft_verify.proofs.Soundness.{shaped_from_sound}
use Rattle.fault_script.specs.declared.scripts.Script.{Script}
use Rattle.run_words.specs.Journal.{Maker, event_of, diary, IsHeardSound, AreSound}
use Rattle.run_words.specs.Lawful.{AreEach, Kept}
use Rattle.run_words.specs.declared.logs.Entry.{Entry}
use Rattle.run_words.specs.declared.logs.Trace.{Trace}
use Rattle.run_words.specs.declared.logs.Transcript.{Transcript}
use Rattle.run_words.proofs.Replays.{same_diary}
use Rattle.script_keys.specs.Keys.{replicas_of}
use Rattle.world_laws.specs.World.{longest}
use Rattle.run_worlds.specs.Scripts.{roster_of, maker_of, makers_of}
use Rattle.run_worlds.specs.Worlds.{is_correct_one, ledgers_in}
use Rattle.run_worlds.specs.Endings.{IsOfLogs}
use Rattle.run_worlds.proofs.ScriptLimits.{within_limits}
use Rattle.audit_laws.proofs.Members.{takes_part}
use Rattle.ledger_report.specs.Report.{replica_line, replica_lines}
use Rattle.replica_log.specs.Replayed.{state_after}
use Rattle.ledger_report.specs.Replayed.{ledger_after, replica_text, longest_after, HasLedger}
use Rattle.ledger_report.proofs.Longest.{pick, pick_none}

-- ---- the state after a journal, and its diary

may_come : (m : Maker) (e : Entry) → IsHeardSound m e → MayCome m.roster (event_of e)
may_come m (Entry.Heard origin x) h = shaped_from_sound m.roster m.ring x h
may_come m Entry.Proposed h = tt
may_come m Entry.Nudged h = tt
may_come m (Entry.Sent item) h = tt
may_come m Entry.Executed h = tt
may_come m Entry.Marked h = tt
may_come m Entry.TimedOut h = tt

related : (m : Maker) (r : Roster) (me : ReplicaId) (s : Replica) (past : List diaries.Entry) (journal : List Entry) → IsWithinLimits r
    → IsTrue (is_replica r me) → m.roster ≡ r → AreSound m journal → AreRelated r me s past
    → AreRelated r me (state_from r me s (map event_of journal)) (diary_from r me s past (map event_of journal))
related m r me s past [] limits known same sound rel = rel
related m r me s past (e ∷ rest) limits known same sound rel =
    related m r me (step r me s (event_of e)).state (diary_after me s (event_of e) (step r me s (event_of e)).state past) rest limits known same sound.1
    (step_keeps r me s past (event_of e) limits known (subst (λ (x : Roster). MayCome x (event_of e)) same (may_come m e sound.0)) rel)

-- ---- one trace

-- a member of a script, as what makes it
pub record IsMember (r : Roster) (m : Maker) : Type 0 where
  pub roster_is : m.roster ≡ r
  pub known : IsTrue (is_replica r m.id)

-- it can be replayed, and that gives its diary's ledger
pub record IsTold (r : Roster) (m : Maker) (t : Trace) : Type 0 where
  pub has_ledger : HasLedger r t
  pub ledger_is : ledger (diary m t.journal) ≡ ledger_after r t

is_told : (r : Roster) (m : Maker) (t : Trace) → IsWithinLimits r → IsMember r m → Kept m t → IsTold r m t
is_told r m t limits is kept =
    let named : m.id ≡ t.id = sym kept.named in
    let known : IsTrue (is_replica r t.id) = subst (λ (i : ReplicaId). IsTrue (is_replica r i)) named is.known in
    let events = map event_of t.journal in
    let rel = related m r t.id (fresh r t.id) [] t.journal limits known is.roster_is kept.sound (starts_related r t.id limits known) in
    record {
      has_ledger = record {
        replayable = record {
          member = known;
          maker = m;
          roster_is = is.roster_is;
          id_is = named;
          made = kept.replays;
          sound = kept.sound;
        };
        whole = rel.facts.rounds.whole;
      };
      ledger_is =
          ap ledger (same_diary m t.journal kept.replays)
          ∙ (λ i. ledger (diary_of (is.roster_is i) (named i) events))
          ∙ sym (ledger-after_saying (diary_of r t.id events) (statements_in t.id (state_after r t).outbox))
          ∙ sym rel.facts.rounds.blocks_are;
    }

-- ---- all traces

-- one ledger more: a faulty replica's counts as none
counted_more : (b : Bool) (own now : List Block) (more : List (List Block)) (rest : List Block) → own ≡ now → longest more ≡ rest
    → longest (cond b (own ∷ more) more) ≡ pick (cond b now []) rest
counted_more true own now more rest e f = λ i. pick (e i) (f i)
counted_more false own now more rest e f = f ∙ sym (pick_none rest)

pub record AreTold (r : Roster) (makers : List Maker) (traces : List Trace) : Type 0 where
  pub have_ledgers : All (HasLedger r) traces
  pub lines : replica_lines (length r.sizes) makers traces ≡ flat_map (replica_text r) traces
  pub longest_is : longest (ledgers_in makers traces) ≡ longest_after r traces

are_told : (r : Roster) (makers : List Maker) (traces : List Trace) → IsWithinLimits r → ((m : Maker) → In m makers → IsMember r m)
    → AreEach Kept makers traces → AreTold r makers traces
are_told r [] [] limits is kept = record { have_ledgers = All-nil (HasLedger r); lines = refl; longest_is = refl }
are_told r [] (t ∷ traces) limits is kept = absurd kept
are_told r (m ∷ makers) [] limits is kept = absurd kept
are_told r (m ∷ makers) (t ∷ traces) limits is kept =
    let here = is_told r m t limits (is m (inl refl)) kept.0 in
    let rest = are_told r makers traces limits (λ n h. is n (inr h)) kept.1 in
    record {
      have_ledgers = All-cons (HasLedger r) t traces here.has_ledger rest.have_ledgers;
      lines =
          (λ i. replica_line (length r.sizes) t.fault t.id (here.ledger_is i) ++ rest.lines i)
          ∙ sym (flat_map-cons (replica_text r) t traces);
      longest_is =
          counted_more (is_correct_one t) (ledger (diary m t.journal)) (ledger_after r t) (ledgers_in makers traces) (longest_after r traces)
          here.ledger_is rest.longest_is;
    }

members_are : (script : Script) (m : Maker) → In m (makers_of script) → IsMember (roster_of script) m
members_are script m h =
    let o = of_map (maker_of script) m (replicas_of script) h in
    subst (IsMember (roster_of script)) o.same (record { roster_is = refl; known = takes_part script o.from o.is_in })

pub run_told : (t : Transcript) → IsOfLogs t → AreTold (roster_of t.script) (makers_of t.script) t.traces
run_told t run =
    are_told (roster_of t.script) (makers_of t.script) t.traces (within_limits t.script run.limits) (λ m h. members_are t.script m h) run.kept
