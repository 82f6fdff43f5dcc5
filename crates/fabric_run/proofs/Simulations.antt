-- What a run of `sim` tells by its exit.
use Rattle.std.proofs.Common.{◌≡◌, ℕ, ◌≤◌, ◌⊎◌, List, [], length, None, inl, inr, ap, subst, sym, ◌∙◌}
use Rattle.fab_io.specs.Devices.{Supply}
use Rattle.fault_script.specs.declared.scripts.Script.{Script}
use Rattle.world_laws.specs.Safety.{IsSafe}
use Rattle.run_words.specs.declared.ends.End.{End}
use Rattle.run_words.specs.declared.ends.Evidence.{Evidence}
use Rattle.run_words.specs.declared.logs.Transcript.{Transcript}
use Rattle.run_worlds.specs.Worlds.{world_of}
use Rattle.run_worlds.specs.Sights.{first_evidence}
use Rattle.run_worlds.specs.Endings.{IsRunOf, IsEnd}
use Rattle.run_worlds.proofs.RunLogs.{logs_of}
use Rattle.audit_laws.proofs.Evidence.{safe_run}
use Rattle.audit_laws.proofs.Witnesses.{witness}
use Rattle.run_laws.proofs.Unforged.{no_signer_named, bears}
use Rattle.plain_laws.proofs.Ends.{stalled, cut_off}
use Rattle.plain_laws.proofs.ReadScripts.{read_one}
use Rattle.plain_laws.proofs.Timely.{timely}
use Rattle.plain_laws.specs.Plain.{HasSpent, HasTimedOut, IsClash}
use Rattle.budget_laws.specs.Budgets.{FitsScript}
use Rattle.budget_laws.proofs.Budgets.{within_budget}
use Rattle.script_sim.specs.Schedules.{IsScheduleOf}
use Rattle.ledger_report.specs.Report.{report_text}
use Rattle.ledger_report.specs.Printed.{world_text}
use Rattle.ledger_report.proofs.Printed.{printed}
use Rattle.fabric_run.specs.declared.exits.Exit.{Exit}
use Rattle.fabric_run.specs.declared.exits.Exit.TheVariants.{Done, Usage, ReadFault, WriteFault, TooLong, BadScript, Stalled, Spent, Broken, NoMemory}
use Rattle.fabric_run.specs.Exits.{Seen, GaveScript, HandsOver, WroteAll, Ends}
use Rattle.fabric_run.specs.Simulated.{exit_of, IsSimulation, SimMakes, HasRun, KeepsRun, IsSafeAt, IsPrintedAt, HasCauseAt}
use Rattle.fabric_run.proofs.Endings.{handed}

-- the run is one of its transcript's own script
pub own_run : (script : Script) (t : Transcript) → IsRunOf script t → IsRunOf t.script t
own_run script t h = subst (λ s. IsRunOf s t) (sym h.lawful.script) h

-- whatever the end, all was written
all_written : (makes : Script → Exit → List ℕ → Type 0) (old new : Seen) (end : End) → WroteAll makes old new (exit_of end) → Ends makes old new (exit_of end)
all_written makes old new End.Done all = all
all_written makes old new (End.Stalled client stamp) all = all
all_written makes old new (End.Spent entries) all = all
all_written makes old new (End.Broken evidence) all = all

-- how a run ends whose report is handed over
pub ends_so : (old new : Seen) (script : Script) (t : Transcript) (end : End) (text shown : List ℕ) (wanted exit : Exit)
    → GaveScript old.source new.source script → IsSimulation script t end text → shown ≡ text → wanted ≡ exit_of end
    → HandsOver old.sink new.sink shown wanted exit → Ends (SimMakes t) old new exit
ends_so old new script t end text shown wanted exit gave h same is over =
    handed (SimMakes t) old new script wanted shown exit gave (h.schedule, (end, h.ended, is, same ∙ h.reported))
    (subst (λ e. WroteAll (SimMakes t) old new e → Ends (SimMakes t) old new e) (sym is) (all_written (SimMakes t) old new end)) over

-- ---- the promise

-- a run whose exit is one of these has no evidence
abbrev IsCleanAt : Transcript → Exit → Type 0
IsCleanAt t Done = first_evidence t ≡ None
IsCleanAt t (Stalled client stamp) = first_evidence t ≡ None
IsCleanAt t (Spent entries) = first_evidence t ≡ None
IsCleanAt t exit = Unit {0}

by_end : (t : Transcript) (end : End) → IsEnd t end → IsCleanAt t (exit_of end)
by_end t End.Done h = h.0
by_end t (End.Stalled client stamp) h = h.0
by_end t (End.Spent entries) h = h.0
by_end t (End.Broken evidence) h = tt

wrote_clean : (old new : Seen) (t : Transcript) (exit : Exit) → WroteAll (SimMakes t) old new exit → IsCleanAt t exit
wrote_clean old new t exit w =
    let made : SimMakes t w.0 exit w.2.0 = w.2.1 in
    subst (IsCleanAt t) (sym made.1.2) (by_end t made.1.0 made.1.1)

-- without evidence the run is safe
safe_of : (old new : Supply) (t : Transcript) → HasRun old new t → first_evidence t ≡ None → IsSafe (world_of t)
safe_of old new t h clean = safe_run t (logs_of t (own_run h.0 t h.4)) (bears t.script) clean

pub safe_from : (old new : Seen) (before t : Transcript) (exit : Exit) → Ends (SimMakes t) old new exit → KeepsRun old.source new.source before t exit → IsSafeAt t exit
safe_from old new before t Done e h = safe_of old.source new.source t h (wrote_clean old new t Done e)
safe_from old new before t (Stalled client stamp) e h = safe_of old.source new.source t h (wrote_clean old new t (Stalled client stamp) e)
safe_from old new before t (Spent entries) e h = safe_of old.source new.source t h (wrote_clean old new t (Spent entries) e)
safe_from old new before t (Broken evidence) e h = tt
safe_from old new before t (WriteFault written) e h = tt
safe_from old new before t ReadFault e h = tt
safe_from old new before t TooLong e h = tt
safe_from old new before t (BadScript bad) e h = tt
safe_from old new before t NoMemory e h = tt
safe_from old new before t Usage e h = tt

-- ---- what is printed

printed_of : (old new : Supply) (t : Transcript) → HasRun old new t → (end : End) → report_text t end ≡ world_text t end
printed_of old new t h end = printed t end (logs_of t (own_run h.0 t h.4))

pub printed_from : (old new : Supply) (before t : Transcript) (exit : Exit) → KeepsRun old new before t exit → IsPrintedAt t exit
printed_from old new before t Done h = printed_of old new t h
printed_from old new before t (Stalled client stamp) h = printed_of old new t h
printed_from old new before t (Spent entries) h = printed_of old new t h
printed_from old new before t (Broken evidence) h = printed_of old new t h
printed_from old new before t (WriteFault written) h = printed_of old new t h
printed_from old new before t ReadFault h = tt
printed_from old new before t TooLong h = tt
printed_from old new before t (BadScript bad) h = tt
printed_from old new before t NoMemory h = tt
printed_from old new before t Usage h = tt

-- ---- why a run didn't end done

-- where keys and entries are enough
within : (script : Script) (t : Transcript) (end : End) → length script.sizes ≤ 1 → t.script ≡ script → IsScheduleOf script t → IsRunOf script t → IsEnd t end
    → t.script.timeouts ≡ [] → FitsScript t.script → (end ≡ End.Done) ⊎ IsClash end
within script t end few is schedule run h none fits =
    within_budget script t schedule.0 end few run.limits (subst (λ (s : Script). s.timeouts ≡ []) is none)
    (subst (λ (s : Script). FitsScript s) is fits) schedule.1 h

-- a run that stalls with no timeout lines has a used-up key
spent_then : (script : Script) (t : Transcript) → length script.sizes ≤ 1 → t.script ≡ script → IsScheduleOf script t → IsRunOf script t
    → first_evidence t ≡ None → t.script.timeouts ≡ [] → HasSpent t ⊎ HasTimedOut t → HasSpent t
spent_then script t few is schedule run clean none (inl spent) = spent
spent_then script t few is schedule run clean none (inr timed) =
    timely script t schedule.0 few run.limits (subst (λ (s : Script). s.timeouts ≡ []) is none) schedule.1 clean timed

-- by how it ended
cause_by : (script : Script) (t : Transcript) (end : End) → length script.sizes ≤ 1 → t.script ≡ script → IsScheduleOf script t → IsRunOf script t → IsEnd t end
    → HasCauseAt t (exit_of end)
cause_by script t End.Done few is schedule run h = tt
cause_by script t (End.Stalled client stamp) few is schedule run h = (
  why,
  λ none. (
    spent_then script t few is schedule run h.0 none why,
    λ fits. neither (within script t (End.Stalled client stamp) few is schedule run h none fits),
  ),
)
  where
    why : HasSpent t ⊎ HasTimedOut t
    why = stalled t client stamp (subst (λ s. length s.sizes ≤ 1) (sym is) few) (own_run script t run) h

    neither : (End.Stalled client stamp ≡ End.Done) ⊎ IsClash (End.Stalled client stamp) → ⊥
    neither (inl e) = cc
    neither (inr none) = none
cause_by script t (End.Spent entries) few is schedule run h = (
  subst (λ (s : Script). entries ≡ s.turns) (sym is) (cut_off script t schedule.0 entries run.limits schedule.1 h),
  λ none fits. neither (within script t (End.Spent entries) few is schedule run h none fits),
)
  where
    neither : (End.Spent entries ≡ End.Done) ⊎ IsClash (End.Spent entries) → ⊥
    neither (inl e) = cc
    neither (inr none) = none
cause_by script t (End.Broken (Evidence.Clash digest a b)) few is schedule run h =
    witness t (logs_of t (own_run script t run)) (Evidence.Clash digest a b) h
cause_by script t (End.Broken (Evidence.Forged i place signer)) few is schedule run h = no_signer_named script t run i place signer h

cause_of : (old new : Seen) (t : Transcript) (exit : Exit) → HasRun old.source new.source t → WroteAll (SimMakes t) old new exit → HasCauseAt t exit
cause_of old new t exit h w =
    let made : SimMakes t w.0 exit w.2.0 = w.2.1 in
    let few = read_one h.1.0 h.0 h.1.2 in
    subst (HasCauseAt t) (sym made.1.2) (cause_by h.0 t made.1.0 few h.2 h.3 h.4 made.1.1)

pub cause_from : (old new : Seen) (before t : Transcript) (exit : Exit) → Ends (SimMakes t) old new exit → KeepsRun old.source new.source before t exit → HasCauseAt t exit
cause_from old new before t Done e h = tt
cause_from old new before t (Stalled client stamp) e h = cause_of old new t (Stalled client stamp) h e
cause_from old new before t (Spent entries) e h = cause_of old new t (Spent entries) h e
cause_from old new before t (Broken evidence) e h = cause_of old new t (Broken evidence) h e
cause_from old new before t (WriteFault written) e h = tt
cause_from old new before t ReadFault e h = tt
cause_from old new before t TooLong e h = tt
cause_from old new before t (BadScript bad) e h = tt
cause_from old new before t NoMemory e h = tt
cause_from old new before t Usage e h = tt
