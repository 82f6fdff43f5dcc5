-- The ledgers that a report prints are those of the replicas in the world, and the longest is the common one.
use Rattle.std.proofs.Common.{◌≡◌, ℕ, List, [], ◌∷◌, ◌++◌, length, map, inl, inr, refl, sym, ap, ◌∙◌}
use Rattle.std.specs.List.{flat_map}
use Rattle.std.proofs.lemmas.List.Concat.{flat_map-cons}
use Rattle.fab_base.specs.declared.ids.ReplicaId.{ReplicaId}
use Rattle.fab_rules.specs.Diary as diaries
use Rattle.fab_rules.specs.Diary.{ledger}
use Rattle.fab_rules.specs.Lists.{In}
use Rattle.fab_rules.specs.Ledger.{RunBlock, run, start_of, state_after_blocks}
use Rattle.fab_rules.specs.declared.blocks.Block.{Block}
use Rattle.world_laws.specs.World.{common_ledger}
use Rattle.fault_script.specs.declared.scripts.Script.{Script}
use Rattle.run_words.specs.Journal.{Maker, diary}
use Rattle.run_words.specs.Lawful.{AreEach, Kept}
use Rattle.run_words.specs.declared.logs.Trace.{Trace}
use Rattle.run_words.proofs.Keys.{same_self, other_turned}
use Rattle.script_keys.specs.Keys.{replicas_of}
use Rattle.run_worlds.specs.Scripts.{maker_of}
use Rattle.run_worlds.specs.Troubles.{fault_of}
use Rattle.run_worlds.specs.Worlds.{diary_in, world_of}
use Rattle.audit_laws.proofs.Members.{AreDistinct, replicas_are_distinct}
use Rattle.audit_laws.proofs.Traces.{first_diary, later_diary}
use Rattle.audit_laws.proofs.Printed.{same_replicas, common}
use Rattle.ledger_report.specs.Text.{table_text}
use Rattle.ledger_report.specs.Report.{head_line, replica_line, replica_lines, block_lines, end_line, longest_ledger}
use Rattle.ledger_report.specs.Printed.{PrintedLaw}

module _ (script : Script) where
  abbrev made : List ReplicaId → List Maker
  made ids = map (maker_of script) ids

  -- the line of a replica, by its diary
  abbrev line : (ReplicaId → List diaries.Entry) → ReplicaId → List ℕ
  line told i = replica_line (length script.sizes) (fault_of script i) i (ledger (told i))

  lines_are : (told : ReplicaId → List diaries.Entry) (ids : List ReplicaId) (traces : List Trace) → AreDistinct ids
      → AreEach Kept (made ids) traces → ((j : ReplicaId) → In j ids → told j ≡ diary_in (made ids) traces j)
      → replica_lines (length script.sizes) (made ids) traces ≡ flat_map (line told) ids
  lines_are told [] [] distinct kept same = refl
  lines_are told [] (t ∷ traces) distinct kept same = absurd kept
  lines_are told (j ∷ ids) [] distinct kept same = absurd kept
  lines_are told (j ∷ ids) (t ∷ traces) distinct kept same =
      let named : t.id ≡ j = kept.0.named in
      let first : told j ≡ diary (maker_of script j) t.journal = same j (inl refl) ∙ first_diary script j j ids t traces (same_self j) in
      let later = lines_are told ids traces distinct.1 kept.1
      (λ k h. same k (inr h) ∙ later_diary script j k ids t traces (other_turned j k (distinct.0 k h))) in
      (λ i. replica_line (length script.sizes) (kept.0.fault i) (named i) (ledger (sym first i)) ++ later i) ∙ sym (flat_map-cons (line told) j ids)

pub printed : PrintedLaw
printed t end logs =
    let w = world_of t in
    let lines = lines_are t.script w.diary (replicas_of t.script) t.traces (replicas_are_distinct t.script) logs.kept (λ j h. refl)
    ∙ ap (flat_map (line t.script w.diary)) (sym (same_replicas t.script)) in
    let whole : longest_ledger t ≡ common_ledger w = sym (common t logs) in
    λ i. head_line t.script.sizes ++ lines i ++ flat_map (block_lines t.traces) (run_of (whole i)) ++ table_of (whole i) ++ end_line end
  where
    run_of : List Block → List RunBlock
    run_of blocks = run (world_of t).roster blocks

    table_of : List Block → List ℕ
    table_of blocks = table_text (state_after_blocks (start_of (world_of t).roster) blocks).entries
