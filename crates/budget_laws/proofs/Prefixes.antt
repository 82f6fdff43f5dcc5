-- The one run of a script, step by step: as long as no two batches share a digest and nobody timed out, its primary wastes nothing.
use Rattle.std.proofs.Common.{Option, ◌≡◌, ℕ, zero, suc, ◌+◌, ◌<◌, true, nat_le, List, [], ◌∷◌, ◌++◌, length, ◌⊎◌, inl, inr, refl, sym, ap, subst, ◌∙◌, arith}
use Rattle.std.specs.Prelude.{slice_index, replicate}
use Rattle.fab_base.specs.Limits.{Roster}
use Rattle.fab_base.specs.Roster.{is_replica, is_cluster, size_of}
use Rattle.fab_base.specs.declared.requests.Request.{Request}
use Rattle.fab_base.proofs.Tests.{and_both, is_below, is_at_most}
use Rattle.fab_rules.specs.Diary as diaries
use Rattle.fab_rules.specs.Diary.{Heard}
use Rattle.fab_rules.specs.Lists.{In}
use Rattle.fab_rules.proofs.Lists.{in_append_right, in_map}
use Rattle.fab_rules.proofs.Saying.{heard_before}
use Rattle.fab_machine.specs.State.{Replica}
use Rattle.fab_machine.specs.Items.{statements_in}
use Rattle.fab_machine.specs.Step.{step}
use Rattle.fab_machine.specs.Diaries.{diary_after}
use Rattle.fab_machine.specs.Relation.{full_of, AreRelated}
use Rattle.fault_script.specs.declared.scripts.Script.{Script}
use Rattle.fault_script.specs.Scripts.{keeps_limits}
use Rattle.world_laws.specs.World.{IsKnown, NoClash}
use Rattle.heed_laws.specs.Resting.{member, IsVoiced}
use Rattle.run_words.specs.Journal.{Maker, event_of, state, diary, IsMade}
use Rattle.run_words.specs.Runs.{Run, journal_in, after, trace_in}
use Rattle.run_words.specs.declared.logs.Entry.{Entry}
use Rattle.run_words.proofs.Keeping.{IsTrueLog, is_in, after_well}
use Rattle.run_worlds.proofs.Untroubled.{none_faulty}
use Rattle.fault_script.specs.declared.twists.Fault.{Fault}
use Rattle.std.specs.Option.{is_some}
use Rattle.run_words.proofs.Replays.{state_more}
use Rattle.script_keys.specs.Keys.{replicas_of}
use Rattle.run_worlds.specs.Scripts.{roster_of, maker_of, makers_of, script_rules}
use Rattle.run_worlds.specs.Worlds.{world_of}
use Rattle.run_worlds.proofs.ScriptLimits.{within_limits}
use Rattle.audit_laws.proofs.Members.{is_listed}
use Rattle.audit_laws.proofs.Sanity.{sane}
use Rattle.plain_laws.proofs.Members.{journal_related}
use Rattle.plain_laws.specs.Plain.{HasTimedOut}
use Rattle.plain_laws.proofs.Plainness.{ArePlainEntries, run_plain}
use Rattle.plain_laws.proofs.Prefixes.{at_step, run_of, IsLonger, next_longer, no_clash_before, journal_there, diary_there}
use Rattle.plain_laws.proofs.Timely.{timed_later}
use Rattle.budget_laws.specs.Opened.{state_at, full_at}
use Rattle.budget_laws.specs.Proposals.{IsThrifty, ThriftyLaw}
use Rattle.budget_laws.proofs.Ordered.{IsMet, AreApart, ordered, thrifty_of}
use Rattle.budget_laws.proofs.Thrift.{turn_of, orders_said, IsInTurn, AreOrdered, step_in_turn}
use Rattle.budget_laws.proofs.Journals.{diary_one}
use Rattle.budget_laws.proofs.Voicing.{voiced}

-- ---- how much is known of a prefix

-- no two batches share a digest, and nobody timed out
abbrev pub IsClear : Script → ℕ → Type 0
IsClear script n = NoClash (world_of (at_step script n)) × (HasTimedOut (at_step script n) → ⊥)

pub clear_before : (script : Script) (n : ℕ) → keeps_limits script ≡ true → IsClear script (suc n) → IsClear script n
clear_before script n limits clear = (
  no_clash_before script n 1 limits (subst (λ k. NoClash (world_of (at_step script k))) (let e : suc n ≡ n + 1 = omega arith in e) clear.0),
  λ h. clear.1 (timed_later script n h),
)

-- no client of a fresh replica has a stamp
none : (n client : ℕ) → slice_index (replicate n 0) client ≡ 0
none zero client = refl
none (suc n) zero = refl
none (suc n) (suc client) = none n client

-- ---- the primary

module _ (script : Script) (limits : keeps_limits script ≡ true) (one : length script.sizes ≡ 1) (some : 0 < size_of (roster_of script) 1) where
  abbrev r : Roster
  r = roster_of script

  abbrev maker : Maker
  maker = maker_of script (member 0)

  abbrev run_at : ℕ → Run
  run_at n = after (script_rules script) n

  abbrev journal_at : ℕ → List Entry
  journal_at n = journal_in (run_at n) maker

  abbrev now_at : ℕ → Replica
  now_at n = state maker (journal_at n)

  abbrev diary_at : ℕ → List diaries.Entry
  diary_at n = diary maker (journal_at n)

  known : (k : ℕ) → k < size_of (roster_of script) 1 → is_replica (roster_of script) (member k) ≡ true
  known k l = and_both (is_cluster r 1) _ (and_both (nat_le 1 1) _ refl (is_at_most 1 (length script.sizes) (omega (arith, one)))) (is_below k (size_of r 1) l)

  listed : In (member 0) (replicas_of script)
  listed = is_listed script (member 0) (known 0 some)

  logs : (n : ℕ) → IsTrueLog maker (journal_at n)
  logs n = (after_well (script_rules script) n (sane script limits)).fair.logs maker (is_in maker (makers_of script) (in_map (maker_of script) (member 0) (replicas_of script) listed))

  -- all that the primary did is plain
  pub plain_journal : (n : ℕ) → (HasTimedOut (at_step script n) → ⊥) → ArePlainEntries (journal_in (after (script_rules script) n) (maker_of script (member 0)))
  plain_journal n untimed =
      run_plain (at_step script n) (run_of script n limits) untimed one (trace_in (run_at n) maker)
      (in_map (trace_in (run_at n)) maker (makers_of script) (in_map (maker_of script) (member 0) (replicas_of script) listed))

  related : (n : ℕ) → AreRelated r (member 0) (now_at n) (diary_at n)
  related n = journal_related maker (journal_at n) (within_limits script limits) (known 0 some) (logs n).0 (logs n).1

  voice : (n : ℕ) → (HasTimedOut (at_step script n) → ⊥) → IsVoiced r (state_at (at_step script n)) (full_at (at_step script n))
  voice n untimed = voiced (at_step script n) (run_of script n limits) untimed one

  state_is : (n : ℕ) → state_at (at_step script n) 0 ≡ now_at n
  state_is n = ap (state maker) (journal_there script (run_at n) (replicas_of script) (member 0) listed)

  full_is : (n : ℕ) → full_at (at_step script n) 0 ≡ full_of (member 0) (now_at n) (diary_at n)
  full_is n =
      ap (λ s. full_of (member 0) s ((world_of (at_step script n)).diary (member 0))) (state_is n)
      ∙ ap (full_of (member 0) (now_at n)) (diary_there script (run_at n) (replicas_of script) (member 0) listed)

  apart : (n : ℕ) → (clear : IsClear script n) → AreApart r (state_at (at_step script n)) (full_at (at_step script n)) (voice n clear.1)
  apart n clear a b ka kb same = clear.0 a b (met a ka) (met b kb) same
    where
      met : (batch : List Request) → IsMet r (state_at (at_step script n)) (full_at (at_step script n)) (voice n clear.1) batch → (batch ≡ []) ⊎ IsKnown (world_of (at_step script n)) batch
      met batch (inl none) = inl none
      met batch (inr (k, l, h)) = inr (record {
        hearer = member k;
        correct = record { takes_part = known k l; not_faulty = ap (λ (f : Option Fault). is_some f) (none_faulty script (member k)) };
        message = h.message;
        heard = heard_before ((world_of (at_step script n)).diary (member k)) (statements_in (member k) (state_at (at_step script n) k).outbox) h.message h.heard;
        inside = h.inside;
      })

  abbrev IsOrderedAt : Replica → List diaries.Entry → Type 0
  IsOrderedAt s past = AreOrdered s (orders_said (full_of (member 0) s past))

  ordered_at : (n : ℕ) → IsClear script n → IsOrderedAt (now_at n) (diary_at n)
  ordered_at n clear =
      subst (λ f. AreOrdered (now_at n) (orders_said f)) (full_is n)
      (subst (λ s. AreOrdered s (orders_said (full_at (at_step script n) 0))) (state_is n)
      (ordered r (state_at (at_step script n)) (full_at (at_step script n)) (voice n clear.1) (apart n clear) some))

  abbrev IsFineAt : Replica → List diaries.Entry → Type 0
  IsFineAt s past = IsInTurn r (turn_of s.local) (orders_said (full_of (member 0) s past))

  -- at the start nothing is proposed
  start_in_turn : IsFineAt (now_at 0) (diary_at 0)
  unfolding state diary
  start_in_turn = record {
    done = [];
    rest = [];
    orders_are = refl;
    executed_is = refl;
    proposed_are = refl;
    last_is = λ client home. none (length (roster_of script).homes) client.number;
    stamps = λ client home. tt;
  }

  in_turn : (n : ℕ) → IsClear script n → IsFineAt (now_at n) (diary_at n)
  in_turn zero clear = start_in_turn
  in_turn (suc n) clear = by (in_turn n before) (next_longer (script_rules script) maker (run_at n))
    where
      before : IsClear script n
      before = clear_before script n limits clear

      by : IsFineAt (now_at n) (diary_at n) → IsLonger (journal_at n) (journal_at (suc n)) → IsFineAt (now_at (suc n)) (diary_at (suc n))
      by fine (inl same) = subst (λ j. IsFineAt (state maker j) (diary maker j)) (sym same) fine
      by fine (inr (e, more)) =
          let s = now_at n in
          let past = diary_at n in
          let ev = event_of e in
          let plain = plain_journal (suc n) clear.1 e (subst (In e) (sym more) (in_append_right e (journal_at n) (e ∷ []) (inl refl))) in
          let now = (step r (member 0) s ev).state in
          let grown = diary_after (member 0) s ev now past in
          let state_new : now_at (suc n) ≡ now = ap (state maker) more ∙ state_more maker (journal_at n) e in
          let made : IsMade maker (journal_at n ++ e ∷ []) = subst (IsMade maker) more (logs (suc n)).0 in
          let diary_new : diary_at (suc n) ≡ grown = ap (diary maker) more ∙ diary_one maker (journal_at n) e (logs n).0 made in
          let after : AreRelated r (member 0) now grown = subst (AreRelated r (member 0) now) diary_new (subst (λ x. AreRelated r (member 0) x (diary_at (suc n))) state_new (related (suc n))) in
          let orders : IsOrderedAt now grown = subst (IsOrderedAt now) diary_new (subst (λ x. IsOrderedAt x (diary_at (suc n))) state_new (ordered_at (suc n) clear)) in
          let all : IsFineAt now grown = step_in_turn r s past ev one plain (related n) (ordered_at n before) after orders fine in
          subst (λ x. IsFineAt x (diary_at (suc n))) (sym state_new) (subst (IsFineAt now) (sym diary_new) all)

  thrifty_at : (n : ℕ) → IsClear script n → IsThrifty r (state_at (at_step script n) 0).local (full_at (at_step script n) 0)
  thrifty_at n clear =
      subst (λ s. IsThrifty r s.local (full_at (at_step script n) 0)) (sym (state_is n))
      (subst (IsThrifty r (now_at n).local) (sym (full_is n))
      (thrifty_of r (now_at n) (full_of (member 0) (now_at n) (diary_at n)) (ordered_at n clear) (in_turn n clear)))

-- a primary wastes nothing, after so many steps of the one run in which no two batches share a digest and nobody timed out
pub thrifty : (script : Script) (n : ℕ) → keeps_limits script ≡ true → length script.sizes ≡ 1 → 0 < size_of (roster_of script) 1 → IsClear script n
    → IsThrifty (roster_of script) (state_at (at_step script n) 0).local (full_at (at_step script n) 0)
thrifty script n limits one some clear = thrifty_at script limits one some n clear

pub wastes_nothing : ThriftyLaw
wastes_nothing script n limits one some untimed clear =
    thrifty script n limits one some (clear, λ h. untimed (record { trace = h.trace; inside = h.inside; timed = h.timed }))
