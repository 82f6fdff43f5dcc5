-- The replicas of a script's run: whose each trace is, and the ledger that it left.
use Rattle.std.proofs.Common.{◌≡◌, ℕ, suc, ◌+◌, ◌-◌, ◌<◌, Bool, true, false, cond, ◌&&◌, List, [], ◌∷◌, map, length, slice_index, inl, inr, refl, sym, ap, subst, ◌∙◌, arith}
use Rattle.std.specs.Prelude.{IsTrue}
use Rattle.std.specs.List.{All, list_all, range_with_len}
use Rattle.std.proofs.lemmas.List.Elements.{All-nil, All-cons}
use Rattle.fab_base.proofs.Tests.{and_both, is_at_most, is_below}
use Rattle.fab_base.specs.Limits.{Roster, IsWithinLimits}
use Rattle.fab_base.specs.Roster.{is_replica, size_of}
use Rattle.fab_base.specs.declared.ids.ReplicaId.{ReplicaId}
use Rattle.fab_rules.specs.Diary as diaries
use Rattle.fab_rules.specs.Diary.{ledger}
use Rattle.fab_rules.specs.declared.blocks.Block.{Block}
use Rattle.fab_rules.specs.Lists.{In}
use Rattle.fab_rules.proofs.Lists.{in_append_cases, of_map, of_range_with_len}
use Rattle.fab_rules.proofs.Saying.{ledger-after_saying}
use Rattle.fab_machine.specs.State.{Replica, fresh}
use Rattle.fab_machine.specs.Items.{statements_in}
use Rattle.fab_machine.specs.Step.{Event, step}
use Rattle.fab_machine.specs.Diaries.{MayCome, state_from, diary_after, diary_from, diary_of}
use Rattle.fab_machine.specs.Relation.{AreRelated}
use Rattle.fab_machine.proofs.Steps.{step_keeps, starts_related}
use Rattle.fault_script.specs.declared.scripts.Script.{Script}
use Rattle.fault_script.specs.declared.scripts.Wish.{Wish}
use Rattle.fault_script.specs.Scripts.{keeps_limits}
use Rattle.run_words.specs.Journal.{Maker, event_of, state, diary, IsMade, AreSound}
use Rattle.run_words.specs.Lawful.{AreEach, Kept}
use Rattle.run_words.specs.declared.logs.Entry.{Entry}
use Rattle.run_words.specs.declared.logs.Trace.{Trace}
use Rattle.run_words.proofs.Replays.{may_come, same_diary}
use Rattle.replica_log.specs.Replayed.{IsReplayable, state_after}
use Rattle.script_keys.specs.Keys.{members_of, replicas_from, replicas_of}
use Rattle.script_keys.proofs.Wishes.{asked_in}
use Rattle.run_worlds.specs.Scripts.{roster_of, maker_of, makers_of}
use Rattle.run_worlds.specs.Worlds.{is_correct_one, ledgers_in}
use Rattle.run_worlds.specs.Endings.{has_effect}
use Rattle.run_worlds.proofs.ScriptLimits.{within_limits}
use Rattle.fabric_audit.specs.Stamps.{stamps_of, is_served, is_served_in}
use Rattle.fabric_audit.proofs.LastStamps.{effect_is}

-- ---- the replicas of a script take part

pub record IsOfSizes (c : ℕ) (sizes : List ℕ) (i : ReplicaId) : Type 0 where
  pub place : ℕ
  pub is_place : place < length sizes
  pub cluster : i.cluster ≡ c + place
  pub index : i.index < slice_index sizes place

of_sizes : (c : ℕ) (sizes : List ℕ) (i : ReplicaId) → In i (replicas_from c sizes) → IsOfSizes c sizes i
of_sizes c [] i h = absurd h
of_sizes c (size ∷ sizes) i h = elim (in_append_cases i (members_of c size) (replicas_from (c + 1) sizes) h) [
  | inl here ↦
      (let m = of_map (λ (index : ℕ). record { cluster = c; index = index }) i (range_with_len 0 size) here in
      let r = of_range_with_len 0 size m.from m.is_in in
      let cluster : c ≡ i.cluster = ap (λ (j : ReplicaId). j.cluster) m.same in
      let index : m.from ≡ i.index = ap (λ (j : ReplicaId). j.index) m.same in
      record { place = 0; is_place = omega arith; cluster = omega arith; index = omega (arith, r.1, index) })
  | inr later ↦
      (let o = of_sizes (c + 1) sizes i later in
      record { place = suc o.place; is_place = omega (arith, o.is_place); cluster = omega (arith, o.cluster); index = o.index })
]

takes_part : (script : Script) (i : ReplicaId) → In i (replicas_of script) → is_replica (roster_of script) i ≡ true
takes_part script i h =
    let o = of_sizes 1 script.sizes i h in
    let place : i.cluster - 1 ≡ o.place = omega (arith, o.cluster) in
    and_both _ _
    (and_both _ _ (is_at_most 1 i.cluster (omega (arith, o.cluster))) (is_at_most i.cluster (length script.sizes) (omega (arith, o.cluster, o.is_place))))
    (is_below i.index (size_of (roster_of script) i.cluster) (subst (λ n. i.index < slice_index script.sizes n) (sym place) o.index))

-- ---- whose a trace is

-- one of the script's, made as the script says
pub record IsOf (script : Script) (m : Maker) : Type 0 where
  pub is : m ≡ maker_of script m.id
  pub member : IsTrue (is_replica (roster_of script) m.id)

abbrev pub AreOf : Script → List Maker → Type 0
AreOf script makers = (m : Maker) → In m makers → IsOf script m

pub all_of : (script : Script) → AreOf script (makers_of script)
all_of script m h =
    let o = of_map (maker_of script) m (replicas_of script) h in
    subst (IsOf script) o.same (record { is = refl; member = takes_part script o.from o.is_in })

-- what the replica was made with that left the trace
abbrev pub maker_by : Script → Trace → Maker
maker_by script t = maker_of script t.id

-- what a trace was made with is named by its id
pub named_by : (script : Script) (m : Maker) (t : Trace) → IsOf script m → Kept m t → m ≡ maker_by script t
named_by script m t o k = o.is ∙ ap (maker_of script) (sym k.named)

pub replayable : (script : Script) (m : Maker) (t : Trace) → IsOf script m → Kept m t → IsReplayable (roster_of script) t
replayable script m t o k = record {
  member = subst (λ (i : ReplicaId). IsTrue (is_replica (roster_of script) i)) (sym k.named) o.member;
  maker = m;
  roster_is = ap (λ (x : Maker). x.roster) o.is;
  id_is = sym k.named;
  made = k.replays;
  sound = k.sound;
}

pub all_replayable : (script : Script) (makers : List Maker) (traces : List Trace) → AreOf script makers → AreEach Kept makers traces
    → All (IsReplayable (roster_of script)) traces
all_replayable script [] [] o k = All-nil (IsReplayable (roster_of script))
all_replayable script [] (t ∷ traces) o k = absurd k
all_replayable script (m ∷ makers) [] o k = absurd k
all_replayable script (m ∷ makers) (t ∷ traces) o k =
    All-cons (IsReplayable (roster_of script)) t traces (replayable script m t (o m (inl refl)) k.0)
    (all_replayable script makers traces (λ n h. o n (inr h)) k.1)

-- ---- the ledger of a journal's diary is that of its state

related : (r : Roster) (me : ReplicaId) (s : Replica) (past : List diaries.Entry) (events : List Event) → IsWithinLimits r → IsTrue (is_replica r me)
    → ((e : Event) → In e events → MayCome r e) → AreRelated r me s past
    → AreRelated r me (state_from r me s events) (diary_from r me s past events)
related r me s past [] limits known may rel = rel
related r me s past (e ∷ rest) limits known may rel =
    related r me (step r me s e).state (diary_after me s e (step r me s e).state past) rest limits known (λ x h. may x (inr h))
    (step_keeps r me s past e limits known (may e (inl refl)) rel)

pub ledger_is : (m : Maker) (journal : List Entry) → IsWithinLimits m.roster → IsTrue (is_replica m.roster m.id) → IsMade m journal → AreSound m journal
    → (state m journal).rounds.blocks ≡ ledger (diary m journal)
unfolding state
ledger_is m journal limits known made sound =
    let rel = related m.roster m.id (fresh m.roster m.id) [] (map event_of journal) limits known (may_come m journal sound)
    (starts_related m.roster m.id limits known) in
    rel.facts.rounds.blocks_are
    ∙ ledger-after_saying (diary_of m.roster m.id (map event_of journal)) (statements_in m.id (state m journal).outbox)
    ∙ ap ledger (sym (same_diary m journal made))

-- ---- what took effect in each

state_is : (script : Script) (t : Trace) → state_after (roster_of script) t ≡ state (maker_by script t) t.journal
unfolding state
state_is script t = refl

-- a ledger more, where its replica is correct
one_more : (correct : Bool) (p : List Block → Bool) (here : Bool) (l : List Block) (rest : Bool) (ls : List (List Block)) → here ≡ p l
    → rest ≡ list_all p ls → (cond correct here true && rest) ≡ list_all p (cond correct (l ∷ ls) ls)
one_more true p here l rest ls e later = ap (λ b. b && rest) e ∙ ap (λ b. p l && b) later
one_more false p here l rest ls e later = later

pub effective : (script : Script) (w : Wish) (makers : List Maker) (traces : List Trace) → keeps_limits script ≡ true → In w script.requests
    → AreOf script makers → AreEach Kept makers traces
    → list_all (is_served_in script w) traces ≡ list_all (has_effect (roster_of script) w) (ledgers_in makers traces)
effective script w [] [] limits asked o k = refl
effective script w [] (t ∷ traces) limits asked o k = absurd k
effective script w (m ∷ makers) [] limits asked o k = absurd k
effective script w (m ∷ makers) (t ∷ traces) limits asked o k =
    let mine = o m (inl refl) in
    let named = named_by script m t mine k.0 in
    let roster : roster_of script ≡ m.roster = sym (ap (λ (x : Maker). x.roster) mine.is) in
    let blocks : (state_after (roster_of script) t).rounds.blocks ≡ ledger (diary m t.journal) =
    ap (λ (s : Replica). s.rounds.blocks) (state_is script t)
    ∙ ap (λ (x : Maker). (state x t.journal).rounds.blocks) (sym named)
    ∙ ledger_is m t.journal (subst IsWithinLimits roster (within_limits script limits))
    (subst (λ (r : Roster). IsTrue (is_replica r m.id)) roster mine.member) k.0.replays k.0.sound in
    let a = asked_in script w limits asked in
    let here : is_served (stamps_of script t) w ≡ has_effect (roster_of script) w (ledger (diary m t.journal)) =
    effect_is (roster_of script) w (state_after (roster_of script) t).rounds.blocks a.stamp.0 a.number
    ∙ ap (has_effect (roster_of script) w) blocks in
    one_more (is_correct_one t) (has_effect (roster_of script) w) (is_served (stamps_of script t) w) (ledger (diary m t.journal))
    (list_all (is_served_in script w) traces) (ledgers_in makers traces) here
    (effective script w makers traces limits asked (λ n h. o n (inr h)) k.1)
