-- The one run of a script, step by step: each prefix is a lawful run, and what its replicas heard they have heard ever after.
use Rattle.std.proofs.Common.{None, ◌≡◌, ℕ, zero, suc, ◌+◌, Bool, true, false, cond, ◌||◌, List, [], ◌∷◌, ◌++◌, map, length, ◌⊎◌, inl, inr, refl, sym, ap, subst, ◌∙◌, Result, Ok, Err, arith, get_or, ◌%◌, append-nil}
use Rattle.fab_base.specs.declared.ids.ReplicaId.{ReplicaId}
use Rattle.fab_base.specs.declared.requests.Request.{Request}
use Rattle.fab_base.specs.declared.messages.Message.{Message}
use Rattle.fab_rules.specs.Diary.{Heard}
use Rattle.fab_rules.specs.Lists.{In}
use Rattle.fab_rules.proofs.Lists.{in_append_left}
use Rattle.fault_script.specs.declared.scripts.Script.{Script}
use Rattle.fault_script.specs.Scripts.{keeps_limits}
use Rattle.bft_verify.specs.declared.refusals.Refusal.{Refusal}
use Rattle.world_laws.specs.World.{IsKnown, NoClash}
use Rattle.run_words.specs.Keyed.{is_same, of}
use Rattle.run_words.specs.Journal.{Maker, moves, entry_of, diary, reads}
use Rattle.run_words.specs.Runs.{HasEnded, Rules, Line, Run, Phase, Step, again, over, ended, by_patience, look, is_due, journal_in, with_entry, give, hear, hear_by, taken_out, steps, pick_from, take_step, next, next_in, is_spent, after, trace_in, transcript}
use Rattle.run_words.specs.declared.movers.Mover.{Mover}
use Rattle.run_words.specs.declared.logs.Entry.{Entry}
use Rattle.run_words.specs.declared.logs.Pending.{Pending}
use Rattle.run_words.specs.declared.logs.Transcript.{Transcript}
use Rattle.run_words.proofs.Counts.{journal_other}
use Rattle.run_words.proofs.Keeping.{AreStill, after_well}
use Rattle.run_words.proofs.Quieting.{each_of, heard_of, sent_of}
use Rattle.run_words.proofs.Ending.{told_by, told_with, lawful_after}
use Rattle.run_words.proofs.Moments.{noted_by}
use Rattle.run_words.proofs.Keys.{of_more, same_is, same_self}
use Rattle.run_worlds.specs.Scripts.{maker_of, makers_of, script_rules}
use Rattle.run_worlds.specs.Worlds.{diary_in, world_of}
use Rattle.run_worlds.specs.Sights.{first_evidence}
use Rattle.run_worlds.specs.Endings.{IsRunOf}
use Rattle.run_worlds.proofs.RunLogs.{logs_of}
use Rattle.audit_laws.proofs.Evidence.{no_evidence}
use Rattle.audit_laws.proofs.Journals.{was_heard, is_heard}
use Rattle.audit_laws.proofs.Sanity.{sane}
use Rattle.run_laws.proofs.Unforged.{nothing_forged}
use Rattle.plain_laws.specs.Plain.{journal_by}
use Rattle.plain_laws.proofs.Members.{IsUnmoved}
use Rattle.plain_laws.proofs.Resting.{IsStill}

-- ---- a prefix is lawful

-- the transcript of the first steps of the one run of a script
abbrev pub at_step : Script → ℕ → Transcript
at_step script n = told_by (script_rules script) (after (script_rules script) n)

pub run_of : (script : Script) (n : ℕ) → keeps_limits script ≡ true → IsRunOf script (at_step script n)
run_of script n limits =
    let s = sane script limits in
    record { limits = limits; lawful = lawful_after (script_rules script) n s }

-- the transcript of a run that has ended is what it told so far
pub told_ended : (script : Script) (n : ℕ) (spent : Bool) → HasEnded (after (script_rules script) n) spent
    → transcript (script_rules script) (after (script_rules script) n) ≡ at_step script n
told_ended script n spent e =
    let run = after (script_rules script) n in
    ap (told_with (script_rules script) run) (sym (ap (λ (p : Phase). noted_by run p) e ∙ append-nil run.moments))

-- without two batches of one digest it has no evidence
pub clean_prefix : (script : Script) (n : ℕ) → keeps_limits script ≡ true → NoClash (world_of (at_step script n)) → first_evidence (at_step script n) ≡ None
clean_prefix script n limits none =
    let t = at_step script n in
    let run = run_of script n limits in
    no_evidence t (logs_of t run) (nothing_forged script t run) none

-- where nothing is on its way and nothing but a Nudge or a Timeout would make an entry
pub still_prefix : (script : Script) (n : ℕ) → keeps_limits script ≡ true → AreStill (script_rules script) (after (script_rules script) n) → IsStill (at_step script n)
still_prefix script n limits still =
    let r = script_rules script in
    let run = after r n in
    record {
      all_heard = heard_of r run (sane script limits).apart (after_well r n (sane script limits)).fair still;
      sent = sent_of r run still;
      idle = each_of IsUnmoved (trace_in run) r.makers (λ m i. record { batch = (still m i).1; execute = (still m i).3; checkpoint = (still m i).4 });
    }

-- ---- a step adds one entry at most to a journal

-- the journal stays, or has one entry more
abbrev pub IsLonger : List Entry → List Entry → Type 0
IsLonger before now = (now ≡ before) ⊎ ((e : Entry) × (now ≡ before ++ e ∷ []))

entry_longer : (n m : Maker) (e : Entry) (run : Run) → IsLonger (journal_in run n) (journal_in (with_entry m e run) n)
unfolding with_entry
entry_longer n m e run = go (is_same n.id m.id) refl
  where
    go : (b : Bool) → is_same n.id m.id ≡ b → IsLonger (journal_in run n) (journal_in (with_entry m e run) n)
    go true q = inr (e, of_more n.id m.id run.done e q)
    go false q = inl (journal_other n m e run q)

give_longer : (n m : Maker) (mover : Mover) (run : Run) → IsLonger (journal_in run n) (journal_in (give m mover run) n)
unfolding give
give_longer n m mover run = go (moves m (journal_in run m) mover)
  where
    go : (b : Bool) → IsLonger (journal_in run n) (journal_in (cond b (with_entry m (entry_of m (journal_in run m) mover) run) run) n)
    go true = entry_longer n m (entry_of m (journal_in run m) mover) run
    go false = inl refl

hear_longer : (n m : Maker) (k : ℕ) (c : Pending) (run : Run) → IsLonger (journal_in run n) (journal_in (hear m k c run) n)
unfolding hear
hear_longer n m k c run = go (reads m c.load)
  where
    go : (b : Result Message Refusal) → IsLonger (journal_in run n) (journal_in (hear_by m c (taken_out m k run) b) n)
    go (Ok x) = entry_longer n m (Entry.Heard c.origin x) (taken_out m k run)
    go (Err refusal) = inl refl

take_longer : (n : Maker) (run : Run) (s : Step) → IsLonger (journal_in run n) (journal_in (take_step run s) n)
take_longer n run (Step.Hear m k c) = hear_longer n m k c run
take_longer n run (Step.Give m mover) = give_longer n m mover run

pick_longer : (r : Rules) (n : Maker) (run : Run) (l : List Step) → IsLonger (journal_in run n) (journal_in (pick_from r run l) n)
pick_longer r n run [] = inl refl
pick_longer r n run (s ∷ rest) = take_longer n (again (record run { picks = run.picks + 1 })) (get_or (s ∷ rest) (r.word run.picks % length (s ∷ rest)) s)

left_longer : (r : Rules) (n : Maker) (run : Run) (at : List ℕ) (left : ℕ) → IsLonger (journal_in run n) (journal_in (by_patience r run at left) n)
left_longer r n run at zero = inl refl
left_longer r n run at (suc left) = inl refl

look_longer : (n : Maker) (run : Run) (kept : List Line) (line : Line) (rest : List Line) (b : Bool)
    → IsLonger (journal_in run n) (journal_in (look run kept line rest b) n)
look_longer n run kept line rest true = give_longer n line.maker Mover.Timeout run
look_longer n run kept line rest false = inl refl

by_longer : (r : Rules) (n : Maker) (run : Run) (p : Phase) → IsLonger (journal_in run n) (journal_in (next_in r run p) n)
by_longer r n run (Phase.Lines kept []) = inl refl
by_longer r n run (Phase.Lines kept (line ∷ rest)) = go (is_spent r run)
  where
    go : (b : Bool) → IsLonger (journal_in run n) (journal_in (cond b (ended true run) (look run kept line rest (is_due run line))) n)
    go true = inl refl
    go false = look_longer n run kept line rest (is_due run line)
by_longer r n run Phase.Pick = go (is_spent r run)
  where
    go : (b : Bool) → IsLonger (journal_in run n) (journal_in (cond b (ended true run) (pick_from r run (steps r run))) n)
    go true = inl refl
    go false = pick_longer r n run (steps r run)
by_longer r n run (Phase.Nudging at [] true) = inl refl
by_longer r n run (Phase.Nudging at [] false) = left_longer r n run at run.left
by_longer r n run (Phase.Nudging at (m ∷ rest) moved) = go (is_spent r run)
  where
    go : (b : Bool) → IsLonger (journal_in run n) (journal_in (cond b (ended true (over at false run))
        (record (give m Mover.Nudge run) { phase = Phase.Nudging at rest (moved || moves m (journal_in run m) Mover.Nudge) })) n)
    go true = inl refl
    go false = give_longer n m Mover.Nudge run
by_longer r n run (Phase.Timing at []) = inl refl
by_longer r n run (Phase.Timing at (m ∷ rest)) = go (is_spent r run)
  where
    go : (b : Bool) → IsLonger (journal_in run n) (journal_in (cond b (ended true (over at true run)) (record (give m Mover.Timeout run) { phase = Phase.Timing at rest })) n)
    go true = inl refl
    go false = give_longer n m Mover.Timeout run
by_longer r n run (Phase.Ended spent) = inl refl

pub next_longer : (r : Rules) (n : Maker) (run : Run) → IsLonger (journal_in run n) (journal_in (next r run) n)
next_longer r n run = by_longer r n run run.phase

-- ---- what was heard stays heard

-- by each replica's journal
abbrev HearsMore : Run → Run → Type 0
HearsMore a b = (m : Maker) (x : Message) → In (Heard x) (diary m (journal_in a m)) → In (Heard x) (diary m (journal_in b m))

longer_hears : (m : Maker) (before now : List Entry) (x : Message) → IsLonger before now → In (Heard x) (diary m before) → In (Heard x) (diary m now)
longer_hears m before now x (inl same) h = subst (λ j. In (Heard x) (diary m j)) (sym same) h
longer_hears m before now x (inr more) h =
    let was = was_heard m before x h in
    subst (λ j. In (Heard x) (diary m j)) (sym more.1)
    (is_heard m (before ++ more.0 ∷ []) was.origin x (in_append_left (Entry.Heard was.origin x) before (more.0 ∷ []) was.is_in))

hears_later : (r : Rules) (m k : ℕ) → HearsMore (after r m) (after r (m + k))
hears_later r m zero = subst (λ p. HearsMore (after r m) (after r p)) (let e : m ≡ m + 0 = omega arith in e) (λ n x h. h)
hears_later r m (suc k) =
    subst (λ p. HearsMore (after r m) (after r p)) (let e : suc (m + k) ≡ m + suc k = omega arith in e)
    (λ n x h. longer_hears n (journal_in (after r (m + k)) n) (journal_in (next r (after r (m + k))) n) x (next_longer r n (after r (m + k))) (hears_later r m k n x h))

-- in the world of a later prefix too
diary_later : (makers : List Maker) (a b : Run) → HearsMore a b → (i : ReplicaId) (x : Message) → In (Heard x) (diary_in makers (map (trace_in a) makers) i)
    → In (Heard x) (diary_in makers (map (trace_in b) makers) i)
diary_later [] a b more i x h = h
diary_later (m ∷ makers) a b more i x h = go (is_same i m.id) (diary_later makers a b more i x) h
  where
    go : (c : Bool) → (In (Heard x) (diary_in makers (map (trace_in a) makers) i) → In (Heard x) (diary_in makers (map (trace_in b) makers) i))
        → In (Heard x) (cond c (diary m (journal_in a m)) (diary_in makers (map (trace_in a) makers) i))
        → In (Heard x) (cond c (diary m (journal_in b m)) (diary_in makers (map (trace_in b) makers) i))
    go true rest k = more m x k
    go false rest k = rest k

known_later : (script : Script) (m k : ℕ) (batch : List Request) → IsKnown (world_of (at_step script m)) batch → IsKnown (world_of (at_step script (m + k))) batch
known_later script m k batch known = record {
  hearer = known.hearer;
  correct = record { takes_part = known.correct.takes_part; not_faulty = known.correct.not_faulty };
  message = known.message;
  heard = diary_later (makers_of script) (after (script_rules script) m) (after (script_rules script) (m + k)) (hears_later (script_rules script) m k) known.hearer known.message known.heard;
  inside = known.inside;
}

pub no_clash_before : (script : Script) (m k : ℕ) → keeps_limits script ≡ true → NoClash (world_of (transcript (script_rules script) (after (script_rules script) (m + k))))
    → NoClash (world_of (transcript (script_rules script) (after (script_rules script) m)))
no_clash_before script m k limits late a b ka kb same = late a b (known a ka) (known b kb) same
  where
    known : (batch : List Request) → (batch ≡ []) ⊎ IsKnown (world_of (at_step script m)) batch → (batch ≡ []) ⊎ IsKnown (world_of (at_step script (m + k))) batch
    known batch (inl none) = inl none
    known batch (inr by) = inr (known_later script m k batch by)

-- ---- the journal and the diary of a replica in the transcript of a run

pub journal_there : (script : Script) (run : Run) (ids : List ReplicaId) (i : ReplicaId) → In i ids
    → journal_by i (map (trace_in run) (map (maker_of script) ids)) ≡ of i run.done
journal_there script run [] i h = absurd h
journal_there script run (j ∷ ids) i h = go (is_same i j) refl (λ k. journal_there script run ids i k) h
  where
    go : (b : Bool) → is_same i j ≡ b → (In i ids → journal_by i (map (trace_in run) (map (maker_of script) ids)) ≡ of i run.done) → In i (j ∷ ids)
        → cond b (of j run.done) (journal_by i (map (trace_in run) (map (maker_of script) ids))) ≡ of i run.done
    go true e later k = ap (λ q. of q run.done) (sym (same_is i j e))
    go false e later (inl q) = absurd (let self = subst (λ k. is_same i k ≡ true) (sym q) (same_self i) in cc)
    go false e later (inr k) = later k

pub diary_there : (script : Script) (run : Run) (ids : List ReplicaId) (i : ReplicaId) → In i ids
    → diary_in (map (maker_of script) ids) (map (trace_in run) (map (maker_of script) ids)) i ≡ diary (maker_of script i) (of i run.done)
diary_there script run [] i h = absurd h
diary_there script run (j ∷ ids) i h = go (is_same i j) refl (λ k. diary_there script run ids i k) h
  where
    go : (b : Bool) → is_same i j ≡ b
        → (In i ids → diary_in (map (maker_of script) ids) (map (trace_in run) (map (maker_of script) ids)) i ≡ diary (maker_of script i) (of i run.done)) → In i (j ∷ ids)
        → cond b (diary (maker_of script j) (of j run.done)) (diary_in (map (maker_of script) ids) (map (trace_in run) (map (maker_of script) ids)) i)
        ≡ diary (maker_of script i) (of i run.done)
    go true e later k = ap (λ q. diary (maker_of script q) (of q run.done)) (sym (same_is i j e))
    go false e later (inl q) = absurd (let self = subst (λ k. is_same i k ≡ true) (sym q) (same_self i) in cc)
    go false e later (inr k) = later k
