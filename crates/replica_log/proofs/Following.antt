-- The replay of a journal, entry by entry.
use Rattle.std.proofs.Common.{◌≡◌, ℕ, zero, suc, ◌+◌, ◌<◌, ◌≤◌, false, List, [], ◌∷◌, ◌++◌, map, take, length, get_or, Result, Ok, Err, refl, sym, ap, subst, ◌∙◌, arith, take_all}
use Rattle.std.proofs.lemmas.List.{take_more}
use Rattle.std.specs.Prelude.{IfOk}
use Rattle.fab_base.specs.Limits.{Roster}
use Rattle.fab_base.specs.declared.ids.ReplicaId.{ReplicaId}
use Rattle.fab_machine.specs.State.{Replica, fresh}
use Rattle.fab_machine.specs.Step.{step}
use Rattle.fab_machine.specs.Diaries.{MayCome, state_from, state_of}
use Rattle.replica_core.specs.Cores.{Machine, with_state}
use Rattle.run_words.specs.declared.logs.Entry.{Entry}
use Rattle.run_words.specs.declared.logs.Trace.{Trace}
use Rattle.run_words.specs.Journal.{Maker, event_of, state, AreSound}
use Rattle.run_words.proofs.Sending.{may_be}
use Rattle.replica_log.specs.Replayed.{state_after, core_after}

-- what the machine of a replica is after these entries
abbrev pub replayed : Roster → ReplicaId → List Entry → Machine
replayed members me journal = record { roster = members; me = me; state = state_of members me (map event_of journal); shut = false }

state_from_more : (r : Roster) (me : ReplicaId) (s : Replica) (journal : List Entry) (e : Entry)
    → state_from r me s (map event_of (journal ++ e ∷ [])) ≡ (step r me (state_from r me s (map event_of journal)) (event_of e)).state
state_from_more r me s [] e = refl
state_from_more r me s (x ∷ rest) e = state_from_more r me (step r me s (event_of x)).state rest e

-- an entry more
pub replays_more : (members : Roster) (me : ReplicaId) (journal : List Entry) (k : ℕ) (e : Entry) (old new : Machine)
    → k < length journal → old ≡ replayed members me (take k journal) → e ≡ get_or journal k e
    → new ≡ with_state old (step old.roster old.me old.state (event_of e)).state
    → new ≡ replayed members me (take (k + 1) journal)
replays_more members me journal k e old new lt is there done =
    let core : Replica → Machine = λ s. record { roster = members; me = me; state = s; shut = false } in
    let before = state_of members me (map event_of (take k journal)) in
    done
    ∙ ap (λ (c : Machine). with_state c (step c.roster c.me c.state (event_of e)).state) is
    ∙ ap (λ (x : Entry). core (step members me before (event_of x)).state) there
    ∙ ap core (sym (state_from_more members me (fresh members me) (take k journal) (get_or journal k e)))
    ∙ ap (replayed members me) (sym (take_more journal k e lt))

-- all entries
pub replays_all : (members : Roster) (me : ReplicaId) (journal : List Entry) (k : ℕ) (core : Machine) (m : Maker) → length journal ≤ k
    → core ≡ replayed members me (take k journal) → m.roster ≡ members → m.id ≡ me
    → core ≡ record { roster = members; me = me; state = state m journal; shut = false }
unfolding state
replays_all members me journal k core m ge is r i =
    let made : Replica → Machine = λ s. record { roster = members; me = me; state = s; shut = false } in
    is ∙ ap (replayed members me) (take_all k journal ge)
    ∙ ap (λ (x : Roster). made (state_of x me (map event_of journal))) (sym r)
    ∙ ap (λ (x : ReplicaId). made (state_of m.roster x (map event_of journal))) (sym i)

sound_at : (m : Maker) (journal : List Entry) (k : ℕ) (d : Entry) → k < length journal → AreSound m journal
    → MayCome m.roster (event_of (get_or journal k d))
sound_at m [] k d lt h = absurd (omega arith)
sound_at m (e ∷ rest) zero d lt h = may_be m e h.0
sound_at m (e ∷ rest) (suc k) d lt h = sound_at m rest k d (omega arith) h.1

-- the event of the entry at a place may come
pub comes_at : (m : Maker) (members : Roster) (journal : List Entry) (k : ℕ) (e : Entry) → m.roster ≡ members → k < length journal
    → e ≡ get_or journal k e → AreSound m journal
    → MayCome members (event_of e)
comes_at m members journal k e r lt is h =
    subst (λ (x : Entry). MayCome members (event_of x)) (sym is)
    (subst (λ (x : Roster). MayCome x (event_of (get_or journal k e))) r (sound_at m journal k e lt h))

-- ---- of a trace

state_is : (m : Maker) (r : Roster) (t : Trace) → m.roster ≡ r → m.id ≡ t.id → state m t.journal ≡ state_after r t
unfolding state
state_is m r t e f = λ i. state_of (e i) (f i) (map event_of t.journal)

-- what a replay answers, of such members and such a journal
pub replay_is : {E : Type 0} (result : Result Machine E) (m : Maker) (r s : Roster) (t : Trace) (journal : List Entry) → s ≡ r → journal ≡ t.journal
    → m.roster ≡ r → m.id ≡ t.id
    → IfOk result (λ core. (n : Maker) → n.roster ≡ s → n.id ≡ t.id → core ≡ record { roster = s; me = t.id; state = state n journal; shut = false })
    → IfOk result (λ core. core ≡ core_after r t)
replay_is (Ok core) m r s t journal a b e f h =
    h m (e ∙ sym a) f
    ∙ (λ i. record { roster = a i; me = t.id; state = state m (b i); shut = false })
    ∙ ap (λ (x : Replica). record { roster = r; me = t.id; state = x; shut = false }) (state_is m r t e f)
replay_is (Err x) m r s t journal a b e f h = tt
