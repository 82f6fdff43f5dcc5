-- What is met one after another: what is told of the whole is what is told of the rest.
use Rattle.std.proofs.Common.{◌≡◌, ℕ, suc, add-one, ◌+◌, ◌<◌, ◌≤◌, true, false, List, [], ◌∷◌, ◌++◌, map, length, get_or, drop, Result, Ok, Err, refl, sym, ap, ◌∙◌, subst}
use Rattle.std.specs.List.{flat_map}
use Rattle.std.proofs.Math.ListN.{drop_of_length-le}
use Rattle.std.proofs.lemmas.List.{drop_more}
use Rattle.fab_base.specs.declared.ids.ReplicaId.{ReplicaId}
use Rattle.fab_base.specs.declared.requests.Request.{Request}
use Rattle.fab_base.specs.declared.messages.PreparedCert.{PreparedCert}
use Rattle.fab_base.specs.declared.messages.ViewChange.{ViewChange}
use Rattle.fab_rules.specs.Statements.{batches_of_change}
use Rattle.run_words.specs.declared.logs.Entry.{Entry}
use Rattle.run_words.specs.declared.logs.Trace.{Trace}
use Rattle.run_words.specs.declared.logs.Transcript.{Transcript}
use Rattle.run_worlds.specs.Worlds.{is_correct_one, correct_of}
use Rattle.run_worlds.specs.Sights.{Sight, and_then, met_with, first_clash, after_batches, after_entries, after_traces, evidence_in, first_evidence}
use Rattle.fabric_audit.specs.declared.stops.Stop.{Stop}
use Rattle.fabric_audit.specs.Journals.{after_entry}
use Rattle.fabric_audit.specs.Meeting.{Firsts, AreFirsts, Finds, Tells, Meets}
use Rattle.fabric_audit.proofs.CorrectOnes.{correct_first, correct_later, correct_none}

abbrev pub Batches : Type 0
Batches = List (List Request)

abbrev pub Telling : Type 0
Telling = Batches → Sight

-- the rest tells what the whole does, of what is met by now
abbrev pub IsLeft : Firsts → Firsts → Telling → Telling → Type 0
IsLeft old now whole rest = (met : Batches) → AreFirsts old met → (so_far : Batches) × AreFirsts now so_far × (whole met ≡ rest so_far)

pub begins : (old : Firsts) (whole : Telling) → IsLeft old old whole whole
begins old whole met h = (met, h, refl)

-- the rest is a step and what is behind it
abbrev pub IsStep : Telling → Telling → Telling → Type 0
IsStep rest step later = (met : Batches) → rest met ≡ and_then (step met) later

pub goes_on : (old now new : Firsts) (whole rest step later : Telling) → IsLeft old now whole rest → IsStep rest step later
    → Meets now (Ok tt) new step → IsLeft old new whole later
goes_on old now new whole rest step later left is meets met h = by (left met h)
  where
    told : (so_far : Batches) (s : Sight) → Tells (Ok tt) new s → whole met ≡ and_then s later
        → (next : Batches) × AreFirsts new next × (whole met ≡ later next)
    told so_far (Ok next) t e = (next, t, e)
    told so_far (Err evidence) t e = absurd t

    by : ((so_far : Batches) × AreFirsts now so_far × (whole met ≡ rest so_far)) → (next : Batches) × AreFirsts new next × (whole met ≡ later next)
    by p = told p.0 (step p.0) (meets p.0 p.1) (p.2 ∙ is p.0)

pub stops : (old now new : Firsts) (whole rest step later : Telling) (stop : Stop) → IsLeft old now whole rest → IsStep rest step later
    → Meets now (Err stop) new step → Meets old (Err stop) new whole
stops old now new whole rest step later Stop.NoMemory left is meets met h = tt
stops old now new whole rest step later (Stop.Found evidence) left is meets met h = by (left met h)
  where
    by : ((so_far : Batches) × AreFirsts now so_far × (whole met ≡ rest so_far)) → whole met ≡ Err evidence
    by p = p.2 ∙ is p.0 ∙ ap (λ (s : Sight). and_then s later) (meets p.0 p.1)

pub ends : (old now : Firsts) (whole rest : Telling) → IsLeft old now whole rest → ((met : Batches) → rest met ≡ Ok met) → Meets old (Ok tt) now whole
ends old now whole rest left is met h = by (left met h)
  where
    by : ((so_far : Batches) × AreFirsts now so_far × (whole met ≡ rest so_far)) → Tells (Ok tt) now (whole met)
    by p = subst (λ (s : Sight). Tells (Ok tt) now s) (sym (p.2 ∙ is p.0)) p.1

-- ---- the batches of certificates and of view changes

pub next_certificate : (ks : List PreparedCert) (i : ℕ) (k : PreparedCert) → i < length ks → k ≡ get_or ks i k
    → IsStep (λ met. after_batches met (map (λ q. q.batch) (drop i ks))) (λ met. met_with met k.batch (first_clash met k.batch))
    (λ met. after_batches met (map (λ q. q.batch) (drop (i + 1) ks)))
next_certificate ks i k below is met =
    ap (λ (l : List PreparedCert). after_batches met (map (λ q. q.batch) l)) (drop_more ks i k below)
    ∙ ap (λ (q : PreparedCert). after_batches met (q.batch ∷ map (λ x. x.batch) (drop (i + 1) ks))) (sym is)

after_both : (met : Batches) (xs ys : Batches) → after_batches met (xs ++ ys) ≡ and_then (after_batches met xs) (λ now. after_batches now ys)
after_both met [] ys = refl
after_both met (x ∷ xs) ys = by (λ now. after_both now xs ys) (met_with met x (first_clash met x))
  where
    by : ((now : Batches) → after_batches now (xs ++ ys) ≡ and_then (after_batches now xs) (λ last. after_batches last ys))
        → (s : Sight) → and_then s (λ now. after_batches now (xs ++ ys)) ≡ and_then (and_then s (λ now. after_batches now xs)) (λ now. after_batches now ys)
    by later (Ok now) = later now
    by later (Err evidence) = refl

pub next_change : (cs : List ViewChange) (i : ℕ) (c : ViewChange) → i < length cs → c ≡ get_or cs i c
    → IsStep (λ met. after_batches met (flat_map batches_of_change (drop i cs))) (λ met. after_batches met (batches_of_change c))
    (λ met. after_batches met (flat_map batches_of_change (drop (i + 1) cs)))
next_change cs i c below is met =
    ap (λ (l : List ViewChange). after_batches met (flat_map batches_of_change l)) (drop_more cs i c below)
    ∙ ap (λ (d : ViewChange). after_batches met (batches_of_change d ++ flat_map batches_of_change (drop (i + 1) cs))) (sym is)
    ∙ after_both met (batches_of_change c) (flat_map batches_of_change (drop (i + 1) cs))

pub no_certificate : (ks : List PreparedCert) (i : ℕ) → length ks ≤ i → (met : Batches) → after_batches met (map (λ k. k.batch) (drop i ks)) ≡ Ok met
no_certificate ks i past met = ap (λ (l : List PreparedCert). after_batches met (map (λ k. k.batch) l)) (drop_of_length-le ks past)

pub no_change : (cs : List ViewChange) (i : ℕ) → length cs ≤ i → (met : Batches) → after_batches met (flat_map batches_of_change (drop i cs)) ≡ Ok met
no_change cs i past met = ap (λ (l : List ViewChange). after_batches met (flat_map batches_of_change l)) (drop_of_length-le cs past)

-- ---- the entries of a journal, and the journals

pub next_entry : (t : Transcript) (i : ReplicaId) (journal : List Entry) (place : ℕ) (e : Entry) → place < length journal → e ≡ get_or journal place e
    → IsStep (λ met. after_entries t i place met (drop place journal)) (λ met. after_entry t i place met e)
    (λ met. after_entries t i (place + 1) met (drop (place + 1) journal))
next_entry t i journal place e below is met =
    ap (λ (l : List Entry). after_entries t i place met l) (drop_more journal place e below)
    ∙ ap (λ (x : Entry). after_entries t i place met (x ∷ drop (place + 1) journal)) (sym is)
    ∙ by e (drop (place + 1) journal)
    ∙ ap (λ n. and_then (after_entry t i place met e) (λ now. after_entries t i n now (drop (place + 1) journal))) (sym (add-one place))
  where
    by : (x : Entry) (rest : List Entry) → after_entries t i place met (x ∷ rest)
        ≡ and_then (after_entry t i place met x) (λ now. after_entries t i (suc place) now rest)
    by (Entry.Heard origin m) rest = refl
    by Entry.Proposed rest = refl
    by Entry.Nudged rest = refl
    by (Entry.Sent item) rest = refl
    by Entry.Executed rest = refl
    by Entry.Marked rest = refl
    by Entry.TimedOut rest = refl

pub no_entry : (t : Transcript) (i : ReplicaId) (journal : List Entry) (place : ℕ) → length journal ≤ place → (met : Batches)
    → after_entries t i place met (drop place journal) ≡ Ok met
no_entry t i journal place past met = ap (λ (l : List Entry). after_entries t i place met l) (drop_of_length-le journal past)

-- the correct ones from a place on
abbrev pub rest_of : Transcript → List Trace → ℕ → Telling
rest_of t traces i met = after_traces t met (correct_of (drop i traces))

-- a correct trace is gone through
pub next_trace : (t : Transcript) (traces : List Trace) (i : ℕ) (trace : Trace) → i < length traces → trace ≡ get_or traces i trace
    → is_correct_one trace ≡ true
    → IsStep (rest_of t traces i) (λ met. after_entries t trace.id 0 met trace.journal) (rest_of t traces (i + 1))
next_trace t traces i trace below is correct met =
    ap (λ (l : List Trace). after_traces t met l) (correct_first traces i trace below is correct)

-- a faulty one isn't
pub over_trace : (t : Transcript) (traces : List Trace) (i : ℕ) (trace : Trace) (old now : Firsts) (whole : Telling) → i < length traces
    → trace ≡ get_or traces i trace → is_correct_one trace ≡ false → IsLeft old now whole (rest_of t traces i)
    → IsLeft old now whole (rest_of t traces (i + 1))
over_trace t traces i trace old now whole below is faulty left =
    subst (λ (l : List Trace). IsLeft old now whole (λ met. after_traces t met l)) (correct_later traces i trace below is faulty) left

pub no_trace : (t : Transcript) (traces : List Trace) (i : ℕ) → length traces ≤ i → (met : Batches) → rest_of t traces i met ≡ Ok met
no_trace t traces i past met = ap (λ (l : List Trace). after_traces t met l) (correct_none traces i past)

-- ---- the whole run

pub found : (t : Transcript) (old now : Firsts) (r : Result (Unit {0}) Stop) → AreFirsts old ([] ∷ []) → Meets old r now (λ met. after_traces t met (correct_of t.traces))
    → Finds r (first_evidence t)
found t old now r h meets = by r (after_traces t ([] ∷ []) (correct_of t.traces)) (meets ([] ∷ []) h)
  where
    by : (r : Result (Unit {0}) Stop) (s : Sight) → Tells r now s → Finds r (evidence_in s)
    by (Ok x) (Ok met) told = refl
    by (Ok x) (Err evidence) told = absurd told
    by (Err Stop.NoMemory) s told = tt
    by (Err (Stop.Found evidence)) s told = ap evidence_in told
