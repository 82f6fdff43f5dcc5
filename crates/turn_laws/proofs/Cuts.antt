-- Replicas cut to a quiet moment: what each had left behind by then, with what it refused later of what had been put by then.
use Rattle.std.proofs.Common.{◌≡◌, ℕ, zero, suc, ◌≤◌, Bool, true, false, cond, List, [], ◌∷◌, ◌++◌, map, length, take, filter, Option, Result, Ok, Err, refl, sym, ap, subst, ◌∙◌, arith, inl, inr, append_assoc, append-nil}
use Rattle.std.specs.List.{flat_map}
use Rattle.std.specs.Option.{is_some}
use Rattle.std.proofs.lemmas.List.{append_cancel_left}
use Rattle.std.proofs.lemmas.Grind.{flat_map-append}
use Rattle.std.proofs.lemmas.List.Concat.{flat_map-cons}
use Rattle.fab_base.specs.declared.ids.ReplicaId.{ReplicaId}
use Rattle.fab_base.specs.declared.messages.Message.{Message}
use Rattle.fab_rules.specs.Lists.{In, IsPrefixOf}
use Rattle.fab_rules.proofs.Lists.{in_append_left, in_append_cases, of_filter}
use Rattle.bft_verify.specs.declared.refusals.Refusal.{Refusal}
use Rattle.run_words.specs.Keyed.{of}
use Rattle.run_words.specs.Twists.{sent_to}
use Rattle.run_words.specs.Journal.{Maker, walk, added, parcels_of, reads}
use Rattle.run_words.specs.Runs.{Declined, copies_of, turned_by, turned_of, trace_of}
use Rattle.run_words.specs.Lawful.{parcels_by, parcel_at, names_one, bare_cuts, cuts_with, number_at, AreApart}
use Rattle.run_words.specs.declared.logs.Origin.{Origin}
use Rattle.run_words.specs.declared.logs.Entry.{Entry}
use Rattle.run_words.specs.declared.logs.Parcel.{Parcel}
use Rattle.run_words.specs.declared.logs.Pending.{Pending}
use Rattle.run_words.specs.declared.logs.Turned.{Turned}
use Rattle.run_words.specs.declared.logs.Trace.{Trace}
use Rattle.run_words.proofs.Keys.{same_self, same_is, other_turned, of-append}
use Rattle.run_words.proofs.Walks.{parcels_more}
use Rattle.run_words.proofs.Twisting.{added_later}
use Rattle.run_words.proofs.Naming.{copies_from}
use Rattle.run_words.proofs.Counts.{apart_from}
use Rattle.run_words.proofs.Marks.{fewer_before, none_at}
use Rattle.turn_laws.specs.Copies.{from, asked, is_from, is_asked, declined_by, refused}
use Rattle.turn_laws.specs.Ends.{End, trace_at}
use Rattle.turn_laws.specs.Pauses.{entries_at, AreOn}
use Rattle.turn_laws.proofs.Named.{named}
use Rattle.turn_laws.proofs.Tagged.{makers_at, is_in}
use Rattle.turn_laws.proofs.Pairs.{Grows}

-- ---- filters

pub filter_all : {X : Type 0} (p : X → Bool) (l : List X) → ((x : X) → In x l → p x ≡ true) → filter p l ≡ l
filter_all p [] h = refl
filter_all p (x ∷ l) h = ap (λ b. cond b (x ∷ filter p l) (filter p l)) (h x (inl refl)) ∙ ap (λ t. x ∷ t) (filter_all p l (λ y i. h y (inr i)))

pub filter_no : {X : Type 0} (p : X → Bool) (l : List X) → ((x : X) → In x l → p x ≡ false) → filter p l ≡ []
filter_no p [] h = refl
filter_no p (x ∷ l) h = ap (λ b. cond b (x ∷ filter p l) (filter p l)) (h x (inl refl)) ∙ filter_no p l (λ y i. h y (inr i))

pub filter_both : {X : Type 0} (p : X → Bool) (a b : List X) → filter p (a ++ b) ≡ filter p a ++ filter p b
filter_both p [] b = refl
filter_both p (x ∷ a) b = go (p x) (filter_both p a b)
  where
    go : (t : Bool) → filter p (a ++ b) ≡ filter p a ++ filter p b
        → cond t (x ∷ filter p (a ++ b)) (filter p (a ++ b)) ≡ cond t (x ∷ filter p a) (filter p a) ++ filter p b
    go true h = ap (λ l. x ∷ l) h
    go false h = h

front_of : {X : Type 0} (p : X → Bool) (x : X) (l : List X) (t : Bool)
    → filter p (cond t (x ∷ l) l) ≡ cond t (cond (p x) (x ∷ filter p l) (filter p l)) (filter p l)
front_of p x l true = refl
front_of p x l false = refl

two_fronts : {X : Type 0} (x : X) (l : List X) (a b : Bool) → cond a (cond b (x ∷ l) l) l ≡ cond b (cond a (x ∷ l) l) l
two_fronts x l true true = refl
two_fronts x l true false = refl
two_fronts x l false true = refl
two_fronts x l false false = refl

filter_swap : {X : Type 0} (p q : X → Bool) (l : List X) → filter p (filter q l) ≡ filter q (filter p l)
filter_swap p q [] = refl
filter_swap p q (x ∷ l) =
    front_of p x (filter q l) (q x)
    ∙ ap (λ k. cond (q x) (cond (p x) (x ∷ k) k) k) (filter_swap p q l)
    ∙ two_fronts x (filter q (filter p l)) (q x) (p x)
    ∙ sym (front_of q x (filter p l) (p x))

abbrev is_of : ReplicaId → Pending → Bool
is_of i c = is_from i c.origin

abbrev is_client : Pending → Bool
is_client c = is_asked c.origin

from_is : (i : ReplicaId) (l : List Pending) → from i l ≡ filter (is_of i) l
from_is i [] = refl
from_is i (c ∷ l) = ap (λ k. cond (is_from i c.origin) (c ∷ k) k) (from_is i l)

asked_is : (l : List Pending) → asked l ≡ filter is_client l
asked_is [] = refl
asked_is (c ∷ l) = ap (λ k. cond (is_asked c.origin) (c ∷ k) k) (asked_is l)

from_filter : (i : ReplicaId) (p : Pending → Bool) (l : List Pending) → from i (filter p l) ≡ filter p (from i l)
from_filter i p l = from_is i (filter p l) ∙ filter_swap (is_of i) p l ∙ ap (filter p) (sym (from_is i l))

asked_filter : (p : Pending → Bool) (l : List Pending) → asked (filter p l) ≡ filter p (asked l)
asked_filter p l = asked_is (filter p l) ∙ filter_swap is_client p l ∙ ap (filter p) (sym (asked_is l))

-- ---- the copies of a cut: those of clients, and those whose parcel had been put

abbrev pub is_cut_by : List Trace → ReplicaId → ℕ → Origin → Bool
is_cut_by bare to number (Origin.Client k) = true
is_cut_by bare to number (Origin.Replica from time) = is_some (parcel_at to number (parcels_by from bare))

abbrev pub is_cut : List Trace → ReplicaId → Pending → Bool
is_cut bare to c = is_cut_by bare to c.number c.origin

-- what is refused of them are the refusals that name a parcel of the cut
module _ (bare : List Trace) (m : Maker) where
  cut_turned : (number : ℕ) (refusal : Refusal) (o : Origin)
      → filter (names_one bare m.id) (turned_by number refusal o) ≡ cond (is_cut_by bare m.id number o) (turned_by number refusal o) []
  cut_turned number refusal (Origin.Client k) = refl
  cut_turned number refusal (Origin.Replica from time) = refl

  abbrev none : List Turned
  none = []

  nothing : (b : Bool) → none ≡ cond b none none
  nothing true = refl
  nothing false = refl

  cut_declined : (c : Pending) (b : Result Message Refusal)
      → filter (names_one bare m.id) (flat_map turned_of (declined_by c b)) ≡ cond (is_cut bare m.id c) (flat_map turned_of (declined_by c b)) []
  cut_declined c (Ok x) = nothing (is_cut bare m.id c)
  cut_declined c (Err refusal) =
      let d : Declined = record { copy = c; refusal = refusal } in
      let one : flat_map turned_of (d ∷ []) ≡ turned_of d = flat_map-cons turned_of d [] ∙ append-nil (turned_of d) in
      ap (filter (names_one bare m.id)) one ∙ cut_turned c.number refusal c.origin ∙ ap (λ l. cond (is_cut bare m.id c) l []) (sym one)

  pub cut_refused : (l : List Pending)
      → filter (names_one bare m.id) (flat_map turned_of (refused m l)) ≡ flat_map turned_of (refused m (filter (is_cut bare m.id) l))
  cut_refused [] = refl
  cut_refused (c ∷ l) =
      ap (filter (names_one bare m.id)) (flat_map-append turned_of (declined_by c (reads m c.load)) (refused m l))
      ∙ filter_both (names_one bare m.id) (flat_map turned_of (declined_by c (reads m c.load))) (flat_map turned_of (refused m l))
      ∙ ap (λ k. k ++ filter (names_one bare m.id) (flat_map turned_of (refused m l))) (cut_declined c (reads m c.load))
      ∙ ap (λ k. cond (is_cut bare m.id c) (flat_map turned_of (declined_by c (reads m c.load))) [] ++ k) (cut_refused l)
      ∙ go (is_cut bare m.id c)
    where
      go : (b : Bool)
          → cond b (flat_map turned_of (declined_by c (reads m c.load))) [] ++ flat_map turned_of (refused m (filter (is_cut bare m.id) l))
          ≡ flat_map turned_of (refused m (cond b (c ∷ filter (is_cut bare m.id) l) (filter (is_cut bare m.id) l)))
      go true = sym (flat_map-append turned_of (declined_by c (reads m c.load)) (refused m (filter (is_cut bare m.id) l)))
      go false = refl

-- ---- what a journal puts that goes on

pub record More (m : Maker) (earlier later : List Entry) : Type 0 where
  pub more : List Parcel
  pub grown : parcels_of m (earlier ++ later) ≡ parcels_of m earlier ++ more
  pub above : (q : Parcel) → In q more → sent_to q.to (parcels_of m earlier) ≤ q.number

more_of : (m : Maker) (earlier later : List Entry) → More m earlier later
more_of m earlier [] = record {
  more = [];
  grown = ap (parcels_of m) (append-nil earlier) ∙ sym (append-nil (parcels_of m earlier));
  above = λ q i. absurd i;
}
more_of m earlier (e ∷ later) =
    let new = added m (walk m earlier) e in
    let k = more_of m (earlier ++ e ∷ []) later in
    record {
      more = new ++ k.more;
      grown =
          ap (parcels_of m) (sym (append_assoc earlier (e ∷ []) later)) ∙ k.grown ∙ ap (λ l. l ++ k.more) (parcels_more m earlier e)
          ∙ append_assoc (parcels_of m earlier) new k.more;
      above = λ q i.
          elim (in_append_cases q new k.more i) [
            | inl j ↦ added_later m (walk m earlier) e q j
            | inr j ↦ (let a = k.above q j in let b = fewer_before m q.to earlier (e ∷ []) in omega (arith, a, b))
          ];
    }

-- ---- what was taken of a sender by then

module _ (bare : List Trace) (m s : Maker) (journal : List Entry) (put : parcels_by s.id bare ≡ parcels_of s journal) where
  abbrev of_copies : List Parcel → List Pending
  of_copies ps = of m.id (flat_map (copies_of s.id) ps)

  -- each copy of what had been put is of the cut, and no later one
  copy_in : (c : Pending) → In c (of_copies (parcels_of s journal)) → is_cut bare m.id c ≡ true
  copy_in c h =
      let k = copies_from m.id s.id (parcels_of s journal) c h in
      subst (λ (x : Pending). is_cut bare m.id x ≡ true) k.same
      (ap (λ (ps : List Parcel). is_some (parcel_at m.id k.parcel.number ps)) put
      ∙ ap (λ (t : ReplicaId). is_some (parcel_at t k.parcel.number (parcels_of s journal))) (same_is m.id k.parcel.to k.receiver)
      ∙ ap (λ (o : Option Parcel). is_some o) (named s journal k.parcel k.is_in))

  copy_out : (ps : List Parcel) (c : Pending) → ((q : Parcel) → In q ps → sent_to q.to (parcels_of s journal) ≤ q.number) → In c (of_copies ps)
      → is_cut bare m.id c ≡ false
  copy_out ps c above h =
      let k = copies_from m.id s.id ps c h in
      let here : sent_to m.id (parcels_of s journal) ≤ k.parcel.number =
      subst (λ (t : ReplicaId). sent_to t (parcels_of s journal) ≤ k.parcel.number) (sym (same_is m.id k.parcel.to k.receiver)) (above k.parcel k.is_in) in
      subst (λ (x : Pending). is_cut bare m.id x ≡ false) k.same
      (ap (λ (ps : List Parcel). is_some (parcel_at m.id k.parcel.number ps)) put
      ∙ ap (λ (o : Option Parcel). is_some o) (none_at m.id k.parcel.number (parcels_of s journal) here))

  -- where all of it was taken by then, the cut of what is taken by now is that
  pub kept_from : (later : List Entry) (took taken left : List Pending) → from s.id took ≡ of_copies (parcels_of s journal)
      → from s.id taken ++ from s.id left ≡ of_copies (parcels_of s (journal ++ later))
      → IsPrefixOf (from s.id took) (from s.id taken)
      → from s.id (filter (is_cut bare m.id) taken) ≡ from s.id took
  kept_from later took taken left all now (rest, grown) =
      let more = more_of s journal later in
      let split : of_copies (parcels_of s (journal ++ later)) ≡ from s.id took ++ of_copies more.more =
      ap of_copies more.grown ∙ ap (of m.id) (flat_map-append (copies_of s.id) (parcels_of s journal) more.more)
      ∙ of-append m.id (flat_map (copies_of s.id) (parcels_of s journal)) (flat_map (copies_of s.id) more.more)
      ∙ ap (λ l. l ++ of_copies more.more) (sym all) in
      let same : rest ++ from s.id left ≡ of_copies more.more =
      append_cancel_left (from s.id took) (rest ++ from s.id left) (of_copies more.more)
      (sym (append_assoc (from s.id took) rest (from s.id left)) ∙ ap (λ l. l ++ from s.id left) grown ∙ now ∙ split) in
      from_filter s.id (is_cut bare m.id) taken ∙ ap (filter (is_cut bare m.id)) (sym grown)
      ∙ filter_both (is_cut bare m.id) (from s.id took) rest
      ∙ ap (λ l. l ++ filter (is_cut bare m.id) rest) (filter_all (is_cut bare m.id) (from s.id took) (λ c i. copy_in c (subst (In c) all i)))
      ∙ ap (λ l. from s.id took ++ l)
      (filter_no (is_cut bare m.id) rest
      (λ c i. copy_out more.more c more.above (subst (In c) same (in_append_left c rest (from s.id left) i))))
      ∙ append-nil (from s.id took)

-- ---- and of the requests

asked_in : (bare : List Trace) (to : ReplicaId) (l : List Pending) (c : Pending) → In c (asked l) → is_cut bare to c ≡ true
asked_in bare to l c h = go c.origin (of_filter is_client c l (subst (In c) (asked_is l) h)).1
  where
    go : (o : Origin) → is_asked o ≡ true → is_cut_by bare to c.number o ≡ true
    go (Origin.Client k) e = refl
    go (Origin.Replica from time) e = absurd cc

none_left : {X : Type 0} (a b : List X) → a ++ b ≡ [] → a ≡ []
none_left [] b e = refl
none_left (x ∷ a) b e = absurd cc

pub kept_asked : (bare : List Trace) (to : ReplicaId) (took taken left wanted : List Pending) → asked took ≡ wanted → asked taken ++ asked left ≡ wanted
    → IsPrefixOf (asked took) (asked taken)
    → asked (filter (is_cut bare to) taken) ≡ asked took
kept_asked bare to took taken left wanted all now (rest, grown) =
    let none : rest ++ asked left ≡ [] =
    append_cancel_left (asked took) (rest ++ asked left) []
    (sym (append_assoc (asked took) rest (asked left)) ∙ ap (λ l. l ++ asked left) grown ∙ now ∙ sym all ∙ sym (append-nil (asked took))) in
    asked_filter (is_cut bare to) taken ∙ filter_all (is_cut bare to) (asked taken) (asked_in bare to taken)
    ∙ sym grown ∙ ap (λ l. asked took ++ l) (none_left rest (asked left) none) ∙ append-nil (asked took)

-- ---- replicas that are cut

abbrev pub bare_at : End → Trace
bare_at e = trace_of e.maker e.journal []

pub parcels_at : (s : End) (ends : List End) → AreApart (makers_at ends) → In s ends → parcels_by s.maker.id (map bare_at ends) ≡ parcels_of s.maker s.journal
parcels_at s [] a h = absurd h
parcels_at s (x ∷ rest) a (inl q) =
    subst (λ (y : End). parcels_by y.maker.id (map bare_at (x ∷ rest)) ≡ parcels_of y.maker y.journal) q
    (ap (λ b. cond b (parcels_of x.maker x.journal) (parcels_by x.maker.id (map bare_at rest))) (same_self x.maker.id))
parcels_at s (x ∷ rest) a (inr h) =
    ap (λ b. cond b (parcels_of x.maker x.journal) (parcels_by s.maker.id (map bare_at rest)))
    (other_turned x.maker.id s.maker.id (apart_from x.maker s.maker (makers_at rest) a.0 (is_in s rest h)))
    ∙ parcels_at s rest a.1 h

abbrev pub cut_at : List Trace → End → End → End
cut_at bare a e = record { maker = a.maker; journal = a.journal; took = filter (is_cut bare a.maker.id) e.took; left = []; unheard = []; lined = 0 }

abbrev pub cuts_at : List Trace → List End → List End → List End
cuts_at bare [] es = []
cuts_at bare (a ∷ olds) [] = []
cuts_at bare (a ∷ olds) (e ∷ es) = cut_at bare a e ∷ cuts_at bare olds es

-- what one of them was cut from
pub record CutOf (bare : List Trace) (olds es : List End) (c : End) : Type 0 where
  pub past : End
  pub now : End
  pub in_past : In past olds
  pub in_now : In now es
  pub grows : Grows past now
  pub same : cut_at bare past now ≡ c

pub cut_of : (bare : List Trace) (olds es : List End) (c : End) → AreOn Grows olds es → In c (cuts_at bare olds es) → CutOf bare olds es c
cut_of bare [] es c h i = absurd i
cut_of bare (a ∷ olds) [] c h i = absurd i
cut_of bare (a ∷ olds) (e ∷ es) c h (inl q) = record { past = a; now = e; in_past = inl refl; in_now = inl refl; grows = h.0; same = q }
cut_of bare (a ∷ olds) (e ∷ es) c h (inr i) =
    let k = cut_of bare olds es c h.1 i in
    record { past = k.past; now = k.now; in_past = inr k.in_past; in_now = inr k.in_now; grows = k.grows; same = k.same }

pub cut_makers : (bare : List Trace) (olds es : List End) → AreOn Grows olds es → makers_at (cuts_at bare olds es) ≡ makers_at olds
cut_makers bare [] [] h = refl
cut_makers bare [] (e ∷ es) h = absurd h
cut_makers bare (a ∷ olds) [] h = absurd h
cut_makers bare (a ∷ olds) (e ∷ es) h = ap (λ l. a.maker ∷ l) (cut_makers bare olds es h.1)

-- ---- the cut of a transcript is theirs

pub take_prefix : {X : Type 0} (a b : List X) (n : ℕ) → n ≡ length a → IsPrefixOf a b → take n b ≡ a
take_prefix [] b n e h = ap (λ k. take k b) e
take_prefix (x ∷ a) [] n e h = absurd (let q = h.1 in cc)
take_prefix (x ∷ a) (y ∷ b) zero e h = absurd (omega (arith, e))
take_prefix (x ∷ a) (y ∷ b) (suc n) e h =
    let q = h.1 in
    let front : x ≡ y = cc in
    let rest : a ++ h.0 ≡ b = cc in
    ap (λ t. y ∷ t) (take_prefix a b n (omega (arith, e)) (h.0, rest)) ∙ ap (λ z. z ∷ a) (sym front)

module _ (at : ReplicaId → ℕ) where
  abbrev AreAt : List End → Type 0
  AreAt olds = (a : End) → In a olds → at a.maker.id ≡ length a.journal

  pub bare_cut : (olds es : List End) → AreAt olds → AreOn Grows olds es → bare_cuts at (makers_at olds) (map trace_at es) ≡ map bare_at olds
  bare_cut [] [] h on = refl
  bare_cut [] (e ∷ es) h on = absurd on
  bare_cut (a ∷ olds) [] h on = absurd on
  bare_cut (a ∷ olds) (e ∷ es) h on =
      ap (λ j. trace_of a.maker j [] ∷ bare_cuts at (makers_at olds) (map trace_at es))
      (take_prefix a.journal e.journal (at a.maker.id) (h a (inl refl)) on.0.journal)
      ∙ ap (λ l. bare_at a ∷ l) (bare_cut olds es (λ x i. h x (inr i)) on.1)

  pub cut_with : (bare : List Trace) (olds es : List End) → AreAt olds → AreOn Grows olds es
      → cuts_with bare at (makers_at olds) (map trace_at es) ≡ map trace_at (cuts_at bare olds es)
  cut_with bare [] [] h on = refl
  cut_with bare [] (e ∷ es) h on = absurd on
  cut_with bare (a ∷ olds) [] h on = absurd on
  cut_with bare (a ∷ olds) (e ∷ es) h on =
      let later = cuts_with bare at (makers_at olds) (map trace_at es) in
      let refusals = filter (names_one bare a.maker.id) (flat_map turned_of (refused e.maker e.took)) in
      ap (λ j. trace_of a.maker j refusals ∷ later) (take_prefix a.journal e.journal (at a.maker.id) (h a (inl refl)) on.0.journal)
      ∙ ap (λ m. trace_of a.maker a.journal (filter (names_one bare a.maker.id) (flat_map turned_of (refused m e.took))) ∷ later) on.0.maker
      ∙ ap (λ l. trace_of a.maker a.journal l ∷ later) (cut_refused bare a.maker e.took)
      ∙ ap (λ l. trace_at (cut_at bare a e) ∷ l) (cut_with bare olds es (λ x i. h x (inr i)) on.1)

-- ---- the numbers of a moment

pub number_of : (e : End) (ends : List End) → AreApart (makers_at ends) → In e ends → number_at (makers_at ends) (map entries_at ends) e.maker.id ≡ length e.journal
number_of e [] a h = absurd h
number_of e (x ∷ rest) a (inl q) =
    subst (λ (y : End). number_at (makers_at (x ∷ rest)) (map entries_at (x ∷ rest)) y.maker.id ≡ length y.journal) q
    (ap (λ b. cond b (length x.journal) (number_at (makers_at rest) (map entries_at rest) x.maker.id)) (same_self x.maker.id))
number_of e (x ∷ rest) a (inr h) =
    ap (λ b. cond b (length x.journal) (number_at (makers_at rest) (map entries_at rest) e.maker.id))
    (other_turned x.maker.id e.maker.id (apart_from x.maker e.maker (makers_at rest) a.0 (is_in e rest h)))
    ∙ number_of e rest a.1 h
