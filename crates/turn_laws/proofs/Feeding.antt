-- Copies are counted: what is taken is handed on or refused, and comes from a client or from one replica.
use Rattle.std.proofs.Common.{◌≡◌, ℕ, ◌+◌, Bool, true, false, cond, List, [], ◌∷◌, ◌++◌, Result, Ok, Err, refl, sym, ap, subst, ◌∙◌, arith, sum_by, inl, inr}
use Rattle.std.proofs.lemmas.List.Sums.{sum_by-append, sum_by-cons}
use Rattle.fab_base.specs.declared.ids.ReplicaId.{ReplicaId}
use Rattle.fab_base.specs.declared.messages.Message.{Message}
use Rattle.fab_rules.specs.Lists.{In}
use Rattle.fab_rules.specs.Spelling.{spelling_of}
use Rattle.fab_rules.proofs.Lists.{in_append_cases}
use Rattle.bft_verify.specs.declared.refusals.Refusal.{Refusal}
use Rattle.run_words.specs.Keyed.{is_same}
use Rattle.run_words.specs.Journal.{Maker, reads}
use Rattle.run_words.specs.Runs.{Declined}
use Rattle.run_words.specs.Lawful.{Test, heard_once, heard_counted, pending_counted, AreApart}
use Rattle.run_words.specs.declared.logs.Origin.{Origin}
use Rattle.run_words.specs.declared.logs.Entry.{Entry}
use Rattle.run_words.specs.declared.logs.Pending.{Pending}
use Rattle.run_words.proofs.Keys.{same_self}
use Rattle.run_words.proofs.Sounds.{reading}
use Rattle.run_words.proofs.Counts.{IsIn, one_more, one_copy, declined_counted}
use Rattle.turn_laws.specs.Copies.{is_from, is_asked, from, asked, item_by, declined_by, items, refused, IsKnown}

pub counted_first : (p : Test) (c : Pending) (l : List Pending) → pending_counted p (c ∷ l) ≡ one_copy p c + pending_counted p l
counted_first p c l = sum_by-cons (λ (x : Pending). one_copy p x) c l

pub counted_both : (p : Test) (a b : List Pending) → pending_counted p (a ++ b) ≡ pending_counted p a + pending_counted p b
counted_both p a b = sum_by-append (λ (x : Pending). one_copy p x) a b

-- ---- what is taken is handed on or refused

read_once : (p : Test) (m : Maker) (c : Pending) (b : Result Message Refusal) → reads m c.load ≡ b
    → heard_counted p (item_by c b) + declined_counted p (declined_by c b) ≡ one_copy p c
read_once p m c (Ok x) e =
    let one = sum_by-cons (λ (y : Entry). heard_once p y) (Entry.Heard c.origin x) [] in
    let same : heard_once p (Entry.Heard c.origin x) ≡ one_copy p c = ap (λ l. cond (p c.origin l) 1 0) (reading m c.load x e).1 in
    let none : heard_counted p [] ≡ 0 = refl in
    let few : declined_counted p [] ≡ 0 = refl in
    omega (arith, one, same, none, few)
read_once p m c (Err refusal) e =
    let one = sum_by-cons (λ (d : Declined). one_copy p d.copy) (record { copy = c; refusal = refusal }) [] in
    let none : heard_counted p [] ≡ 0 = refl in
    let few : declined_counted p [] ≡ 0 = refl in
    omega (arith, one, none, few)

pub all_read : (p : Test) (m : Maker) (took : List Pending)
    → heard_counted p (items m took) + declined_counted p (refused m took) ≡ pending_counted p took
all_read p m [] = refl
all_read p m (c ∷ rest) =
    let here = read_once p m c (reads m c.load) refl in
    let later = all_read p m rest in
    let a = sum_by-append (λ (y : Entry). heard_once p y) (item_by c (reads m c.load)) (items m rest) in
    let b = sum_by-append (λ (d : Declined). one_copy p d.copy) (declined_by c (reads m c.load)) (refused m rest) in
    let w = counted_first p c rest in
    omega (arith, here, later, a, b, w)

-- a copy that is refused was taken
pub record IsRefusedOf (m : Maker) (took : List Pending) (d : Declined) : Type 0 where
  pub taken : In d.copy took
  pub cause : reads m d.copy.load ≡ Err d.refusal

once_refused : (m : Maker) (c : Pending) (rest : List Pending) (d : Declined) (b : Result Message Refusal) → reads m c.load ≡ b
    → In d (declined_by c b)
    → IsRefusedOf m (c ∷ rest) d
once_refused m c rest d (Ok x) e h = absurd h
once_refused m c rest d (Err refusal) e (inl q) =
    subst (λ (y : Declined). IsRefusedOf m (c ∷ rest) y) q (record { taken = inl refl; cause = e })
once_refused m c rest d (Err refusal) e (inr none) = absurd none

pub refused_of : (m : Maker) (took : List Pending) (d : Declined) → In d (refused m took) → IsRefusedOf m took d
refused_of m [] d h = absurd h
refused_of m (c ∷ rest) d h =
    elim (in_append_cases d (declined_by c (reads m c.load)) (refused m rest) h) [
      | inl k ↦ once_refused m c rest d (reads m c.load) refl k
      | inr k ↦ let later = refused_of m rest d k in record { taken = inr later.taken; cause = later.cause }
    ]

-- ---- what is to be heard, as the copies that spell it

abbrev pub copy_by : Entry → List Pending
copy_by (Entry.Heard origin x) = record { origin = origin; number = 0; load = spelling_of x } ∷ []
copy_by Entry.Proposed = []
copy_by Entry.Nudged = []
copy_by (Entry.Sent item) = []
copy_by Entry.Executed = []
copy_by Entry.Marked = []
copy_by Entry.TimedOut = []

abbrev pub spelled_of : List Entry → List Pending
spelled_of [] = []
spelled_of (e ∷ rest) = copy_by e ++ spelled_of rest

copy_counted : (p : Test) (e : Entry) → pending_counted p (copy_by e) ≡ heard_once p e
copy_counted p (Entry.Heard origin x) =
    let one = sum_by-cons (λ (c : Pending). one_copy p c) (record { origin = origin; number = 0; load = spelling_of x }) [] in
    let none : pending_counted p [] ≡ 0 = refl in
    omega (arith, one, none)
copy_counted p Entry.Proposed = refl
copy_counted p Entry.Nudged = refl
copy_counted p (Entry.Sent item) = refl
copy_counted p Entry.Executed = refl
copy_counted p Entry.Marked = refl
copy_counted p Entry.TimedOut = refl

pub spelled_counted : (p : Test) (l : List Entry) → pending_counted p (spelled_of l) ≡ heard_counted p l
spelled_counted p [] = refl
spelled_counted p (e ∷ rest) =
    let later = spelled_counted p rest in
    let here = copy_counted p e in
    let a = counted_both p (copy_by e) (spelled_of rest) in
    let b = sum_by-cons (λ (y : Entry). heard_once p y) e rest in
    omega (arith, later, here, a, b)

-- ---- parts of a list

from_both_by : (c : Pending) (a b l : List Pending) (x : Bool) → l ≡ a ++ b
    → cond x (c ∷ l) l ≡ cond x (c ∷ a) a ++ b
from_both_by c a b l true e = ap (λ k. c ∷ k) e
from_both_by c a b l false e = e

pub from_both : (i : ReplicaId) (a b : List Pending) → from i (a ++ b) ≡ from i a ++ from i b
from_both i [] b = refl
from_both i (c ∷ a) b = from_both_by c (from i a) (from i b) (from i (a ++ b)) (is_from i c.origin) (from_both i a b)

pub asked_both : (a b : List Pending) → asked (a ++ b) ≡ asked a ++ asked b
asked_both [] b = refl
asked_both (c ∷ a) b = from_both_by c (asked a) (asked b) (asked (a ++ b)) (is_asked c.origin) (asked_both a b)

in_front : (c x : Pending) (l : List Pending) (b : Bool) → In c l → In c (cond b (x ∷ l) l)
in_front c x l true h = inr h
in_front c x l false h = h

here_in : (c x : Pending) (l : List Pending) (b : Bool) → b ≡ true → x ≡ c → In c (cond b (x ∷ l) l)
here_in c x l true e q = inl q
here_in c x l false e q = absurd cc

pub in_from : (i : ReplicaId) (c : Pending) (l : List Pending) → is_from i c.origin ≡ true → In c l → In c (from i l)
in_from i c [] s h = absurd h
in_from i c (x ∷ l) s (inl e) = here_in c x (from i l) (is_from i x.origin) (ap (λ (y : Pending). is_from i y.origin) e ∙ s) e
in_from i c (x ∷ l) s (inr h) = in_front c x (from i l) (is_from i x.origin) (in_from i c l s h)

pub in_asked : (c : Pending) (l : List Pending) → is_asked c.origin ≡ true → In c l → In c (asked l)
in_asked c [] s h = absurd h
in_asked c (x ∷ l) s (inl e) = here_in c x (asked l) (is_asked x.origin) (ap (λ (y : Pending). is_asked y.origin) e ∙ s) e
in_asked c (x ∷ l) s (inr h) = in_front c x (asked l) (is_asked x.origin) (in_asked c l s h)

-- ---- each copy comes from a client or from one replica

pub in_makers : (m : Maker) (makers : List Maker) → In m makers → IsIn m makers
in_makers m [] h = absurd h
in_makers m (n ∷ rest) (inl e) = inl (sym e)
in_makers m (n ∷ rest) (inr h) = inr (in_makers m rest h)

pub same_sums : (f g : Maker → ℕ) (makers : List Maker) → ((n : Maker) → IsIn n makers → g n ≡ f n) → sum_by g makers ≡ sum_by f makers
same_sums f g [] h = refl
same_sums f g (x ∷ rest) h =
    let a = sum_by-cons f x rest in
    let b = sum_by-cons g x rest in
    let r = same_sums f g rest (λ n i. h n (inr i)) in
    let here = h x (inl refl) in
    omega arith

no_sum : (f : Maker → ℕ) (makers : List Maker) → ((n : Maker) → f n ≡ 0) → sum_by f makers ≡ 0
no_sum f [] h = refl
no_sum f (x ∷ rest) h = let a = sum_by-cons f x rest in let b = no_sum f rest h in let c = h x in omega arith

module _ (f : Pending → ℕ) (makers : List Maker) (c : Pending) (rest : List Pending) where
  abbrev before : Maker → ℕ
  before n = sum_by f (from n.id rest)

  abbrev after : Maker → ℕ
  after n = sum_by f (from n.id (c ∷ rest))

  asked_more : (b : Bool) → is_asked c.origin ≡ b → sum_by f (asked (c ∷ rest)) ≡ sum_by f (cond b (c ∷ asked rest) (asked rest))
  asked_more b e = ap (λ x. sum_by f (cond x (c ∷ asked rest) (asked rest))) e

  from_more : (n : Maker) (b : Bool) → is_from n.id c.origin ≡ b → after n ≡ sum_by f (cond b (c ∷ from n.id rest) (from n.id rest))
  from_more n b e = ap (λ x. sum_by f (cond x (c ∷ from n.id rest) (from n.id rest))) e

  abbrev Parts : List Pending → Type 0
  Parts l = sum_by f (asked l) + sum_by (λ (n : Maker). sum_by f (from n.id l)) makers ≡ sum_by f l

  by_client : is_asked c.origin ≡ true → ((n : Maker) → is_from n.id c.origin ≡ false) → Parts rest → Parts (c ∷ rest)
  by_client e h later =
      let a = asked_more true e in
      let first = sum_by-cons f c (asked rest) in
      let same = same_sums before after makers (λ n i. from_more n false (h n)) in
      let w = sum_by-cons f c rest in
      omega (arith, a, first, same, later, w)

  by_replica : (s : Maker) → is_asked c.origin ≡ false → AreApart makers → IsIn s makers → is_from s.id c.origin ≡ true
      → ((n : Maker) → is_same n.id s.id ≡ false → is_from n.id c.origin ≡ false)
      → Parts rest → Parts (c ∷ rest)
  by_replica s e a i g h later =
      let none = asked_more false e in
      let first = sum_by-cons f c (from s.id rest) in
      let grown = from_more s true g in
      let here : after s ≡ before s + f c = omega (arith, first, grown) in
      let sum = one_more before after s (f c) makers a i here (λ n d. from_more n false (h n d)) in
      let w = sum_by-cons f c rest in
      omega (arith, none, sum, later, w)

  by_origin : (o : Origin) → c.origin ≡ o → AreApart makers → IsKnown makers o → Parts rest → Parts (c ∷ rest)
  by_origin (Origin.Client k) e a h later = by_client (ap is_asked e) (λ n. ap (is_from n.id) e) later
  by_origin (Origin.Replica i time) e a h later =
      let s = h.0 in
      by_replica s (ap is_asked e) a (in_makers s makers h.1)
      (ap (is_from s.id) e ∙ ap (is_same s.id) (sym h.2) ∙ same_self s.id)
      (λ n d. ap (is_from n.id) e ∙ ap (is_same n.id) (sym h.2) ∙ d) later

-- whatever is summed over copies
pub parted : (f : Pending → ℕ) (makers : List Maker) (l : List Pending) → AreApart makers → ((c : Pending) → In c l → IsKnown makers c.origin)
    → sum_by f (asked l) + sum_by (λ (n : Maker). sum_by f (from n.id l)) makers ≡ sum_by f l
parted f makers [] a k =
    let z = no_sum (λ (n : Maker). sum_by f (from n.id [])) makers (λ n. refl) in
    let none : sum_by f [] ≡ 0 = refl in
    omega (arith, z, none)
parted f makers (c ∷ rest) a k =
    by_origin f makers c rest c.origin refl a (k c (inl refl)) (parted f makers rest a (λ x i. k x (inr i)))

-- what is to be heard of some copies, copy by copy
pub items_counted : (p : Test) (m : Maker) (l : List Pending)
    → heard_counted p (items m l) ≡ sum_by (λ (c : Pending). heard_counted p (item_by c (reads m c.load))) l
items_counted p m [] = refl
items_counted p m (c ∷ rest) =
    let later = items_counted p m rest in
    let a = sum_by-append (λ (y : Entry). heard_once p y) (item_by c (reads m c.load)) (items m rest) in
    let b = sum_by-cons (λ (x : Pending). heard_counted p (item_by x (reads m x.load))) c rest in
    omega (arith, later, a, b)
