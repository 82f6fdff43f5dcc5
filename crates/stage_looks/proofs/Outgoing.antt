-- What is pushed on outlets, letter by letter.
use Rattle.std.proofs.Common.{◌≡◌, ℕ, zero, suc, ◌+◌, ◌<◌, ◌≤◌, ◌==◌, ◌&&◌, Bool, true, false, cond, List, [], ◌∷◌, ◌++◌, drop, length, get_or, set, replicate, Option, Some, None, refl, sym, ap, subst, ◌∙◌, arith, append-nil, append_assoc, add-one}
use Rattle.std.specs.Prelude.{IfSome, IsNone, option_to_list}
use Rattle.std.specs.Vec.Iter.{into_iter_items}
use Rattle.std.proofs.lemmas.List.{drop_more, drop_all, get_or_default, set-get_or}
use Rattle.fab_base.specs.declared.ids.ReplicaId.{ReplicaId}
use Rattle.turn_lock.specs.Passes.{view, first_machine}
use Rattle.stage_link.specs.Links.{pushed, IsSameIn}
use Rattle.stage_link.specs.declared.links.LinkIn.{LinkIn}
use Rattle.run_words.specs.Keyed.{is_same}
use Rattle.run_words.specs.Journal.{Maker}
use Rattle.run_words.specs.declared.logs.Parcel.{Parcel}
use Rattle.run_words.proofs.Keys.{same_is, same_self, other_turned}
use Rattle.party_turn.specs.Turns.{PartyTurn, IsPartyPass}
use Rattle.turn_laws.specs.Workers.{Kind}
use Rattle.turn_laws.specs.Doings.{put_of}
use Rattle.stage_looks.specs.Acts.{KeepsKind}
use Rattle.stage_looks.specs.Letters.{letter_of, letters_of, letters_to}
use Rattle.stage_looks.specs.Sending.{HasNone, AreApart, AreSameOutlets, AreSent, IsPlaceOf, letters_left, unsent, put_by, Delivers, FitsOutput}
use Rattle.stage_looks.specs.declared.delivering.OutputHand.{OutputHand}
use Rattle.stage_looks.specs.declared.letters.Letter.{Letter}
use Rattle.stage_looks.specs.declared.outlets.Outlet.{Outlet}
use Rattle.stage_looks.proofs.Copied.{letters_both}

-- ---- one link

pub gone : (now : List Letter) (p : Parcel) → p.passes ≡ 0 → now ++ letters_left None ≡ now ++ letters_of p
gone now p e = ap (λ n. now ++ replicate n (letter_of p)) (sym e)

pub went_last : (old now : List Letter) (p : Parcel) (left : Option Parcel) → p.passes ≡ 1 → (IsNone left → now ≡ old ++ letter_of p ∷ [])
    → IfSome left (λ q. (q ≡ p) × (now ≡ old))
    → now ++ letters_left left ≡ old ++ letters_of p
went_last old now p None e none some =
    append-nil now ∙ none refl ∙ ap (λ n. old ++ replicate n (letter_of p)) (sym e)
went_last old now p (Some q) e none some = ap (λ l. l ++ letters_of q) some.1 ∙ ap (λ x. old ++ letters_of x) some.0

pub went_once : (old now : List Letter) (p q : Parcel) → p.passes ≡ q.passes + 1 → letter_of q ≡ letter_of p → now ≡ old ++ letter_of p ∷ []
    → now ++ letters_of q ≡ old ++ letters_of p
went_once old now p q e same h =
    ap (λ l. now ++ replicate q.passes l) same
    ∙ ap (λ l. l ++ replicate q.passes (letter_of p)) h
    ∙ append_assoc old (letter_of p ∷ []) (replicate q.passes (letter_of p))
    ∙ ap (λ n. old ++ replicate n (letter_of p)) (sym (add-one q.passes) ∙ sym e)

-- ---- where an outlet stands

-- those before a place lead elsewhere
abbrev pub IsPassed : List Outlet → ReplicaId → ℕ → Type 0
IsPassed outlets to k = HasNone to (drop k outlets) → HasNone to outlets

same_if : (a b : ReplicaId) (x : Bool) → x ≡ ((a.cluster == b.cluster) && (a.index == b.index)) → is_same a b ≡ x
unfolding is_same
same_if a b x e = sym e

pub is_found : (outlets : List Outlet) (to : ReplicaId) (k : ℕ) (d : Outlet) → k < length outlets
    → true ≡ (((get_or outlets k d).to.cluster == to.cluster) && ((get_or outlets k d).to.index == to.index))
    → IsPlaceOf to outlets (Some k)
is_found outlets to k d lt e = (
  lt,
  λ o. ap (λ (x : Outlet). x.to) (get_or_default outlets k o d lt) ∙ same_is _ _ (same_if (get_or outlets k d).to to true e),
)

pub is_passed : (outlets : List Outlet) (to : ReplicaId) (k : ℕ) (d : Outlet) → k < length outlets → IsPassed outlets to k
    → false ≡ (((get_or outlets k d).to.cluster == to.cluster) && ((get_or outlets k d).to.index == to.index))
    → IsPassed outlets to (k + 1)
is_passed outlets to k d lt before e n =
    before
    (subst (HasNone to) (sym (drop_more outlets k d lt)) (other_turned _ _ (same_if (get_or outlets k d).to to false e), n))

pub is_missing : (outlets : List Outlet) (to : ReplicaId) (k : ℕ) → length outlets ≤ k → IsPassed outlets to k → IsPlaceOf to outlets None
is_missing outlets to k le before = before (subst (HasNone to) (sym (drop_all k outlets le)) tt)

-- ---- outlets

-- the letters of what is left of a parcel to this receiver
left_here : (to : ReplicaId) (left : Option Parcel) (hand : List Parcel) → IfSome left (λ q. q.to ≡ to)
    → letters_to to (option_to_list left ++ hand) ≡ letters_left left ++ letters_to to hand
left_here to None hand h = refl
left_here to (Some q) hand h =
    ap (λ b. cond b (letters_of q) [] ++ letters_to to hand) (ap (is_same to) h ∙ same_self to)

-- and to another
left_elsewhere : (to : ReplicaId) (p : Parcel) (left : Option Parcel) (hand : List Parcel) → IfSome left (λ q. q.to ≡ p.to)
    → is_same to p.to ≡ false
    → letters_to to (option_to_list left ++ hand) ≡ letters_to to (p ∷ hand)
left_elsewhere to p None hand h e = sym (ap (λ b. cond b (letters_of p) [] ++ letters_to to hand) e)
left_elsewhere to p (Some q) hand h e =
    ap (λ b. cond b (letters_of q) [] ++ letters_to to hand) (ap (is_same to) h ∙ e)
    ∙ sym (ap (λ b. cond b (letters_of p) [] ++ letters_to to hand) e)

-- those that lead elsewhere keep what they have
pub sent_elsewhere : (put hand : List Parcel) (p : Parcel) (left : Option Parcel) (outlets : List Outlet) → IfSome left (λ q. q.to ≡ p.to)
    → HasNone p.to outlets
    → AreSent put (p ∷ hand) outlets
    → AreSent put (option_to_list left ++ hand) outlets
sent_elsewhere put hand p left [] h n s = s
sent_elsewhere put hand p left (o ∷ rest) h n s = (
  ap (λ l. pushed o.link ++ l) (left_elsewhere o.to p left hand h (other_turned p.to o.to n.0)) ∙ s.0,
  sent_elsewhere put hand p left rest h n.1 s.1,
)

none_at : (to : ReplicaId) (outlets : List Outlet) (k : ℕ) (d : Outlet) → k < length outlets → HasNone to outlets
    → is_same to (get_or outlets k d).to ≡ false
none_at to [] k d lt n = absurd (omega arith)
none_at to (o ∷ rest) zero d lt n = n.0
none_at to (o ∷ rest) (suc k) d lt n = none_at to rest k d (omega arith) n.1

sent_here : (put hand : List Parcel) (p : Parcel) (left : Option Parcel) (o new : Outlet) → o.to ≡ p.to → new.to ≡ o.to
    → pushed new.link ++ letters_left left ≡ pushed o.link ++ letters_of p
    → IfSome left (λ q. q.to ≡ p.to)
    → pushed o.link ++ letters_to o.to (p ∷ hand) ≡ letters_to o.to put
    → pushed new.link ++ letters_to new.to (option_to_list left ++ hand) ≡ letters_to new.to put
sent_here put hand p left o new at same went h s =
    let here = left_here p.to left hand h in
    let leads : new.to ≡ p.to = same ∙ at in
    ap (λ to. pushed new.link ++ letters_to to (option_to_list left ++ hand)) leads
    ∙ ap (λ l. pushed new.link ++ l) here
    ∙ sym (append_assoc (pushed new.link) (letters_left left) (letters_to p.to hand))
    ∙ ap (λ l. l ++ letters_to p.to hand) went
    ∙ append_assoc (pushed o.link) (letters_of p) (letters_to p.to hand)
    ∙ sym (ap (λ b. pushed o.link ++ (cond b (letters_of p) [] ++ letters_to p.to hand)) (same_self p.to))
    ∙ sym (ap (λ to. pushed o.link ++ letters_to to (p ∷ hand)) at)
    ∙ s
    ∙ sym (ap (λ to. letters_to to put) same)

-- a letter of a parcel was pushed where the outlet to its receiver stands
pub sent_at : (put hand : List Parcel) (p : Parcel) (left : Option Parcel) (outlets : List Outlet) (k : ℕ) (d new : Outlet) → k < length outlets
    → (get_or outlets k d).to ≡ p.to → new.to ≡ (get_or outlets k d).to
    → pushed new.link ++ letters_left left ≡ pushed (get_or outlets k d).link ++ letters_of p
    → IfSome left (λ q. q.to ≡ p.to)
    → AreApart outlets
    → AreSent put (p ∷ hand) outlets
    → AreSent put (option_to_list left ++ hand) (set outlets k new)
sent_at put hand p left [] k d new lt at same went h apart s = absurd (omega arith)
sent_at put hand p left (o ∷ rest) zero d new lt at same went h apart s = (
  sent_here put hand p left o new at same went h s.0,
  sent_elsewhere put hand p left rest h (subst (λ to. HasNone to rest) at apart.0) s.1,
)
sent_at put hand p left (o ∷ rest) (suc k) d new lt at same went h apart s =
    let other : is_same o.to p.to ≡ false = ap (is_same o.to) (sym at) ∙ none_at o.to rest k d (omega arith) apart.0 in (
      ap (λ l. pushed o.link ++ l) (left_elsewhere o.to p left hand h other) ∙ s.0,
      sent_at put hand p left rest k d new (omega arith) at same went h apart.1 s.1,
    )

none_after : (to : ReplicaId) (outlets : List Outlet) (k : ℕ) (d new : Outlet) → new.to ≡ (get_or outlets k d).to → HasNone to outlets
    → HasNone to (set outlets k new)
none_after to [] k d new same n = n
none_after to (o ∷ rest) zero d new same n = (ap (is_same to) same ∙ n.0, n.1)
none_after to (o ∷ rest) (suc k) d new same n = (n.0, none_after to rest k d new same n.1)

pub apart_after : (outlets : List Outlet) (k : ℕ) (d new : Outlet) → new.to ≡ (get_or outlets k d).to → AreApart outlets
    → AreApart (set outlets k new)
apart_after [] k d new same a = a
apart_after (o ∷ rest) zero d new same a = (subst (λ to. HasNone to rest) (sym same) a.0, a.1)
apart_after (o ∷ rest) (suc k) d new same a = (none_after o.to rest k d new same a.0, apart_after rest k d new same a.1)

same_end : (l : LinkIn Letter) → IsSameIn l l
same_end l = ((refl, refl, refl, refl), refl)

pub same_all : (outlets : List Outlet) → AreSameOutlets outlets outlets
same_all [] = tt
same_all (o ∷ rest) = (refl, same_end o.link, same_all rest)

pub same_after : (outlets : List Outlet) (k : ℕ) (d new : Outlet) → new.to ≡ (get_or outlets k d).to → IsSameIn (get_or outlets k d).link new.link
    → AreSameOutlets outlets (set outlets k new)
same_after [] k d new same link = tt
same_after (o ∷ rest) zero d new same link = (same, link, same_all rest)
same_after (o ∷ rest) (suc k) d new same link = (refl, same_end o.link, same_after rest k d new same link)

-- what `post` does: an outlet was found where `slice` has it, and a letter was pushed there
module _ (p : Parcel) (outlets slice : List Outlet) (k : ℕ) (d new : Outlet) (is : slice ≡ outlets) (place : IsPlaceOf p.to slice (Some k))
    (value : d ≡ get_or outlets k d) where
  pub post_apart : new.to ≡ d.to → AreApart outlets → AreApart (set outlets k new)
  post_apart same apart = apart_after outlets k d new (same ∙ ap (λ (o : Outlet). o.to) value) apart

  pub post_same : new.to ≡ d.to → IsSameIn d.link new.link → AreSameOutlets outlets (set outlets k new)
  post_same same link =
      same_after outlets k d new (same ∙ ap (λ (o : Outlet). o.to) value) (subst (λ (o : Outlet). IsSameIn o.link new.link) value link)

  pub post_sent : (left : Option Parcel) → new.to ≡ d.to → pushed new.link ++ letters_left left ≡ pushed d.link ++ letters_of p
      → IfSome left (λ q. q.to ≡ p.to)
      → AreApart outlets
      → (put hand : List Parcel) → AreSent put (p ∷ hand) outlets
      → AreSent put (option_to_list left ++ hand) (set outlets k new)
  post_sent left same went h apart put hand s =
      let found = subst (λ (l : List Outlet). IsPlaceOf p.to l (Some k)) is place in
      sent_at put hand p left outlets k d new found.0 (found.1 d) (same ∙ ap (λ (o : Outlet). o.to) value)
      (went ∙ ap (λ (o : Outlet). pushed o.link ++ letters_of p) value) h apart s

  pub post_nothing : new ≡ d → set outlets k new ≡ outlets
  post_nothing same = ap (set outlets k) (same ∙ value) ∙ set-get_or outlets k d

-- ---- the hand

sent_more : (put parcels : List Parcel) (outlets : List Outlet) → AreSent put [] outlets → AreSent (put ++ parcels) parcels outlets
sent_more put parcels [] s = s
sent_more put parcels (o ∷ rest) s = (
  ap (λ l. l ++ letters_to o.to parcels) (sym (append-nil (pushed o.link)) ∙ s.0) ∙ sym (letters_both o.to put parcels),
  sent_more put parcels rest s.1,
)

-- the same outlets in the middle and at the end
pub after_none : {P : Type 0} (a b c : OutputHand P) → b.outlets ≡ a.outlets → c.outlets.items ≡ b.outlets.items → c.outlets.items ≡ a.outlets.items
after_none a b c middle end = subst (λ v. c.outlets.items ≡ v.items) middle end

module _ {P : Type 0} (made : P → Maker) (turn : PartyTurn P) (a b : OutputHand P) where
  -- the same pass, and other parcels in hand
  pub delivers_on : (p q : List Parcel) → b.act ≡ a.act → AreApart b.outlets.items
      → (AreSent (put_by made turn a) p a.outlets.items → AreSent (put_by made turn a) q b.outlets.items)
      → Delivers made turn a p
      → Delivers made turn b q
  delivers_on p q act apart sent h = record {
    of_turn = subst (IsPartyPass made turn) (sym act) h.of_turn;
    kinds = subst (λ k. KeepsKind Kind.Sending (view a.act) (view k)) (sym act) (λ x. x) h.kinds;
    apart = apart;
    sent = subst (λ k. AreSent (put_of (made (first_machine turn).first) (view k).numbers (view k).seen) q b.outlets.items) (sym act) (sent h.sent);
  }

  -- parcels were put, and are in hand
  pub fetched : (parcels : List Parcel) → b.outlets ≡ a.outlets → IsPartyPass made turn b.act → KeepsKind Kind.Sending (view a.act) (view b.act)
      → put_by made turn b ≡ put_by made turn a ++ parcels
      → Delivers made turn a []
      → Delivers made turn b parcels
  fetched parcels outlets pass kinds put h = record {
    of_turn = pass;
    kinds = kinds h.kinds;
    apart = subst (λ o. AreApart o.items) (sym outlets) h.apart;
    sent =
        subst (λ o. AreSent (put_by made turn b) parcels o.items) (sym outlets)
        (subst (λ l. AreSent l parcels a.outlets.items) (sym put) (sent_more (put_by made turn a) parcels a.outlets.items h.sent));
  }

  -- a parcel was sent once, and this is left of it
  pub sent_once : (p : Parcel) (left : Option Parcel) → a.first ≡ None → b.act ≡ a.act → b.first ≡ left → b.rest ≡ a.rest → AreApart b.outlets.items
      → ((put hand : List Parcel) → AreSent put (p ∷ hand) a.outlets.items → AreSent put (option_to_list left ++ hand) b.outlets.items)
      → Delivers made turn a (p ∷ unsent a)
      → FitsOutput made turn b
  sent_once p left free act first rest apart sent h =
      let now : unsent b ≡ option_to_list left ++ unsent a =
      ap (λ f. option_to_list f ++ into_iter_items b.rest) first ∙ ap (λ r. option_to_list left ++ into_iter_items r) rest
      ∙ ap (λ f. option_to_list left ++ (option_to_list f ++ into_iter_items a.rest)) (sym free) in
      delivers_on (p ∷ unsent a) (unsent b) act apart
      (λ s. subst (λ l. AreSent (put_by made turn a) l b.outlets.items) (sym now) (sent (put_by made turn a) (unsent a) s)) h

  -- nothing is in hand
  pub emptied : b.act ≡ a.act → b.outlets ≡ a.outlets → unsent a ≡ [] → FitsOutput made turn a → Delivers made turn b []
  emptied act outlets none h =
      delivers_on (unsent a) [] act (subst (λ o. AreApart o.items) (sym outlets) h.apart)
      (λ s.
      subst (λ o. AreSent (put_by made turn a) [] o.items) (sym outlets) (subst (λ l. AreSent (put_by made turn a) l a.outlets.items) none s))
      h
