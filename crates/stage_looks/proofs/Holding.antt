-- What the order worker holds, step by step.
use Rattle.std.proofs.Common.{◌≡◌, ◌++◌, ℕ, ◌<◌, true, false, List, [], ◌∷◌, map, Option, Some, None, refl, sym, ap, subst, ◌∙◌, inl, inr, append-nil}
use Rattle.std.specs.Prelude.{IfSome, IsNone}
use Rattle.fab_rules.specs.Lists.{In}
use Rattle.fab_rules.proofs.Lists.{in_append_cases}
use Rattle.turn_lock.specs.Views.{own}
use Rattle.turn_lock.specs.Passes.{view}
use Rattle.stage_link.specs.Queues.{known, IsQueuePass}
use Rattle.stage_link.specs.Producers.{Took, with_taken}
use Rattle.stage_link.specs.declared.known.Known.{Known}
use Rattle.stage_link.specs.declared.queue.StageQueue.{StageQueue}
use Rattle.run_words.specs.Journal.{Maker}
use Rattle.run_words.specs.declared.logs.Entry.{Entry}
use Rattle.party_turn.specs.Turns.{PartyTurn, IsPartyPass}
use Rattle.turn_laws.specs.Workers.{Kind, AreOf}
use Rattle.turn_laws.specs.Doings.{hearings}
use Rattle.turn_laws.specs.Takings.{item_of}
use Rattle.stage_looks.specs.Items.{entry_of, in_hand, taken}
use Rattle.stage_looks.specs.Acts.{KeepsKind}
use Rattle.stage_looks.specs.Ordering.{Holds, FitsOrder, IsSameOrder}
use Rattle.stage_looks.specs.declared.items.Item.{Item}
use Rattle.stage_looks.specs.declared.ordering.OrderHand.{OrderHand}

taken_both : (took : List (ℕ × Item)) (p : ℕ) (item : Item) → taken (took ++ (p, item) ∷ []) ≡ taken took ++ (p, entry_of item) ∷ []
taken_both [] p item = refl
taken_both (x ∷ took) p item = ap (λ l. (x.0, entry_of x.1) ∷ l) (taken_both took p item)

items_both : (l : List (ℕ × Entry)) (x : ℕ × Entry) → map item_of (l ++ x ∷ []) ≡ map item_of l ++ x.1 ∷ []
items_both [] x = refl
items_both (y ∷ l) x = ap (λ k. y.1 ∷ k) (items_both l x)

-- an item more was taken of a producer
taken_more : (v : Known Item) (p : ℕ) (item : Item)
    → map item_of (taken (with_taken v p item).took) ≡ map item_of (taken v.took) ++ entry_of item ∷ []
taken_more v p item = ap (map item_of) (taken_both v.took p item) ∙ items_both (taken v.took) (p, entry_of item)

abbrev AreOfMade : Known Item → Type 0
AreOfMade v = (x : ℕ × Entry) → In x (taken v.took) → x.0 < v.made

made_more : (v : Known Item) (p : ℕ) (item : Item) → p < v.made → AreOfMade v → AreOfMade (with_taken v p item)
made_more v p item h a x i =
    elim (in_append_cases x (taken v.took) ((p, entry_of item) ∷ []) (subst (In x) (taken_both v.took p item) i)) [
      | inl j ↦ a x j
      | inr (inl q) ↦ subst (λ (y : ℕ × Entry). y.0 < v.made) q h
      | inr (inr none) ↦ absurd none
    ]

module _ {P : Type 0} (made : P → Maker) (turn : PartyTurn P) (queue : StageQueue Item) where
  -- the same passes, and the same rest
  pub holds_on : (a b : OrderHand P) (p q : List Entry) → b.take ≡ a.take → b.act ≡ a.act → q ≡ p → Holds made turn queue a p → Holds made turn queue b q
  holds_on a b p q take act rest h = record {
    of_queue = subst (IsQueuePass queue) (sym take) h.of_queue;
    may_take = ap (λ k. (known k).takes) take ∙ h.may_take;
    of_producers = subst (λ k. AreOfMade (known k)) (sym take) h.of_producers;
    of_turn = subst (IsPartyPass made turn) (sym act) h.of_turn;
    kinds = subst (λ k. AreOf Kind.Hearing (own (view k))) (sym act) h.kinds;
    hears = ap (λ k. hearings (own (view k)) ++ q) act ∙ ap (λ l. hearings (own (view a.act)) ++ l) rest ∙ h.hears ∙ ap (λ k. map item_of (taken (known k).took)) (sym take);
  }

  -- what is held
  pub held_on : (a b : OrderHand P) (r : Option Item) → b.take ≡ a.take → b.act ≡ a.act → r ≡ a.held → a.lost ≡ false → FitsOrder made turn queue a
      → Holds made turn queue b (in_hand r)
  held_on a b r take act is whole h = holds_on a b h.rest (in_hand r) take act (ap in_hand is ∙ sym (h.in_hand_is whole)) h.holds

  pub some_held : (b : OrderHand P) (r : Option Item) → Holds made turn queue b (in_hand r) → IfSome r (λ item. Holds made turn queue b (entry_of item ∷ []))
  some_held b None h = tt
  some_held b (Some item) h = h

  pub none_held : (b : OrderHand P) (r : Option Item) → Holds made turn queue b (in_hand r) → IsNone r → Holds made turn queue b []
  none_held b None h n = h
  none_held b (Some item) h n = absurd cc

  -- what a look at the queue leaves: an item more was taken, or nothing was
  pub takes_on : (a b : OrderHand P) (r : Option Item) → b.act ≡ a.act → IsQueuePass queue b.take
      → IfSome r (λ x. Took (known a.take) x (known b.take)) → (IsNone r → known b.take ≡ known a.take)
      → Holds made turn queue a []
      → Holds made turn queue b (in_hand r)
  takes_on a b None act q some none h =
      let same = none refl in
      record {
        of_queue = q;
        may_take = ap (λ (k : Known Item). k.takes) same ∙ h.may_take;
        of_producers = subst AreOfMade (sym same) h.of_producers;
        of_turn = subst (IsPartyPass made turn) (sym act) h.of_turn;
        kinds = subst (λ k. AreOf Kind.Hearing (own (view k))) (sym act) h.kinds;
        hears = ap (λ k. hearings (own (view k)) ++ []) act ∙ h.hears ∙ ap (λ (k : Known Item). map item_of (taken k.took)) (sym same);
      }
  takes_on a b (Some item) act q some none h =
      let same = some.2 in
      record {
        of_queue = q;
        may_take = ap (λ (k : Known Item). k.takes) same ∙ h.may_take;
        of_producers = subst AreOfMade (sym same) (made_more (known a.take) some.0 item some.1 h.of_producers);
        of_turn = subst (IsPartyPass made turn) (sym act) h.of_turn;
        kinds = subst (λ k. AreOf Kind.Hearing (own (view k))) (sym act) h.kinds;
        hears =
            ap (λ k. hearings (own (view k)) ++ entry_of item ∷ []) act
            ∙ ap (λ l. l ++ entry_of item ∷ []) (sym (append-nil (hearings (own (view a.act)))) ∙ h.hears)
            ∙ sym (taken_more (known a.take) some.0 item) ∙ ap (λ (k : Known Item). map item_of (taken k.took)) (sym same);
      }

  -- the same producers
  pub producers_stay : (a b : OrderHand P) (r : Option Item) → b.act ≡ a.act
      → IfSome r (λ x. Took (known a.take) x (known b.take)) → (IsNone r → known b.take ≡ known a.take)
      → IsSameOrder a b
  producers_stay a b None act some none = record {
    numbers_are = ap (λ p. p.numbers) act;
    made_is = ap (λ (k : Known Item). k.made) (none refl);
    joined_are = ap (λ (k : Known Item). k.joined) (none refl);
  }
  producers_stay a b (Some item) act some none = record {
    numbers_are = ap (λ p. p.numbers) act;
    made_is = ap (λ (k : Known Item). k.made) some.2;
    joined_are = ap (λ (k : Known Item). k.joined) some.2;
  }

  -- an item was heard, was lost, or came back
  heard_on : (a b : OrderHand P) (item : Item) (rest : List Entry) → b.take ≡ a.take → IsPartyPass made turn b.act
      → KeepsKind Kind.Hearing (view a.act) (view b.act)
      → hearings (own (view b.act)) ++ rest ≡ hearings (own (view a.act)) ++ entry_of item ∷ []
      → Holds made turn queue a (entry_of item ∷ [])
      → Holds made turn queue b rest
  heard_on a b item rest take pass kinds same h = record {
    of_queue = subst (IsQueuePass queue) (sym take) h.of_queue;
    may_take = ap (λ k. (known k).takes) take ∙ h.may_take;
    of_producers = subst (λ k. AreOfMade (known k)) (sym take) h.of_producers;
    of_turn = pass;
    kinds = kinds h.kinds;
    hears = same ∙ h.hears ∙ ap (λ k. map item_of (taken (known k).took)) (sym take);
  }

  -- it is an entry now
  pub fits_done : (a b : OrderHand P) (item : Item) → b.take ≡ a.take → b.held ≡ None → IsPartyPass made turn b.act
      → KeepsKind Kind.Hearing (view a.act) (view b.act)
      → hearings (own (view b.act)) ≡ hearings (own (view a.act)) ++ entry_of item ∷ []
      → Holds made turn queue a (entry_of item ∷ [])
      → FitsOrder made turn queue b
  fits_done a b item take free pass kinds same h = record {
    rest = [];
    holds = heard_on a b item [] take pass kinds (append-nil (hearings (own (view b.act))) ∙ same) h;
    in_hand_is = λ e. sym (ap in_hand free);
  }

  -- it is nowhere any more
  pub fits_lost : (a b : OrderHand P) (item : Item) → b.take ≡ a.take → b.lost ≡ true → IsPartyPass made turn b.act
      → KeepsKind Kind.Hearing (view a.act) (view b.act)
      → hearings (own (view b.act)) ≡ hearings (own (view a.act))
      → Holds made turn queue a (entry_of item ∷ [])
      → FitsOrder made turn queue b
  fits_lost a b item take lost pass kinds same h = record {
    rest = entry_of item ∷ [];
    holds = heard_on a b item (entry_of item ∷ []) take pass kinds (ap (λ l. l ++ entry_of item ∷ []) same) h;
    in_hand_is = λ e. absurd cc;
  }

  -- it is in hand again
  pub fits_back : (a b : OrderHand P) (item back : Item) → b.take ≡ a.take → b.held ≡ Some back → back ≡ item → IsPartyPass made turn b.act
      → KeepsKind Kind.Hearing (view a.act) (view b.act)
      → view b.act ≡ view a.act
      → Holds made turn queue a (entry_of item ∷ [])
      → FitsOrder made turn queue b
  fits_back a b item back take held is pass kinds same h = record {
    rest = entry_of item ∷ [];
    holds = heard_on a b item (entry_of item ∷ []) take pass kinds (ap (λ v. hearings (own v) ++ entry_of item ∷ []) same) h;
    in_hand_is = λ e. ap (λ i. entry_of i ∷ []) (sym is) ∙ sym (ap in_hand held);
  }
