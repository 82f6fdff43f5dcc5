-- Hands that have done nothing yet.
use Rattle.std.proofs.Common.{◌≡◌, ◌++◌, ℕ, ◌<◌, Bool, true, false, cond, List, [], ◌∷◌, map, None, refl, sym, ap, subst, ◌∙◌}
use Rattle.fab_rules.specs.Lists.{In}
use Rattle.turn_lock.specs.Numbers.{has}
use Rattle.turn_lock.specs.Histories.{of_numbers}
use Rattle.turn_lock.specs.Views.{own}
use Rattle.turn_lock.specs.Passes.{view, first_machine}
use Rattle.stage_link.specs.Queues.{known, IsQueuePass}
use Rattle.stage_link.specs.declared.queue.StageQueue.{StageQueue}
use Rattle.run_words.specs.Journal.{Maker, walk, added}
use Rattle.run_words.specs.declared.logs.Entry.{Entry}
use Rattle.party_turn.specs.Turns.{PartyTurn, IsPartyPass}
use Rattle.turn_laws.specs.Workers.{Kind, AreOf}
use Rattle.turn_laws.specs.Doings.{hearings, put_from}
use Rattle.turn_laws.specs.Takings.{item_of}
use Rattle.stage_looks.specs.Items.{taken, in_hand}
use Rattle.stage_looks.specs.Ordering.{FitsOrder}
use Rattle.stage_looks.specs.Sending.{AreApart, AreUnused, AreSent, unsent, put_by, FitsOutput}
use Rattle.stage_looks.specs.declared.items.Item.{Item}
use Rattle.stage_looks.specs.declared.ordering.OrderHand.{OrderHand}
use Rattle.stage_looks.specs.declared.delivering.OutputHand.{OutputHand}
use Rattle.stage_looks.specs.declared.outlets.Outlet.{Outlet}

-- ---- who entered nothing

none_of : (k : Kind) (log : List (ℕ × Entry)) → log ≡ [] → AreOf k log
none_of k [] e x i = absurd i
none_of k (y ∷ log) e x i = absurd cc

-- put nothing
put_none : (m : Maker) (ns : List Bool) (earlier : List Entry) (log : List (ℕ × Entry)) → of_numbers ns log ≡ [] → put_from m ns earlier log ≡ []
put_none m ns earlier [] h = refl
put_none m ns earlier (x ∷ log) h = go (has ns x.0) h (λ e. put_none m ns (earlier ++ x.1 ∷ []) log e)
  where
    go : (b : Bool) → cond b (x ∷ of_numbers ns log) (of_numbers ns log) ≡ []
        → (of_numbers ns log ≡ [] → put_from m ns (earlier ++ x.1 ∷ []) log ≡ [])
        → cond b (added m (walk m earlier) x.1) [] ++ put_from m ns (earlier ++ x.1 ∷ []) log ≡ []
    go true e later = absurd cc
    go false e later = later e

-- took nothing
abbrev AreOfMade : List (ℕ × Item) → ℕ → Type 0
AreOfMade took n = (x : ℕ × Entry) → In x (taken took) → x.0 < n

none_made : (took : List (ℕ × Item)) (n : ℕ) → took ≡ [] → AreOfMade took n
none_made [] n e x i = absurd i
none_made (y ∷ took) n e x i = absurd cc

module _ {P : Type 0} (made : P → Maker) (turn : PartyTurn P) where
  -- ---- order

  pub fresh_order : (queue : StageQueue Item) (h : OrderHand P) → (known h.take).took ≡ [] → own (view h.act) ≡ [] → h.held ≡ None
      → IsQueuePass queue h.take → (known h.take).takes ≡ true → IsPartyPass made turn h.act
      → FitsOrder made turn queue h
  fresh_order queue h none fresh held q takes pass = record {
    rest = [];
    holds = record {
      of_queue = q;
      may_take = takes;
      of_producers = none_made (known h.take).took (known h.take).made none;
      of_turn = pass;
      kinds = none_of Kind.Hearing (own (view h.act)) fresh;
      hears = ap (λ l. hearings l ++ []) fresh ∙ sym (ap (λ l. map item_of (taken l)) none);
    };
    in_hand_is = λ e. sym (ap in_hand held);
  }

  -- ---- output

  unused_sent : (outlets : List Outlet) → AreUnused outlets → AreSent [] [] outlets
  unused_sent [] u = tt
  unused_sent (o ∷ rest) u = (ap (λ l. l ++ []) u.0, unused_sent rest u.1)

  pub fresh_output : (h : OutputHand P) → own (view h.act) ≡ [] → AreApart h.outlets.items → AreUnused h.outlets.items → unsent h ≡ []
      → IsPartyPass made turn h.act
      → FitsOutput made turn h
  fresh_output h fresh apart unused none pass =
      let put : put_by made turn h ≡ [] = put_none (made (first_machine turn).first) (view h.act).numbers [] (view h.act).seen fresh in
      record {
        of_turn = pass;
        kinds = none_of Kind.Sending (own (view h.act)) fresh;
        apart = apart;
        sent =
            subst (λ l. AreSent (put_by made turn h) l h.outlets.items) (sym none)
            (subst (λ l. AreSent l [] h.outlets.items) (sym put) (unused_sent h.outlets.items unused));
      }
