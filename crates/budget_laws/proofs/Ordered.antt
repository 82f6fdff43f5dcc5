-- At any moment of a cluster in which nobody fails: what its primary holds and what it has a certificate of, it proposed.
use Rattle.std.proofs.Common.{◌≡◌, ℕ, ◌<◌, List, [], ◌∷◌, ◌++◌, map, length, length-append, ◌⊎◌, inl, inr, refl, sym, ap, subst, ◌∙◌, arith}
use Rattle.std.proofs.lemmas.List.{map-append}
use Rattle.fab_base.specs.Limits.{Roster}
use Rattle.fab_base.specs.Roster.{size_of}
use Rattle.fab_base.specs.declared.ids.Hash32.{Hash32}
use Rattle.fab_base.specs.declared.requests.Request.{Request}
use Rattle.fab_base.specs.declared.messages.PrePrepare.{PrePrepare}
use Rattle.fab_base.specs.declared.messages.Message.{Message}
use Rattle.fab_rules.specs.Lists.{In}
use Rattle.fab_rules.specs.Digests.{batch_digest}
use Rattle.fab_rules.specs.Diary.{Entry, Heard, Said, Did, BatchHeard}
use Rattle.fab_rules.proofs.Lists.{in_append_left, in_append_right}
use Rattle.fab_machine.specs.State.{Proposed, Replica}
use Rattle.fab_machine.specs.Items.{vote_of}
use Rattle.fab_machine.specs.Relation.{IsBatchKnown}
use Rattle.fab_machine.proofs.Blocks.{is_for}
use Rattle.heed_laws.specs.Fronts.{GoOn}
use Rattle.heed_laws.specs.Resting.{member, IsVoiced}
use Rattle.heed_laws.specs.Signatures.{proposal_slot, said_of}
use Rattle.heed_laws.proofs.Opened.{IsHeardOf, heard_by_prepare, certified_of}
use Rattle.heed_laws.proofs.Signatures.{opened_below}
use Rattle.budget_laws.specs.Proposals.{batch_in, proposals_said, IsThrifty}
use Rattle.budget_laws.proofs.Orders.{stamps_in, numbered, batches_numbered}
use Rattle.budget_laws.proofs.Thrift.{length_numbered, turn_of, order_in, orders_said, IsInTurn, AreOrdered, expected_in_turn}

in_orders : (past : List Entry) (p : PrePrepare) → In (Said (Message.PrePrepare p)) past → (let o : Proposed = record { slot = p.slot; batch = p.batch } in In o (orders_said past))
in_orders [] p h = absurd h
in_orders (Said m ∷ past) p (inl e) =
    let o : Proposed = record { slot = p.slot; batch = p.batch } in
    let same : m ≡ Message.PrePrepare p = cc in
    in_append_right o (orders_said past) (order_in m) (subst (λ x. In o (order_in x)) (sym same) (inl refl))
in_orders (Said m ∷ past) p (inr h) = let o : Proposed = record { slot = p.slot; batch = p.batch } in in_append_left o (orders_said past) (order_in m) (in_orders past p h)
in_orders (Heard m ∷ past) p (inl e) = absurd cc
in_orders (Heard m ∷ past) p (inr h) = in_orders past p h
in_orders (Did block ∷ past) p (inl e) = absurd cc
in_orders (Did block ∷ past) p (inr h) = in_orders past p h

-- as many as slots
as_many : (past : List Entry) → length (orders_said past) ≡ length (said_of proposal_slot past)
as_many [] = refl
as_many (Said m ∷ past) = omega (arith, length-append (orders_said past) (order_in m), length-append (proposal_slot m) (said_of proposal_slot past), as_many past, one m)
  where
    one : (m : Message) → length (order_in m) ≡ length (proposal_slot m)
    one (Message.PrePrepare p) = refl
    one m = refl
as_many (Heard m ∷ past) = as_many past
as_many (Did block ∷ past) = as_many past

module _ (r : Roster) (state : ℕ → Replica) (full : ℕ → List Entry) (voice : IsVoiced r state full) where
  -- the null batch, or one that stands in a message which a member heard
  abbrev pub IsMet : List Request → Type 0
  IsMet batch = (batch ≡ []) ⊎ ((k : ℕ) × (k < size_of r 1) × BatchHeard (full k) batch)

  -- of those no two share a digest
  abbrev pub AreApart : Type 0
  AreApart = (a b : List Request) → IsMet a → IsMet b → batch_digest a ≡ batch_digest b → a ≡ b

  module _ (apart : AreApart) (some : 0 < size_of r 1) where
    met : (batch : List Request) → IsBatchKnown (full 0) batch → IsMet batch
    met batch (inl none) = inl none
    met batch (inr heard) = inr (0, some, heard)

    opened_order : (slot : ℕ) (d : Hash32) (batch : List Request) → IsHeardOf r state full voice slot d → batch_digest batch ≡ d → IsMet batch
        → (let o : Proposed = record { slot = slot; batch = batch } in In o (orders_said (full 0)))
    opened_order slot d batch heard digest known =
        let o = heard.opened in
        let p : PrePrepare = o.proposal in
        let same : p.batch ≡ batch = apart p.batch batch (inr (heard.hearer, heard.is_member, heard.known)) known (o.digest_is ∙ sym digest) in
        subst (λ b. let x : Proposed = record { slot = slot; batch = b } in In x (orders_said (full 0))) same
        (subst (λ s. let x : Proposed = record { slot = s; batch = p.batch } in In x (orders_said (full 0))) o.slot_is (in_orders (full 0) p o.said))

    pub ordered : AreOrdered (state 0) (orders_said (full 0))
    ordered =
        let f = voice.facts 0 some in
        record {
          count = omega (arith, as_many (full 0), opened_below r state full voice some);
          held = λ slot g e. opened_order slot g.digest g.batch (heard_by_prepare r state full voice 0 (vote_of (member 0) 0 slot g.digest) some ((voice.heeds 0 some).are.local.voted.prepares slot g e))
              (sym (f.local.is.held.proposals slot g e).digest_is) (met g.batch (f.local.heard.proposals slot g e));
          certified = λ slot c e. (let x = certified_of r state full voice 0 slot c some e in
              opened_order slot (batch_digest c.batch) c.batch x.1 refl (met c.batch (f.rounds.backed c (is_for (state 0).rounds.certificates slot 1 c e).inside).known));
        }

-- ---- what was proposed, without the slots

proposals_are : (past : List Entry) → proposals_said past ≡ map (λ p. p.batch) (orders_said past)
proposals_are [] = refl
proposals_are (Said m ∷ past) =
    ap (λ bs. bs ++ batch_in m) (proposals_are past) ∙ (ap (λ bs. map (λ p. p.batch) (orders_said past) ++ bs) (one m) ∙ sym (map-append (λ (p : Proposed). p.batch) (orders_said past) (order_in m)))
  where
    one : (m : Message) → batch_in m ≡ map (λ p. p.batch) (order_in m)
    one (Message.PrePrepare p) = refl
    one m = refl
proposals_are (Heard m ∷ past) = proposals_are past
proposals_are (Did block ∷ past) = proposals_are past

-- a primary in turn wastes nothing
pub thrifty_of : (r : Roster) (s : Replica) (past : List Entry) → AreOrdered s (orders_said past) → IsInTurn r (turn_of s.local) (orders_said past) → IsThrifty r s.local past
thrifty_of r s past o t =
    let batches = t.done ++ t.rest in
    let is : proposals_said past ≡ batches = proposals_are past ∙ (ap (map (λ p. p.batch)) t.orders_are ∙ batches_numbered 0 batches) in
    let size : length (numbered 0 batches) ≡ length batches = length_numbered 0 batches in
    record {
      next_is = omega (arith, ap length is, o.count, ap length t.orders_are, size);
      stamps = λ client home. subst (λ bs. GoOn 1 (stamps_in client.number bs)) (sym is) (t.stamps client home);
      expected_is = λ client home. (let e = expected_in_turn r s (orders_said past) o t client home in omega (arith, e, ap (λ bs. length (stamps_in client.number bs)) is));
    }
