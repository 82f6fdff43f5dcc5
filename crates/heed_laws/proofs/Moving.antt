-- A low mark that moves leaves nothing unheeded: what was kept is considered again.
use Rattle.std.proofs.Common.{◌≡◌, ℕ, zero, suc, ◌≤◌, ◌<◌, max, nat_lt, List, [], ◌∷◌, ◌++◌, Option, Some, None, is_some, ◌⊎◌, inl, inr, refl, sym, ap, subst, ◌∙◌, arith}
use Rattle.std.specs.Option.{IsSome, option_and_then}
use Rattle.std.proofs.lemmas.Bool.{cases_lt, cases_eq}
use Rattle.fab_base.specs.Limits.{Roster}
use Rattle.fab_base.specs.declared.ids.ReplicaId.{ReplicaId}
use Rattle.fab_base.specs.declared.requests.Request.{Request}
use Rattle.fab_base.specs.declared.messages.Vote.{Vote}
use Rattle.fab_base.specs.declared.messages.StableVote.{StableVote}
use Rattle.fab_base.specs.declared.messages.CommitCert.{CommitCert}
use Rattle.fab_base.specs.declared.messages.Message.{Message}
use Rattle.fab_base.specs.declared.answers.Answer.{Answer}
use Rattle.fab_base.proofs.Tests.{is_below}
use Rattle.fab_rules.specs.Lists.{In, greatest}
use Rattle.fab_rules.specs.Diary.{Entry, Heard, Said}
use Rattle.fab_rules.specs.Rules.{KeepsRules}
use Rattle.fab_rules.proofs.Lists.{in_append_cases, in_filter}
use Rattle.vote_certs.specs.Counting.{value_of}
use Rattle.pbft_slots.specs.declared.slot.Slot.{Slot}
use Rattle.pbft_slots.specs.Slots.{agreed_digest}
use Rattle.pbft_slots.specs.Window.{Window, high, slot_at, moved_to}
use Rattle.pbft_slots.proofs.Places.{slot_is_open, slot_kept}
use Rattle.checkpoint_core.specs.Checkpoints.{Checkpoints, pruned}
use Rattle.fab_machine.specs.State.{Due, Local}
use Rattle.fab_machine.specs.Voting.{Told}
use Rattle.fab_machine.specs.Hearing.{hear}
use Rattle.fab_machine.specs.Checkpointing.{checkpoint_of, voted, stable_rounds, after_move, heard_again, move_to, checkpoint_by, checkpoint}
use Rattle.fab_machine.specs.Relation.{AreLocal, after_puts}
use Rattle.fab_machine.specs.declared.outs.Out.{Out}
use Rattle.fab_machine.proofs.Members.{IsMember}
use Rattle.fab_machine.proofs.Moving.{moved_before}
use Rattle.fab_machine.proofs.Marking.{is_move_to}
use Rattle.fab_machine.proofs.Stepping.{puts_hear}
use Rattle.fab_machine.proofs.Hearing.{hear_keeps}
use Rattle.fab_machine.proofs.Checkpointing.{after_puts-append, checkpoint_keeps}
use Rattle.fab_machine.proofs.States.{state_beside}
use Rattle.fab_machine.proofs.Locals.{local_beside}
use Rattle.fab_machine.proofs.Telling.{own}
use Rattle.heed_laws.specs.Heeding.{IsPlaced, IsHeeded, AreVoted, IsDueFor, IsMarked, AreHeeded, formed_by}
use Rattle.heed_laws.proofs.Alike.{alike_saying, voted_alike, proposed_alike, alike_puts}
use Rattle.heed_laws.proofs.Counting.{IsHeededOf, told_none, heeded_put, fine_more}
use Rattle.heed_laws.proofs.Hearing.{heeded_counting, hear_heeded}

-- ---- the slots

-- what stood in a slot above the mark stands there
stands : {X : Type 0} (ask : Slot Vote → Option X) (w : Window Vote) (low slot : ℕ) → w.low ≤ low → low < slot
    → IsSome (option_and_then ask (slot_at w slot)) → IsSome (option_and_then ask (slot_at (moved_to w low) slot))
stands {X} ask w low slot up above h = ap (λ o. is_some (option_and_then ask o)) (slot_kept w low slot up above (open_by (slot_at w slot) refl h)) ∙ h
  where
    open_by : (o : Option (Slot Vote)) → slot_at w slot ≡ o → IsSome (option_and_then ask o) → slot ≤ high w
    open_by None e q = cc
    open_by (Some t) e q = ((slot_is_open w slot).0 (ap is_some e)).1

voted_moved : (me : ReplicaId) (w : Window Vote) (low : ℕ) (formed : List CommitCert) (full : List Entry) → w.low ≤ low → AreVoted me w formed full
    → AreVoted me (moved_to w low) formed full
voted_moved me w low formed full up v = record {
  prepares = λ s p h. v.prepares s p (moved_before (λ t. t.proposal) w low s p up refl h);
  commits = λ s d h. v.commits s d (moved_before (λ t. agreed_digest w.members t.proposal t.prepares) w low s d up refl h);
  certified = λ s d h. v.certified s d (moved_before (λ t. agreed_digest w.members t.proposal t.commits) w low s d up refl h);
}

-- ---- what was heard

-- it is heeded, or was kept and is to be considered again
placed_moved : (w : Window Vote) (low : ℕ) (kept : List Message) (m : Message) (slot : ℕ) (A B : Type 0) → w.low ≤ low → (low < slot → A → B)
    → IsPlaced w kept m slot A → IsPlaced (moved_to w low) [] m slot B ⊎ In m kept
placed_moved w low kept m slot A B up f (inl old) = inl (inl (omega (arith, old, up)))
placed_moved w low kept m slot A B up f (inr (inl here)) = elim (cases_lt low slot) [
  | inl above ↦ inl (inr (inl (f above here)))
  | inr over ↦ inl (inl over)
]
placed_moved w low kept m slot A B up f (inr (inr far)) = inr far.1

-- a message of the own cluster and of view 0, or of another
both_or_none : (a b c : ℕ) (A : Type 0) (kept : List Message) (m : Message) → (a ≡ b → c ≡ 0 → A ⊎ In m kept) → (a ≡ b → c ≡ 0 → A) ⊎ In m kept
both_or_none a b c A kept m f = elim (cases_eq a b) [
  | inr other ↦ inl (λ p q. absurd (other p))
  | inl same ↦ elim (cases_eq c 0) [
    | inr later ↦ inl (λ p q. absurd (later q))
    | inl zero_is ↦ elim (f same zero_is) [ inl x ↦ inl (λ p q. x) | inr k ↦ inr k ]
  ]
]

heeded_moved : (r : Roster) (me : ReplicaId) (w : Window Vote) (low : ℕ) (kept : List Message) (waiting : List Request) (last : List ℕ) (c : Checkpoints)
    (m : Message) → w.low ≤ low → IsHeeded r me w kept waiting last c m → IsHeeded r me (moved_to w low) [] waiting last (pruned c low) m ⊎ In m kept
heeded_moved r me w low kept waiting last c (Message.PrePrepare p) up h =
    both_or_none p.signer.cluster me.cluster p.view _ kept (Message.PrePrepare p)
    (λ mine zero_is. placed_moved w low kept (Message.PrePrepare p) p.slot _ _ up (λ above s. stands (λ t. t.proposal) w low p.slot up above s) (h mine zero_is))
heeded_moved r me w low kept waiting last c (Message.Prepare v) up h =
    both_or_none v.signer.cluster me.cluster v.view _ kept (Message.Prepare v)
    (λ mine zero_is. placed_moved w low kept (Message.Prepare v) v.slot _ _ up (λ above s. stands (λ t. value_of t.prepares v.signer.index) w low v.slot up above s) (h mine zero_is))
heeded_moved r me w low kept waiting last c (Message.Commit v) up h =
    both_or_none v.signer.cluster me.cluster v.view _ kept (Message.Commit v)
    (λ mine zero_is. placed_moved w low kept (Message.Commit v) v.slot _ _ up (λ above s. stands (λ t. value_of t.commits v.signer.index) w low v.slot up above s) (h mine zero_is))
heeded_moved r me w low kept waiting last c (Message.Checkpoint v) up h =
    inl (heeded_counting r me w kept waiting last c (pruned c low) (Message.Checkpoint v) (omega arith) (λ x k. still x k) h)
  where
    still : (x : StableVote) → In x c.votes → (x.round ≤ max c.low low) ⊎ In x (pruned c low).votes
    still x k = elim (cases_lt (max c.low low) x.round) [
      | inl above ↦ inr (in_filter (λ v. nat_lt (max c.low low) v.round) x c.votes k (is_below (max c.low low) x.round above))
      | inr over ↦ inl over
    ]
heeded_moved r me w low kept waiting last c m up h = inl h

-- the mark moved, and what was kept is to be considered
after_move_heeded : (r : Roster) (me : ReplicaId) (l : Local) (low : ℕ) (formed : List CommitCert) (full : List Entry) → l.slots.low ≤ low → low ≤ l.executed
    → AreHeeded r me l formed full [] → AreHeeded r me (after_move l low) formed full l.kept
after_move_heeded r me l low formed full up done all = record {
  calm = record { view_is = all.calm.view_is; calm = all.calm.calm; low_upto = done };
  heeded = λ m h. (elim (all.heeded m h) [
    | inl old ↦ heeded_moved r me l.slots low l.kept l.waiting l.last l.checkpoints m up old
    | inr none ↦ absurd none
  ]);
  voted = voted_moved me l.slots low formed full up all.voted;
  proposed = record {
    each = λ s from upto. (elim (cases_lt low s) [
      | inr over ↦ inl over
      | inl above ↦ elim (all.proposed.each s from (omega (arith, upto, above))) [
        | inl old ↦ inl (omega (arith, old, up))
        | inr put ↦ inr put
      ]
    ]);
    below = λ p h. omega (arith, all.proposed.below p h);
  };
  marked = all.marked;
}

-- ---- messages are considered again

formed_by-append : (formed : List CommitCert) (a b : List Out) → formed_by formed (a ++ b) ≡ formed_by (formed_by formed a) b
formed_by-append formed [] b = refl
formed_by-append formed (Out.Put item ∷ rest) b = formed_by-append formed rest b
formed_by-append formed (Out.Clear ∷ rest) b = formed_by-append formed rest b
formed_by-append formed (Out.Entered base ∷ rest) b = formed_by-append formed rest b
formed_by-append formed (Out.Certified k ∷ rest) b = formed_by-append (k ∷ formed) rest b

-- what holds in between
record IsBetween (r : Roster) (me : ReplicaId) (t : Told) (formed : List CommitCert) (full : List Entry) (rest : List Message) : Type 0 where
  rules : KeepsRules r me (after_puts me full t.outs)
  local : AreLocal r me t.local (after_puts me full t.outs)
  of : IsHeededOf r me t.local t.outs formed full rest

again_heeded : (r : Roster) (me : ReplicaId) (t : Told) (messages : List Message) (formed : List CommitCert) (full : List Entry) → IsMember r me
    → ((m : Message) → In m messages → In (Heard m) full) → IsBetween r me t formed full messages
    → IsHeededOf r me (heard_again r me t messages).local (heard_again r me t messages).outs formed full []
again_heeded r me t [] formed full member heard b = b.of
again_heeded r me t (m ∷ rest) formed full member heard b =
    let mid = after_puts me full t.outs in
    let so_far = formed_by formed t.outs in
    let now = hear r me t.local m in
    let here = puts_hear me full t.outs m (heard m (inl refl)) in
    let kept = hear_keeps r me t.local m mid member b.rules b.local here in
    let next = hear_heeded r me t.local m so_far mid rest member b.local here b.of.are in
    let same = sym (after_puts-append me full t.outs now.outs) in
    let grown = sym (formed_by-append formed t.outs now.outs) in
    again_heeded r me (record { answer = t.answer; local = now.local; outs = t.outs ++ now.outs }) rest formed full member (λ x h. heard x (inr h)) (record {
      rules = subst (KeepsRules r me) same kept.told.rules;
      local = subst (AreLocal r me now.local) same kept.told.local;
      of = record {
        are = subst (λ f. AreHeeded r me now.local (formed_by formed (t.outs ++ now.outs)) f rest) same
            (subst (λ k. AreHeeded r me now.local k (after_puts me mid now.outs) rest) grown next.are);
        fine = λ o h. (elim (in_append_cases o t.outs now.outs h) [ inl a ↦ b.of.fine o a | inr c ↦ fine_more r me mid full o (λ x k. (alike_puts me full t.outs).heard x k) (next.fine o c) ]);
      };
    })

-- ---- a Checkpoint is put

voted_heeded : (r : Roster) (me : ReplicaId) (l : Local) (d : Due) (rest : List Due) (formed : List CommitCert) (full : List Entry) → l.due ≡ d ∷ rest
    → AreHeeded r me l formed full [] → IsHeededOf r me (voted r me l d rest).local (voted r me l d rest).outs formed full []
voted_heeded r me l d rest formed full first all =
    let m = Message.Checkpoint (checkpoint_of me d) in
    let more = Said m ∷ full in
    let alike = alike_saying full (m ∷ []) in
    let now : Local = record l { due = rest } in
    heeded_put r me now m [] formed full [] (own me) tt tt (told_none r me now formed more [] (record {
      calm = record { view_is = all.calm.view_is; calm = all.calm.calm; low_upto = all.calm.low_upto };
      heeded = λ x h. all.heeded x (alike.heard x h);
      voted = voted_alike me l.slots formed full more alike.said all.voted;
      proposed = proposed_alike me l.slots.low l.next l.proposed full more alike.said all.proposed;
      marked = λ round from upto met. (elim (all.marked round from upto met) [
        | inr put ↦ inr (record { vote = put.vote; said = inr put.said; round_is = put.round_is; signer_is = put.signer_is })
        | inl due ↦ by round due.one (subst (In due.one) first due.inside) due.round_is
      ]);
    }))
  where
    by : (round : ℕ) (x : Due) → In x (d ∷ rest) → x.round ≡ round → IsDueFor rest round ⊎ IsMarked me (Said (Message.Checkpoint (checkpoint_of me d)) ∷ full) round
    by round x (inl same) e = inr (record { vote = checkpoint_of me d; said = inl refl; round_is = ap (λ y. y.round) same ∙ e; signer_is = refl })
    by round x (inr later) e = inl (record { one = x; inside = later; round_is = e })

-- ---- the event

-- the state after the mark moved, before anything is considered again: it is what a move comes to where nothing is kept
moved_are : (r : Roster) (me : ReplicaId) (l : Local) (n : ℕ) (full : List Entry) → IsMember r me → KeepsRules r me full → AreLocal r me l full
    → l.due ≡ [] → greatest (stable_rounds l) ≡ suc n → AreLocal r me (after_move l (suc n)) full
moved_are r me l n full member rules are none e =
    let bare : Local = record l { kept = [] } in
    let state = state_beside r me l l.next l.proposed l.waiting l.last l.executed [] (omega arith) (omega arith) are.is.executed_fits are.is.waiting (λ m h. absurd h) are.is in
    let local : AreLocal r me bare full = local_beside r me l l.next l.proposed l.waiting l.last l.executed [] l.due full (omega arith) (omega arith) (λ d h. inl h) state
    are.heard.requests (λ m h. absurd h) are in
    let told = (checkpoint_keeps r me bare full member rules local).told.local in
    let nothing_due = subst (λ dues. AreLocal r me (checkpoint_by r me bare dues).local (after_puts me full (checkpoint_by r me bare dues).outs)) none told in
    subst (λ low. AreLocal r me (move_to r me bare low).local (after_puts me full (move_to r me bare low).outs)) e nothing_due

pub checkpoint_heeded : (r : Roster) (me : ReplicaId) (l : Local) (formed : List CommitCert) (full : List Entry) → IsMember r me → KeepsRules r me full
    → AreLocal r me l full → AreHeeded r me l formed full [] → IsHeededOf r me (checkpoint r me l).local (checkpoint r me l).outs formed full []
checkpoint_heeded r me l formed full member rules are all = by l.due refl
  where
    move : (n : ℕ) → greatest (stable_rounds l) ≡ n → l.due ≡ [] → IsHeededOf r me (move_to r me l n).local (move_to r me l n).outs formed full []
    move zero e none = told_none r me l formed full [] all
    move (suc n) e none =
        let to = is_move_to l n e in
        let up : l.slots.low ≤ suc n = omega (arith, to.above) in
        again_heeded r me (record { answer = Answer.Moved (suc n); local = after_move l (suc n); outs = [] }) l.kept formed full member are.heard.messages (record {
          rules = rules;
          local = moved_are r me l n full member rules are none e;
          of = told_none r me (after_move l (suc n)) formed full l.kept (after_move_heeded r me l (suc n) formed full up to.done all);
        })

    by : (dues : List Due) → l.due ≡ dues → IsHeededOf r me (checkpoint_by r me l dues).local (checkpoint_by r me l dues).outs formed full []
    by [] e = move (greatest (stable_rounds l)) refl e
    by (d ∷ rest) e = voted_heeded r me l d rest formed full e all
