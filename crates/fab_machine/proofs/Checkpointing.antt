-- A Checkpoint that is put, and a low mark that moves, keep the relation; and so do the messages that are considered again.
use Rattle.std.proofs.Common.{◌≡◌, ℕ, zero, suc, ◌<◌, ◌≤◌, true, List, [], ◌∷◌, ◌++◌, length, Option, Some, None, inl, inr, refl, sym, subst, ◌∙◌, arith}
use Rattle.std.specs.Option.{IsSome}
use Rattle.fab_base.specs.Limits.{Roster}
use Rattle.fab_base.specs.declared.ids.Hash32.{Hash32}
use Rattle.fab_base.specs.declared.ids.ReplicaId.{ReplicaId}
use Rattle.fab_base.specs.declared.messages.Message.{Message}
use Rattle.fab_base.specs.declared.answers.Answer.{Answer}
use Rattle.fab_rules.specs.Lists.{In, greatest}
use Rattle.fab_rules.specs.Diary.{Entry, Heard, Said}
use Rattle.fab_rules.specs.Rules.{KeepsRules, MaySay}
use Rattle.fab_rules.specs.Growth.{after_saying}
use Rattle.fab_rules.proofs.Lists.{of_filter, in_append_cases}
use Rattle.pbft_slots.specs.Window.{moved_to}
use Rattle.checkpoint_core.specs.Checkpoints.{stable, proof_of}
use Rattle.fab_machine.specs.State.{Due, Local, wanted}
use Rattle.fab_rules.specs.Statements.{signer_of}
use Rattle.fab_machine.specs.Items.{is_own, statements_by}
use Rattle.fab_machine.specs.Voting.{Told}
use Rattle.fab_machine.specs.Hearing.{hear}
use Rattle.fab_machine.specs.Checkpointing.{checkpoint_of, voted, stable_rounds, votes_or_none, after_move, heard_again, moved, next_due, move_to, checkpoint_by, checkpoint}
use Rattle.fab_machine.specs.LocalState.{AreAbove, AreMarked}
use Rattle.fab_machine.specs.Relation.{IsProof, IsOfView, IsNotedCheckpoint, AreReported, AreLocal, IsBacked, after_puts}
use Rattle.fab_machine.specs.declared.outs.Out.{Out}
use Rattle.fab_machine.proofs.Members.{IsMember}
use Rattle.fab_machine.proofs.Moving.{moved_window, certificate_before}
use Rattle.fab_machine.proofs.Noting.{is_some_by, noted_moved}
use Rattle.fab_machine.proofs.MoreHeard.{backed_more}
use Rattle.fab_machine.proofs.Shaping.{shaped_checkpoint}
use Rattle.fab_machine.proofs.Marking.{marked_put, IsMoveTo, is_move_to}
use Rattle.fab_machine.proofs.Proving.{stable_proof}
use Rattle.fab_machine.proofs.States.{state_marked}
use Rattle.fab_machine.proofs.CheckpointStates.{after_move_state}
use Rattle.fab_machine.proofs.Locals.{local_beside, local_said, checkpoint_quotes}
use Rattle.fab_machine.proofs.Telling.{IsToldOf, told_nothing, unmoved_told, own, told_put}
use Rattle.fab_machine.proofs.Hearing.{hear_keeps}
use Rattle.fab_machine.proofs.Stepping.{puts_hear}

-- ---- a Checkpoint is put

checkpoint_may : (r : Roster) (me : ReplicaId) (l : Local) (d : Due) (rest : List Due) (full : List Entry) → IsMember r me → l.due ≡ d ∷ rest
    → AreLocal r me l full → MaySay r me full (Message.Checkpoint (checkpoint_of me d))
checkpoint_may r me l d rest full member first are =
    let here : In d l.due = subst (In d) (sym first) (inl refl) in
    let due = are.due d here in
    let above = subst (AreAbove l.slots.low) first are.is.marked.rise in
    record {
      one_vote = tt;
      prepare_rule = tt;
      commit_rule = tt;
      views_rise = tt;
      change_reports = tt;
      primary_only = tt;
      checkpoint_rule = record {
        once = λ other h e. (let noted = are.noted (Message.Checkpoint other) h in omega (arith, noted.past d here, e));
        due = due.met;
        done = due.done;
        chain_is = due.chain_is;
      };
      note_rule = tt;
      remote_quorum = tt;
      shaped_speech = shaped_checkpoint r me d member (omega (arith, above.0)) (omega (arith, are.is.marked.upto d here, are.is.executed_fits))
          (are.is.marked.fits d here);
    }

-- each of those behind is above
above_each : (low : ℕ) (dues : List Due) → AreAbove low dues → (d : Due) → In d dues → low < d.round
above_each low [] above d none = absurd none
above_each low (x ∷ rest) above d (inl e) = subst (λ y. low < y.round) e above.0
above_each low (x ∷ rest) above d (inr h) = omega (arith, above.0, above_each x.round rest above.1 d h)

voted_keeps : (r : Roster) (me : ReplicaId) (l : Local) (d : Due) (rest : List Due) (full : List Entry) → IsMember r me → KeepsRules r me full
    → l.due ≡ d ∷ rest → AreLocal r me l full → IsToldOf r me l (voted r me l d rest) full
voted_keeps r me l d rest full member rules first are =
    let x = checkpoint_of me d in
    let m = Message.Checkpoint x in
    let now : Local = record l { due = rest } in
    let here : In d l.due = subst (In d) (sym first) (inl refl) in
    let above = subst (AreAbove l.slots.low) first are.is.marked.rise in
    let may = checkpoint_may r me l d rest full member first are in
    let marked = marked_put r me l.slots.low l.executed l.checkpoints d rest (subst (AreMarked r me l.slots.low l.executed l.checkpoints) first are.is.marked) in
    let at = local_beside r me l l.next l.proposed l.waiting l.last l.executed l.kept rest full (omega arith) (omega arith)
    (λ k h. inl (subst (In k) (sym first) (inr h))) (state_marked r me l l.checkpoints rest marked are.is) are.heard.requests are.heard.messages are in
    let noted : IsNotedCheckpoint now x = record { done = are.is.marked.upto d here; past = λ k h. above_each d.round rest above.1 k h } in
    let said = local_said r me now m full (checkpoint_quotes full x) noted at in
    record {
      told = told_put r me now m [] full (own me) tt (told_nothing r me now (Said m ∷ full) (may, rules) said);
      still = record { view_is = refl; wanted_is = refl; executed_is = refl; last_is = refl };
    }

-- ---- the low mark moves

reported_moved : (r : Roster) (me : ReplicaId) (l : Local) (low : ℕ) (full : List Entry) → l.slots.low ≤ low → length l.prepared ≡ length l.slots.slots
    → AreReported r me l.view l.slots l.prepared full → AreReported r me l.view (moved_to l.slots low) (after_move l low).prepared full
reported_moved r me l low full up places old s k h = old s k (certificate_before l.slots low l.prepared s k up places h)

-- the stable round has its proof
proof_there : (r : Roster) (me : ReplicaId) (l : Local) (low : ℕ) (digest : Hash32) (full : List Entry) → stable l.checkpoints low ≡ Some digest
    → AreLocal r me l full → IsProof r me low (votes_or_none (proof_of l.checkpoints low)) full
proof_there r me l low digest full is are =
    let p = stable_proof r me l.slots.low l.executed low l.checkpoints l.due digest is are.is.marked in
    record {
      digest = digest;
      count = p.count;
      rises = p.rises;
      heard = λ v h. record { message = Message.Checkpoint v; heard = are.heard.checkpoints v (p.counts v h); inside = inl refl };
      own = p.own;
      agree = p.agree;
    }

moved_local : (r : Roster) (me : ReplicaId) (l : Local) (low : ℕ) (digest : Hash32) (full : List Entry) → IsMoveTo l low → l.due ≡ []
    → stable l.checkpoints low ≡ Some digest → AreLocal r me l full → AreLocal r me (after_move l low) full
moved_local r me l low digest full to none is are =
    let up : l.slots.low ≤ low = omega (arith, to.above) in
    let moves = moved_window l.slots low are.is.opened.window up in
    let h = are.heard in
    record {
      is = after_move_state r me l low none to are.is;
      shaped = are.shaped;
      heard = record {
        proposals = λ slot p e. h.proposals slot p (moves.proposals slot p e);
        prepares = λ slot sender c e. h.prepares slot sender c (moves.prepares slot sender c e);
        commits = λ slot sender c e. h.commits slot sender c (moves.commits slot sender c e);
        requests = h.requests;
        messages = λ m q. absurd q;
        checkpoints = λ v q. h.checkpoints v (of_filter _ v l.checkpoints.votes q).0;
      };
      reported = reported_moved r me l low full up are.is.opened.places are.reported;
      quoted = are.quoted;
      noted = λ m q. noted_moved l low m up are.is.opened.places moves (are.noted m q);
      entered = λ e. (let n = are.entered e in record {
        new_view = n.new_view;
        is_first = n.is_first;
        base_is = omega (arith, n.base_is, up);
        filled = λ s a b. is_some_by _ _ (λ p q. moves.stays s p a q) (n.filled s (omega (arith, a, up)) b);
      });
      due = are.due;
      proven = λ e. proof_there r me l low digest full is are;
    }

-- ---- messages are considered again

-- what is told is still the answer
pub again_answer : (r : Roster) (me : ReplicaId) (t : Told) (messages : List Message) → (heard_again r me t messages).answer ≡ t.answer
again_answer r me t [] = refl
again_answer r me t (m ∷ rest) =
    let now = hear r me t.local m in
    again_answer r me (record { answer = t.answer; local = now.local; outs = t.outs ++ now.outs }) rest

pub after_puts-append : (me : ReplicaId) (full : List Entry) (a b : List Out) → after_puts me full (a ++ b) ≡ after_puts me (after_puts me full a) b
after_puts-append me full [] b = refl
after_puts-append me full (Out.Put item ∷ rest) b = after_puts-append me (after_saying full (statements_by me item.message)) rest b
after_puts-append me full (Out.Clear ∷ rest) b = after_puts-append me full rest b
after_puts-append me full (Out.Certified k ∷ rest) b = after_puts-append me full rest b
after_puts-append me full (Out.Entered base ∷ rest) b = after_puts-append me full rest b

-- one after another, where what came of the first is followed by what came of the second
pub told_both : (r : Roster) (me : ReplicaId) (old : Local) (t now : Told) (answer : Answer) (full : List Entry) → IsToldOf r me old t full
    → IsToldOf r me t.local now (after_puts me full t.outs)
    → IsToldOf r me old (record { answer = answer; local = now.local; outs = t.outs ++ now.outs }) full
told_both r me old t now answer full first second =
    let mid = after_puts me full t.outs in
    let same = sym (after_puts-append me full t.outs now.outs) in
    record {
      told = record {
        rules = subst (KeepsRules r me) same second.told.rules;
        local = subst (AreLocal r me now.local) same second.told.local;
        puts = λ item h. (elim (in_append_cases (Out.Put item) t.outs now.outs h) as (λ _. IsOfView (wanted now.local) item.message) [
          | inl a ↦ subst (λ v. IsOfView v item.message) (sym second.still.wanted_is) (first.told.puts item a)
          | inr b ↦ second.told.puts item b
        ]);
        own = λ item h. (elim (in_append_cases (Out.Put item) t.outs now.outs h) as (λ _. is_own me (signer_of item.message) ≡ true) [
          | inl a ↦ first.told.own item a
          | inr b ↦ second.told.own item b
        ]);
        backed = λ k h. subst (λ f. IsBacked r f k) same (elim (in_append_cases (Out.Certified k) t.outs now.outs h) as (λ _. IsBacked r (after_puts me mid now.outs) k) [
          | inl a ↦ backed_more r mid (after_puts me mid now.outs) k (puts_hear me mid now.outs) (first.told.backed k a)
          | inr b ↦ second.told.backed k b
        ]);
        plain = λ h. (elim (in_append_cases Out.Clear t.outs now.outs h) [ inl a ↦ first.told.plain a | inr b ↦ second.told.plain b ]);
      };
      still = record {
        view_is = second.still.view_is ∙ first.still.view_is;
        wanted_is = second.still.wanted_is ∙ first.still.wanted_is;
        executed_is = second.still.executed_is ∙ first.still.executed_is;
        last_is = second.still.last_is ∙ first.still.last_is;
      };
    }

pub again_keeps : (r : Roster) (me : ReplicaId) (old : Local) (t : Told) (messages : List Message) (full : List Entry) → IsMember r me → IsToldOf r me old t full
    → ((m : Message) → In m messages → In (Heard m) full) → IsToldOf r me old (heard_again r me t messages) full
again_keeps r me old t [] full member first heard = first
again_keeps r me old t (m ∷ rest) full member first heard =
    let mid = after_puts me full t.outs in
    let now = hear r me t.local m in
    let second = hear_keeps r me t.local m mid member first.told.rules first.told.local (puts_hear me full t.outs m (heard m (inl refl))) in
    again_keeps r me old (record { answer = t.answer; local = now.local; outs = t.outs ++ now.outs }) rest full member
    (told_both r me old t now t.answer full first second) (λ x h. heard x (inr h))

moved_keeps : (r : Roster) (me : ReplicaId) (l : Local) (low : ℕ) (digest : Hash32) (full : List Entry) → IsMember r me → KeepsRules r me full
    → IsMoveTo l low → l.due ≡ [] → stable l.checkpoints low ≡ Some digest → AreLocal r me l full
    → IsToldOf r me l (moved r me l low) full
moved_keeps r me l low digest full member rules to none is are =
    let at = moved_local r me l low digest full to none is are in
    again_keeps r me l (record { answer = Answer.Moved low; local = after_move l low; outs = [] }) l.kept full member
    (record { told = told_nothing r me (after_move l low) full rules at; still = record { view_is = refl; wanted_is = refl; executed_is = refl; last_is = refl } })
    are.heard.messages

-- ---- the event

pub checkpoint_keeps : (r : Roster) (me : ReplicaId) (l : Local) (full : List Entry) → IsMember r me → KeepsRules r me full → AreLocal r me l full
    → IsToldOf r me l (checkpoint r me l) full
checkpoint_keeps r me l full member rules are = by l.due refl
  where
    with_digest : (low : ℕ) → IsMoveTo l low → (o : Option Hash32) → stable l.checkpoints low ≡ o → IsSome o → l.due ≡ [] → IsToldOf r me l (moved r me l low) full
    with_digest low to None e some none = cc
    with_digest low to (Some digest) e some none = moved_keeps r me l low digest full member rules to none e are

    move : (n : ℕ) → greatest (stable_rounds l) ≡ n → l.due ≡ [] → IsToldOf r me l (move_to r me l n) full
    move zero e none = unmoved_told r me l (Answer.NotDue (next_due r.interval l.executed)) full rules are
    move (suc n) e none =
        let to = is_move_to l n e in
        with_digest (suc n) to (stable l.checkpoints (suc n)) refl to.stable none

    by : (dues : List Due) → l.due ≡ dues → IsToldOf r me l (checkpoint_by r me l dues) full
    by [] e = move (greatest (stable_rounds l)) refl e
    by (d ∷ rest) e = voted_keeps r me l d rest full member rules e are
