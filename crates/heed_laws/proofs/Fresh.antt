-- What waits hasn't taken effect.
use Rattle.std.proofs.Common.{◌≡◌, ℕ, zero, suc, ◌<◌, Bool, true, false, not, cond, nat_eq, nat_le, nat_lt, List, [], ◌∷◌, take, length, Option, Some, None, Result, Ok, Err, inl, inr, refl, sym, subst, arith}
use Rattle.std.specs.Prelude.{slice_index}
use Rattle.std.proofs.lemmas.Bool.Decides.{nat_tests}
use Rattle.fab_base.specs.Limits.{Roster}
use Rattle.fab_base.specs.Roster.{home_of}
use Rattle.fab_base.specs.declared.ids.ReplicaId.{ReplicaId}
use Rattle.fab_base.specs.declared.ids.Hash32.{Hash32}
use Rattle.fab_base.specs.declared.requests.Request.{Request}
use Rattle.fab_base.specs.declared.messages.Vote.{Vote}
use Rattle.fab_base.specs.declared.messages.Message.{Message}
use Rattle.fab_base.specs.declared.answers.Answer.{Answer}
use Rattle.fab_base.specs.declared.answers.Item.{Item}
use Rattle.fab_base.specs.declared.answers.Take.{Take}
use Rattle.fab_base.proofs.Tests.{below}
use Rattle.fab_rules.specs.declared.blocks.Block.{Block}
use Rattle.fab_rules.specs.Digests.{batch_digest}
use Rattle.fab_rules.specs.Ledger.{RunBlock}
use Rattle.fab_rules.specs.Lists.{In, greatest}
use Rattle.fab_rules.proofs.Lists.{of_filter}
use Rattle.pbft_slots.specs.Window.{Window, after_pre_prepare, after_prepare, after_commit, pre_prepare_answer, prepare_answer, commit_answer}
use Rattle.checkpoint_core.specs.Checkpoints.{vote_answer, after_vote}
use Rattle.fab_machine.specs.State.{Due, Local, Replica, Stepped, fresh}
use Rattle.fab_machine.specs.Voting.{Told, unmoved, newly_prepared, keep_prepared, after_count, vote_refusal, proposal_told, prepare_told, commit_told, proposal_by, prepare_by, commit_by}
use Rattle.fab_machine.specs.Requests.{wait_answer, waiting_of, request_answer, waiting_by}
use Rattle.fab_machine.specs.Hearing.{hear}
use Rattle.fab_machine.specs.Proposing.{eligible, proposed, propose}
use Rattle.fab_machine.specs.Checkpointing.{stable_rounds, after_move, move_to, checkpoint_by, checkpoint}
use Rattle.fab_machine.specs.Serving.{stamps_after}
use Rattle.fab_machine.specs.Rounds.{knows_others, next_round, with_round}
use Rattle.fab_machine.specs.Joining.{after_told}
use Rattle.fab_machine.specs.Step.{Event, emit_step, own_block, after_noting, execute_step, step}
use Rattle.fab_machine.specs.Diaries.{state_from}
use Rattle.fab_machine.proofs.CheckpointStates.{again_keeps}
use Rattle.fab_machine.proofs.States.{propose_cases}
use Rattle.fab_machine.proofs.Waiting.{in_with}
use Rattle.heed_laws.specs.Heeding.{IsPlain, AreAbove}
use Rattle.heed_laws.specs.Laws.{AboveLaw}
use Rattle.heed_laws.proofs.Stepping.{hear_plain}
use Rattle.heed_laws.proofs.Working.{outs_local}

module _ (r : Roster) (me : ReplicaId) (l : Local) (fresh_l : AreAbove l) where
  count_above : (now : Window Vote) (slot : ℕ) → AreAbove (after_count l now slot)
  count_above now slot = go (newly_prepared l now slot)
    where
      go : (o : Option Hash32) → AreAbove (keep_prepared (record l { slots = now }) slot o)
      go None = fresh_l
      go (Some d) = fresh_l

  -- a request that is taken is above
  asked_above : (x : Request) → AreAbove (record l { waiting = waiting_by (request_answer r me l x) l.waiting x })
  asked_above x = by (nat_eq (home_of r x.client) me.cluster) (nat_le x.stamp (slice_index l.last x.client.number)) refl
    where
      over : (a b : ℕ) → nat_le a b ≡ false → b < a
      over a b h = grind (arith, nat_tests)

      kept : (how : Take) → slice_index l.last x.client.number < x.stamp → AreAbove (record l { waiting = waiting_by how l.waiting x })
      kept Take.Taken above y h = elim (in_with l.waiting x y h) [
        | inl e ↦ subst (λ (z : Request). slice_index l.last z.client.number < z.stamp) e above
        | inr old ↦ fresh_l y old
      ]
      kept Take.Stray above y h = fresh_l y h
      kept (Take.Old low) above y h = fresh_l y h
      kept (Take.Far high) above y h = fresh_l y h
      kept (Take.Ahead view) above y h = fresh_l y h
      kept (Take.OtherView view) above y h = fresh_l y h
      kept Take.Twice above y h = fresh_l y h
      kept (Take.Conflict d) above y h = fresh_l y h
      kept (Take.Past stamp) above y h = fresh_l y h

      by : (a b : Bool) → nat_le x.stamp (slice_index l.last x.client.number) ≡ b
          → AreAbove (record l { waiting = waiting_by (cond (not a) Take.Stray (cond b (Take.Past x.stamp) (wait_answer (waiting_of l.waiting x.client.number x.stamp) x))) l.waiting x })
      by false b e = fresh_l
      by true true e = fresh_l
      by true false e = kept (wait_answer (waiting_of l.waiting x.client.number x.stamp) x) (over x.stamp (slice_index l.last x.client.number) e)

  hear_above : (m : Message) → AreAbove (hear r me l m).local
  hear_above (Message.Request x) = asked_above x
  hear_above (Message.PrePrepare p) = go (vote_refusal me l p.signer.cluster p.view p.slot)
    where
      by : (how : Take) → AreAbove (proposal_told r me l p how).local
      by Take.Taken = count_above (after_pre_prepare l.slots p.slot (record { digest = batch_digest p.batch; batch = p.batch })) p.slot
      by how = fresh_l

      go : (o : Option Take) → AreAbove (proposal_by r me l p o).local
      go (Some how) = fresh_l
      go None = by (pre_prepare_answer l.slots p.slot (batch_digest p.batch))
  hear_above (Message.Prepare v) = go (vote_refusal me l v.signer.cluster v.view v.slot)
    where
      by : (how : Take) → AreAbove (prepare_told r me l v how).local
      by Take.Taken = count_above (after_prepare l.slots v.signer.index v.slot (record { digest = v.digest; kept = v })) v.slot
      by how = fresh_l

      go : (o : Option Take) → AreAbove (prepare_by r me l v o).local
      go (Some how) = fresh_l
      go None = by (prepare_answer l.slots v.signer.index v.slot v.digest)
  hear_above (Message.Commit v) = go (vote_refusal me l v.signer.cluster v.view v.slot)
    where
      by : (how : Take) → AreAbove (commit_told r me l v how).local
      by Take.Taken = count_above (after_commit l.slots v.signer.index v.slot (record { digest = v.digest; kept = v })) v.slot
      by how = fresh_l

      go : (o : Option Take) → AreAbove (commit_by r me l v o).local
      go (Some how) = fresh_l
      go None = by (commit_answer l.slots v.signer.index v.slot v.digest)
  hear_above (Message.Checkpoint v) = go (nat_eq v.signer.cluster me.cluster)
    where
      go : (b : Bool) → AreAbove (cond (not b) (unmoved l (Answer.Heard Take.Stray))
          (record { answer = Answer.Heard (vote_answer l.checkpoints v); local = record l { checkpoints = after_vote l.checkpoints v }; outs = [] })).local
      go true = fresh_l
      go false = fresh_l
  hear_above m = fresh_l

checkpoint_above : (r : Roster) (me : ReplicaId) (l : Local) → AreAbove l → AreAbove (checkpoint r me l).local
checkpoint_above r me l h = by l.due
  where
    to : (n : ℕ) → AreAbove (move_to r me l n).local
    to zero = h
    to (suc n) =
        let start : Told = record { answer = Answer.Moved (suc n); local = after_move l (suc n); outs = [] } in
        again_keeps (λ (x : Told). AreAbove x.local) r me l.kept start (λ x m i is. hear_above r me x.local is m) h

    by : (due : List Due) → AreAbove (checkpoint_by r me l due).local
    by [] = to (greatest (stable_rounds l))
    by (d ∷ rest) = h

told_above : (r : Roster) (me : ReplicaId) (s : Replica) (t : Told) → AreAbove t.local → AreAbove (after_told r me s t).state.local
told_above r me s t h = subst (λ (l : Local). AreAbove l) (sym (outs_local r me (record s { local = t.local }) t.outs)) h

propose_above : (r : Roster) (me : ReplicaId) (s : Replica) (nudged known : Bool) → AreAbove s.local → AreAbove (after_told r me s (propose r me s.local nudged known)).state.local
propose_above r me s nudged known h =
    propose_cases (λ t. AreAbove (after_told r me s t).state.local) r me s.local nudged known (λ a. h)
    (λ room. told_above r me s (proposed r me s.local (take r.batch (eligible s.local))) h)

execute_above : (r : Roster) (me : ReplicaId) (s : Replica) (o : Result (List Block) ℕ) → AreAbove s.local → AreAbove (execute_step r me s o).state.local
execute_above r me s (Err missing) h = h
execute_above r me s (Ok blocks) h = go (own_block r me (with_round s.rounds blocks))
  where
    go : (b : Option RunBlock) → AreAbove (after_noting r me s (with_round s.rounds blocks) b).local
    go None = h
    go (Some ran) = λ x i.
        (let last = stamps_after s.local.last ran.block.batch ran.outcomes in
        below (slice_index last x.client.number) x.stamp
        (of_filter (λ (y : Request). nat_lt (slice_index last y.client.number) y.stamp) x s.local.waiting i).1)

step_above : (r : Roster) (me : ReplicaId) (s : Replica) (e : Event) → IsPlain e → AreAbove s.local → AreAbove (step r me s e).state.local
step_above r me s (Event.Hear m) plain h =
    subst (λ (t : Stepped). AreAbove t.state.local) (sym (hear_plain r me s m plain)) (told_above r me s (hear r me s.local m) (hear_above r me s.local h m))
step_above r me s Event.Batch plain h = propose_above r me s false (knows_others me.cluster s.rounds.certificates s.local.next) h
step_above r me s Event.Nudge plain h = propose_above r me s true (knows_others me.cluster s.rounds.certificates s.local.next) h
step_above r me s (Event.Emit sig) plain h = go s.outbox
  where
    go : (o : List Item) → AreAbove (emit_step me s sig o).state.local
    go [] = h
    go (x ∷ rest) = h
step_above r me s Event.Execute plain h = execute_above r me s (next_round (length r.sizes) s.rounds) h
step_above r me s Event.Checkpoint plain h = told_above r me s (checkpoint r me s.local) (checkpoint_above r me s.local h)
step_above r me s Event.Timeout plain h = absurd plain

above_from : (r : Roster) (me : ReplicaId) (s : Replica) (events : List Event) → ((e : Event) → In e events → IsPlain e) → AreAbove s.local
    → AreAbove (state_from r me s events).local
above_from r me s [] plain h = h
above_from r me s (e ∷ rest) plain h = above_from r me (step r me s e).state rest (λ x i. plain x (inr i)) (step_above r me s e (plain e (inl refl)) h)

pub above : AboveLaw
above r me events plain = above_from r me (fresh r me) events plain (λ x i. absurd i)
