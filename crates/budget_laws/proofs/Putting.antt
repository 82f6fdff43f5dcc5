-- What is proposed by an event: a Batch or a Nudge that makes an entry proposes one batch, and no other event proposes. No replica forms a
-- certificate of another cluster.
use Rattle.std.proofs.Common.{◌≡◌, ℕ, zero, suc, ◌%◌, nat_eq, nat_lt, Bool, true, false, cond, not, ◌&&◌, ◌||◌, List, [], ◌∷◌, ◌++◌, length, take, drop, append_assoc, Option, Some, None, Result, Ok, Err, inl, inr, refl, sym, ap, subst, ◌∙◌}
use Rattle.std.proofs.lemmas.List.{append-nil}
use Rattle.fab_base.specs.Limits.{Roster}
use Rattle.fab_base.specs.Roster.{size_of}
use Rattle.fab_base.specs.declared.limits.TheConstants.{GREATEST_NUMBER}
use Rattle.fab_base.specs.declared.ids.ReplicaId.{ReplicaId}
use Rattle.fab_base.specs.declared.ids.Hash32.{Hash32}
use Rattle.fab_base.specs.declared.requests.Request.{Request}
use Rattle.fab_base.specs.declared.messages.PrePrepare.{PrePrepare}
use Rattle.fab_base.specs.declared.messages.Vote.{Vote}
use Rattle.fab_base.specs.declared.messages.StableVote.{StableVote}
use Rattle.fab_base.specs.declared.messages.CommitCert.{CommitCert}
use Rattle.fab_base.specs.declared.messages.Message.{Message}
use Rattle.fab_base.specs.declared.answers.Answer.{Answer}
use Rattle.fab_base.specs.declared.answers.Item.{Item}
use Rattle.fab_base.specs.declared.answers.Take.{Take}
use Rattle.fab_rules.specs.declared.blocks.Block.{Block}
use Rattle.fab_rules.specs.Lists.{In, greatest}
use Rattle.fab_rules.specs.Digests.{batch_digest}
use Rattle.fab_rules.specs.Ledger.{RunBlock}
use Rattle.fab_rules.specs.Diary.{Entry, Heard, Said, Did}
use Rattle.fab_rules.specs.Growth.{after_saying}
use Rattle.fab_rules.specs.Shape.{is_primary}
use Rattle.fab_rules.specs.Statements.{signer_of, unsigned}
use Rattle.fab_rules.proofs.Lists.{in_append_cases}
use Rattle.fab_rules.proofs.Saying.{after_saying-both}
use Rattle.pbft_slots.specs.Window.{Window, high, pre_prepare_answer, prepare_answer, commit_answer}
use Rattle.fab_machine.specs.State.{Due, Local, Rounds, Replica, Stepped}
use Rattle.fab_machine.specs.Items.{is_own, vote_of, proposal_of, to_cluster, cluster_of, statements_by, statements_in}
use Rattle.fab_machine.specs.Voting.{Told, unmoved, commit_certificate, commit_outs, certified_outs, newly_prepared, newly_committed, outs_after, vote_refusal, proposal_told, prepare_told, commit_told, proposal_by, prepare_by, commit_by}
use Rattle.fab_machine.specs.Hearing.{hear, hear_checkpoint}
use Rattle.fab_machine.specs.Checkpointing.{stable_rounds, after_move, heard_again, move_to, checkpoint_by, checkpoint}
use Rattle.fab_machine.specs.Proposing.{eligible, proposed, is_due, propose_in}
use Rattle.fab_machine.specs.Rounds.{round_of, knows_others, keep_answer, next_round, with_round}
use Rattle.fab_machine.specs.Step.{Event, emit_step, makes_entry, note_item, after_noting, own_block, execute_step, propose_step, step}
use Rattle.fab_machine.specs.Joining.{after_out, after_outs, after_told}
use Rattle.fab_machine.specs.Sharing.{share_item, all_recipients, shared}
use Rattle.heed_laws.specs.Heeding.{IsPlain}
use Rattle.heed_laws.proofs.Stepping.{hear_plain}
use Rattle.std.proofs.lemmas.Grind.{flat_map-append}
use Rattle.fab_machine.specs.Diaries.{diary_sent, diary_did, diary_after}
use Rattle.fab_machine.specs.Relation.{full_of}
use Rattle.fab_machine.specs.declared.outs.Out.{Out}
use Rattle.fab_machine.proofs.States.{propose_cases}
use Rattle.fab_machine.proofs.Stepping.{full_put, kept_cases}
use Rattle.fab_machine.proofs.Telling.{own}
use Rattle.budget_laws.specs.Proposals.{batch_in, proposals_said}

-- ---- what is proposed in a diary

abbrev batches_in : List Message → List (List Request)
batches_in [] = []
batches_in (m ∷ rest) = batch_in m ++ batches_in rest

saying_proposals : (diary : List Entry) (items : List Message) → proposals_said (after_saying diary items) ≡ proposals_said diary ++ batches_in items
saying_proposals diary [] = sym (append-nil (proposals_said diary))
saying_proposals diary (m ∷ rest) = saying_proposals (Said m ∷ diary) rest ∙ append_assoc (proposals_said diary) (batch_in m) (batches_in rest)

did_proposals : (diary : List Entry) (blocks : List Block) → proposals_said (diary_did diary blocks) ≡ proposals_said diary
did_proposals diary [] = refl
did_proposals diary (b ∷ rest) = did_proposals (Did b ∷ diary) rest

-- diaries in which as much is proposed
same_proposals : (a b : List Entry) (items : List Message) → proposals_said a ≡ proposals_said b → proposals_said (after_saying a items) ≡ proposals_said (after_saying b items)
same_proposals a b items e = saying_proposals a items ∙ ap (λ p. p ++ batches_in items) e ∙ sym (saying_proposals b items)

bare_batch : (m : Message) → batch_in (unsigned m) ≡ batch_in m
bare_batch (Message.Request x) = refl
bare_batch (Message.PrePrepare x) = refl
bare_batch (Message.Prepare x) = refl
bare_batch (Message.Commit x) = refl
bare_batch (Message.Checkpoint x) = refl
bare_batch (Message.ViewChange x) = refl
bare_batch (Message.NewView x) = refl
bare_batch (Message.Drvc x) = refl
bare_batch (Message.Rvc x) = refl
bare_batch (Message.ReplyNote x) = refl
bare_batch (Message.Share x) = refl
bare_batch (Message.Fetch x) = refl

silent_item : (me : ReplicaId) (m : Message) → batch_in m ≡ [] → batches_in (statements_by me m) ≡ []
silent_item me m e = go (is_own me (signer_of m))
  where
    go : (b : Bool) → batches_in (cond b (unsigned m ∷ []) []) ≡ []
    go true = append-nil (batch_in (unsigned m)) ∙ (bare_batch m ∙ e)
    go false = refl

-- ---- what local ordering brings about but by a proposal

-- no proposal, and no certificate of another cluster
abbrev pub IsOut : ReplicaId → Out → Type 0
IsOut me (Out.Put item) = batch_in item.message ≡ []
IsOut me (Out.Certified k) = k.cluster ≡ me.cluster
IsOut me Out.Clear = ⊥
IsOut me (Out.Entered base) = ⊥

abbrev pub AreOuts : ReplicaId → List Out → Type 0
AreOuts me outs = (out : Out) → In out outs → IsOut me out

none_out : (me : ReplicaId) → AreOuts me []
none_out me out h = absurd h

first_out : (me : ReplicaId) (first : Out) (rest : List Out) → IsOut me first → AreOuts me rest → AreOuts me (first ∷ rest)
first_out me first rest it later out (inl e) = subst (IsOut me) e it
first_out me first rest it later out (inr h) = later out h

both_outs : (me : ReplicaId) (a b : List Out) → AreOuts me a → AreOuts me b → AreOuts me (a ++ b)
both_outs me a b h k out i = elim (in_append_cases out a b i) [ inl p ↦ h out p | inr p ↦ k out p ]

module _ (r : Roster) (me : ReplicaId) where
  commit_out : (view slot : ℕ) (o : Option Hash32) → AreOuts me (commit_outs r me view slot o)
  commit_out view slot None = none_out me
  commit_out view slot (Some d) = first_out me (to_cluster r me (Message.Commit (vote_of me view slot d))) [] refl (none_out me)

  certified_out : (l : Local) (slot : ℕ) (o : Option Hash32) → AreOuts me (certified_outs me l slot o)
  certified_out l slot None = none_out me
  certified_out l slot (Some d) = first_out me (Out.Certified (commit_certificate me l slot d)) [] refl (none_out me)

  outs_are : (l : Local) (now : Window Vote) (slot : ℕ) → AreOuts me (outs_after r me l now slot)
  outs_are l now slot =
      both_outs me (commit_outs r me l.view slot (newly_prepared l now slot)) (certified_outs me (record l { slots = now }) slot (newly_committed l now slot))
      (commit_out l.view slot (newly_prepared l now slot)) (certified_out (record l { slots = now }) slot (newly_committed l now slot))

  proposal_out : (l : Local) (p : PrePrepare) (how : Take) → AreOuts me (proposal_told r me l p how).outs
  proposal_out l p Take.Taken = first_out me (to_cluster r me (Message.Prepare (vote_of me l.view p.slot (batch_digest p.batch)))) _ refl (outs_are l _ p.slot)
  proposal_out l p Take.Stray = none_out me
  proposal_out l p (Take.Old low) = none_out me
  proposal_out l p (Take.Far high) = none_out me
  proposal_out l p (Take.Ahead view) = none_out me
  proposal_out l p (Take.OtherView view) = none_out me
  proposal_out l p Take.Twice = none_out me
  proposal_out l p (Take.Conflict kept) = none_out me
  proposal_out l p (Take.Past at) = none_out me

  prepare_out : (l : Local) (v : Vote) (how : Take) → AreOuts me (prepare_told r me l v how).outs
  prepare_out l v Take.Taken = outs_are l _ v.slot
  prepare_out l v Take.Stray = none_out me
  prepare_out l v (Take.Old low) = none_out me
  prepare_out l v (Take.Far high) = none_out me
  prepare_out l v (Take.Ahead view) = none_out me
  prepare_out l v (Take.OtherView view) = none_out me
  prepare_out l v Take.Twice = none_out me
  prepare_out l v (Take.Conflict kept) = none_out me
  prepare_out l v (Take.Past at) = none_out me

  commit_told_out : (l : Local) (v : Vote) (how : Take) → AreOuts me (commit_told r me l v how).outs
  commit_told_out l v Take.Taken = outs_are l _ v.slot
  commit_told_out l v Take.Stray = none_out me
  commit_told_out l v (Take.Old low) = none_out me
  commit_told_out l v (Take.Far high) = none_out me
  commit_told_out l v (Take.Ahead view) = none_out me
  commit_told_out l v (Take.OtherView view) = none_out me
  commit_told_out l v Take.Twice = none_out me
  commit_told_out l v (Take.Conflict kept) = none_out me
  commit_told_out l v (Take.Past at) = none_out me

  heard_proposal : (l : Local) (p : PrePrepare) (o : Option Take) → AreOuts me (proposal_by r me l p o).outs
  heard_proposal l p (Some how) = none_out me
  heard_proposal l p None = proposal_out l p (pre_prepare_answer l.slots p.slot (batch_digest p.batch))

  heard_prepare : (l : Local) (v : Vote) (o : Option Take) → AreOuts me (prepare_by r me l v o).outs
  heard_prepare l v (Some how) = none_out me
  heard_prepare l v None = prepare_out l v (prepare_answer l.slots v.signer.index v.slot v.digest)

  heard_commit : (l : Local) (v : Vote) (o : Option Take) → AreOuts me (commit_by r me l v o).outs
  heard_commit l v (Some how) = none_out me
  heard_commit l v None = commit_told_out l v (commit_answer l.slots v.signer.index v.slot v.digest)

  heard_checkpoint : (l : Local) (v : StableVote) → AreOuts me (hear_checkpoint me l v).outs
  heard_checkpoint l v = go (nat_eq v.signer.cluster me.cluster) _ (none_out me)
    where
      go : (b : Bool) (counted : Told) → AreOuts me counted.outs → AreOuts me (cond (not b) (unmoved l (Answer.Heard Take.Stray)) counted).outs
      go true counted h = h
      go false counted h = none_out me

  pub heard_outs : (l : Local) (x : Message) → AreOuts me (hear r me l x).outs
  heard_outs l (Message.PrePrepare p) = heard_proposal l p (vote_refusal me l p.signer.cluster p.view p.slot)
  heard_outs l (Message.Prepare v) = heard_prepare l v (vote_refusal me l v.signer.cluster v.view v.slot)
  heard_outs l (Message.Commit v) = heard_commit l v (vote_refusal me l v.signer.cluster v.view v.slot)
  heard_outs l (Message.Request x) = none_out me
  heard_outs l (Message.Checkpoint x) = heard_checkpoint l x
  heard_outs l (Message.ViewChange x) = none_out me
  heard_outs l (Message.NewView x) = none_out me
  heard_outs l (Message.Drvc x) = none_out me
  heard_outs l (Message.Rvc x) = none_out me
  heard_outs l (Message.ReplyNote x) = none_out me
  heard_outs l (Message.Share x) = none_out me
  heard_outs l (Message.Fetch x) = none_out me

  again_outs : (t : Told) (messages : List Message) → AreOuts me t.outs → AreOuts me (heard_again r me t messages).outs
  again_outs t [] of = of
  again_outs t (m ∷ rest) of =
      let now = hear r me t.local m in
      again_outs (record { answer = t.answer; local = now.local; outs = t.outs ++ now.outs }) rest (both_outs me t.outs now.outs of (heard_outs t.local m))

  moved_outs : (l : Local) (low : ℕ) → AreOuts me (move_to r me l low).outs
  moved_outs l zero = none_out me
  moved_outs l (suc n) = again_outs (record { answer = Answer.Moved (suc n); local = after_move l (suc n); outs = [] }) l.kept (none_out me)

  pub marked_outs : (l : Local) (due : List Due) → AreOuts me (checkpoint_by r me l due).outs
  marked_outs l [] = moved_outs l (greatest (stable_rounds l))
  marked_outs l (d ∷ rest) = first_out me _ [] refl (none_out me)

-- ---- they propose nothing

-- a share says nothing
shared_silent : (r : Roster) (me : ReplicaId) (view : ℕ) (k : CommitCert) → statements_in me (shared r me view k) ≡ []
shared_silent r me view k = go (is_primary r me.cluster view me.index && nat_lt 1 (length r.sizes))
  where
    go : (b : Bool) → statements_in me (cond b (share_item k (all_recipients r me (round_of k)) ∷ []) []) ≡ []
    go true = refl
    go false = refl

pub full_certified : (r : Roster) (me : ReplicaId) (s : Replica) (diary : List Entry) (k : CommitCert)
    → full_of me (after_out r me s (Out.Certified k)) diary ≡ full_of me s diary
full_certified r me s diary k =
    ap (after_saying diary)
    (flat_map-append (λ i. statements_by me i.message) s.outbox (shared r me s.local.view k)
    ∙ (ap (λ l. statements_in me s.outbox ++ l) (shared_silent r me s.local.view k) ∙ append-nil (statements_in me s.outbox)))

outs_silent : (r : Roster) (me : ReplicaId) (s : Replica) (diary : List Entry) (outs : List Out) → AreOuts me outs
    → proposals_said (full_of me (after_outs r me s outs) diary) ≡ proposals_said (full_of me s diary)
outs_silent r me s diary [] of = refl
outs_silent r me s diary (Out.Put item ∷ rest) of =
    outs_silent r me (after_out r me s (Out.Put item)) diary rest (λ o h. of o (inr h))
    ∙ ap proposals_said (full_put me s diary item)
    ∙ saying_proposals (full_of me s diary) (statements_by me item.message)
    ∙ ap (λ p. proposals_said (full_of me s diary) ++ p) (silent_item me item.message (of (Out.Put item) (inl refl)))
    ∙ append-nil (proposals_said (full_of me s diary))
outs_silent r me s diary (Out.Certified k ∷ rest) of =
    outs_silent r me (after_out r me s (Out.Certified k)) diary rest (λ o h. of o (inr h)) ∙ ap proposals_said (full_certified r me s diary k)
outs_silent r me s diary (Out.Clear ∷ rest) of = absurd (of Out.Clear (inl refl))
outs_silent r me s diary (Out.Entered base ∷ rest) of = absurd (of (Out.Entered base) (inl refl))

-- the events but for a Batch and a Nudge
abbrev pub IsSilent : Event → Type 0
IsSilent Event.Batch = ⊥
IsSilent Event.Nudge = ⊥
IsSilent e = Unit {0}

-- what all that waits comes to, said
abbrev pub proposed_by : ReplicaId → Replica → List Entry → List (List Request)
proposed_by me s diary = proposals_said (full_of me s diary)

emit_silent : (me : ReplicaId) (s : Replica) (diary : List Entry) (sig : List ℕ) → proposed_by me (emit_step me s sig s.outbox).state (diary_sent me s.outbox diary) ≡ proposed_by me s diary
emit_silent me s diary sig = go s.outbox refl
  where
    go : (o : List Item) → s.outbox ≡ o → proposed_by me (emit_step me s sig o).state (diary_sent me o diary) ≡ proposed_by me s diary
    go [] e = refl
    go (item ∷ rest) e =
        sym (ap (λ o. proposals_said (after_saying diary (statements_in me o))) e ∙ ap proposals_said (after_saying-both diary (statements_by me item.message) (statements_in me rest)))

execute_silent : (r : Roster) (me : ReplicaId) (s : Replica) (diary : List Entry) (o : Result (List Block) ℕ)
    → proposed_by me (execute_step r me s o).state (diary_did diary (drop (length s.rounds.blocks) (execute_step r me s o).state.rounds.blocks)) ≡ proposed_by me s diary
execute_silent r me s diary o =
    same_proposals (diary_did diary (drop (length s.rounds.blocks) (execute_step r me s o).state.rounds.blocks)) diary (statements_in me (execute_step r me s o).state.outbox)
    (did_proposals diary (drop (length s.rounds.blocks) (execute_step r me s o).state.rounds.blocks))
    ∙ by o
  where
    noted : (rounds : Rounds) (b : Option RunBlock) → proposed_by me (after_noting r me s rounds b) diary ≡ proposed_by me s diary
    noted rounds None = refl
    noted rounds (Some ran) = outs_silent r me s diary (Out.Put (note_item me rounds.executed ran) ∷ []) (first_out me (Out.Put (note_item me rounds.executed ran)) [] refl (none_out me))

    by : (o : Result (List Block) ℕ) → proposed_by me (execute_step r me s o).state diary ≡ proposed_by me s diary
    by (Err missing) = refl
    by (Ok blocks) = noted (with_round s.rounds blocks) (own_block r me (with_round s.rounds blocks))

pub silent : (r : Roster) (me : ReplicaId) (s : Replica) (diary : List Entry) (e : Event) → IsPlain e → IsSilent e
    → proposed_by me (step r me s e).state (diary_after me s e (step r me s e).state diary) ≡ proposed_by me s diary
silent r me s diary (Event.Hear m) plain q =
    subst (λ (t : Stepped). proposed_by me t.state (Heard m ∷ diary) ≡ proposed_by me s diary) (sym (hear_plain r me s m plain))
    (outs_silent r me (record s { local = (hear r me s.local m).local }) (Heard m ∷ diary) (hear r me s.local m).outs (heard_outs r me s.local m)
    ∙ same_proposals (Heard m ∷ diary) diary (statements_in me s.outbox) refl)
silent r me s diary Event.Batch plain q = absurd q
silent r me s diary Event.Nudge plain q = absurd q
silent r me s diary (Event.Emit sig) plain q = emit_silent me s diary sig
silent r me s diary Event.Execute plain q = execute_silent r me s diary (next_round (length r.sizes) s.rounds)
silent r me s diary Event.Checkpoint plain q =
    outs_silent r me (record s { local = (checkpoint r me s.local).local }) diary (checkpoint r me s.local).outs (marked_outs r me s.local s.local.due)
silent r me s diary Event.Timeout plain q = absurd plain

-- ---- a Batch or a Nudge proposes

pub record HasProposed (r : Roster) (me : ReplicaId) (s : Replica) (nudged : Bool) (now : Replica) (diary : List Entry) : Type 0 where
  pub due : is_due r s.local nudged (knows_others me.cluster s.rounds.certificates s.local.next) ≡ true
  pub one_more : proposed_by me now diary ≡ proposed_by me s diary ++ take r.batch (eligible s.local) ∷ []

pub proposes : (r : Roster) (me : ReplicaId) (s : Replica) (diary : List Entry) (nudged : Bool) → makes_entry (propose_step r me s nudged).answer ≡ true
    → HasProposed r me s nudged (propose_step r me s nudged).state diary
proposes r me s diary nudged = by s.local.changing
  where
    l : Local
    l = s.local

    known : Bool
    known = knows_others me.cluster s.rounds.certificates s.local.next

    put : (batch : List Request) → proposed_by me (after_told r me s (proposed r me s.local batch)).state diary ≡ proposed_by me s diary ++ batch ∷ []
    put batch =
        let m = Message.PrePrepare (proposal_of me s.local.view s.local.next batch) in
        ap proposals_said (full_put me s diary (record { message = m; to = cluster_of r me }))
        ∙ saying_proposals (full_of me s diary) (statements_by me m)
        ∙ ap (λ b. proposed_by me s diary ++ batches_in (cond b (unsigned m ∷ []) [])) (own me)

    open_for : (a b c : Bool) → is_due r s.local nudged (knows_others me.cluster s.rounds.certificates s.local.next) ≡ c
        → (let t = cond (not a) (unmoved s.local (Answer.NotPrimary (s.local.view % size_of r me.cluster))) (cond b (unmoved s.local (Answer.WindowFull s.local.slots.low))
        (cond c (proposed r me s.local (take r.batch (eligible s.local))) (unmoved s.local (Answer.Waiting (length (eligible s.local)))))) in
        makes_entry t.answer ≡ true → HasProposed r me s nudged (after_told r me s t).state diary)
    open_for false b c e q = absurd cc
    open_for true true c e q = absurd cc
    open_for true false false e q = absurd cc
    open_for true false true e q = record { due = e; one_more = put (take r.batch (eligible s.local)) }

    by : (o : Option ℕ) → (let t = propose_in r me s.local nudged (knows_others me.cluster s.rounds.certificates s.local.next) o in
        makes_entry t.answer ≡ true → HasProposed r me s nudged (after_told r me s t).state diary)
    by (Some asked) q = absurd cc
    by None q =
        open_for (is_primary r me.cluster s.local.view me.index) (nat_lt (high s.local.slots) s.local.next || nat_lt GREATEST_NUMBER s.local.next)
        (is_due r s.local nudged (knows_others me.cluster s.rounds.certificates s.local.next)) refl q

-- ---- certificates

abbrev pub AllOwn : ReplicaId → Rounds → Type 0
AllOwn me t = (k : CommitCert) → In k t.certificates → k.cluster ≡ me.cluster

outs_own : (r : Roster) (me : ReplicaId) (s : Replica) (outs : List Out) → AreOuts me outs → AllOwn me s.rounds → AllOwn me (after_outs r me s outs).rounds
outs_own r me s [] of h = h
outs_own r me s (Out.Put item ∷ rest) of h = outs_own r me (after_out r me s (Out.Put item)) rest (λ o i. of o (inr i)) h
outs_own r me s (Out.Certified k ∷ rest) of h =
    outs_own r me (after_out r me s (Out.Certified k)) rest (λ o i. of o (inr i))
    (λ c i. elim (kept_cases (keep_answer s.rounds k) s.rounds.certificates k c i) [
      | inl old ↦ h c old
      | inr same ↦ subst (λ x. x.cluster ≡ me.cluster) same (of (Out.Certified k) (inl refl))
    ])
outs_own r me s (Out.Clear ∷ rest) of h = absurd (of Out.Clear (inl refl))
outs_own r me s (Out.Entered base ∷ rest) of h = absurd (of (Out.Entered base) (inl refl))

propose_own : (r : Roster) (me : ReplicaId) (s : Replica) (nudged : Bool) → AllOwn me s.rounds → AllOwn me (propose_step r me s nudged).state.rounds
propose_own r me s nudged h =
    propose_cases (λ t. AllOwn me (after_told r me s t).state.rounds) r me s.local nudged (knows_others me.cluster s.rounds.certificates s.local.next) (λ a. h) (λ room. h)

execute_own : (r : Roster) (me : ReplicaId) (s : Replica) (o : Result (List Block) ℕ) → AllOwn me s.rounds → AllOwn me (execute_step r me s o).state.rounds
execute_own r me s (Err missing) h = h
execute_own r me s (Ok blocks) h = go (own_block r me (with_round s.rounds blocks))
  where
    go : (b : Option RunBlock) → AllOwn me (after_noting r me s (with_round s.rounds blocks) b).rounds
    go None = h
    go (Some ran) = h

pub own_kept : (r : Roster) (me : ReplicaId) (s : Replica) (e : Event) → IsPlain e → AllOwn me s.rounds → AllOwn me (step r me s e).state.rounds
own_kept r me s (Event.Hear m) plain h =
    subst (λ (t : Stepped). AllOwn me t.state.rounds) (sym (hear_plain r me s m plain))
    (outs_own r me (record s { local = (hear r me s.local m).local }) (hear r me s.local m).outs (heard_outs r me s.local m) h)
own_kept r me s Event.Batch plain h = propose_own r me s false h
own_kept r me s Event.Nudge plain h = propose_own r me s true h
own_kept r me s (Event.Emit sig) plain h = go s.outbox
  where
    go : (o : List Item) → AllOwn me (emit_step me s sig o).state.rounds
    go [] = h
    go (item ∷ rest) = h
own_kept r me s Event.Execute plain h = execute_own r me s (next_round (length r.sizes) s.rounds) h
own_kept r me s Event.Checkpoint plain h =
    outs_own r me (record s { local = (checkpoint r me s.local).local }) (checkpoint r me s.local).outs (marked_outs r me s.local s.local.due) h
own_kept r me s Event.Timeout plain h = absurd plain
