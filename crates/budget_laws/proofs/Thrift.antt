-- A primary wastes nothing: what it proposed, event by event.
use Rattle.std.proofs.Common.{◌≡◌, ℕ, zero, suc, ◌+◌, ◌-◌, ◌≤◌, ◌<◌, Bool, true, false, not, cond, max, nat_eq, nat_lt, List, [], ◌∷◌, ◌++◌, filter, take, drop, length, length-append, append_assoc, append-nil, Option, Some, None, Result, Ok, Err, inl, inr, refl, sym, ap, subst, ◌∙◌, arith}
use Rattle.std.specs.Prelude.{slice_index}
use Rattle.std.specs.List.{slice_get, flat_map}
use Rattle.std.specs.Option.{option_and_then}
use Rattle.std.proofs.Math.Seq.{drop-length}
use Rattle.std.proofs.lemmas.Option.{slice_get_within}
use Rattle.fab_base.specs.Limits.{Roster}
use Rattle.fab_base.specs.Roster.{home_of}
use Rattle.fab_base.specs.Table.{last_of, state_after_all}
use Rattle.fab_base.specs.declared.ids.ReplicaId.{ReplicaId}
use Rattle.fab_base.specs.declared.ids.ClientId.{ClientId}
use Rattle.fab_base.specs.declared.ids.Hash32.{Hash32}
use Rattle.fab_base.specs.declared.requests.Request.{Request}
use Rattle.fab_base.specs.declared.messages.Vote.{Vote}
use Rattle.fab_base.specs.declared.messages.CommitCert.{CommitCert}
use Rattle.fab_base.specs.declared.messages.Message.{Message}
use Rattle.fab_base.specs.declared.answers.Answer.{Answer}
use Rattle.fab_base.specs.declared.answers.Item.{Item}
use Rattle.fab_base.specs.declared.answers.Take.{Take}
use Rattle.fab_rules.specs.declared.blocks.Block.{Block}
use Rattle.fab_rules.specs.Lists.{In, greatest}
use Rattle.fab_rules.specs.Digests.{batch_digest}
use Rattle.fab_rules.specs.Diary.{Entry, Heard, Said, Did}
use Rattle.fab_rules.specs.Growth.{after_saying}
use Rattle.fab_rules.specs.Ledger.{RunBlock, start_of, state_after_blocks}
use Rattle.fab_rules.proofs.Chains.{state_after_blocks-append}
use Rattle.fab_rules.proofs.Lists.{in_append_cases}
use Rattle.fab_rules.proofs.Saying.{after_saying-both}
use Rattle.pbft_slots.specs.declared.slot.Slot.{Slot}
use Rattle.pbft_slots.specs.declared.slot.Proposal.{Proposal}
use Rattle.pbft_slots.specs.Window.{Window, slot_by, slot_at, proposal_at, after_pre_prepare, after_prepare, after_commit, pre_prepare_answer, prepare_answer, commit_answer}
use Rattle.pbft_slots.proofs.Places.{place_open}
use Rattle.checkpoint_core.specs.Checkpoints.{vote_answer, after_vote}
use Rattle.fab_machine.specs.State.{Stepped, Proposed, Due, Local, Replica}
use Rattle.fab_machine.specs.Items.{statements_by, statements_in, proposal_of, cluster_of}
use Rattle.fab_machine.specs.Voting.{Told, unmoved, newly_prepared, keep_prepared, after_count, vote_refusal, proposal_told, prepare_told, commit_told, proposal_by, prepare_by, commit_by}
use Rattle.fab_machine.specs.Hearing.{hear}
use Rattle.fab_machine.specs.Proposing.{stamps_of, proposed_stamps, batch_of_slot, held_stamps, expected, eligible, proposed, propose}
use Rattle.fab_machine.specs.Checkpointing.{stable_rounds, after_move, move_to, checkpoint_by, checkpoint}
use Rattle.fab_machine.specs.Rounds.{certificate_for, block_of, knows_others, next_round, with_round}
use Rattle.fab_machine.specs.Step.{Event, emit_step, own_block, note_item, after_noting, execute_step, step}
use Rattle.fab_machine.specs.Joining.{after_out, after_outs, after_told}
use Rattle.heed_laws.specs.Heeding.{IsPlain}
use Rattle.heed_laws.proofs.Stepping.{hear_plain}
use Rattle.budget_laws.proofs.Putting.{IsOut, full_certified, heard_outs, marked_outs}
use Rattle.fab_machine.specs.Diaries.{diary_sent, diary_did, diary_after}
use Rattle.fab_machine.specs.Relation.{full_of, AreRelated}
use Rattle.fab_machine.specs.declared.outs.Out.{Out}
use Rattle.fab_machine.proofs.CheckpointStates.{again_keeps}
use Rattle.fab_machine.proofs.Keeping.{is_whole}
use Rattle.fab_machine.proofs.Marking.{is_move_to}
use Rattle.fab_machine.proofs.States.{propose_cases}
use Rattle.fab_machine.proofs.Stepping.{full_put}
use Rattle.fab_machine.proofs.Telling.{own}
use Rattle.heed_laws.specs.Fronts.{GoOn}
use Rattle.heed_laws.specs.Resting.{member}
use Rattle.heed_laws.proofs.Fronts.{front}
use Rattle.heed_laws.proofs.Stepping.{drop_front}
use Rattle.heed_laws.proofs.Working.{outs_local}
use Rattle.budget_laws.proofs.Orders.{goes_first, goes_then, goes_both, greatest_is, stamps_in, stamps_in-append, stamps_in-one, stamp_upto, numbered, numbered-append, batch_numbered, next_numbered, all_above, rest_above, stamps_numbered, effects}

-- ---- what a hearing leaves

-- what a primary knows of its own proposals, and of what took effect
pub record Turn : Type 0 where
  pub next : ℕ
  pub proposed : List Proposed
  pub executed : ℕ
  pub last : List ℕ

abbrev pub turn_of : Local → Turn
turn_of l = record { next = l.next; proposed = l.proposed; executed = l.executed; last = l.last }

module _ (r : Roster) (me : ReplicaId) (l : Local) where
  count_turn : (now : Window Vote) (slot : ℕ) → turn_of (after_count l now slot) ≡ turn_of l
  count_turn now slot = go (newly_prepared l now slot)
    where
      go : (o : Option Hash32) → turn_of (keep_prepared (record l { slots = now }) slot o) ≡ turn_of l
      go None = refl
      go (Some d) = refl

  hear_turn : (m : Message) → turn_of (hear r me l m).local ≡ turn_of l
  hear_turn (Message.Request x) = refl
  hear_turn (Message.PrePrepare p) = go (vote_refusal me l p.signer.cluster p.view p.slot)
    where
      by : (how : Take) → turn_of (proposal_told r me l p how).local ≡ turn_of l
      by Take.Taken = count_turn (after_pre_prepare l.slots p.slot (record { digest = batch_digest p.batch; batch = p.batch })) p.slot
      by how = refl

      go : (o : Option Take) → turn_of (proposal_by r me l p o).local ≡ turn_of l
      go (Some how) = refl
      go None = by (pre_prepare_answer l.slots p.slot (batch_digest p.batch))
  hear_turn (Message.Prepare v) = go (vote_refusal me l v.signer.cluster v.view v.slot)
    where
      by : (how : Take) → turn_of (prepare_told r me l v how).local ≡ turn_of l
      by Take.Taken = count_turn (after_prepare l.slots v.signer.index v.slot (record { digest = v.digest; kept = v })) v.slot
      by how = refl

      go : (o : Option Take) → turn_of (prepare_by r me l v o).local ≡ turn_of l
      go (Some how) = refl
      go None = by (prepare_answer l.slots v.signer.index v.slot v.digest)
  hear_turn (Message.Commit v) = go (vote_refusal me l v.signer.cluster v.view v.slot)
    where
      by : (how : Take) → turn_of (commit_told r me l v how).local ≡ turn_of l
      by Take.Taken = count_turn (after_commit l.slots v.signer.index v.slot (record { digest = v.digest; kept = v })) v.slot
      by how = refl

      go : (o : Option Take) → turn_of (commit_by r me l v o).local ≡ turn_of l
      go (Some how) = refl
      go None = by (commit_answer l.slots v.signer.index v.slot v.digest)
  hear_turn (Message.Checkpoint v) = go (nat_eq v.signer.cluster me.cluster)
    where
      go : (b : Bool) → turn_of (cond (not b) (unmoved l (Answer.Heard Take.Stray))
          (record { answer = Answer.Heard (vote_answer l.checkpoints v); local = record l { checkpoints = after_vote l.checkpoints v }; outs = [] })).local ≡ turn_of l
      go true = refl
      go false = refl
  hear_turn m = refl

-- nor does a mark that moves change it, since it moves to an executed round
checkpoint_turn : (r : Roster) (me : ReplicaId) (l : Local) → l.executed < l.next → turn_of (checkpoint r me l).local ≡ turn_of l
checkpoint_turn r me l room = by l.due
  where
    to : (n : ℕ) → greatest (stable_rounds l) ≡ n → turn_of (move_to r me l n).local ≡ turn_of l
    to zero e = refl
    to (suc n) e =
        let start : Told = record { answer = Answer.Moved (suc n); local = after_move l (suc n); outs = [] } in
        let done = (is_move_to l n e).done in
        let stays : max l.next (suc n + 1) ≡ l.next = omega (arith, done, room) in
        let first : turn_of (after_move l (suc n)) ≡ turn_of l =
        ap (λ k. let t : Turn = record { next = k; proposed = l.proposed; executed = l.executed; last = l.last } in t) stays in
        again_keeps (λ (x : Told). turn_of x.local ≡ turn_of l) r me l.kept start (λ x m h is. hear_turn r me x.local m ∙ is) first

    by : (due : List Due) → turn_of (checkpoint_by r me l due).local ≡ turn_of l
    by [] = to (greatest (stable_rounds l)) refl
    by (d ∷ rest) = refl

-- ---- the proposals in a diary

abbrev pub order_in : Message → List Proposed
order_in (Message.PrePrepare p) = record { slot = p.slot; batch = p.batch } ∷ []
order_in m = []

-- each with its slot, the first one first
abbrev pub orders_said : List Entry → List Proposed
orders_said [] = []
orders_said (Said m ∷ past) = orders_said past ++ order_in m
orders_said (Heard m ∷ past) = orders_said past
orders_said (Did block ∷ past) = orders_said past

orders_saying : (diary : List Entry) (items : List Message) → orders_said (after_saying diary items) ≡ orders_said diary ++ flat_map order_in items
orders_saying diary [] = sym (append-nil (orders_said diary))
orders_saying diary (m ∷ rest) = orders_saying (Said m ∷ diary) rest ∙ append_assoc (orders_said diary) (order_in m) (flat_map order_in rest)

orders_did : (diary : List Entry) (blocks : List Block) → orders_said (diary_did diary blocks) ≡ orders_said diary
orders_did diary [] = refl
orders_did diary (b ∷ rest) = orders_did (Did b ∷ diary) rest

orders_full : (me : ReplicaId) (s : Replica) (a b : List Entry) → orders_said b ≡ orders_said a → orders_said (full_of me s b) ≡ orders_said (full_of me s a)
orders_full me s a b e =
    orders_saying b (statements_in me s.outbox) ∙ (ap (λ l. l ++ flat_map order_in (statements_in me s.outbox)) e ∙ sym (orders_saying a (statements_in me s.outbox)))

-- it leaves or enters no view
abbrev pub IsPlainOut : Out → Type 0
IsPlainOut Out.Clear = ⊥
IsPlainOut (Out.Entered base) = ⊥
IsPlainOut out = Unit {0}

orders_put : (r : Roster) (me : ReplicaId) (s : Replica) (diary : List Entry) (item : Item)
    → orders_said (full_of me (after_out r me s (Out.Put item)) diary) ≡ orders_said (full_of me s diary) ++ flat_map order_in (statements_by me item.message)
orders_put r me s diary item = ap orders_said (full_put me s diary item) ∙ orders_saying (full_of me s diary) (statements_by me item.message)

-- as long as no view is left or entered
orders_outs : (r : Roster) (me : ReplicaId) (s : Replica) (diary : List Entry) (outs : List Out) → ((out : Out) → In out outs → IsPlainOut out)
    → (more : List Proposed) × (orders_said (full_of me (after_outs r me s outs) diary) ≡ orders_said (full_of me s diary) ++ more)
orders_outs r me s diary [] plain = ([], sym (append-nil (orders_said (full_of me s diary))))
orders_outs r me s diary (Out.Put item ∷ rest) plain =
    let later = orders_outs r me (after_out r me s (Out.Put item)) diary rest (λ o h. plain o (inr h)) in
    let x = flat_map order_in (statements_by me item.message) in
    (x ++ later.0, later.1 ∙ (ap (λ l. l ++ later.0) (orders_put r me s diary item) ∙ append_assoc (orders_said (full_of me s diary)) x later.0))
orders_outs r me s diary (Out.Certified k ∷ rest) plain =
    let later = orders_outs r me (after_out r me s (Out.Certified k)) diary rest (λ o h. plain o (inr h)) in
    (later.0, later.1 ∙ ap (λ l. orders_said l ++ later.0) (full_certified r me s diary k))
orders_outs r me s diary (Out.Clear ∷ rest) plain = absurd (plain Out.Clear (inl refl))
orders_outs r me s diary (Out.Entered base ∷ rest) plain = absurd (plain (Out.Entered base) (inl refl))

-- where there are as many, none came
none_came : (xs ys more : List Proposed) → ys ≡ xs ++ more → length ys ≡ length xs → ys ≡ xs
none_came xs ys [] e l = e ∙ append-nil xs
none_came xs ys (x ∷ more) e l = absurd (omega (arith, ap length e, l, length-append xs (x ∷ more)))

-- ---- a primary in turn

-- the executed batches, and those that are proposed and not executed: each stands at its slot; of each client of the cluster the stamps
-- go on from 1, and those of the executed ones took effect
pub record IsInTurn (r : Roster) (t : Turn) (orders : List Proposed) : Type 0 where
  pub done : List (List Request)
  pub rest : List (List Request)
  pub orders_are : orders ≡ numbered 0 (done ++ rest)
  pub executed_is : t.executed ≡ length done
  pub proposed_are : t.proposed ≡ numbered (length done) rest
  pub last_is : (client : ClientId) → home_of r client ≡ 1 → slice_index t.last client.number ≡ length (stamps_in client.number done)
  pub stamps : (client : ClientId) → home_of r client ≡ 1 → GoOn 1 (stamps_in client.number (done ++ rest))

abbrev order : ℕ → List Request → Proposed
order slot batch = record { slot = slot; batch = batch }

-- what is held and what is certified was proposed; and there is one proposal for each slot below the next one
pub record AreOrdered (s : Replica) (orders : List Proposed) : Type 0 where
  pub count : length orders + 1 ≡ s.local.next
  pub held : (slot : ℕ) (g : Proposal) → proposal_at s.local.slots slot ≡ Some g → In (order slot g.batch) orders
  pub certified : (slot : ℕ) (c : CommitCert) → certificate_for s.rounds.certificates slot 1 ≡ Some c → In (order slot c.batch) orders

pub length_numbered : (k : ℕ) (bs : List (List Request)) → length (numbered k bs) ≡ length bs
length_numbered k [] = refl
length_numbered k (b ∷ bs) = ap suc (length_numbered (k + 1) bs)

-- fewer are executed than were proposed
room_left : (r : Roster) (s : Replica) (orders : List Proposed) → AreOrdered s orders → IsInTurn r (turn_of s.local) orders → s.local.executed < s.local.next
room_left r s orders o t = omega (arith, o.count, t.executed_is, ap length t.orders_are, length_numbered 0 (t.done ++ t.rest), length-append t.done t.rest)

-- ---- the expected stamps

held_upto : (client executed from n : ℕ) (slots : List (Slot Vote))
    → ((i : ℕ) (s : Slot Vote) (g : Proposal) → slice_get slots i ≡ Some s → s.proposal ≡ Some g → (x : ℕ) → In x (stamps_of client g.batch) → x ≤ n)
    → (x : ℕ) → In x (held_stamps client executed from slots) → x ≤ n
held_upto client executed from n [] h x k = absurd k
held_upto client executed from n (s ∷ rest) h x k =
    elim (in_append_cases x (cond (nat_lt executed from) (stamps_of client (batch_of_slot s.proposal)) []) (held_stamps client executed (from + 1) rest) k) [
      | inl here ↦ open_for (nat_lt executed from) here
      | inr later ↦ held_upto client executed (from + 1) n rest (λ i t g e p y q. h (suc i) t g e p y q) x later
    ]
  where
    by : (o : Option Proposal) → s.proposal ≡ o → In x (stamps_of client (batch_of_slot o)) → x ≤ n
    by None e q = absurd q
    by (Some g) e q = h 0 s g refl e x q

    open_for : (b : Bool) → In x (cond b (stamps_of client (batch_of_slot s.proposal)) []) → x ≤ n
    open_for true q = by s.proposal refl q
    open_for false q = absurd q

pub expected_in_turn : (r : Roster) (s : Replica) (orders : List Proposed) → AreOrdered s orders → (t : IsInTurn r (turn_of s.local) orders) → (client : ClientId)
    → home_of r client ≡ 1 → expected s.local client.number ≡ length (stamps_in client.number (t.done ++ t.rest)) + 1
expected_in_turn r s orders o t client home =
    let l : Local = s.local in
    let c = client.number in
    let xs = stamps_in c t.rest in
    let ys = held_stamps c l.executed (l.slots.low + 1) l.slots.slots in
    let mine : proposed_stamps l c ≡ xs =
    ap (λ ps. flat_map (λ p. stamps_of c p.batch) (filter (λ p. nat_lt l.executed p.slot) ps)) t.proposed_are
    ∙ (ap (flat_map (λ p. stamps_of c p.batch)) (all_above l.executed (length t.done) t.rest (omega (arith, t.executed_is))) ∙ stamps_numbered c (length t.done) t.rest) in
    let parts = stamps_in-append c t.done t.rest in
    let both = subst (GoOn 1) parts (t.stamps client home) in
    let last = t.last_is client home in
    let size = ap length parts in
    let sum = length-append (stamps_in c t.done) xs in
    let goes : GoOn (slice_index l.last c + 1) xs = subst (λ k. GoOn k xs) (let e : 1 + length (stamps_in c t.done) ≡ slice_index l.last c + 1 = omega (arith, last) in e)
    (goes_then 1 (stamps_in c t.done) xs both) in
    let upto = held_upto c l.executed (l.slots.low + 1) (length (stamps_in c (t.done ++ t.rest))) l.slots.slots (λ i x g e p y q. at i x g e p y q) in
    let g = greatest_is (slice_index l.last c) xs ys goes (λ y q. omega (arith, upto y q, last, size, sum)) in
    let e = ap (λ zs. max (greatest (zs ++ ys)) (slice_index l.last c)) mine in
    omega (arith, g, e, last, size, sum)
  where
    at : (i : ℕ) (x : Slot Vote) (g : Proposal) → slice_get s.local.slots.slots i ≡ Some x → x.proposal ≡ Some g → (y : ℕ) → In y (stamps_of client.number g.batch)
        → y ≤ length (stamps_in client.number (t.done ++ t.rest))
    at i x g e p y q =
        let w = s.local.slots in
        let slot = w.low + 1 + i in
        let inside = slice_get_within w.slots i x e in
        let place = place_open w.low (length w.slots) slot (omega arith) (omega (arith, inside)) in
        let same_place : slot - w.low - 1 ≡ i = omega arith in
        let there : slot_at w slot ≡ Some x = ap (slot_by w.slots) place ∙ (ap (slice_get w.slots) same_place ∙ e) in
        let stands = subst (In (order slot g.batch)) t.orders_are (o.held slot g (ap (option_and_then (λ z. z.proposal)) there ∙ p)) in
        stamp_upto client.number y g.batch (t.done ++ t.rest) (t.stamps client home) (batch_numbered 0 (t.done ++ t.rest) (order slot g.batch) stands) q

-- ---- the events

plain_out : (out : Out) → IsOut (member 0) out → IsPlainOut out
plain_out (Out.Put item) h = tt
plain_out (Out.Certified k) h = tt
plain_out Out.Clear h = h
plain_out (Out.Entered base) h = h

abbrev me : ReplicaId
me = member 0

module _ (r : Roster) where
  abbrev IsFine : Replica → List Entry → Type 0
  IsFine s diary = IsInTurn r (turn_of s.local) (orders_said (full_of me s diary))

  abbrev IsOrdered : Replica → List Entry → Type 0
  IsOrdered s diary = AreOrdered s (orders_said (full_of me s diary))

  -- where local ordering leaves its turn, no proposal is put
  told_in_turn : (s : Replica) (a b : List Entry) (t : Told) → ((out : Out) → In out t.outs → IsPlainOut out) → orders_said b ≡ orders_said a → turn_of t.local ≡ turn_of s.local → IsOrdered s a
      → IsOrdered (after_told r me s t).state b → IsFine s a → IsFine (after_told r me s t).state b
  told_in_turn s a b t plain same_said same_turn before after fine =
      let start : Replica = record s { local = t.local } in
      let now = after_outs r me start t.outs in
      let local = outs_local r me start t.outs in
      let turn : turn_of now.local ≡ turn_of s.local = ap turn_of local ∙ same_turn in
      let old : orders_said (full_of me start b) ≡ orders_said (full_of me s a) = orders_full me s a b same_said in
      let more = orders_outs r me start b t.outs plain in
      let all = none_came (orders_said (full_of me s a)) (orders_said (full_of me now b)) more.0 (more.1 ∙ ap (λ l. l ++ more.0) old)
      (omega (arith, before.count, after.count, ap (λ (x : Turn). x.next) turn)) in
      subst (λ l. IsInTurn r (turn_of now.local) l) (sym all) (subst (λ x. IsInTurn r x (orders_said (full_of me s a))) (sym turn) fine)

  propose_in_turn : (s : Replica) (diary : List Entry) (nudged known : Bool) → AreRelated r me s diary → IsOrdered s diary → IsFine s diary
      → IsFine (after_told r me s (propose r me s.local nudged known)).state diary
  propose_in_turn s diary nudged known rel o fine =
      propose_cases (λ t. IsFine (after_told r me s t).state diary) r me s.local nudged known (λ a. fine) (λ room. new)
    where
      new : IsFine (after_told r me s (proposed r me s.local (take r.batch (eligible s.local)))).state diary
      new =
          let b = take r.batch (eligible s.local) in
          let l = s.local in
          let start : Replica = record s { local = (proposed r me l b).local } in
          let m = Message.PrePrepare (proposal_of me l.view l.next b) in
          let item : Item = record { message = m; to = cluster_of r me } in
          let says : statements_by me m ≡ m ∷ [] = ap (λ c. cond c (m ∷ []) []) (own me) in
          let full = full_of me s diary in
          let batches = fine.done ++ fine.rest in
          let size = length-append fine.done fine.rest in
          let slot : 0 + length batches + 1 ≡ l.next = omega (arith, o.count, ap length fine.orders_are, length_numbered 0 batches) in
          let grown : orders_said (full_of me (after_out r me start (Out.Put item)) diary) ≡ orders_said full ++ order l.next b ∷ [] =
          orders_put r me start diary item ∙ ap (λ ms. orders_said full ++ flat_map order_in ms) says in
          let mid : List Proposed = numbered 0 batches in
          let longer : numbered 0 (batches ++ b ∷ []) ≡ mid ++ order l.next b ∷ [] =
          numbered-append 0 batches (b ∷ []) ∙ ap (λ k. mid ++ order k b ∷ []) slot in
          let behind : length fine.done + length fine.rest + 1 ≡ l.next = omega (arith, slot, size) in
          let longer_rest : numbered (length fine.done) (fine.rest ++ b ∷ []) ≡ numbered (length fine.done) fine.rest ++ order l.next b ∷ [] =
          numbered-append (length fine.done) fine.rest (b ∷ []) ∙ ap (λ k. numbered (length fine.done) fine.rest ++ order k b ∷ []) behind in
          let apart = append_assoc fine.done fine.rest (b ∷ []) in
          record {
            done = fine.done;
            rest = fine.rest ++ b ∷ [];
            orders_are = grown ∙ (ap (λ os. os ++ order l.next b ∷ []) fine.orders_are ∙ (sym longer ∙ ap (numbered 0) apart));
            executed_is = fine.executed_is;
            proposed_are = ap (λ ps. ps ++ order l.next b ∷ []) fine.proposed_are ∙ sym longer_rest;
            last_is = fine.last_is;
            stamps = λ client home. (let c = client.number in
                let e = expected_in_turn r s (orders_said full) o fine client home in
                let goes : GoOn (1 + length (stamps_in c batches)) (stamps_of c b) = subst (λ k. GoOn k (stamps_of c b)) (let q : expected l c ≡ 1 + length (stamps_in c batches) = omega (arith, e) in q)
                (front l c r.batch rel.facts.local.is.waiting.order) in
                let one : stamps_in c (b ∷ []) ≡ stamps_of c b = stamps_in-one c b [] ∙ append-nil (stamps_of c b) in
                let whole : stamps_in c (batches ++ b ∷ []) ≡ stamps_in c batches ++ stamps_of c b = stamps_in-append c batches (b ∷ []) ∙ ap (λ zs. stamps_in c batches ++ zs) one in
                subst (λ bs. GoOn 1 (stamps_in c bs)) apart (subst (GoOn 1) (sym whole) (goes_both 1 (stamps_in c batches) (stamps_of c b) (fine.stamps client home) goes)));
          }

  emit_in_turn : (s : Replica) (diary : List Entry) (sig : List ℕ) → IsFine s diary → IsFine (emit_step me s sig s.outbox).state (diary_sent me s.outbox diary)
  emit_in_turn s diary sig fine = go s.outbox refl
    where
      go : (o : List Item) → s.outbox ≡ o → IsFine (emit_step me s sig o).state (diary_sent me o diary)
      go [] e = fine
      go (item ∷ rest) e =
          let same : full_of me s diary ≡ after_saying (after_saying diary (statements_by me item.message)) (statements_in me rest) =
          ap (λ o. after_saying diary (statements_in me o)) e ∙ after_saying-both diary (statements_by me item.message) (statements_in me rest) in
          subst (λ f. IsInTurn r (turn_of s.local) (orders_said f)) same fine

  -- the next of the proposed batches is executed, and all of it takes effect
  noted_in_turn : (s : Replica) (diary : List Entry) (blocks : List Block) (ran : RunBlock) → length r.sizes ≡ 1 → next_round (length r.sizes) s.rounds ≡ Ok blocks
      → AreRelated r me s diary → IsOrdered s diary → AreRelated r me (after_noting r me s (with_round s.rounds blocks) (Some ran)) (diary_did diary blocks)
      → IsFine s diary → IsFine (after_noting r me s (with_round s.rounds blocks) (Some ran)) (diary_did diary blocks)
  noted_in_turn s diary blocks ran one found rel o after fine =
      let e = s.rounds.executed in
      let now = after_noting r me s (with_round s.rounds blocks) (Some ran) in
      let whole = is_whole (length r.sizes) s.rounds blocks found in
      let k = whole.1 0 (omega (arith, one)) in
      let c : CommitCert = k.0 in
      let is_one = single blocks (block_of (e + 1) c) (whole.0 ∙ one) k.2 in
      let slot : e + 1 ≡ 0 + length fine.done + 1 = omega (arith, rel.facts.rounds.told, fine.executed_is) in
      let stands = subst (In (order (e + 1) c.batch)) fine.orders_are (o.certified (e + 1) c k.1) in
      let front_is = next_numbered 0 fine.done fine.rest (order (e + 1) c.batch) stands slot in
      let later : List (List Request) = front_is.0 in
      let rest_is : fine.rest ≡ c.batch ∷ later = front_is.1 in
      let apart : (fine.done ++ c.batch ∷ []) ++ later ≡ fine.done ++ fine.rest = append_assoc fine.done (c.batch ∷ []) later ∙ ap (λ bs. fine.done ++ bs) (sym rest_is) in
      let longer : length (fine.done ++ c.batch ∷ []) ≡ length fine.done + 1 = length-append fine.done (c.batch ∷ []) in
      let item = note_item me (e + 1) ran in
      let says : flat_map order_in (statements_by me item.message) ≡ [] = ap (λ b. flat_map order_in (cond b (item.message ∷ []) [])) (own me) in
      let next = diary_did diary blocks in
      let same_orders : orders_said (full_of me now next) ≡ orders_said (full_of me s diary) =
      orders_put r me s next item ∙ (ap (λ l. orders_said (full_of me s next) ++ l) says ∙ (append-nil (orders_said (full_of me s next)) ∙ orders_full me s diary next (orders_did diary blocks))) in
      record {
        done = fine.done ++ c.batch ∷ [];
        rest = later;
        orders_are = same_orders ∙ (fine.orders_are ∙ ap (numbered 0) (sym apart));
        executed_is = omega (arith, slot, longer);
        proposed_are = ap (λ ps. filter (λ p. nat_lt (e + 1) p.slot) ps) (fine.proposed_are ∙ ap (numbered (length fine.done)) rest_is)
            ∙ (ap (λ j. filter (λ p. nat_lt j p.slot) (numbered (length fine.done) (c.batch ∷ later))) (let q : e + 1 ≡ length fine.done + 1 = omega (arith, slot) in q)
            ∙ (rest_above (length fine.done) c.batch later ∙ ap (λ j. numbered j later) (sym longer)));
        last_is = λ client home. (let n = client.number in
            let st = state_after_blocks (start_of r) s.rounds.blocks in
            let old = rel.facts.rounds.stamps client home in
            let last = fine.last_is client home in
            let parts : stamps_in n (fine.done ++ fine.rest) ≡ stamps_in n fine.done ++ (stamps_of n c.batch ++ stamps_in n later) =
            stamps_in-append n fine.done fine.rest ∙ ap (λ l. stamps_in n fine.done ++ l) (ap (stamps_in n) rest_is ∙ stamps_in-one n c.batch later) in
            let all = subst (GoOn 1) parts (fine.stamps client home) in
            let mine = goes_first (1 + length (stamps_in n fine.done)) (stamps_of n c.batch) (stamps_in n later) (goes_then 1 (stamps_in n fine.done) (stamps_of n c.batch ++ stamps_in n later) all) in
            let goes : GoOn (last_of st n + 1) (stamps_of n c.batch) = subst (λ j. GoOn j (stamps_of n c.batch)) (let q : 1 + length (stamps_in n fine.done) ≡ last_of st n + 1 = omega (arith, old, last) in q) mine in
            let raised = effects st c.batch n goes in
            let run : state_after_blocks (start_of r) (s.rounds.blocks ++ blocks) ≡ state_after_all st c.batch =
            ap (λ bs. state_after_blocks (start_of r) (s.rounds.blocks ++ bs)) is_one ∙ state_after_blocks-append (start_of r) s.rounds.blocks (block_of (e + 1) c ∷ []) in
            let told = after.facts.rounds.stamps client home in
            let came = ap (λ x. last_of x n) run in
            let number = ap length (stamps_in-append n fine.done (c.batch ∷ []) ∙ ap (λ l. stamps_in n fine.done ++ l) (stamps_in-one n c.batch [] ∙ append-nil (stamps_of n c.batch))) in
            omega (arith, told, came, raised, old, last, number, length-append (stamps_in n fine.done) (stamps_of n c.batch)));
        stamps = λ client home. subst (λ bs. GoOn 1 (stamps_in client.number bs)) (sym apart) (fine.stamps client home);
      }
    where
      single : (bs : List Block) (b : Block) → length bs ≡ 1 → slice_get bs 0 ≡ Some b → bs ≡ b ∷ []
      single [] b n h = absurd (omega (arith, n))
      single (x ∷ []) b n h = ap (λ y. y ∷ []) (let q : x ≡ b = cc in q)
      single (x ∷ y ∷ bs) b n h = absurd (omega (arith, n))

  execute_in_turn : (s : Replica) (diary : List Entry) → length r.sizes ≡ 1 → AreRelated r me s diary → IsOrdered s diary
      → (let now = (execute_step r me s (next_round (length r.sizes) s.rounds)).state in
      AreRelated r me now (diary_after me s Event.Execute now diary) → IsFine s diary → IsFine now (diary_after me s Event.Execute now diary))
  execute_in_turn s diary one rel o after fine = go (next_round (length r.sizes) s.rounds) refl after
    where
      by : (blocks : List Block) → next_round (length r.sizes) s.rounds ≡ Ok blocks → (x : Option RunBlock) → (let now = after_noting r me s (with_round s.rounds blocks) x in
          AreRelated r me now (diary_did diary (drop (length s.rounds.blocks) now.rounds.blocks)) → IsFine now (diary_did diary (drop (length s.rounds.blocks) now.rounds.blocks)))
      by blocks e None a = absurd (omega (arith, a.facts.rounds.told, rel.facts.rounds.told))
      by blocks e (Some ran) a =
          let now = after_noting r me s (with_round s.rounds blocks) (Some ran) in
          let gained = drop_front s.rounds.blocks blocks in
          subst (λ l. IsFine now (diary_did diary l)) (sym gained)
          (noted_in_turn s diary blocks ran one e rel o (subst (λ l. AreRelated r me now (diary_did diary l)) gained a) fine)

      go : (x : Result (List Block) ℕ) → next_round (length r.sizes) s.rounds ≡ x → (let now = (execute_step r me s x).state in
          AreRelated r me now (diary_did diary (drop (length s.rounds.blocks) now.rounds.blocks)) → IsFine now (diary_did diary (drop (length s.rounds.blocks) now.rounds.blocks)))
      go (Err missing) e a = subst (λ l. IsFine s (diary_did diary l)) (sym (drop-length s.rounds.blocks)) fine
      go (Ok blocks) e a = by blocks e (own_block r me (with_round s.rounds blocks)) a

  -- any event
  pub step_in_turn : (s : Replica) (diary : List Entry) (e : Event) → length r.sizes ≡ 1 → IsPlain e → AreRelated r me s diary → IsOrdered s diary
      → AreRelated r me (step r me s e).state (diary_after me s e (step r me s e).state diary) → IsOrdered (step r me s e).state (diary_after me s e (step r me s e).state diary)
      → IsFine s diary → IsFine (step r me s e).state (diary_after me s e (step r me s e).state diary)
  step_in_turn s diary (Event.Hear m) one plain rel o after p fine =
      let same = hear_plain r me s m plain in
      subst (λ (t : Stepped). IsFine t.state (Heard m ∷ diary)) (sym same)
      (told_in_turn s diary (Heard m ∷ diary) (hear r me s.local m) (λ out h. plain_out out (heard_outs r me s.local m out h)) refl (hear_turn r me s.local m) o
      (subst (λ (t : Stepped). IsOrdered t.state (Heard m ∷ diary)) same p) fine)
  step_in_turn s diary Event.Batch one plain rel o after p fine = propose_in_turn s diary false (knows_others me.cluster s.rounds.certificates s.local.next) rel o fine
  step_in_turn s diary Event.Nudge one plain rel o after p fine = propose_in_turn s diary true (knows_others me.cluster s.rounds.certificates s.local.next) rel o fine
  step_in_turn s diary (Event.Emit sig) one plain rel o after p fine = emit_in_turn s diary sig fine
  step_in_turn s diary Event.Execute one plain rel o after p fine = execute_in_turn s diary one rel o after fine
  step_in_turn s diary Event.Checkpoint one plain rel o after p fine =
      told_in_turn s diary diary (checkpoint r me s.local) (λ out h. plain_out out (marked_outs r me s.local s.local.due out h)) refl
      (checkpoint_turn r me s.local (room_left r s (orders_said (full_of me s diary)) o fine)) o p fine
  step_in_turn s diary Event.Timeout one plain rel o after p fine = absurd plain
