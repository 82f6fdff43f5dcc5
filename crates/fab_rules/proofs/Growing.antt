-- The rules stay kept: where more was heard or done, and no more was said.
use Rattle.std.proofs.Common.{◌≡◌, ℕ, ◌*◌, ◌≤◌, Bool, true, false, cond, List, [], ◌∷◌, ◌++◌, length, take, inl, inr, refl, sym, ap, ◌∙◌, arith, length-append}
use Rattle.std.specs.List.{filter}
use Rattle.std.proofs.lemmas.List.{take-append-le}
use Rattle.fab_base.specs.Limits.{Roster}
use Rattle.fab_base.specs.declared.ids.ReplicaId.{ReplicaId}
use Rattle.fab_base.specs.declared.ids.Hash32.{Hash32}
use Rattle.fab_base.specs.declared.messages.Message.{Message}
use Rattle.fab_rules.specs.declared.blocks.Block.{Block}
use Rattle.fab_rules.specs.Ledger.{chain_of, start_of}
use Rattle.fab_rules.specs.Diary.{Entry, Heard, Said, Did, ledger, PrepareHeard, QuorumHeard, ProposalHeard, as_new_view, or_else}
use Rattle.fab_rules.specs.Rules.{OneVote, IsOpenedFor, PrepareRule, CommitRule, ViewsRise, ChangeReports, PrimaryOnly, CheckpointRule, NoteRule, RemoteQuorum, MaySay, KeepsRules}
use Rattle.fab_rules.specs.Growth.{HasGrown, after_saying}
use Rattle.fab_rules.proofs.Lists.{prefix_refl}
use Rattle.fab_rules.proofs.Saying.{said_is_not_heard}
use Rattle.fab_rules.proofs.Runs.{in_longer_run}

-- ---- growing

heard_is_not_said : (x y : Message) → Heard x ≡ Said y → ⊥
heard_is_not_said x y e = cc

did_is_not_said : (x : Block) (y : Message) → Did x ≡ Said y → ⊥
did_is_not_said x y e = cc

pub grown_by_nothing : (diary : List Entry) → HasGrown diary diary
grown_by_nothing diary = record { heard = λ m h. h; said = λ m h. h; done = prefix_refl (ledger diary); first = λ c v x e. e }

pub grown_by_heard : (diary : List Entry) (m : Message) → HasGrown diary (Heard m ∷ diary)
grown_by_heard diary m = record {
  heard = λ x h. inr h;
  said = λ x h. (elim h [ inl e ↦ absurd (heard_is_not_said m x e) | inr k ↦ k ]);
  done = prefix_refl (ledger diary);
  first = λ c v x e. ap (λ o. or_else o (as_new_view c v m)) e;
}

pub grown_by_done : (diary : List Entry) (block : Block) → HasGrown diary (Did block ∷ diary)
grown_by_done diary block = record {
  heard = λ x h. inr h;
  said = λ x h. (elim h [ inl e ↦ absurd (did_is_not_said block x e) | inr k ↦ k ]);
  done = (block ∷ [], refl);
  first = λ c v x e. e;
}

-- both say the same
pub grown_said : (a b : List Entry) (m : Message) → HasGrown a b → HasGrown (Said m ∷ a) (Said m ∷ b)
grown_said a b m g = record {
  heard = λ x h. (elim h [ inl e ↦ inl e | inr k ↦ inr (g.heard x k) ]);
  said = λ x h. (elim h [ inl e ↦ inl e | inr k ↦ inr (g.said x k) ]);
  done = g.done;
  first = g.first;
}

-- the second says less
pub grown_unsaid : (a b : List Entry) (m : Message) → HasGrown a b → HasGrown (Said m ∷ a) b
grown_unsaid a b m g = record {
  heard = λ x h. (elim h [ inl e ↦ absurd (said_is_not_heard m x e) | inr k ↦ g.heard x k ]);
  said = λ x h. inr (g.said x h);
  done = g.done;
  first = g.first;
}

-- ---- rule by rule

module _ (a b : List Entry) (g : HasGrown a b) where
  quorum_grown : (r : Roster) (cluster view slot : ℕ) (digest : Hash32) → QuorumHeard r (PrepareHeard a) cluster view slot digest
      → QuorumHeard r (PrepareHeard b) cluster view slot digest
  quorum_grown r cluster view slot digest q = record {
    members = q.members;
    quorum = q.quorum;
    each = λ k h. (let x = q.each k h in record { vote = x.vote; heard = g.heard (Message.Prepare x.vote) x.heard; signer = x.signer; votes_for = x.votes_for });
  }

  proposal_grown : (cluster view slot : ℕ) (digest : Hash32) → ProposalHeard a cluster view slot digest
      → ProposalHeard b cluster view slot digest
  proposal_grown cluster view slot digest h = record {
    proposal = h.proposal;
    heard = g.heard (Message.PrePrepare h.proposal) h.heard;
    cluster_is = h.cluster_is;
    view_is = h.view_is;
    slot_is = h.slot_is;
    digest_is = h.digest_is;
  }

  opened_grown : (cluster view slot : ℕ) (digest : Hash32) → IsOpenedFor a cluster view slot digest → IsOpenedFor b cluster view slot digest
  opened_grown cluster view slot digest h = record {
    new_view = h.new_view;
    is_first = g.first cluster view h.new_view h.is_first;
    above_base = h.above_base;
    as_chosen = h.as_chosen;
    as_proposed = λ l. proposal_grown cluster view slot digest (h.as_proposed l);
  }

  one_vote_grown : (m : Message) → OneVote a m → OneVote b m
  one_vote_grown (Message.PrePrepare x) h = λ other k. h other (g.said _ k)
  one_vote_grown (Message.Prepare x) h = λ other k. h other (g.said _ k)
  one_vote_grown (Message.Commit x) h = λ other k. h other (g.said _ k)
  one_vote_grown m h = tt

  prepare_rule_grown : (i : ReplicaId) (m : Message) → PrepareRule i a m → PrepareRule i b m
  prepare_rule_grown i (Message.Prepare x) h = record {
    in_view_zero = λ e. proposal_grown i.cluster 0 x.slot x.digest (h.in_view_zero e);
    in_later_views = λ l. opened_grown i.cluster x.view x.slot x.digest (h.in_later_views l);
  }
  prepare_rule_grown i m h = tt

  commit_rule_grown : (r : Roster) (i : ReplicaId) (m : Message) → CommitRule r i a m → CommitRule r i b m
  commit_rule_grown r i (Message.Commit x) h = quorum_grown r i.cluster x.view x.slot x.digest h
  commit_rule_grown r i m h = tt

  views_rise_grown : (m : Message) → ViewsRise a m → ViewsRise b m
  views_rise_grown (Message.ViewChange x) h = λ c k. h c (g.said _ k)
  views_rise_grown (Message.PrePrepare x) h = λ c k. h c (g.said _ k)
  views_rise_grown (Message.Prepare x) h = λ c k. h c (g.said _ k)
  views_rise_grown (Message.Commit x) h = λ c k. h c (g.said _ k)
  views_rise_grown m h = tt

  change_reports_grown : (m : Message) → ChangeReports a m → ChangeReports b m
  change_reports_grown (Message.ViewChange x) h = λ v k. h v (g.said _ k)
  change_reports_grown m h = tt

  primary_only_grown : (r : Roster) (i : ReplicaId) (m : Message) → PrimaryOnly r i a m → PrimaryOnly r i b m
  primary_only_grown r i (Message.PrePrepare x) h = h
  primary_only_grown r i (Message.NewView x) h = record { primary = h.primary; heard = λ c k. g.heard _ (h.heard c k) }
  primary_only_grown r i m h = tt

  ledger_begins : (k : ℕ) → k ≤ length (ledger a) → (k ≤ length (ledger b)) × (take k (ledger b) ≡ take k (ledger a))
  ledger_begins k l =
      let p = g.done in
      (omega (arith, length-append (ledger a) p.0, ap length p.1), ap (take k) (sym p.1) ∙ take-append-le k (ledger a) p.0 l)

  checkpoint_rule_grown : (r : Roster) (m : Message) → CheckpointRule r a m → CheckpointRule r b m
  checkpoint_rule_grown r (Message.Checkpoint x) h =
      let begins = ledger_begins (x.round * length r.sizes) h.done in
      record { once = λ other k. h.once other (g.said _ k); due = h.due; done = begins.0; chain_is = h.chain_is ∙ ap chain_of (sym begins.1) }
  checkpoint_rule_grown r m h = tt

  note_rule_grown : (r : Roster) (i : ReplicaId) (m : Message) → NoteRule r i a m → NoteRule r i b m
  note_rule_grown r i (Message.ReplyNote x) h = record {
    once = λ other k. h.once other (g.said _ k);
    done = (ledger_begins (x.round * length r.sizes) h.done).0;
    ran = h.ran;
    in_run = in_longer_run (start_of r) (ledger a) (ledger b) h.ran g.done h.in_run;
    round_is = h.round_is;
    cluster_is = h.cluster_is;
    digest_is = h.digest_is;
    lines_are = h.lines_are;
  }
  note_rule_grown r i m h = tt

  remote_quorum_grown : (r : Roster) (i : ReplicaId) (m : Message) → RemoteQuorum r i a m → RemoteQuorum r i b m
  remote_quorum_grown r i (Message.Rvc x) h = record {
    members = h.members;
    quorum = h.quorum;
    each = λ k l. (let p = h.each k l in record {
      plea = p.plea;
      heard = g.heard _ p.heard;
      signer = p.signer;
      target_is = p.target_is;
      round_is = p.round_is;
      count_is = p.count_is;
    });
  }
  remote_quorum_grown r i m h = tt

  -- what might be said may be said
  pub may_say_grown : (r : Roster) (i : ReplicaId) (m : Message) → MaySay r i a m → MaySay r i b m
  may_say_grown r i m h = record {
    one_vote = one_vote_grown m h.one_vote;
    prepare_rule = prepare_rule_grown i m h.prepare_rule;
    commit_rule = commit_rule_grown r i m h.commit_rule;
    views_rise = views_rise_grown m h.views_rise;
    change_reports = change_reports_grown m h.change_reports;
    primary_only = primary_only_grown r i m h.primary_only;
    checkpoint_rule = checkpoint_rule_grown r m h.checkpoint_rule;
    note_rule = note_rule_grown r i m h.note_rule;
    remote_quorum = remote_quorum_grown r i m h.remote_quorum;
    shaped_speech = h.shaped_speech;
  }

-- ---- what waits to be said

-- one item more, at the end
pub after_saying-append : (diary : List Entry) (xs : List Message) (x : Message)
    → after_saying diary (xs ++ x ∷ []) ≡ Said x ∷ after_saying diary xs
after_saying-append diary [] x = refl
after_saying-append diary (y ∷ xs) x = after_saying-append (Said y ∷ diary) xs x

pub rules_before : (r : Roster) (i : ReplicaId) (diary : List Entry) (xs : List Message) → KeepsRules r i (after_saying diary xs)
    → KeepsRules r i diary
rules_before r i diary [] h = h
rules_before r i diary (x ∷ xs) h = (rules_before r i (Said x ∷ diary) xs h).1

-- what waits may still be said
pub waiting_grown : (r : Roster) (i : ReplicaId) (a b : List Entry) (xs : List Message) → HasGrown a b → KeepsRules r i b
    → KeepsRules r i (after_saying a xs) → KeepsRules r i (after_saying b xs)
waiting_grown r i a b [] g kb ka = kb
waiting_grown r i a b (x ∷ xs) g kb ka =
    let may = (rules_before r i (Said x ∷ a) xs ka).0 in
    waiting_grown r i (Said x ∷ a) (Said x ∷ b) xs (grown_said a b x g) (may_say_grown a b g r i x may, kb) ka

-- and so may some of it, where the rest is left out
pub fewer_waiting_grown : (r : Roster) (i : ReplicaId) (a b : List Entry) (stays : Message → Bool) (xs : List Message) → HasGrown a b
    → KeepsRules r i b → KeepsRules r i (after_saying a xs) → KeepsRules r i (after_saying b (filter stays xs))
fewer_waiting_grown r i a b stays [] g kb ka = kb
fewer_waiting_grown r i a b stays (x ∷ xs) g kb ka =
    let may = (rules_before r i (Said x ∷ a) xs ka).0 in
    elim (stays x) as (λ t. KeepsRules r i (after_saying b (cond t (x ∷ filter stays xs) (filter stays xs)))) [
      | true ↦ fewer_waiting_grown r i (Said x ∷ a) (Said x ∷ b) stays xs (grown_said a b x g) (may_say_grown a b g r i x may, kb) ka
      | false ↦ fewer_waiting_grown r i (Said x ∷ a) b stays xs (grown_unsaid a b x g) kb ka
    ]

pub waiting_has_grown : (a b : List Entry) (xs : List Message) → HasGrown a b → HasGrown (after_saying a xs) (after_saying b xs)
waiting_has_grown a b [] g = g
waiting_has_grown a b (x ∷ xs) g = waiting_has_grown (Said x ∷ a) (Said x ∷ b) xs (grown_said a b x g)
