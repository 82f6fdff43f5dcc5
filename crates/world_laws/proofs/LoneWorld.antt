-- The lone replica's world meets the premises of the headline.
use Rattle.std.proofs.Common.{◌≡◌, ℕ, ◌<◌, ◌≤◌, Bool, true, List, [], ◌∷◌, nat_lt, ◌⊎◌, inl, inr, Some, refl, sym, ap, subst, ◌∙◌, arith}
use Rattle.std.proofs.lemmas.Bool.Decides.{nat_tests}
use Rattle.lmots_core.specs.declared.seed.OtsSeed.{OtsSeed}
use Rattle.fab_base.specs.Quorums.{greatest_faulty, count_members}
use Rattle.fab_base.specs.Roster.{is_cluster, is_replica, size_of}
use Rattle.fab_base.specs.declared.ids.ReplicaId.{ReplicaId}
use Rattle.fab_base.specs.declared.ids.Who.{Who}
use Rattle.fab_base.specs.declared.requests.Request.{Request}
use Rattle.fab_base.specs.declared.messages.Vote.{Vote}
use Rattle.fab_base.specs.declared.messages.Message.{Message}
use Rattle.fab_base.proofs.Tests.{and_left, and_right, and_both}
use Rattle.fab_rules.specs.Lists.{In}
use Rattle.fab_rules.specs.Format.{digest_fits, signature_fits, vote_fits}
use Rattle.fab_rules.specs.Digests.{batch_digest}
use Rattle.fab_rules.specs.Statements.{statements_of, signer_of, unsigned, batches_of}
use Rattle.fab_rules.specs.Shape.{IsShaped}
use Rattle.fab_rules.specs.Diary.{Entry, Heard, Said, PrepareHeard, CommitHeard, QuorumHeard}
use Rattle.fab_rules.specs.Rules.{MaySay, WholeRounds, IsHonest}
use Rattle.fab_rules.proofs.Digests.{batch_digest_fits}
use Rattle.fab_rules.proofs.Lengths.{prepare_is_spelled, commit_is_spelled, proposal_is_spelled}
use Rattle.fab_rules.proofs.Saying.{same_heard}
use Rattle.bft_verify.specs.Sound.{signature_of, IsSound}
use Rattle.world_laws.specs.World.{member_of, IsWorld, AllHonest, is_faulty, FewFaulty, IsMade, Unforged, IsKnown, NoClash}
use Rattle.world_laws.specs.Signing.{signature_by}
use Rattle.world_laws.specs.LoneWorld.{lone, only, lone_proposal, lone_vote, lone_block, lone_signed_proposal, lone_prepare, lone_commit, lone_diary, lone_ring, lone_world}
use Rattle.world_laws.proofs.Made as made
use Rattle.world_laws.proofs.Signing.{signature_is_short, IsSigned, leaf_signed, sound}

-- ---- its messages are shaped, whatever they are signed with

vote_fits_with : (sig : List ℕ) → signature_fits sig ≡ true → vote_fits (record lone_vote { sig = sig }) ≡ true
vote_fits_with sig h = and_both (digest_fits (batch_digest [])) (signature_fits sig) (batch_digest_fits []) h

prepare_is_shaped : (sig : List ℕ) → signature_fits sig ≡ true → IsShaped lone (Message.Prepare (record lone_vote { sig = sig }))
prepare_is_shaped sig h = record { spelled = prepare_is_spelled (record lone_vote { sig = sig }) (vote_fits_with sig h); fitting = refl }

commit_is_shaped : (sig : List ℕ) → signature_fits sig ≡ true → IsShaped lone (Message.Commit (record lone_vote { sig = sig }))
commit_is_shaped sig h = record { spelled = commit_is_spelled (record lone_vote { sig = sig }) (vote_fits_with sig h); fitting = refl }

proposal_is_shaped : (sig : List ℕ) → signature_fits sig ≡ true → IsShaped lone (Message.PrePrepare (record lone_proposal { sig = sig }))
proposal_is_shaped sig h = record { spelled = proposal_is_spelled (record lone_proposal { sig = sig }) h; fitting = refl }

-- ---- its one member

pub one_cluster : (c : ℕ) → is_cluster lone c ≡ true → c ≡ 1
one_cluster c h = grind (arith, nat_tests)

below_one : (k : ℕ) → nat_lt k 1 ≡ true → k ≡ 0
below_one k h = grind (arith, nat_tests)

pub is_only : (i : ReplicaId) → is_replica lone i ≡ true → only ≡ i
is_only i h =
    let in_cluster : Bool = nat_lt i.index (size_of lone i.cluster) in
    let c = one_cluster i.cluster (and_left (is_cluster lone i.cluster) in_cluster h) in
    let below = subst (λ x. nat_lt i.index (size_of lone x) ≡ true) c (and_right (is_cluster lone i.cluster) in_cluster h) in
    let k = below_one i.index below in
    ap (λ x. record { cluster = x; index = 0 }) (sym c) ∙ ap (λ x. record { cluster = i.cluster; index = x }) (sym k)

-- ---- it heard three messages

module _ (seed : OtsSeed) where
  -- what holds of the three holds of each that was heard
  pub by_heard : (P : Message → Type 0) → P (Message.Commit (lone_commit seed)) → P (Message.Prepare (lone_prepare seed))
      → P (Message.PrePrepare (lone_signed_proposal seed)) → (m : Message) → In (Heard m) (lone_diary seed) → P m
  by_heard P commit prepare proposal m (inl e) = cc
  by_heard P commit prepare proposal m (inr (inl e)) = subst P (same_heard (Message.Commit (lone_commit seed)) m e) commit
  by_heard P commit prepare proposal m (inr (inr (inl e))) = cc
  by_heard P commit prepare proposal m (inr (inr (inr (inl e)))) = subst P (same_heard (Message.Prepare (lone_prepare seed)) m e) prepare
  by_heard P commit prepare proposal m (inr (inr (inr (inr (inl e))))) = cc
  by_heard P commit prepare proposal m (inr (inr (inr (inr (inr (inl e)))))) =
      subst P (same_heard (Message.PrePrepare (lone_signed_proposal seed)) m e) proposal
  by_heard P commit prepare proposal m (inr (inr (inr (inr (inr (inr (inl e))))))) = cc
  by_heard P commit prepare proposal m (inr (inr (inr (inr (inr (inr (inr h))))))) = absurd h

  -- ---- they are sound

  -- what it signed by a leaf is validly signed
  signed : (leaf : ℕ) (p : Message) → leaf < 32 → signer_of p ≡ Some (Who.Replica only) → signature_by seed leaf (unsigned p) ≡ signature_of p
      → IsSigned (lone_ring seed) p
  signed leaf p lt = leaf_signed seed (lone_ring seed) (Who.Replica only) leaf p lt refl

  commit_is_sound : IsSound lone (lone_ring seed) (Message.Commit (lone_commit seed))
  commit_is_sound =
      let m : Message = Message.Commit (lone_commit seed) in
      sound lone (lone_ring seed) m (commit_is_shaped _ (signature_is_short seed 2 (Message.Commit lone_vote) (omega arith)))
      (signed 2 m (omega arith) refl refl, tt)

  prepare_is_sound : IsSound lone (lone_ring seed) (Message.Prepare (lone_prepare seed))
  prepare_is_sound =
      let m : Message = Message.Prepare (lone_prepare seed) in
      sound lone (lone_ring seed) m (prepare_is_shaped _ (signature_is_short seed 1 (Message.Prepare lone_vote) (omega arith)))
      (signed 1 m (omega arith) refl refl, tt)

  proposal_is_sound : IsSound lone (lone_ring seed) (Message.PrePrepare (lone_signed_proposal seed))
  proposal_is_sound =
      let m : Message = Message.PrePrepare (lone_signed_proposal seed) in
      sound lone (lone_ring seed) m (proposal_is_shaped _ (signature_is_short seed 0 (Message.PrePrepare lone_proposal) (omega arith)))
      (signed 0 m (omega arith) refl refl, tt)

  -- ---- its diary is honest

  abbrev proposed : List Entry
  proposed = Heard (Message.PrePrepare (lone_signed_proposal seed)) ∷ Said (Message.PrePrepare lone_proposal) ∷ []

  abbrev prepared : List Entry
  prepared = Heard (Message.Prepare (lone_prepare seed)) ∷ Said (Message.Prepare lone_vote) ∷ proposed

  abbrev committed : List Entry
  committed = Heard (Message.Commit (lone_commit seed)) ∷ Said (Message.Commit lone_vote) ∷ prepared

  -- the one member is a quorum, and its vote was heard
  quorum_heard : (sig : List ℕ) (WasHeard : Vote → Type 0) → WasHeard (record lone_vote { sig = sig })
      → QuorumHeard lone WasHeard 1 0 1 (batch_digest [])
  quorum_heard sig WasHeard heard = record {
    members = 0 ∷ [];
    quorum = record { rising = (omega arith, omega arith, tt); enough = omega arith };
    each = λ k h. (elim h [
      | inl e ↦ record {
        vote = record lone_vote { sig = sig };
        heard = heard;
        signer = ap (member_of 1) e;
        votes_for = record { view_is = refl; slot_is = refl; digest_is = refl };
      }
      | inr none ↦ absurd none
    ]);
  }

  may_propose : MaySay lone only [] (Message.PrePrepare lone_proposal)
  may_propose = record {
    one_vote = λ other h. absurd h;
    prepare_rule = tt;
    commit_rule = tt;
    views_rise = λ c h. absurd h;
    change_reports = tt;
    primary_only = refl;
    checkpoint_rule = tt;
    note_rule = tt;
    remote_quorum = tt;
    shaped_speech = proposal_is_shaped [] refl;
  }

  may_prepare : MaySay lone only proposed (Message.Prepare lone_vote)
  may_prepare = record {
    one_vote = λ other h. (elim h [ inl e ↦ cc | inr (inl e) ↦ cc | inr (inr none) ↦ absurd none ]);
    prepare_rule = record {
      in_view_zero = λ e. record {
        proposal = lone_signed_proposal seed;
        heard = inl refl;
        cluster_is = refl;
        view_is = refl;
        slot_is = refl;
        digest_is = refl;
      };
      in_later_views = λ l. absurd (omega arith);
    };
    commit_rule = tt;
    views_rise = λ c h. (elim h [ inl e ↦ cc | inr (inl e) ↦ cc | inr (inr none) ↦ absurd none ]);
    change_reports = tt;
    primary_only = tt;
    checkpoint_rule = tt;
    note_rule = tt;
    remote_quorum = tt;
    shaped_speech = prepare_is_shaped [] refl;
  }

  may_commit : MaySay lone only prepared (Message.Commit lone_vote)
  may_commit = record {
    one_vote = λ other h. (elim h [
      | inl e ↦ cc
      | inr (inl e) ↦ cc
      | inr (inr (inl e)) ↦ cc
      | inr (inr (inr (inl e))) ↦ cc
      | inr (inr (inr (inr none))) ↦ absurd none
    ]);
    prepare_rule = tt;
    commit_rule = quorum_heard (lone_prepare seed).sig (PrepareHeard prepared) (inl refl);
    views_rise = λ c h. (elim h [
      | inl e ↦ cc
      | inr (inl e) ↦ cc
      | inr (inr (inl e)) ↦ cc
      | inr (inr (inr (inl e))) ↦ cc
      | inr (inr (inr (inr none))) ↦ absurd none
    ]);
    change_reports = tt;
    primary_only = tt;
    checkpoint_rule = tt;
    note_rule = tt;
    remote_quorum = tt;
    shaped_speech = commit_is_shaped [] refl;
  }

  block_is_next : WholeRounds lone committed lone_block
  block_is_next = record {
    round_is = refl;
    cluster_is = refl;
    view = 0;
    committed = quorum_heard (lone_commit seed).sig (CommitHeard committed)
        (record { message = Message.Commit (lone_commit seed); heard = inl refl; inside = inl refl });
    batch_heard = inl refl;
  }

  honest : IsHonest lone only (lone_diary seed)
  honest = record { rules = (block_is_next, (tt, (may_commit, (tt, (may_prepare, (tt, (may_propose, tt))))))); whole = refl }

  -- ---- the premises

  pub is_world : IsWorld (lone_world seed)
  is_world = record {
    peopled = λ c h. subst (λ x. 1 ≤ size_of lone x) (sym (one_cluster c h)) (omega arith);
    sound = λ i correct. by_heard (IsSound lone (lone_ring seed)) commit_is_sound prepare_is_sound proposal_is_sound;
  }

  pub all_honest : AllHonest (lone_world seed)
  all_honest i correct = subst (λ j. IsHonest lone j (lone_diary seed)) (is_only i correct.takes_part) honest

  pub few_faulty : FewFaulty (lone_world seed)
  few_faulty c h =
      subst (λ x. count_members (size_of lone x) (is_faulty (lone_world seed) x) ≤ greatest_faulty (size_of lone x)) (sym (one_cluster c h)) (omega arith)

  -- each of the three messages is its own one statement
  one_statement : (m p : Message) → In p (m ∷ []) → IsMade (lone_world seed) m → IsMade (lone_world seed) p
  one_statement m p (inl e) is_made = subst (IsMade (lone_world seed)) e is_made
  one_statement m p (inr none) is_made = absurd none

  pub unforged : Unforged (lone_world seed)
  unforged =
      made.unforged (lone_world seed) is_world
      (λ i correct. by_heard (λ m. (p : Message) → In p (statements_of m) → IsMade (lone_world seed) p)
      (λ p h. one_statement (Message.Commit (lone_commit seed)) p h (λ ok. inr (inr (inl refl))))
      (λ p h. one_statement (Message.Prepare (lone_prepare seed)) p h (λ ok. inr (inr (inr (inr (inl refl))))))
      (λ p h. one_statement (Message.PrePrepare (lone_signed_proposal seed)) p h (λ ok. inr (inr (inr (inr (inr (inr (inl refl)))))))))

  -- it knows the null batch alone
  pub known_is_null : (batch : List Request) → (batch ≡ []) ⊎ IsKnown (lone_world seed) batch → batch ≡ []
  known_is_null batch (inl e) = e
  known_is_null batch (inr k) =
      by_heard (λ m. In batch (batches_of m) → batch ≡ []) (λ h. absurd h) (λ h. absurd h) (λ h. elim h [ inl e ↦ sym e | inr none ↦ absurd none ])
      k.message k.heard k.inside

  pub no_clash : NoClash (lone_world seed)
  no_clash a b ka kb same = known_is_null a ka ∙ sym (known_is_null b kb)
