-- The world of two clusters meets the premises of the headline.
use Rattle.std.proofs.Common.{◌≡◌, ℕ, ◌<◌, ◌≤◌, Bool, true, ◌&&◌, nat_lt, List, [], ◌∷◌, ◌++◌, ◌⊎◌, inl, inr, Some, refl, sym, ap, subst, ◌∙◌, arith}
use Rattle.std.specs.Bool.{IsTrue}
use Rattle.std.proofs.lemmas.Bool.Decides.{nat_tests}
use Rattle.lmots_core.specs.declared.seed.OtsSeed.{OtsSeed}
use Rattle.lms_tree.specs.Keys.{public_of_key}
use Rattle.fab_base.specs.Quorums.{greatest_faulty, count_members}
use Rattle.fab_base.specs.Roster.{is_cluster, is_replica, size_of}
use Rattle.fab_base.specs.Digests.{same_digest}
use Rattle.fab_base.specs.declared.ids.ReplicaId.{ReplicaId}
use Rattle.fab_base.specs.declared.ids.Who.{Who}
use Rattle.fab_base.specs.declared.requests.Request.{Request}
use Rattle.fab_base.specs.declared.messages.Vote.{Vote}
use Rattle.fab_base.specs.declared.messages.Plea.{Plea}
use Rattle.fab_base.specs.declared.messages.Message.{Message}
use Rattle.fab_base.proofs.Tests.{and_left, and_right, and_both}
use Rattle.fab_base.proofs.Digests.{same_digest_of}
use Rattle.fab_rules.specs.declared.misfits.Misfit.{Misfit}
use Rattle.fab_rules.specs.Lists.{In}
use Rattle.fab_rules.specs.Format.{digest_fits, signature_fits, vote_fits}
use Rattle.fab_rules.specs.Digests.{batch_digest}
use Rattle.fab_rules.specs.Statements.{signer_of, unsigned, statements_of, batches_of}
use Rattle.fab_rules.specs.Shape.{is_primary, is_committed, bear_digest, unless, misfits, IsShaped}
use Rattle.fab_rules.specs.Diary.{Entry, Heard, Did, PrepareHeard, CommitHeard, QuorumHeard}
use Rattle.fab_rules.specs.Rules.{MaySay, KeepsRules, IsHonest}
use Rattle.fab_rules.proofs.Digests.{batch_digest_fits}
use Rattle.fab_rules.proofs.Lengths.{proposal_is_spelled, prepare_is_spelled, commit_is_spelled, drvc_is_spelled, rvc_is_spelled, share_is_spelled}
use Rattle.bft_verify.specs.Ring.{Ring, key_of}
use Rattle.bft_verify.specs.Sound.{signature_of, IsSound}
use Rattle.world_laws.specs.World.{World, IsWorld, AllHonest, is_faulty, FewFaulty, IsMade, Unforged, IsKnown, NoClash}
use Rattle.world_laws.specs.Signing.{signing_key, signature_by}
use Rattle.world_laws.specs.PairWorld.{pair, one_of, null_proposal, null_vote, null_share, null_block, plea_for, null_signed_proposal, null_prepare, null_commit, drvc_for, rvc_for, pair_proposed, pair_prepared, pair_committed, pleaded, answered, pair_diary, pair_ring, pair_world}
use Rattle.world_laws.proofs.Made as made
use Rattle.world_laws.proofs.Signing.{signature_is_short, IsSigned, leaf_signed, sound}
use Rattle.world_laws.proofs.Written.{Each, each, EachHeard, each_heard, each_said, OtherProposal, OtherPrepare, OtherCommit, NotBeyond}

-- ---- what each of the two says and hears is shaped, whatever it is signed with

abbrev vote_with : ℕ → List ℕ → Vote
vote_with c sig = record (null_vote c) { sig = sig }

abbrev plea_with : ℕ → ℕ → List ℕ → Plea
plea_with c d sig = record (plea_for c d) { sig = sig }

same_null : same_digest (batch_digest []) (batch_digest []) ≡ true
same_null = same_digest_of (batch_digest []) (batch_digest []) refl

record Speaks (c d : ℕ) : Type 0 where
  one : size_of pair c ≡ 1
  primary : IsTrue (is_primary pair c 0 0)
  proposal : (sig : List ℕ) → signature_fits sig ≡ true → IsShaped pair (Message.PrePrepare (record (null_proposal c) { sig = sig }))
  prepare : (sig : List ℕ) → signature_fits sig ≡ true → IsShaped pair (Message.Prepare (vote_with c sig))
  commit : (sig : List ℕ) → signature_fits sig ≡ true → IsShaped pair (Message.Commit (vote_with c sig))
  drvc : (sig : List ℕ) → signature_fits sig ≡ true → IsShaped pair (Message.Drvc (plea_with c d sig))
  rvc : (sig : List ℕ) → signature_fits sig ≡ true → IsShaped pair (Message.Rvc (plea_with c d sig))
  share : (sig : List ℕ) → signature_fits sig ≡ true
      → IsShaped pair (Message.Share (record { cluster = c; batch = []; votes = vote_with c sig ∷ [] }))

fits_with : (sig : List ℕ) → signature_fits sig ≡ true → (digest_fits (batch_digest []) && signature_fits sig) ≡ true
fits_with sig h = and_both (digest_fits (batch_digest [])) (signature_fits sig) (batch_digest_fits []) h

-- the test of the one vote of a Share
alone : (b : Bool) → b ≡ true → ((b && true) && true) ≡ true
alone b h = and_both (b && true) true (and_both b true h refl) refl

-- nothing is wrong with a Share whose votes agree and bear its digest
none_wrong : (p q : Bool) → p ≡ true → q ≡ true → (unless p (Misfit.BadCert 0) ++ unless q (Misfit.WrongDigest 0)) ++ [] ≡ []
none_wrong p q e f = rw (e, f) refl

first_share_fitting : (sig : List ℕ) → misfits pair (Message.Share (record { cluster = 1; batch = []; votes = vote_with 1 sig ∷ [] })) ≡ []
first_share_fitting sig =
    none_wrong (is_committed pair (record { cluster = 1; batch = []; votes = vote_with 1 sig ∷ [] })) (bear_digest [] (vote_with 1 sig ∷ []))
    (and_both (same_digest (batch_digest []) (batch_digest [])) true same_null refl)
    (and_both (same_digest (batch_digest []) (batch_digest [])) true same_null refl)

second_share_fitting : (sig : List ℕ) → misfits pair (Message.Share (record { cluster = 2; batch = []; votes = vote_with 2 sig ∷ [] })) ≡ []
second_share_fitting sig =
    none_wrong (is_committed pair (record { cluster = 2; batch = []; votes = vote_with 2 sig ∷ [] })) (bear_digest [] (vote_with 2 sig ∷ []))
    (and_both (same_digest (batch_digest []) (batch_digest [])) true same_null refl)
    (and_both (same_digest (batch_digest []) (batch_digest [])) true same_null refl)

first_speaks : Speaks 1 2
first_speaks = record {
  one = refl;
  primary = refl;
  proposal = λ sig h. record { spelled = proposal_is_spelled (record (null_proposal 1) { sig = sig }) h; fitting = refl };
  prepare = λ sig h. record { spelled = prepare_is_spelled (vote_with 1 sig) (fits_with sig h); fitting = refl };
  commit = λ sig h. record { spelled = commit_is_spelled (vote_with 1 sig) (fits_with sig h); fitting = refl };
  drvc = λ sig h. record { spelled = drvc_is_spelled (plea_with 1 2 sig) h; fitting = refl };
  rvc = λ sig h. record { spelled = rvc_is_spelled (plea_with 1 2 sig) h; fitting = refl };
  share = λ sig h. record {
    spelled = share_is_spelled (record { cluster = 1; batch = []; votes = vote_with 1 sig ∷ [] }) (alone (vote_fits (vote_with 1 sig)) (fits_with sig h));
    fitting = first_share_fitting sig;
  };
}

second_speaks : Speaks 2 1
second_speaks = record {
  one = refl;
  primary = refl;
  proposal = λ sig h. record { spelled = proposal_is_spelled (record (null_proposal 2) { sig = sig }) h; fitting = refl };
  prepare = λ sig h. record { spelled = prepare_is_spelled (vote_with 2 sig) (fits_with sig h); fitting = refl };
  commit = λ sig h. record { spelled = commit_is_spelled (vote_with 2 sig) (fits_with sig h); fitting = refl };
  drvc = λ sig h. record { spelled = drvc_is_spelled (plea_with 2 1 sig) h; fitting = refl };
  rvc = λ sig h. record { spelled = rvc_is_spelled (plea_with 2 1 sig) h; fitting = refl };
  share = λ sig h. record {
    spelled = share_is_spelled (record { cluster = 2; batch = []; votes = vote_with 2 sig ∷ [] }) (alone (vote_fits (vote_with 2 sig)) (fits_with sig h));
    fitting = second_share_fitting sig;
  };
}

-- ---- what each of the two hears is sound: its own statements and the other's, under their keys

-- replica c signs by this seed's key
abbrev Signs : Ring → ℕ → OtsSeed → Type 0
Signs ring c seed = key_of ring (Who.Replica (one_of c)) ≡ Some (public_of_key (signing_key seed))

module _ (ring : Ring) (seed : OtsSeed) (c d : ℕ) (speaks : Speaks c d) (key : Signs ring c seed) where
  signed : (leaf : ℕ) (p : Message) → leaf < 32 → signer_of p ≡ Some (Who.Replica (one_of c)) → signature_by seed leaf (unsigned p) ≡ signature_of p
      → IsSigned ring p
  signed leaf p lt = leaf_signed seed ring (Who.Replica (one_of c)) leaf p lt key

  proposal_sound : IsSound pair ring (Message.PrePrepare (null_signed_proposal seed c))
  proposal_sound =
      let m : Message = Message.PrePrepare (null_signed_proposal seed c) in
      sound pair ring m (speaks.proposal _ (signature_is_short seed 0 (Message.PrePrepare (null_proposal c)) (omega arith)))
      (signed 0 m (omega arith) refl refl, tt)

  prepare_sound : IsSound pair ring (Message.Prepare (null_prepare seed c))
  prepare_sound =
      let m : Message = Message.Prepare (null_prepare seed c) in
      sound pair ring m (speaks.prepare _ (signature_is_short seed 1 (Message.Prepare (null_vote c)) (omega arith)))
      (signed 1 m (omega arith) refl refl, tt)

  commit_sound : IsSound pair ring (Message.Commit (null_commit seed c))
  commit_sound =
      let m : Message = Message.Commit (null_commit seed c) in
      sound pair ring m (speaks.commit _ (signature_is_short seed 2 (Message.Commit (null_vote c)) (omega arith)))
      (signed 2 m (omega arith) refl refl, tt)

  drvc_sound : IsSound pair ring (Message.Drvc (drvc_for seed c d))
  drvc_sound =
      let m : Message = Message.Drvc (drvc_for seed c d) in
      sound pair ring m (speaks.drvc _ (signature_is_short seed 3 (Message.Drvc (plea_for c d)) (omega arith)))
      (signed 3 m (omega arith) refl refl, tt)

  rvc_sound : IsSound pair ring (Message.Rvc (rvc_for seed c d))
  rvc_sound =
      let m : Message = Message.Rvc (rvc_for seed c d) in
      sound pair ring m (speaks.rvc _ (signature_is_short seed 4 (Message.Rvc (plea_for c d)) (omega arith)))
      (signed 4 m (omega arith) refl refl, tt)

  -- nobody signs the Share itself
  share_sound : IsSound pair ring (Message.Share (null_share seed c))
  share_sound =
      sound pair ring (Message.Share (null_share seed c)) (speaks.share _ (signature_is_short seed 2 (Message.Commit (null_vote c)) (omega arith)))
      ((λ who e. cc), (signed 2 (Message.Commit (null_commit seed c)) (omega arith) refl refl, tt))

all_sound : (ring : Ring) (own other : OtsSeed) (c d : ℕ) → Speaks c d → Speaks d c → Signs ring c own → Signs ring d other
    → EachHeard (IsSound pair ring) (pair_diary own other c d)
all_sound ring own other c d speaks heard key beside = (
  share_sound ring other d c heard beside,
  (
    rvc_sound ring other d c heard beside,
    (
      drvc_sound ring own c d speaks key,
      (commit_sound ring own c d speaks key, (prepare_sound ring own c d speaks key, (proposal_sound ring own c d speaks key, tt))),
    ),
  ),
)

-- ---- honest up to the blocks

module _ (own other : OtsSeed) (c d : ℕ) (speaks : Speaks c d) where
  quorum_heard : (WasHeard : Vote → Type 0) (sig : List ℕ) → WasHeard (vote_with c sig) → QuorumHeard pair WasHeard c 0 1 (batch_digest [])
  quorum_heard WasHeard sig heard = record {
    members = 0 ∷ [];
    quorum = record { rising = (omega arith, omega (arith, speaks.one), tt); enough = omega (arith, speaks.one) };
    each = λ k h. (elim h [
      | inl e ↦ record {
        vote = vote_with c sig;
        heard = heard;
        signer = ap (λ x. record { cluster = c; index = x }) e;
        votes_for = record { view_is = refl; slot_is = refl; digest_is = refl };
      }
      | inr none ↦ absurd none
    ]);
  }

  may_propose : MaySay pair (one_of c) [] (Message.PrePrepare (null_proposal c))
  may_propose = record {
    one_vote = λ other. each_said (OtherProposal 0 1) [] (Message.PrePrepare other) tt;
    prepare_rule = tt;
    commit_rule = tt;
    views_rise = λ v. each_said (NotBeyond 0) [] (Message.ViewChange v) tt;
    change_reports = tt;
    primary_only = speaks.primary;
    checkpoint_rule = tt;
    note_rule = tt;
    remote_quorum = tt;
    shaped_speech = speaks.proposal [] refl;
  }

  may_prepare : MaySay pair (one_of c) (pair_proposed own c) (Message.Prepare (null_vote c))
  may_prepare = record {
    one_vote = λ other. each_said (OtherPrepare 0 1) (pair_proposed own c) (Message.Prepare other) (tt, tt);
    prepare_rule = record {
      in_view_zero = λ e. record {
        proposal = null_signed_proposal own c;
        heard = inl refl;
        cluster_is = refl;
        view_is = refl;
        slot_is = refl;
        digest_is = refl;
      };
      in_later_views = λ l. absurd (omega arith);
    };
    commit_rule = tt;
    views_rise = λ v. each_said (NotBeyond 0) (pair_proposed own c) (Message.ViewChange v) (tt, tt);
    change_reports = tt;
    primary_only = tt;
    checkpoint_rule = tt;
    note_rule = tt;
    remote_quorum = tt;
    shaped_speech = speaks.prepare [] refl;
  }

  may_commit : MaySay pair (one_of c) (pair_prepared own c) (Message.Commit (null_vote c))
  may_commit = record {
    one_vote = λ other. each_said (OtherCommit 0 1) (pair_prepared own c) (Message.Commit other) (tt, (tt, tt));
    prepare_rule = tt;
    commit_rule = quorum_heard (PrepareHeard (pair_prepared own c)) (null_prepare own c).sig (inl refl);
    views_rise = λ v. each_said (NotBeyond 0) (pair_prepared own c) (Message.ViewChange v) (tt, (tt, tt));
    change_reports = tt;
    primary_only = tt;
    checkpoint_rule = tt;
    note_rule = tt;
    remote_quorum = tt;
    shaped_speech = speaks.commit [] refl;
  }

  may_miss : MaySay pair (one_of c) (pair_committed own c) (Message.Drvc (plea_for c d))
  may_miss = record {
    one_vote = tt;
    prepare_rule = tt;
    commit_rule = tt;
    views_rise = tt;
    change_reports = tt;
    primary_only = tt;
    checkpoint_rule = tt;
    note_rule = tt;
    remote_quorum = tt;
    shaped_speech = speaks.drvc [] refl;
  }

  may_plead : MaySay pair (one_of c) (pleaded own c d) (Message.Rvc (plea_for c d))
  may_plead = record {
    one_vote = tt;
    prepare_rule = tt;
    commit_rule = tt;
    views_rise = tt;
    change_reports = tt;
    primary_only = tt;
    checkpoint_rule = tt;
    note_rule = tt;
    remote_quorum = record {
      members = 0 ∷ [];
      quorum = record { rising = (omega arith, omega (arith, speaks.one), tt); enough = omega (arith, speaks.one) };
      each = λ k h. (elim h [
        | inl e ↦ record {
          plea = drvc_for own c d;
          heard = inl refl;
          signer = ap (λ x. record { cluster = c; index = x }) e;
          target_is = refl;
          round_is = refl;
          count_is = refl;
        }
        | inr none ↦ absurd none
      ]);
    };
    shaped_speech = speaks.rvc [] refl;
  }

  rules_kept : KeepsRules pair (one_of c) (answered own other c d)
  rules_kept = (tt, (tt, (may_plead, (tt, (may_miss, (tt, (may_commit, (tt, (may_prepare, (tt, (may_propose, tt)))))))))))

-- the other's Commit stands in its Share, the own one was heard by itself
abbrev own_heard : (own other : OtsSeed) (c d : ℕ) → Speaks c d → (past : List Entry) → In (Heard (Message.Commit (null_commit own c))) past
    → QuorumHeard pair (CommitHeard past) c 0 1 (batch_digest [])
own_heard own other c d speaks past h =
    quorum_heard own other c d speaks (CommitHeard past) (null_commit own c).sig
    (record { message = Message.Commit (null_commit own c); heard = h; inside = inl refl })

abbrev share_heard : (own other : OtsSeed) (c d : ℕ) → Speaks c d → (past : List Entry) → In (Heard (Message.Share (null_share own c))) past
    → QuorumHeard pair (CommitHeard past) c 0 1 (batch_digest [])
share_heard own other c d speaks past h =
    quorum_heard own other c d speaks (CommitHeard past) (null_commit own c).sig
    (record { message = Message.Share (null_share own c); heard = h; inside = inl refl })

module _ (first second : OtsSeed) where
  abbrev at_first : List Entry
  at_first = answered first second 1 2

  abbrev at_second : List Entry
  at_second = answered second first 2 1

  first_honest : IsHonest pair (one_of 1) (pair_diary first second 1 2)
  first_honest = record {
    rules = (
      record {
        round_is = refl;
        cluster_is = refl;
        view = 0;
        committed = share_heard second first 2 1 second_speaks (Did (null_block 1) ∷ at_first) (inr (inl refl));
        batch_heard = inl refl;
      },
      (
        record {
          round_is = refl;
          cluster_is = refl;
          view = 0;
          committed = own_heard first second 1 2 first_speaks at_first (inr (inr (inr (inr (inr (inl refl))))));
          batch_heard = inl refl;
        },
        rules_kept first second 1 2 first_speaks,
      ),
    );
    whole = refl;
  }

  second_honest : IsHonest pair (one_of 2) (pair_diary second first 2 1)
  second_honest = record {
    rules = (
      record {
        round_is = refl;
        cluster_is = refl;
        view = 0;
        committed = own_heard second first 2 1 second_speaks (Did (null_block 1) ∷ at_second) (inr (inr (inr (inr (inr (inr (inl refl)))))));
        batch_heard = inl refl;
      },
      (
        record {
          round_is = refl;
          cluster_is = refl;
          view = 0;
          committed = share_heard first second 1 2 first_speaks at_second (inl refl);
          batch_heard = inl refl;
        },
        rules_kept second first 2 1 second_speaks,
      ),
    );
    whole = refl;
  }

-- ---- there are two replicas

two_clusters : (c : ℕ) → is_cluster pair c ≡ true → (c ≡ 1) ⊎ (c ≡ 2)
two_clusters c h = grind (arith, nat_tests)

of_one : (c : ℕ) → (c ≡ 1) ⊎ (c ≡ 2) → size_of pair c ≡ 1
of_one c (inl e) = ap (size_of pair) e
of_one c (inr e) = ap (size_of pair) e

below_one : (n k : ℕ) → n ≡ 1 → nat_lt k n ≡ true → 0 ≡ k
below_one n k e h = grind (arith, nat_tests)

is_one_of : (i : ReplicaId) → is_replica pair i ≡ true → (one_of 1 ≡ i) ⊎ (one_of 2 ≡ i)
is_one_of i h =
    let cluster = two_clusters i.cluster (and_left (is_cluster pair i.cluster) (nat_lt i.index (size_of pair i.cluster)) h) in
    let index = below_one (size_of pair i.cluster) i.index (of_one i.cluster cluster) (and_right (is_cluster pair i.cluster) (nat_lt i.index (size_of pair i.cluster)) h) in
    elim cluster [
      | inl e ↦ inl (ap (λ x. record { cluster = 1; index = x }) index ∙ ap (λ x. record { cluster = x; index = i.index }) (sym e))
      | inr e ↦ inr (ap (λ x. record { cluster = 2; index = x }) index ∙ ap (λ x. record { cluster = x; index = i.index }) (sym e))
    ]

-- what holds of both holds of each
by_replica : (P : ReplicaId → Type 0) → P (one_of 1) → P (one_of 2) → (i : ReplicaId) → is_replica pair i ≡ true → P i
by_replica P first second i h = elim (is_one_of i h) [ inl e ↦ subst P e first | inr e ↦ subst P e second ]

-- ---- the premises

module _ (first second : OtsSeed) where
  abbrev w : World
  w = pair_world first second

  pub is_world : IsWorld w
  is_world =
      let ring : Ring = pair_ring first second in
      record {
        peopled = λ c h. omega (arith, of_one c (two_clusters c h));
        sound = λ i correct. by_replica (λ j. (m : Message) → In (Heard m) (w.diary j) → IsSound pair ring m)
            (λ m. each_heard (IsSound pair ring) (pair_diary first second 1 2) m (all_sound ring first second 1 2 first_speaks second_speaks refl refl))
            (λ m. each_heard (IsSound pair ring) (pair_diary second first 2 1) m (all_sound ring second first 2 1 second_speaks first_speaks refl refl))
            i correct.takes_part;
      }

  pub all_honest : AllHonest w
  all_honest i correct =
      by_replica (λ j. IsHonest pair j (w.diary j)) (first_honest first second) (second_honest first second) i correct.takes_part

  pub few_faulty : FewFaulty w
  few_faulty c h = elim (two_clusters c h) [
    | inl e ↦ subst (λ x. count_members (size_of pair x) (is_faulty w x) ≤ greatest_faulty (size_of pair x)) (sym e) (omega arith)
    | inr e ↦ subst (λ x. count_members (size_of pair x) (is_faulty w x) ≤ greatest_faulty (size_of pair x)) (sym e) (omega arith)
  ]

  abbrev Stated : Message → Type 0
  Stated m = Each (IsMade w) (statements_of m)

  first_made : EachHeard Stated (pair_diary first second 1 2)
  first_made = (
    ((λ ok. inr (inr (inr (inr (inr (inr (inr (inr (inl refl))))))))), tt),
    (
      ((λ ok. inr (inr (inr (inr (inl refl))))), tt),
      (
        ((λ ok. inr (inr (inr (inr (inr (inr (inl refl))))))), tt),
        (
          ((λ ok. inr (inr (inr (inr (inr (inr (inr (inr (inl refl))))))))), tt),
          (
            ((λ ok. inr (inr (inr (inr (inr (inr (inr (inr (inr (inr (inl refl))))))))))), tt),
            (((λ ok. inr (inr (inr (inr (inr (inr (inr (inr (inr (inr (inr (inr (inl refl))))))))))))), tt), tt),
          ),
        ),
      ),
    ),
  )

  second_made : EachHeard Stated (pair_diary second first 2 1)
  second_made = (
    ((λ ok. inr (inr (inr (inr (inr (inr (inr (inr (inl refl))))))))), tt),
    (
      ((λ ok. inr (inr (inr (inr (inl refl))))), tt),
      (
        ((λ ok. inr (inr (inr (inr (inr (inr (inl refl))))))), tt),
        (
          ((λ ok. inr (inr (inr (inr (inr (inr (inr (inr (inl refl))))))))), tt),
          (
            ((λ ok. inr (inr (inr (inr (inr (inr (inr (inr (inr (inr (inl refl))))))))))), tt),
            (((λ ok. inr (inr (inr (inr (inr (inr (inr (inr (inr (inr (inr (inr (inl refl))))))))))))), tt), tt),
          ),
        ),
      ),
    ),
  )

  pub unforged : Unforged w
  unforged =
      made.unforged w is_world
      (λ i correct m h p k. each (IsMade w) (statements_of m) p
      (by_replica (λ j. (x : Message) → In (Heard x) (w.diary j) → Stated x) (λ x. each_heard Stated (pair_diary first second 1 2) x first_made)
      (λ x. each_heard Stated (pair_diary second first 2 1) x second_made) i correct.takes_part m h) k)

  -- all batches are the null batch
  abbrev AllNull : Message → Type 0
  AllNull m = Each (λ batch. batch ≡ []) (batches_of m)

  first_null : EachHeard AllNull (pair_diary first second 1 2)
  first_null = ((refl, tt), (tt, (tt, (tt, (tt, ((refl, tt), tt))))))

  second_null : EachHeard AllNull (pair_diary second first 2 1)
  second_null = ((refl, tt), (tt, (tt, (tt, (tt, ((refl, tt), tt))))))

  known_is_null : (batch : List Request) → (batch ≡ []) ⊎ IsKnown w batch → batch ≡ []
  known_is_null batch (inl e) = e
  known_is_null batch (inr k) =
      each (λ x. x ≡ []) (batches_of k.message) batch
      (by_replica (λ j. (x : Message) → In (Heard x) (w.diary j) → AllNull x) (λ x. each_heard AllNull (pair_diary first second 1 2) x first_null)
      (λ x. each_heard AllNull (pair_diary second first 2 1) x second_null) k.hearer k.correct.takes_part k.message k.heard) k.inside

  pub no_clash : NoClash w
  no_clash a b ka kb same = known_is_null a ka ∙ sym (known_is_null b kb)
