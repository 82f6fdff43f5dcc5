-- The busy replica's world meets the premises of the headline.
use Rattle.std.proofs.Common.{◌≡◌, ℕ, ◌<◌, ◌≤◌, Bool, true, ◌&&◌, List, [], ◌∷◌, ◌++◌, ◌⊎◌, inl, inr, Some, refl, sym, ap, subst, ◌∙◌, arith}
use Rattle.std.specs.Prelude.{slice_index}
use Rattle.sha2.specs.Sha256.{first_words, schedule, rounds, compress, hash_after, digest_bytes, sha256}
use Rattle.lmots_core.specs.declared.seed.OtsSeed.{OtsSeed}
use Rattle.fab_base.specs.Quorums.{greatest_faulty, count_members}
use Rattle.fab_base.specs.Roster.{size_of}
use Rattle.fab_base.specs.Digests.{same_digest}
use Rattle.fab_base.specs.declared.ids.Who.{Who}
use Rattle.fab_base.specs.declared.requests.Request.{Request}
use Rattle.fab_base.specs.declared.requests.Reply.TheVariants.{Wrote}
use Rattle.fab_base.specs.declared.requests.Outcome.TheVariants.{Done}
use Rattle.fab_base.specs.declared.messages.PrePrepare.{PrePrepare}
use Rattle.fab_base.specs.declared.messages.Vote.{Vote}
use Rattle.fab_base.specs.declared.messages.ViewChange.{ViewChange}
use Rattle.fab_base.specs.declared.messages.Message.{Message}
use Rattle.fab_base.proofs.Tests.{and_both}
use Rattle.fab_base.proofs.Digests.{same_digest_of}
use Rattle.fab_rules.specs.declared.misfits.Misfit.{Misfit}
use Rattle.fab_rules.specs.Format.{digest_fits, signature_fits, request_fits, batch_fits, vote_fits, votes_fit, stable_vote_fits, proof_fits, certificate_fits, certificates_fit, view_change_fits, view_changes_fit, new_view_fits}
use Rattle.fab_rules.specs.Digests.{batch_digest}
use Rattle.fab_rules.specs.Statements.{signer_of, unsigned, statements_of, batches_of}
use Rattle.fab_rules.specs.Shape.{is_proved, is_prepared, bear_digest, unless, misfits, IsShaped}
use Rattle.fab_rules.specs.Ledger.{chain_start}
use Rattle.fab_rules.specs.Diary.{Heard, Did, PrepareHeard, CommitHeard, QuorumHeard}
use Rattle.fab_rules.specs.Rules.{MaySay, WholeRounds, IsHonest}
use Rattle.fab_rules.proofs.Digests.{batch_digest_fits, linked_fits}
use Rattle.fab_rules.proofs.Lengths.{request_is_spelled, proposal_is_spelled, prepare_is_spelled, commit_is_spelled, checkpoint_is_spelled, view_change_is_spelled, new_view_is_spelled, note_is_spelled}
use Rattle.bft_verify.specs.Ring.{Ring}
use Rattle.bft_verify.specs.Sound.{signature_of, IsSound}
use Rattle.world_laws.specs.World.{member_of, IsWorld, AllHonest, is_faulty, FewFaulty, IsMade, Unforged, IsKnown, NoClash, IsRepeated}
use Rattle.world_laws.specs.Signing.{signature_by, blank_signature}
use Rattle.world_laws.specs.LoneWorld.{only}
use Rattle.world_laws.specs.BusyWorld.{busy, first_request, second_request, first_batch, second_batch, proposal_for, vote_for, first_block, first_lines, first_note, first_mark, first_proposal, first_prepare, first_commit, heard_mark, second_proposal, second_prepare, second_certificate, only_change, heard_change, only_new_view, heard_new_view, asked, proposed_first, prepared_first, committed_first, done_first, marked, proposed_second, prepared_second, asking, begun, busy_diary, busy_ring, busy_world}
use Rattle.world_laws.proofs.Made as made
use Rattle.world_laws.proofs.Signing.{signature_is_short, blank_is_short, IsSigned, leaf_signed, blank_signed, sound}
use Rattle.world_laws.proofs.LoneWorld.{is_only, one_cluster}
use Rattle.world_laws.proofs.Written.{Each, each, each_said, EachHeard, each_heard, OtherProposal, OtherPrepare, OtherCommit, OtherMark, OtherNote, NotBeyond, NoChange, CoveredBy}

-- ---- what fits: requests and batches, and whatever bears a signature that fits

-- the test of a list of one item whose order can't fail
alone : (b : Bool) → b ≡ true → ((b && true) && true) ≡ true
alone b h = and_both (b && true) true (and_both b true h refl) refl

first_fits : batch_fits first_batch ≡ true
first_fits = and_both (request_fits first_request) true blank_is_short refl

second_fits : batch_fits second_batch ≡ true
second_fits = and_both (request_fits second_request) true blank_is_short refl

abbrev vote_with : ℕ → ℕ → List Request → List ℕ → Vote
vote_with view slot batch sig = record (vote_for view slot batch) { sig = sig }

first_vote_fits : (sig : List ℕ) → signature_fits sig ≡ true → vote_fits (vote_with 0 1 first_batch sig) ≡ true
first_vote_fits sig h = and_both (digest_fits (batch_digest first_batch)) (signature_fits sig) (batch_digest_fits first_batch) h

second_vote_fits : (sig : List ℕ) → signature_fits sig ≡ true → vote_fits (vote_with 0 2 second_batch sig) ≡ true
second_vote_fits sig h = and_both (digest_fits (batch_digest second_batch)) (signature_fits sig) (batch_digest_fits second_batch) h

later_vote_fits : vote_fits (vote_for 1 2 second_batch) ≡ true
later_vote_fits = and_both (digest_fits (batch_digest second_batch)) true (batch_digest_fits second_batch) refl

mark_fits : (sig : List ℕ) → signature_fits sig ≡ true → stable_vote_fits (record first_mark { sig = sig }) ≡ true
mark_fits sig h = and_both (digest_fits first_mark.digest) (signature_fits sig) (linked_fits chain_start first_block) h

-- ---- its messages are shaped

first_request_is_shaped : IsShaped busy (Message.Request first_request)
first_request_is_shaped = record { spelled = request_is_spelled first_request blank_is_short; fitting = refl }

second_request_is_shaped : IsShaped busy (Message.Request second_request)
second_request_is_shaped = record { spelled = request_is_spelled second_request blank_is_short; fitting = refl }

first_proposal_is_shaped : (sig : List ℕ) → signature_fits sig ≡ true
    → IsShaped busy (Message.PrePrepare (record (proposal_for 1 first_batch) { sig = sig }))
first_proposal_is_shaped sig h =
    let x : PrePrepare = record (proposal_for 1 first_batch) { sig = sig } in
    record { spelled = proposal_is_spelled x (and_both (batch_fits first_batch) (signature_fits sig) first_fits h); fitting = refl }

second_proposal_is_shaped : (sig : List ℕ) → signature_fits sig ≡ true
    → IsShaped busy (Message.PrePrepare (record (proposal_for 2 second_batch) { sig = sig }))
second_proposal_is_shaped sig h =
    let x : PrePrepare = record (proposal_for 2 second_batch) { sig = sig } in
    record { spelled = proposal_is_spelled x (and_both (batch_fits second_batch) (signature_fits sig) second_fits h); fitting = refl }

first_prepare_is_shaped : (sig : List ℕ) → signature_fits sig ≡ true → IsShaped busy (Message.Prepare (vote_with 0 1 first_batch sig))
first_prepare_is_shaped sig h = record { spelled = prepare_is_spelled (vote_with 0 1 first_batch sig) (first_vote_fits sig h); fitting = refl }

first_commit_is_shaped : (sig : List ℕ) → signature_fits sig ≡ true → IsShaped busy (Message.Commit (vote_with 0 1 first_batch sig))
first_commit_is_shaped sig h = record { spelled = commit_is_spelled (vote_with 0 1 first_batch sig) (first_vote_fits sig h); fitting = refl }

second_prepare_is_shaped : (sig : List ℕ) → signature_fits sig ≡ true → IsShaped busy (Message.Prepare (vote_with 0 2 second_batch sig))
second_prepare_is_shaped sig h = record { spelled = prepare_is_spelled (vote_with 0 2 second_batch sig) (second_vote_fits sig h); fitting = refl }

later_prepare_is_shaped : IsShaped busy (Message.Prepare (vote_for 1 2 second_batch))
later_prepare_is_shaped = record { spelled = prepare_is_spelled (vote_for 1 2 second_batch) later_vote_fits; fitting = refl }

note_is_shaped : IsShaped busy (Message.ReplyNote first_note)
note_is_shaped = record {
  spelled = note_is_spelled first_note (and_both (digest_fits (batch_digest first_batch)) true (batch_digest_fits first_batch) refl);
  fitting = refl;
}

mark_is_shaped : (sig : List ℕ) → signature_fits sig ≡ true → IsShaped busy (Message.Checkpoint (record first_mark { sig = sig }))
mark_is_shaped sig h = record { spelled = checkpoint_is_spelled (record first_mark { sig = sig }) (mark_fits sig h); fitting = refl }

-- a digest is the same as itself
mark_itself : (same_digest first_mark.digest first_mark.digest && true) ≡ true
mark_itself = and_both (same_digest first_mark.digest first_mark.digest) true (same_digest_of first_mark.digest first_mark.digest refl) refl

second_itself : same_digest (batch_digest second_batch) (batch_digest second_batch) ≡ true
second_itself = same_digest_of (batch_digest second_batch) (batch_digest second_batch) refl

-- what is wrong with the change, if its proof, its certificate or the certificate's digest fail
abbrev wrong : ℕ → Bool → Bool → Bool → List Misfit
wrong k p q r = unless p (Misfit.BadCert k) ++ ((unless q (Misfit.BadCert k) ++ unless r (Misfit.WrongDigest k)) ++ [])

none_wrong : (k : ℕ) (p q r : Bool) → p ≡ true → q ≡ true → r ≡ true → wrong k p q r ++ [] ≡ []
none_wrong k p q r e f g = rw (e, f, g) refl

module _ (seed : OtsSeed) where
  short : (leaf : ℕ) (m : Message) → leaf < 32 → signature_fits (signature_by seed leaf m) ≡ true
  short leaf m lt = signature_is_short seed leaf m lt

  heard_mark_fits : stable_vote_fits (heard_mark seed) ≡ true
  heard_mark_fits = mark_fits (heard_mark seed).sig (short 4 (Message.Checkpoint first_mark) (omega arith))

  heard_prepare_fits : vote_fits (second_prepare seed) ≡ true
  heard_prepare_fits = second_vote_fits (second_prepare seed).sig (short 6 (Message.Prepare (vote_for 0 2 second_batch)) (omega arith))

  heard_certificate_fits : certificate_fits (second_certificate seed) ≡ true
  heard_certificate_fits =
      and_both (batch_fits second_batch) (votes_fit (second_prepare seed ∷ [])) second_fits (alone (vote_fits (second_prepare seed)) heard_prepare_fits)

  change_fits : (sig : List ℕ) → signature_fits sig ≡ true → view_change_fits (record (only_change seed) { sig = sig }) ≡ true
  change_fits sig h =
      and_both (proof_fits (heard_mark seed ∷ [])) (certificates_fit (second_certificate seed ∷ []) && signature_fits sig)
      (alone (stable_vote_fits (heard_mark seed)) heard_mark_fits)
      (and_both (certificates_fit (second_certificate seed ∷ [])) (signature_fits sig)
      (alone (certificate_fits (second_certificate seed)) heard_certificate_fits) h)

  new_view_does : (sig : List ℕ) → signature_fits sig ≡ true → new_view_fits (record (only_new_view seed) { sig = sig }) ≡ true
  new_view_does sig h =
      and_both (view_changes_fit (heard_change seed ∷ [])) (signature_fits sig)
      (alone (view_change_fits (heard_change seed)) (change_fits (heard_change seed).sig (short 7 (Message.ViewChange (only_change seed)) (omega arith)))) h

  module _ (sig : List ℕ) where
    abbrev change : ViewChange
    change = record (only_change seed) { sig = sig }

    proved : is_proved busy change ≡ true
    proved = mark_itself

    prepared_well : is_prepared busy 1 (second_certificate seed) ≡ true
    prepared_well = alone (same_digest (batch_digest second_batch) (batch_digest second_batch)) second_itself

    bears : bear_digest second_batch (second_prepare seed ∷ []) ≡ true
    bears = and_both (same_digest (batch_digest second_batch) (batch_digest second_batch)) true second_itself refl

    pub change_fitting : misfits busy (Message.ViewChange change) ≡ []
    change_fitting =
        none_wrong 0 (is_proved busy change) (is_prepared busy 1 (second_certificate seed)) (bear_digest second_batch (second_prepare seed ∷ []))
        proved prepared_well bears

    pub new_view_fitting : (own : List ℕ) → misfits busy (Message.NewView (record { signer = only; view = 1; changes = change ∷ []; sig = own })) ≡ []
    new_view_fitting own =
        none_wrong 1 (is_proved busy change) (is_prepared busy 1 (second_certificate seed)) (bear_digest second_batch (second_prepare seed ∷ []))
        proved prepared_well bears

  change_is_shaped : (sig : List ℕ) → signature_fits sig ≡ true → IsShaped busy (Message.ViewChange (record (only_change seed) { sig = sig }))
  change_is_shaped sig h =
      record { spelled = view_change_is_spelled (record (only_change seed) { sig = sig }) (change_fits sig h); fitting = change_fitting sig }

  new_view_is_shaped : (sig : List ℕ) → signature_fits sig ≡ true → IsShaped busy (Message.NewView (record (only_new_view seed) { sig = sig }))
  new_view_is_shaped sig h = record {
    spelled = new_view_is_spelled (record (only_new_view seed) { sig = sig }) (new_view_does sig h) (omega arith);
    fitting = new_view_fitting (heard_change seed).sig sig;
  }

-- ---- they are sound

module _ (seed : OtsSeed) where
  abbrev ring : Ring
  ring = busy_ring seed

  first_asked : IsSigned ring (Message.Request first_request)
  first_asked = blank_signed ring (Who.Client (record { number = 0 })) (Message.Request first_request) refl refl refl

  second_asked : IsSigned ring (Message.Request second_request)
  second_asked = blank_signed ring (Who.Client (record { number = 1 })) (Message.Request second_request) refl refl refl

  signed : (leaf : ℕ) (p : Message) → leaf < 32 → signer_of p ≡ Some (Who.Replica only) → signature_by seed leaf (unsigned p) ≡ signature_of p
      → IsSigned ring p
  signed leaf p lt = leaf_signed seed ring (Who.Replica only) leaf p lt refl

  mark_signed : IsSigned ring (Message.Checkpoint (heard_mark seed))
  mark_signed = signed 4 (Message.Checkpoint (heard_mark seed)) (omega arith) refl refl

  prepare_signed : IsSigned ring (Message.Prepare (second_prepare seed))
  prepare_signed = signed 6 (Message.Prepare (second_prepare seed)) (omega arith) refl refl

  change_signed : IsSigned ring (Message.ViewChange (heard_change seed))
  change_signed = signed 7 (Message.ViewChange (heard_change seed)) (omega arith) refl refl

  new_view_sound : IsSound busy ring (Message.NewView (heard_new_view seed))
  new_view_sound =
      let m : Message = Message.NewView (heard_new_view seed) in
      sound busy ring m (new_view_is_shaped seed _ (signature_is_short seed 8 (Message.NewView (only_new_view seed)) (omega arith)))
      (signed 8 m (omega arith) refl refl, (change_signed, (mark_signed, (second_asked, (prepare_signed, tt)))))

  change_sound : IsSound busy ring (Message.ViewChange (heard_change seed))
  change_sound =
      sound busy ring (Message.ViewChange (heard_change seed))
      (change_is_shaped seed _ (signature_is_short seed 7 (Message.ViewChange (only_change seed)) (omega arith)))
      (change_signed, (mark_signed, (second_asked, (prepare_signed, tt))))

  second_prepare_sound : IsSound busy ring (Message.Prepare (second_prepare seed))
  second_prepare_sound =
      sound busy ring (Message.Prepare (second_prepare seed))
      (second_prepare_is_shaped _ (signature_is_short seed 6 (Message.Prepare (vote_for 0 2 second_batch)) (omega arith))) (prepare_signed, tt)

  second_proposal_sound : IsSound busy ring (Message.PrePrepare (second_proposal seed))
  second_proposal_sound =
      let m : Message = Message.PrePrepare (second_proposal seed) in
      sound busy ring m (second_proposal_is_shaped _ (signature_is_short seed 5 (Message.PrePrepare (proposal_for 2 second_batch)) (omega arith)))
      (signed 5 m (omega arith) refl refl, (second_asked, tt))

  mark_sound : IsSound busy ring (Message.Checkpoint (heard_mark seed))
  mark_sound =
      sound busy ring (Message.Checkpoint (heard_mark seed)) (mark_is_shaped _ (signature_is_short seed 4 (Message.Checkpoint first_mark) (omega arith)))
      (mark_signed, tt)

  commit_sound : IsSound busy ring (Message.Commit (first_commit seed))
  commit_sound =
      let m : Message = Message.Commit (first_commit seed) in
      sound busy ring m (first_commit_is_shaped _ (signature_is_short seed 2 (Message.Commit (vote_for 0 1 first_batch)) (omega arith)))
      (signed 2 m (omega arith) refl refl, tt)

  first_prepare_sound : IsSound busy ring (Message.Prepare (first_prepare seed))
  first_prepare_sound =
      let m : Message = Message.Prepare (first_prepare seed) in
      sound busy ring m (first_prepare_is_shaped _ (signature_is_short seed 1 (Message.Prepare (vote_for 0 1 first_batch)) (omega arith)))
      (signed 1 m (omega arith) refl refl, tt)

  first_proposal_sound : IsSound busy ring (Message.PrePrepare (first_proposal seed))
  first_proposal_sound =
      let m : Message = Message.PrePrepare (first_proposal seed) in
      sound busy ring m (first_proposal_is_shaped _ (signature_is_short seed 0 (Message.PrePrepare (proposal_for 1 first_batch)) (omega arith)))
      (signed 0 m (omega arith) refl refl, (first_asked, tt))

  all_sound : EachHeard (IsSound busy ring) (busy_diary seed)
  all_sound = (
    new_view_sound,
    (
      change_sound,
      (
        second_prepare_sound,
        (
          second_proposal_sound,
          (
            mark_sound,
            (
              commit_sound,
              (
                first_prepare_sound,
                (
                  first_proposal_sound,
                  (
                    sound busy ring (Message.Request second_request) second_request_is_shaped (second_asked, tt),
                    (sound busy ring (Message.Request first_request) first_request_is_shaped (first_asked, tt), tt),
                  ),
                ),
              ),
            ),
          ),
        ),
      ),
    ),
  )

-- ---- its diary is honest

module _ (seed : OtsSeed) where
  -- the one member is a quorum, and its vote was heard
  quorum_heard : (WasHeard : Vote → Type 0) (view slot : ℕ) (batch : List Request) (sig : List ℕ) → WasHeard (vote_with view slot batch sig)
      → QuorumHeard busy WasHeard 1 view slot (batch_digest batch)
  quorum_heard WasHeard view slot batch sig heard = record {
    members = 0 ∷ [];
    quorum = record { rising = (omega arith, omega arith, tt); enough = omega arith };
    each = λ k h. (elim h [
      | inl e ↦ record {
        vote = vote_with view slot batch sig;
        heard = heard;
        signer = ap (member_of 1) e;
        votes_for = record { view_is = refl; slot_is = refl; digest_is = refl };
      }
      | inr none ↦ absurd none
    ]);
  }

  may_propose_first : MaySay busy only asked (Message.PrePrepare (proposal_for 1 first_batch))
  may_propose_first = record {
    one_vote = λ other. each_said (OtherProposal 0 1) asked (Message.PrePrepare other) tt;
    prepare_rule = tt;
    commit_rule = tt;
    views_rise = λ c. each_said (NotBeyond 0) asked (Message.ViewChange c) tt;
    change_reports = tt;
    primary_only = refl;
    checkpoint_rule = tt;
    note_rule = tt;
    remote_quorum = tt;
    shaped_speech = first_proposal_is_shaped [] refl;
  }

  may_prepare_first : MaySay busy only (proposed_first seed) (Message.Prepare (vote_for 0 1 first_batch))
  may_prepare_first = record {
    one_vote = λ other. each_said (OtherPrepare 0 1) (proposed_first seed) (Message.Prepare other) (tt, tt);
    prepare_rule = record {
      in_view_zero = λ e. record {
        proposal = first_proposal seed;
        heard = inl refl;
        cluster_is = refl;
        view_is = refl;
        slot_is = refl;
        digest_is = refl;
      };
      in_later_views = λ l. absurd (omega arith);
    };
    commit_rule = tt;
    views_rise = λ c. each_said (NotBeyond 0) (proposed_first seed) (Message.ViewChange c) (tt, tt);
    change_reports = tt;
    primary_only = tt;
    checkpoint_rule = tt;
    note_rule = tt;
    remote_quorum = tt;
    shaped_speech = first_prepare_is_shaped [] refl;
  }

  may_commit_first : MaySay busy only (prepared_first seed) (Message.Commit (vote_for 0 1 first_batch))
  may_commit_first = record {
    one_vote = λ other. each_said (OtherCommit 0 1) (prepared_first seed) (Message.Commit other) (tt, (tt, tt));
    prepare_rule = tt;
    commit_rule = quorum_heard (PrepareHeard (prepared_first seed)) 0 1 first_batch (first_prepare seed).sig (inl refl);
    views_rise = λ c. each_said (NotBeyond 0) (prepared_first seed) (Message.ViewChange c) (tt, (tt, tt));
    change_reports = tt;
    primary_only = tt;
    checkpoint_rule = tt;
    note_rule = tt;
    remote_quorum = tt;
    shaped_speech = first_commit_is_shaped [] refl;
  }

  block_is_next : WholeRounds busy (committed_first seed) first_block
  block_is_next = record {
    round_is = refl;
    cluster_is = refl;
    view = 0;
    committed = quorum_heard (CommitHeard (committed_first seed)) 0 1 first_batch (first_commit seed).sig
        (record { message = Message.Commit (first_commit seed); heard = inl refl; inside = inl refl });
    batch_heard = inr (record { message = Message.PrePrepare (first_proposal seed); heard = inr (inr (inr (inr (inl refl)))); inside = inl refl });
  }

  may_note : MaySay busy only (Did first_block ∷ (committed_first seed)) (Message.ReplyNote first_note)
  may_note = record {
    one_vote = tt;
    prepare_rule = tt;
    commit_rule = tt;
    views_rise = tt;
    change_reports = tt;
    primary_only = tt;
    checkpoint_rule = tt;
    note_rule = record {
      once = λ other. each_said (OtherNote 1) (Did first_block ∷ (committed_first seed)) (Message.ReplyNote other) (tt, (tt, (tt, tt)));
      done = omega arith;
      ran = record { block = first_block; outcomes = Done Wrote ∷ [] };
      in_run = inl refl;
      round_is = refl;
      cluster_is = refl;
      digest_is = refl;
      lines_are = refl;
    };
    remote_quorum = tt;
    shaped_speech = note_is_shaped;
  }

  may_mark : MaySay busy only (done_first seed) (Message.Checkpoint first_mark)
  may_mark = record {
    one_vote = tt;
    prepare_rule = tt;
    commit_rule = tt;
    views_rise = tt;
    change_reports = tt;
    primary_only = tt;
    checkpoint_rule = record {
      once = λ other. each_said (OtherMark 1) (done_first seed) (Message.Checkpoint other) (tt, (tt, (tt, (tt, tt))));
      due = refl;
      done = omega arith;
      chain_is = refl;
    };
    note_rule = tt;
    remote_quorum = tt;
    shaped_speech = mark_is_shaped [] refl;
  }

  may_propose_second : MaySay busy only (marked seed) (Message.PrePrepare (proposal_for 2 second_batch))
  may_propose_second = record {
    one_vote = λ other. each_said (OtherProposal 0 2) (marked seed) (Message.PrePrepare other) (tt, (tt, (tt, (tt, ((λ v s. cc), tt)))));
    prepare_rule = tt;
    commit_rule = tt;
    views_rise = λ c. each_said (NotBeyond 0) (marked seed) (Message.ViewChange c) (tt, (tt, (tt, (tt, (tt, tt)))));
    change_reports = tt;
    primary_only = refl;
    checkpoint_rule = tt;
    note_rule = tt;
    remote_quorum = tt;
    shaped_speech = second_proposal_is_shaped [] refl;
  }

  may_prepare_second : MaySay busy only (proposed_second seed) (Message.Prepare (vote_for 0 2 second_batch))
  may_prepare_second = record {
    one_vote = λ other. each_said (OtherPrepare 0 2) (proposed_second seed) (Message.Prepare other) (tt, (tt, (tt, (tt, ((λ v s. cc), (tt, tt))))));
    prepare_rule = record {
      in_view_zero = λ e. record {
        proposal = second_proposal seed;
        heard = inl refl;
        cluster_is = refl;
        view_is = refl;
        slot_is = refl;
        digest_is = refl;
      };
      in_later_views = λ l. absurd (omega arith);
    };
    commit_rule = tt;
    views_rise = λ c. each_said (NotBeyond 0) (proposed_second seed) (Message.ViewChange c) (tt, (tt, (tt, (tt, (tt, (tt, tt))))));
    change_reports = tt;
    primary_only = tt;
    checkpoint_rule = tt;
    note_rule = tt;
    remote_quorum = tt;
    shaped_speech = second_prepare_is_shaped [] refl;
  }

  -- the change covers the Commit by its mark
  may_ask : MaySay busy only (prepared_second seed) (Message.ViewChange (only_change seed))
  may_ask = record {
    one_vote = tt;
    prepare_rule = tt;
    commit_rule = tt;
    views_rise = λ c h. absurd (each_said NoChange (prepared_second seed) (Message.ViewChange c) (tt, (tt, (tt, (tt, (tt, (tt, (tt, tt))))))) h);
    change_reports = λ v. each_said (CoveredBy (only_change seed)) (prepared_second seed) (Message.Commit v) (tt, (tt, (tt, (tt, (inl (omega arith), (tt, (tt, tt)))))));
    primary_only = tt;
    checkpoint_rule = tt;
    note_rule = tt;
    remote_quorum = tt;
    shaped_speech = change_is_shaped seed [] refl;
  }

  may_begin : MaySay busy only (asking seed) (Message.NewView (only_new_view seed))
  may_begin = record {
    one_vote = tt;
    prepare_rule = tt;
    commit_rule = tt;
    views_rise = tt;
    change_reports = tt;
    primary_only = record {
      primary = refl;
      heard = λ c h. (elim h [ inl e ↦ inl (ap (λ x. Heard (Message.ViewChange x)) e) | inr none ↦ absurd none ]);
    };
    checkpoint_rule = tt;
    note_rule = tt;
    remote_quorum = tt;
    shaped_speech = new_view_is_shaped seed [] refl;
  }

  -- view 1 opens slot 2 for the batch that was prepared in view 0
  may_prepare_later : MaySay busy only (begun seed) (Message.Prepare (vote_for 1 2 second_batch))
  may_prepare_later = record {
    one_vote = λ other. each_said (OtherPrepare 1 2) (begun seed) (Message.Prepare other)
        (tt, (tt, ((λ v s. cc), (tt, (tt, (tt, (tt, ((λ v s. cc), (tt, tt)))))))));
    prepare_rule = record {
      in_view_zero = λ e. cc;
      in_later_views = λ l. record {
        new_view = heard_new_view seed;
        is_first = refl;
        above_base = omega arith;
        as_chosen = λ within. refl;
        as_proposed = λ beyond. absurd (omega arith);
      };
    };
    commit_rule = tt;
    views_rise = λ c. each_said (NotBeyond 1) (begun seed) (Message.ViewChange c) (tt, (omega arith, (tt, (tt, (tt, (tt, (tt, (tt, (tt, tt)))))))));
    change_reports = tt;
    primary_only = tt;
    checkpoint_rule = tt;
    note_rule = tt;
    remote_quorum = tt;
    shaped_speech = later_prepare_is_shaped;
  }

  honest : IsHonest busy only (busy_diary seed)
  honest = record {
    rules = (
      may_prepare_later,
      (
        tt,
        (
          may_begin,
          (
            tt,
            (
              may_ask,
              (
                tt,
                (
                  may_prepare_second,
                  (
                    tt,
                    (
                      may_propose_second,
                      (
                        tt,
                        (
                          may_mark,
                          (
                            may_note,
                            (block_is_next, (tt, (may_commit_first, (tt, (may_prepare_first, (tt, (may_propose_first, (tt, (tt, tt))))))))),
                          ),
                        ),
                      ),
                    ),
                  ),
                ),
              ),
            ),
          ),
        ),
      ),
    );
    whole = refl;
  }

-- ---- the premises

module _ (seed : OtsSeed) where
  pub is_world : IsWorld (busy_world seed)
  is_world = record {
    peopled = λ c h. subst (λ x. 1 ≤ size_of busy x) (sym (one_cluster c h)) (omega arith);
    sound = λ i correct m. each_heard (IsSound busy (busy_ring seed)) (busy_diary seed) m (all_sound seed);
  }

  pub all_honest : AllHonest (busy_world seed)
  all_honest i correct = subst (λ j. IsHonest busy j (busy_diary seed)) (is_only i correct.takes_part) (honest seed)

  pub few_faulty : FewFaulty (busy_world seed)
  few_faulty c h =
      subst (λ x. count_members (size_of busy x) (is_faulty (busy_world seed) x) ≤ greatest_faulty (size_of busy x)) (sym (one_cluster c h)) (omega arith)

  abbrev Made : Message → Type 0
  Made m = IsMade (busy_world seed) m

  first_made : Made (Message.Request first_request)
  first_made ok = inl refl

  second_made : Made (Message.Request second_request)
  second_made ok = inl refl

  change_made : Made (Message.ViewChange (heard_change seed))
  change_made ok = inr (inr (inr (inr (inl refl))))

  mark_made : Made (Message.Checkpoint (heard_mark seed))
  mark_made ok = inr (inr (inr (inr (inr (inr (inr (inr (inr (inr (inl refl))))))))))

  second_prepare_made : Made (Message.Prepare (second_prepare seed))
  second_prepare_made ok = inr (inr (inr (inr (inr (inr (inl refl))))))

  all_made : EachHeard (λ m. Each Made (statements_of m)) (busy_diary seed)
  all_made = (
    ((λ ok. inr (inr (inl refl))), (change_made, (mark_made, (second_made, (second_prepare_made, tt))))),
    (
      (change_made, (mark_made, (second_made, (second_prepare_made, tt)))),
      (
        (second_prepare_made, tt),
        (
          ((λ ok. inr (inr (inr (inr (inr (inr (inr (inr (inl refl))))))))), (second_made, tt)),
          (
            (mark_made, tt),
            (
              ((λ ok. inr (inr (inr (inr (inr (inr (inr (inr (inr (inr (inr (inr (inr (inr (inl refl))))))))))))))), tt),
              (
                ((λ ok. inr (inr (inr (inr (inr (inr (inr (inr (inr (inr (inr (inr (inr (inr (inr (inr (inl refl))))))))))))))))), tt),
                (
                  ((λ ok. inr (inr (inr (inr (inr (inr (inr (inr (inr (inr (inr (inr (inr (inr (inr (inr (inr (inr (inl refl))))))))))))))))))), (first_made, tt)),
                  ((second_made, tt), ((first_made, tt), tt)),
                ),
              ),
            ),
          ),
        ),
      ),
    ),
  )

  pub unforged : Unforged (busy_world seed)
  unforged =
      made.unforged (busy_world seed) is_world
      (λ i correct m h p k. each Made (statements_of m) p (each_heard (λ x. Each Made (statements_of x)) (busy_diary seed) m all_made h) k)

-- ---- its three batches have three digests

abbrev IsOne : List Request → Type 0
IsOne batch = (batch ≡ []) ⊎ ((batch ≡ first_batch) ⊎ (batch ≡ second_batch))

first_byte : List Request → ℕ
first_byte batch = slice_index (batch_digest batch).bytes 0

null_byte : first_byte [] ≡ 0x6e
unfolding first_byte batch_digest first_words schedule rounds compress hash_after digest_bytes sha256
null_byte = refl

first_batch_byte : first_byte first_batch ≡ 0x3f
unfolding first_byte batch_digest blank_signature first_words schedule rounds compress hash_after digest_bytes sha256
first_batch_byte = refl

second_batch_byte : first_byte second_batch ≡ 0xc6
unfolding first_byte batch_digest blank_signature first_words schedule rounds compress hash_after digest_bytes sha256
second_batch_byte = refl

same_byte : (a b : List Request) → batch_digest a ≡ batch_digest b → first_byte a ≡ first_byte b
unfolding first_byte
same_byte a b e = ap (λ d. slice_index d.bytes 0) e

one_of_three : (a b : List Request) → IsOne a → IsOne b → first_byte a ≡ first_byte b → a ≡ b
one_of_three a b (inl p) (inl q) e = p ∙ sym q
one_of_three a b (inl p) (inr (inl q)) e =
    absurd (let x : 0x6e ≡ 0x3f = sym null_byte ∙ (sym (ap first_byte p) ∙ (e ∙ (ap first_byte q ∙ first_batch_byte))) in omega (arith, x))
one_of_three a b (inl p) (inr (inr q)) e =
    absurd (let x : 0x6e ≡ 0xc6 = sym null_byte ∙ (sym (ap first_byte p) ∙ (e ∙ (ap first_byte q ∙ second_batch_byte))) in omega (arith, x))
one_of_three a b (inr (inl p)) (inl q) e =
    absurd (let x : 0x3f ≡ 0x6e = sym first_batch_byte ∙ (sym (ap first_byte p) ∙ (e ∙ (ap first_byte q ∙ null_byte))) in omega (arith, x))
one_of_three a b (inr (inl p)) (inr (inl q)) e = p ∙ sym q
one_of_three a b (inr (inl p)) (inr (inr q)) e =
    absurd (let x : 0x3f ≡ 0xc6 = sym first_batch_byte ∙ (sym (ap first_byte p) ∙ (e ∙ (ap first_byte q ∙ second_batch_byte))) in omega (arith, x))
one_of_three a b (inr (inr p)) (inl q) e =
    absurd (let x : 0xc6 ≡ 0x6e = sym second_batch_byte ∙ (sym (ap first_byte p) ∙ (e ∙ (ap first_byte q ∙ null_byte))) in omega (arith, x))
one_of_three a b (inr (inr p)) (inr (inl q)) e =
    absurd (let x : 0xc6 ≡ 0x3f = sym second_batch_byte ∙ (sym (ap first_byte p) ∙ (e ∙ (ap first_byte q ∙ first_batch_byte))) in omega (arith, x))
one_of_three a b (inr (inr p)) (inr (inr q)) e = p ∙ sym q

module _ (seed : OtsSeed) where
  all_known : EachHeard (λ m. Each IsOne (batches_of m)) (busy_diary seed)
  all_known = (
    (inr (inr refl), tt),
    ((inr (inr refl), tt), (tt, ((inr (inr refl), tt), (tt, (tt, (tt, ((inr (inl refl), tt), (tt, (tt, tt))))))))),
  )

  known_is_one : (batch : List Request) → (batch ≡ []) ⊎ IsKnown (busy_world seed) batch → IsOne batch
  known_is_one batch (inl e) = inl e
  known_is_one batch (inr k) =
      each IsOne (batches_of k.message) batch (each_heard (λ x. Each IsOne (batches_of x)) (busy_diary seed) k.message all_known k.heard) k.inside

  pub no_clash : NoClash (busy_world seed)
  no_clash a b ka kb e = one_of_three a b (known_is_one a ka) (known_is_one b kb) (same_byte a b e)

-- ---- what more members than may be faulty repeat

module _ (seed : OtsSeed) where
  pub repeated : IsRepeated (busy_world seed) 1 1 (batch_digest first_batch) first_lines
  repeated = record {
    members = 0 ∷ [];
    enough = record { rising = (omega arith, omega arith, tt); enough = omega arith };
    each = λ k h correct. record {
      note = first_note;
      said = inr (inr (inr (inr (inr (inr (inr (inr (inr (inr (inr (inl refl)))))))))));
      round_is = refl;
      digest_is = refl;
      lines_are = refl;
    };
  }
