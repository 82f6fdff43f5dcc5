-- Messages keep the law of a reader.
use Rattle.std.proofs.Common.{◌≡◌, ℕ, Bool, true, ◌&&◌, nat_lt, nat_le, nat_eq, List, ◌∷◌, ◌++◌, None, refl, ◌∙◌, arith}
use Rattle.std.proofs.lemmas.List.{append-nil}
use Rattle.fab_base.specs.declared.messages.Message.{Message}
use Rattle.fab_rules.specs.Format.{request_fits, vote_fits, stable_vote_fits, share_fits, proposal_fits, view_change_fits, new_view_fits, plea_fits, note_fits, ask_fits, fields_fit}
use Rattle.fab_rules.specs.Spelling.{body_of, seal_of}
use Rattle.msg_read.specs.Steps.{Reader, made}
use Rattle.msg_read.specs.Reading.{message}
use Rattle.msg_read.proofs.Readers.{IsRead, made_read}
use Rattle.msg_read.proofs.Branches.{IsTagged, branch_read, none_read, all_read}
use Rattle.msg_read.proofs.Statements.{request_tail, request_spelled, request_fields_read, proposal_tail, proposal_spelled, proposal_fields_read, vote_tail, vote_spelled, vote_fields_read, checkpoint_tail, checkpoint_spelled, checkpoint_fields_read, view_change_tail, view_change_spelled, view_change_fields_read, new_view_tail, new_view_spelled, new_view_fields_read, plea_tail, plea_spelled, plea_fields_read, note_tail, note_spelled, note_fields_read, share_tail, share_spelled, share_fields_read, ask_tail, ask_fields_read}

-- the spelling behind the number of the format
abbrev pub spelled : Message → List ℕ
spelled m = body_of m ++ seal_of m

abbrev tag_of : Message → ℕ
tag_of (Message.Request x) = 1
tag_of (Message.PrePrepare x) = 2
tag_of (Message.Prepare x) = 3
tag_of (Message.Commit x) = 4
tag_of (Message.Checkpoint x) = 5
tag_of (Message.ViewChange x) = 6
tag_of (Message.NewView x) = 7
tag_of (Message.Drvc x) = 8
tag_of (Message.Rvc x) = 9
tag_of (Message.ReplyNote x) = 10
tag_of (Message.Share x) = 11
tag_of (Message.Fetch x) = 12

abbrev tail_of : Message → List ℕ
tail_of (Message.Request x) = request_tail x
tail_of (Message.PrePrepare x) = proposal_tail x
tail_of (Message.Prepare x) = vote_tail x
tail_of (Message.Commit x) = vote_tail x
tail_of (Message.Checkpoint x) = checkpoint_tail x
tail_of (Message.ViewChange x) = view_change_tail x
tail_of (Message.NewView x) = new_view_tail x
tail_of (Message.Drvc x) = plea_tail x
tail_of (Message.Rvc x) = plea_tail x
tail_of (Message.ReplyNote x) = note_tail x
tail_of (Message.Share x) = share_tail x
tail_of (Message.Fetch x) = ask_tail x

spelled_is : (m : Message) → spelled m ≡ tag_of m ∷ tail_of m
spelled_is (Message.Request x) = request_spelled x
spelled_is (Message.PrePrepare x) = proposal_spelled x
spelled_is (Message.Prepare x) = vote_spelled 3 x
spelled_is (Message.Commit x) = vote_spelled 4 x
spelled_is (Message.Checkpoint x) = checkpoint_spelled x
spelled_is (Message.ViewChange x) = view_change_spelled x
spelled_is (Message.NewView x) = new_view_spelled x
spelled_is (Message.Drvc x) = plea_spelled 8 x
spelled_is (Message.Rvc x) = plea_spelled 9 x
spelled_is (Message.ReplyNote x) = note_spelled x
spelled_is (Message.Share x) = append-nil (body_of (Message.Share x)) ∙ share_spelled x
spelled_is (Message.Fetch x) = append-nil (body_of (Message.Fetch x))

is_known : (m : Message) → (nat_lt 0 (tag_of m) && nat_le (tag_of m) 12) ≡ true
is_known (Message.Request x) = refl
is_known m = refl

are_tagged : IsTagged spelled tail_of tag_of 12
are_tagged = record { spelled = spelled_is; known = is_known; small = omega arith }

abbrev is_kind : ℕ → Message → Bool
is_kind tag m = nat_eq (tag_of m) tag && fields_fit m

-- a message of a kind is made of what its kind holds
abbrev IsOf : {X : Type 0} → (X → Bool) → (X → Message) → ℕ → Type 0
IsOf {X} good to tag = (m : Message) → is_kind tag m ≡ true → (x : X) × (to x ≡ m) × (good x ≡ true)

is_request : IsOf request_fits Message.Request 1
is_request (Message.Request x) h = (x, refl, h)
is_request m h = absurd cc

is_proposal : IsOf proposal_fits Message.PrePrepare 2
is_proposal (Message.PrePrepare x) h = (x, refl, h)
is_proposal m h = absurd cc

is_prepare : IsOf vote_fits Message.Prepare 3
is_prepare (Message.Prepare x) h = (x, refl, h)
is_prepare m h = absurd cc

is_commit : IsOf vote_fits Message.Commit 4
is_commit (Message.Commit x) h = (x, refl, h)
is_commit m h = absurd cc

is_checkpoint : IsOf stable_vote_fits Message.Checkpoint 5
is_checkpoint (Message.Checkpoint x) h = (x, refl, h)
is_checkpoint m h = absurd cc

is_view_change : IsOf view_change_fits Message.ViewChange 6
is_view_change (Message.ViewChange x) h = (x, refl, h)
is_view_change m h = absurd cc

is_new_view : IsOf new_view_fits Message.NewView 7
is_new_view (Message.NewView x) h = (x, refl, h)
is_new_view m h = absurd cc

is_drvc : IsOf plea_fits Message.Drvc 8
is_drvc (Message.Drvc x) h = (x, refl, h)
is_drvc m h = absurd cc

is_rvc : IsOf plea_fits Message.Rvc 9
is_rvc (Message.Rvc x) h = (x, refl, h)
is_rvc m h = absurd cc

is_note : IsOf note_fits Message.ReplyNote 10
is_note (Message.ReplyNote x) h = (x, refl, h)
is_note m h = absurd cc

is_share : IsOf share_fits Message.Share 11
is_share (Message.Share x) h = (x, refl, h)
is_share m h = absurd cc

is_fetch : IsOf ask_fits Message.Fetch 12
is_fetch (Message.Fetch x) h = (x, refl, h)
is_fetch m h = absurd cc

kind_read : {X : Type 0} {spell : X → List ℕ} {good : X → Bool} {read : Reader X} (to : X → Message) (tag : ℕ) → IsOf good to tag
    → ((x : X) → tail_of (to x) ≡ spell x) → ((x : X) → is_kind tag (to x) ≡ good x) → IsRead spell good read → IsRead tail_of (is_kind tag) (made to read)
kind_read to tag of tails fit law = made_read (record { spelled = λ x h. tails x; stays = λ x h. fit x ∙ h; comes = of }) law

pub message_read : IsRead spelled fields_fit message
unfolding message
message_read =
    all_read fields_fit are_tagged
    (branch_read fields_fit are_tagged 0 (kind_read Message.Request 1 is_request (λ x. refl) (λ x. refl) request_fields_read)
    (branch_read fields_fit are_tagged 1 (kind_read Message.PrePrepare 2 is_proposal (λ x. refl) (λ x. refl) proposal_fields_read)
    (branch_read fields_fit are_tagged 2 (kind_read Message.Prepare 3 is_prepare (λ x. refl) (λ x. refl) (vote_fields_read None))
    (branch_read fields_fit are_tagged 3 (kind_read Message.Commit 4 is_commit (λ x. refl) (λ x. refl) (vote_fields_read None))
    (branch_read fields_fit are_tagged 4 (kind_read Message.Checkpoint 5 is_checkpoint (λ x. refl) (λ x. refl) (checkpoint_fields_read None))
    (branch_read fields_fit are_tagged 5 (kind_read Message.ViewChange 6 is_view_change (λ x. refl) (λ x. refl) (view_change_fields_read None))
    (branch_read fields_fit are_tagged 6 (kind_read Message.NewView 7 is_new_view (λ x. refl) (λ x. refl) new_view_fields_read)
    (branch_read fields_fit are_tagged 7 (kind_read Message.Drvc 8 is_drvc (λ x. refl) (λ x. refl) plea_fields_read)
    (branch_read fields_fit are_tagged 8 (kind_read Message.Rvc 9 is_rvc (λ x. refl) (λ x. refl) plea_fields_read)
    (branch_read fields_fit are_tagged 9 (kind_read Message.ReplyNote 10 is_note (λ x. refl) (λ x. refl) note_fields_read)
    (branch_read fields_fit are_tagged 10 (kind_read Message.Share 11 is_share (λ x. refl) (λ x. refl) share_fields_read)
    (branch_read fields_fit are_tagged 11 (kind_read Message.Fetch 12 is_fetch (λ x. refl) (λ x. refl) ask_fields_read)
    (none_read fields_fit are_tagged)))))))))))))
