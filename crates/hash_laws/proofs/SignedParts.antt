-- The lone replica's world: what it signs, and that nothing breaks.
use Rattle.std.proofs.Common.{◌≡◌, ℕ, zero, suc, ◌<◌, true, List, [], ◌∷◌, length, get_or, nat_lt, inl, inr, Some, refl, sym, ap, subst, ◌∙◌, arith}
use Rattle.std.specs.List.{All}
use Rattle.std.proofs.lemmas.Bool.{lt-ltb, cond-true}
use Rattle.std.proofs.lemmas.List.Elements.{All-nil, All-cons}
use Rattle.lmots_core.specs.declared.seed.OtsSeed.{OtsSeed}
use Rattle.lms_tree.specs.Heights.{leaf_count}
use Rattle.lms_tree.specs.declared.public.Public.{Public}
use Rattle.lms_tree.specs.Keys.{TreeKey, public_of_key}
use Rattle.lms_tree.specs.Signatures.{leaf_randomizer, leaf_signature, tree_signature}
use Rattle.lms_tree.proofs.SignerLemmas.{leaf_of_signature}
use Rattle.fab_base.specs.declared.ids.ReplicaId.{ReplicaId}
use Rattle.fab_base.specs.declared.ids.Who.{Who}
use Rattle.fab_base.specs.declared.messages.Message.{Message}
use Rattle.fab_base.proofs.Tests.{and_both}
use Rattle.fab_rules.specs.Lists.{In}
use Rattle.fab_rules.specs.Format.{digest_fits, fields_fit}
use Rattle.fab_rules.specs.Statements.{parts_of, signer_of}
use Rattle.fab_rules.specs.Spelling.{content_of, spelling_of_batch}
use Rattle.fab_rules.specs.Digests.{batch_digest}
use Rattle.fab_rules.proofs.Digests.{batch_digest_fits}
use Rattle.bft_verify.specs.Sound.{signature_of}
use Rattle.world_laws.specs.World.{IsOfMade}
use Rattle.world_laws.specs.Signing.{signing_key}
use Rattle.world_laws.specs.LoneWorld.{only, lone_proposal, lone_vote, lone_signed_proposal, lone_prepare, lone_commit, lone_world}
use Rattle.world_laws.proofs.Signing.{content_without, by_leaf}
use Rattle.world_laws.proofs.LoneWorld.{is_only, by_heard, known_is_null}
use Rattle.lms_laws.specs.Hashed.{IsBytes}
use Rattle.lms_laws.specs.Signed.{signed_in_order}
use Rattle.lms_laws.specs.Forgery.{IsOwn, GivesBreak}
use Rattle.lms_laws.proofs.SignerLemmas.{signing_of, in_order_is_record}
use Rattle.lms_laws.proofs.OwnLemmas.{own_gives_nothing}
use Rattle.hash_laws.specs.Signers.{IsSeen, SignsWhatItMade, IsSigned, IsUnbroken}
use Rattle.hash_laws.specs.SignedWorld.{lone_contents, signings_of, lone_signers}
use Rattle.hash_laws.proofs.Bytes.{content_is_bytes}

-- ---- what is signed is bytes

proposal_does : fields_fit (Message.PrePrepare lone_proposal) ≡ true
proposal_does = refl

prepare_fits : fields_fit (Message.Prepare lone_vote) ≡ true
prepare_fits = and_both (digest_fits (batch_digest [])) true (batch_digest_fits []) refl

commit_fits : fields_fit (Message.Commit lone_vote) ≡ true
commit_fits = and_both (digest_fits (batch_digest [])) true (batch_digest_fits []) refl

contents_bytes : All IsBytes lone_contents
contents_bytes =
    All-cons IsBytes (content_of (Message.PrePrepare lone_proposal)) (content_of (Message.Prepare lone_vote) ∷ content_of (Message.Commit lone_vote) ∷ [])
    (content_is_bytes (Message.PrePrepare lone_proposal) proposal_does)
    (All-cons IsBytes (content_of (Message.Prepare lone_vote)) (content_of (Message.Commit lone_vote) ∷ [])
    (content_is_bytes (Message.Prepare lone_vote) prepare_fits)
    (All-cons IsBytes (content_of (Message.Commit lone_vote)) [] (content_is_bytes (Message.Commit lone_vote) commit_fits) (All-nil IsBytes)))

-- ---- what a leaf signed in order is its own

in_order_at : (key : TreeKey) (contents : List (List ℕ)) (k : ℕ) → k < length contents
    → signed_in_order key contents k ≡ Some (record { randomizer = leaf_randomizer key.seed k; content = get_or contents k [] })
in_order_at key contents k lt = cond-true (nat_lt k (length contents)) _ _ (lt-ltb k (length contents) lt)

given_is_own : (key : TreeKey) (contents : List (List ℕ)) (k : ℕ) → k < length contents → k < leaf_count key.height
    → IsOwn key (signed_in_order key contents) (get_or contents k []) (leaf_signature key k (get_or contents k []))
given_is_own key contents k lt leaf =
    let content = get_or contents k [] in
    let number = leaf_of_signature key k content leaf in
    record {
      signing = record { randomizer = leaf_randomizer key.seed k; content = content };
      signed = ap (signed_in_order key contents) number ∙ in_order_at key contents k lt;
      same_content = refl;
      same_signature = ap (λ (n : ℕ). tree_signature key n (leaf_randomizer key.seed k) content) (sym number);
    }

-- ---- what is seen

record SeenAs (seed : OtsSeed) (who : Who) (part : Message) : Type 0 where
  number : ℕ
  within : number < 3
  who_is : Who.Replica only ≡ who
  content_is : get_or lone_contents number [] ≡ content_of part
  signature_is : leaf_signature (signing_key seed) number (get_or lone_contents number []) ≡ signature_of part

same_who : (a b : Who) → Some a ≡ Some b → a ≡ b
same_who a b e = cc

module _ (seed : OtsSeed) (who : Who) (part : Message) where
  commit_seen : In part (parts_of (Message.Commit (lone_commit seed))) → signer_of part ≡ Some who → SeenAs seed who part
  commit_seen (inl e) names =
      subst (λ (m : Message). signer_of m ≡ Some who → SeenAs seed who m) e
      (λ n. record {
        number = 2;
        within = omega arith;
        who_is = same_who (Who.Replica only) who n;
        content_is = content_without (Message.Commit (lone_commit seed));
        signature_is = by_leaf seed 2 (Message.Commit lone_vote);
      }) names
  commit_seen (inr none) names = absurd none

  prepare_seen : In part (parts_of (Message.Prepare (lone_prepare seed))) → signer_of part ≡ Some who → SeenAs seed who part
  prepare_seen (inl e) names =
      subst (λ (m : Message). signer_of m ≡ Some who → SeenAs seed who m) e
      (λ n. record {
        number = 1;
        within = omega arith;
        who_is = same_who (Who.Replica only) who n;
        content_is = content_without (Message.Prepare (lone_prepare seed));
        signature_is = by_leaf seed 1 (Message.Prepare lone_vote);
      }) names
  prepare_seen (inr none) names = absurd none

  proposal_seen : In part (parts_of (Message.PrePrepare (lone_signed_proposal seed))) → signer_of part ≡ Some who → SeenAs seed who part
  proposal_seen (inl e) names =
      subst (λ (m : Message). signer_of m ≡ Some who → SeenAs seed who m) e
      (λ n. record {
        number = 0;
        within = omega arith;
        who_is = same_who (Who.Replica only) who n;
        content_is = content_without (Message.PrePrepare (lone_signed_proposal seed));
        signature_is = by_leaf seed 0 (Message.PrePrepare lone_proposal);
      }) names
  proposal_seen (inr none) names = absurd none

  seen_as : IsSeen (lone_world seed) who part → SeenAs seed who part
  seen_as seen =
      by_heard seed (λ m. In part (parts_of m) → signer_of part ≡ Some who → SeenAs seed who part) commit_seen prepare_seen proposal_seen
      seen.message seen.heard seen.inside seen.names

-- ---- unbroken

unbroken_part : (seed : OtsSeed) (who : Who) (part : Message) → IsSeen (lone_world seed) who part
    → GivesBreak (signing_key seed) (signings_of seed who) (content_of part) (signature_of part) → ⊥
unbroken_part seed who part seen =
    let key = signing_key seed in
    let s = seen_as seed who part seen in
    let k = s.number in
    let content = get_or lone_contents k [] in
    let lt = s.within in
    let nothing : GivesBreak key (signed_in_order key lone_contents) content (leaf_signature key k content) → ⊥ =
    own_gives_nothing key (signed_in_order key lone_contents) content (leaf_signature key k content) (in_order_is_record key lone_contents contents_bytes)
    (given_is_own key lone_contents k lt (omega arith)) in
    subst (λ (w : Who). GivesBreak key (signings_of seed w) (content_of part) (signature_of part) → ⊥) s.who_is
    (subst (λ (l : List ℕ). GivesBreak key (signed_in_order key lone_contents) l (signature_of part) → ⊥) s.content_is
    (subst (λ (l : List ℕ). GivesBreak key (signed_in_order key lone_contents) content l → ⊥) s.signature_is nothing))

pub unbroken : (seed : OtsSeed) → IsUnbroken (lone_world seed) (lone_signers seed)
unbroken seed = record {
  parts = unbroken_part seed;
  batches = λ a b ka kb c. c.differ (ap spelling_of_batch (known_is_null seed a ka ∙ sym (known_is_null seed b kb)));
}

-- ---- it signs what it says

signs_at : (seed : OtsSeed) (q : ℕ) (content : List ℕ) → q < 3 → get_or lone_contents q [] ≡ content
    → IsOfMade (lone_world seed) (Who.Replica only) content
signs_at seed zero content lt e = record {
  statement = Message.PrePrepare lone_proposal;
  fields = proposal_does;
  names = refl;
  made = λ ok. inr (inr (inr (inr (inr (inr (inl refl))))));
  content_is = sym e;
}
signs_at seed (suc zero) content lt e = record {
  statement = Message.Prepare lone_vote;
  fields = prepare_fits;
  names = refl;
  made = λ ok. inr (inr (inr (inr (inl refl))));
  content_is = sym e;
}
signs_at seed (suc (suc zero)) content lt e = record {
  statement = Message.Commit lone_vote;
  fields = commit_fits;
  names = refl;
  made = λ ok. inr (inr (inl refl));
  content_is = sym e;
}
signs_at seed (suc (suc (suc q))) content lt e = absurd (omega arith)

same_key : (a b : Public) → Some a ≡ Some b → b ≡ a
same_key a b e = cc

-- its key is the ring's; the ring has no client's key, and no client signs
pub signed : (seed : OtsSeed) → IsBytes seed.id → IsSigned (lone_world seed) (lone_signers seed)
signed seed id (Who.Replica i) correct =
    subst (λ (j : ReplicaId). SignsWhatItMade (lone_world seed) (lone_signers seed) (Who.Replica j)) (is_only i correct.takes_part)
    (record {
      id = id;
      is_key = λ key e. same_key (public_of_key (signing_key seed)) key e;
      sound = in_order_is_record (signing_key seed) lone_contents contents_bytes;
      made = λ q signing e. let parts = signing_of (signing_key seed) lone_contents q signing e in signs_at seed q signing.content parts.0 parts.2;
    })
signed seed id (Who.Client c) correct = record { id = id; is_key = λ key e. cc; sound = λ q signing e. cc; made = λ q signing e. cc }
