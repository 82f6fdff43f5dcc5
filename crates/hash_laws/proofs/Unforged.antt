-- Nothing is forged and no batches clash, unless something breaks SHA-256.
use Rattle.std.proofs.Common.{◌≡◌, true, List, [], inl, inr, Some, refl, ap, ◌∙◌, subst}
use Rattle.sha2.specs.Sha256.{sha256}
use Rattle.fab_base.specs.declared.ids.Hash32.{Hash32}
use Rattle.fab_base.specs.declared.ids.Who.{Who}
use Rattle.fab_base.specs.declared.requests.Request.{Request}
use Rattle.fab_base.specs.declared.messages.Message.{Message}
use Rattle.fab_rules.specs.Format.{batch_fits}
use Rattle.fab_rules.specs.Statements.{signer_of}
use Rattle.fab_rules.specs.Spelling.{content_of, spelling_of_batch, seal_of, signed as sealed_by}
use Rattle.fab_rules.specs.Digests.{batch_digest}
use Rattle.fab_rules.proofs.Fitting.{fields_are, each_batch_fits}
use Rattle.lms_tree.specs.declared.public.Public.{Public}
use Rattle.lms_tree.specs.Verdict.{Valid}
use Rattle.bft_verify.specs.Sound.{signature_of, IsSignedBy}
use Rattle.world_laws.specs.World.{World, IsOfMade, IsWorld, AllHonest, FewFaulty, Unforged, NoClash}
use Rattle.world_laws.specs.Safety.{IsSafe}
use Rattle.world_laws.proofs.Made.{heard_part_fits}
use Rattle.world_laws.proofs.Headline.{worlds_are_safe}
use Rattle.lms_laws.proofs.HashLemmas.{one_or_collision}
use Rattle.lms_laws.proofs.ForgeryLemmas.{forged}
use Rattle.hash_laws.specs.Signers.{Signers, IsSeen, IsSigned, IsKnownOrNull, IsUnbroken}
use Rattle.hash_laws.proofs.Bytes.{content_is_bytes, batch_is_bytes, signature_is_bytes, one_batch}

seen_is_made : (w : World) (signers : Signers) → IsWorld w → IsSigned w signers → IsUnbroken w signers → (who : Who) (part : Message)
    → IsSeen w who part → IsSignedBy w.ring who part → IsOfMade w who (content_of part)
seen_is_made w signers world signs unbroken who part seen signed =
    let signer = signs who seen.correct_signer in
    let fits = heard_part_fits w world seen.hearer seen.correct seen.message seen.heard part seen.inside in
    elim (forged (signers.key_by who) (signers.signed_by who) (content_of part) (signature_of part) signer.id signer.sound (content_is_bytes part fits)
    (signature_is_bytes part fits) (subst (λ (k : Public). Valid k (content_of part) (signature_of part)) (signer.is_key signed.key signed.is_key) signed.valid)) [
      | inr broken ↦ absurd (unbroken.parts who part seen broken)
      | inl own ↦
          (let source = signer.made _ own.signing own.signed in
          record {
            statement = source.statement;
            fields = source.fields;
            names = source.names;
            made = source.made;
            content_is = own.same_content ∙ source.content_is;
          })
    ]

pub unforged : (w : World) (signers : Signers) → IsWorld w → IsSigned w signers → IsUnbroken w signers → Unforged w
unforged w signers world signs unbroken i correct m heard part inside who names correct_signer =
    seen_is_made w signers world signs unbroken who part
    (record { hearer = i; correct = correct; message = m; heard = heard; inside = inside; names = names; correct_signer = correct_signer })

one_hash : (a b : List Request) → batch_digest a ≡ batch_digest b → sha256 (spelling_of_batch a) ≡ sha256 (spelling_of_batch b)
unfolding batch_digest
one_hash a b e = ap (λ (h : Hash32). h.bytes) e

known_fits : (w : World) → IsWorld w → (batch : List Request) → IsKnownOrNull w batch → batch_fits batch ≡ true
known_fits w world batch (inl e) = ap batch_fits e
known_fits w world batch (inr k) =
    each_batch_fits k.message batch (fields_are k.message (world.sound k.hearer k.correct k.message k.heard).spelled) k.inside

pub no_clash : (w : World) (signers : Signers) → IsWorld w → IsUnbroken w signers → NoClash w
no_clash w signers world unbroken a b known other e =
    let fa = known_fits w world a known in
    let fb = known_fits w world b other in
    elim (one_or_collision (spelling_of_batch a) (spelling_of_batch b) (batch_is_bytes a fa) (batch_is_bytes b fb) (one_hash a b e)) [
      | inl same ↦ one_batch a b fa fb same
      | inr collision ↦ absurd (unbroken.batches a b known other collision)
    ]

pub safe : (w : World) (signers : Signers) → IsWorld w → AllHonest w → FewFaulty w → IsSigned w signers → IsUnbroken w signers → IsSafe w
safe w signers world honest few signs unbroken =
    worlds_are_safe w world honest few (unforged w signers world signs unbroken) (no_clash w signers world unbroken)

pub sealed : (m : Message) (who : Who) → signer_of m ≡ Some who → seal_of m ≡ sealed_by [] (signature_of m)
sealed (Message.Request x) who e = refl
sealed (Message.PrePrepare x) who e = refl
sealed (Message.Prepare x) who e = refl
sealed (Message.Commit x) who e = refl
sealed (Message.Checkpoint x) who e = refl
sealed (Message.ViewChange x) who e = refl
sealed (Message.NewView x) who e = refl
sealed (Message.Drvc x) who e = refl
sealed (Message.Rvc x) who e = refl
sealed (Message.ReplyNote x) who e = refl
sealed (Message.Share x) who e = cc
sealed (Message.Fetch x) who e = cc
