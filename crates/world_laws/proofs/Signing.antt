-- What is signed in the small worlds is validly signed, and within its field.
use Rattle.std.proofs.Common.{◌≡◌, ℕ, ◌<◌, true, List, [], ◌∷◌, length, nat_lt, nat_le, Some, refl, sym, subst, ◌∙◌, arith}
use Rattle.std.proofs.lemmas.List.Elements.{All-tail}
use Rattle.lmots_core.specs.declared.seed.OtsSeed.{OtsSeed}
use Rattle.lms_tree.specs.Keys.{public_of_key}
use Rattle.lms_tree.specs.Signatures.{leaf_randomizer, leaf_signature}
use Rattle.lms_tree.specs.Verdict.{Valid}
use Rattle.lms_tree.proofs.SignerLemmas.{leaf_signature_valid}
use Rattle.lms_laws.specs.Hashed.{IsBytes}
use Rattle.lms_laws.proofs.SignerLemmas.{bytes_of_randomizer}
use Rattle.lms_laws.proofs.SecondLemmas.{bytes_of_signature}
use Rattle.fab_base.specs.Limits.{Roster}
use Rattle.fab_base.specs.declared.limits.TheConstants.{LONGEST_SIGNATURE}
use Rattle.fab_base.specs.declared.ids.Who.{Who}
use Rattle.fab_base.specs.declared.messages.Message.{Message}
use Rattle.fab_base.specs.Fields.{are_bytes}
use Rattle.fab_base.proofs.Tests.{and_both, is_below, is_at_most}
use Rattle.fab_rules.specs.Spelling.{content_of}
use Rattle.fab_rules.specs.Format.{signature_fits}
use Rattle.fab_rules.specs.Statements.{signer_of, parts_of, unsigned}
use Rattle.fab_rules.specs.Shape.{IsShaped}
use Rattle.bft_verify.specs.Ring.{Ring, key_of}
use Rattle.bft_verify.specs.Sound.{signature_of, IsSound, IsSignedBy}
use Rattle.bft_verify.proofs.Soundness.{sound_from_both}
use Rattle.world_laws.specs.Signing.{signing_key, signature_by, blank_signature, key_for}
use Rattle.world_laws.proofs.Written.{Each, each}

-- a content doesn't depend on the signature
pub content_without : (m : Message) → content_of (unsigned m) ≡ content_of m
unfolding content_of
content_without (Message.Request x) = refl
content_without (Message.PrePrepare x) = refl
content_without (Message.Prepare x) = refl
content_without (Message.Commit x) = refl
content_without (Message.Checkpoint x) = refl
content_without (Message.ViewChange x) = refl
content_without (Message.NewView x) = refl
content_without (Message.Drvc x) = refl
content_without (Message.Rvc x) = refl
content_without (Message.ReplyNote x) = refl
content_without (Message.Share x) = refl
content_without (Message.Fetch x) = refl

-- ---- by a leaf

pub by_leaf : (seed : OtsSeed) (leaf : ℕ) (m : Message) → leaf_signature (signing_key seed) leaf (content_of m) ≡ signature_by seed leaf m
unfolding signature_by
by_leaf seed leaf m = refl

pub signature_bytes : (seed : OtsSeed) (leaf : ℕ) (m : Message) → IsBytes (signature_by seed leaf m)
signature_bytes seed leaf m =
    subst IsBytes (by_leaf seed leaf m)
    (bytes_of_signature (signing_key seed) leaf (leaf_randomizer seed leaf) (content_of m) (bytes_of_randomizer seed leaf))

pub signature_valid : (seed : OtsSeed) (leaf : ℕ) (m : Message) → leaf < 32
    → Valid (public_of_key (signing_key seed)) (content_of m) (signature_by seed leaf m)
signature_valid seed leaf m lt =
    subst (λ (s : List ℕ). Valid (public_of_key (signing_key seed)) (content_of m) s) (by_leaf seed leaf m)
    (leaf_signature_valid (signing_key seed) leaf (content_of m) lt)

small_from_bytes : (xs : List ℕ) → IsBytes xs → are_bytes xs ≡ true
small_from_bytes [] h = refl
small_from_bytes (x ∷ xs) h =
    and_both (nat_lt x 256) (are_bytes xs) (is_below x 256 (h 0 0 (omega arith)))
    (small_from_bytes xs (All-tail (λ b. b < 256) x xs h))

-- it fits its field
pub signature_is_short : (seed : OtsSeed) (leaf : ℕ) (m : Message) → leaf < 32 → signature_fits (signature_by seed leaf m) ≡ true
signature_is_short seed leaf m lt =
    let signature = signature_by seed leaf m in
    let size = (signature_valid seed leaf m lt).sized in
    and_both (nat_le (length signature) LONGEST_SIGNATURE) (are_bytes signature) (is_at_most _ LONGEST_SIGNATURE (omega arith))
    (small_from_bytes signature (signature_bytes seed leaf m))

-- ---- the blank one

pub blank_is_short : signature_fits blank_signature ≡ true
unfolding blank_signature
blank_is_short = refl

blank_is_valid : (content : List ℕ) → Valid (key_for content) content blank_signature
unfolding key_for blank_signature
blank_is_valid content = record { sized = refl; ots_typed = refl; tree_typed = refl; leaf = omega arith; root = refl }

-- ---- sound messages

-- whoever signs it, it is validly signed
abbrev pub IsSigned : Ring → Message → Type 0
IsSigned ring p = (who : Who) → signer_of p ≡ Some who → IsSignedBy ring who p

same_name : (name who : Who) → Some name ≡ Some who → name ≡ who
same_name name who e = cc

named : (ring : Ring) (name : Who) (p : Message) → signer_of p ≡ Some name → IsSignedBy ring name p → IsSigned ring p
named ring name p is signed who e = subst (λ (x : Who). IsSignedBy ring x p) (same_name name who (sym is ∙ e)) signed

pub leaf_signed : (seed : OtsSeed) (ring : Ring) (name : Who) (leaf : ℕ) (p : Message) → leaf < 32
    → key_of ring name ≡ Some (public_of_key (signing_key seed)) → signer_of p ≡ Some name → signature_by seed leaf (unsigned p) ≡ signature_of p
    → IsSigned ring p
leaf_signed seed ring name leaf p lt key is signature =
    let valid = signature_valid seed leaf (unsigned p) lt in
    named ring name p is
    (record {
      key = public_of_key (signing_key seed);
      is_key = key;
      valid = subst (λ (l : List ℕ). Valid (public_of_key (signing_key seed)) l (signature_of p)) (content_without p)
          (subst (λ (s : List ℕ). Valid (public_of_key (signing_key seed)) (content_of (unsigned p)) s) signature valid);
    })

pub blank_signed : (ring : Ring) (name : Who) (p : Message) → key_of ring name ≡ Some (key_for (content_of (unsigned p)))
    → signer_of p ≡ Some name → blank_signature ≡ signature_of p → IsSigned ring p
blank_signed ring name p key is signature =
    named ring name p is
    (record {
      key = key_for (content_of (unsigned p));
      is_key = key;
      valid = subst (λ (l : List ℕ). Valid (key_for (content_of (unsigned p))) l (signature_of p)) (content_without p)
          (subst (λ (s : List ℕ). Valid (key_for (content_of (unsigned p))) (content_of (unsigned p)) s) signature
          (blank_is_valid (content_of (unsigned p))));
    })

pub sound : (r : Roster) (ring : Ring) (m : Message) → IsShaped r m → Each (IsSigned ring) (parts_of m) → IsSound r ring m
sound r ring m shaped signed = sound_from_both r ring m shaped (λ p who part names. each (IsSigned ring) (parts_of m) p signed part who names)
