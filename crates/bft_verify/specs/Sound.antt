-- Which messages are sound, and what is refused of the others (ours): the misfits come before the signatures, and both in the order
-- of the parts.
use Rattle.std.specs.Prelude.{◌≡◌, ℕ, List, [], ◌∷◌, ◌++◌, map, Option, Some, None, Result, Ok, Err, IsTrue}
use Rattle.fab_base.specs.Limits.{Roster}
use Rattle.fab_base.specs.declared.ids.Who.{Who}
use Rattle.fab_base.specs.declared.messages.Message.{Message}
use Rattle.fab_rules.specs.declared.misfits.Misfit.{Misfit}
use Rattle.fab_rules.specs.Lists.{In, first_of}
use Rattle.fab_rules.specs.Spelling.{content_of}
use Rattle.fab_rules.specs.Format.{fits}
use Rattle.fab_rules.specs.Statements.{signer_of, parts_of}
pub use Rattle.fab_rules.specs.Statements.{signature_of}
use Rattle.fab_rules.specs.Shape.{misfits, numbered}
use Rattle.lms_tree.specs.declared.public.Public.{Public}
use Rattle.lms_tree.specs.declared.faults.SigFault.{SigFault}
use Rattle.lms_tree.specs.declared.faults.SigFault.TheVariants.{WrongRoot}
use Rattle.lms_tree.specs.Verdict.{verdict, Valid}
use Rattle.bft_verify.specs.declared.refusals.Refusal.{Refusal}
use Rattle.bft_verify.specs.Ring.{Ring, key_of}

-- ---- signatures

-- the verdict on a signature (RFC 8554, section 5.4.2). None is valid of a signer who has no key
abbrev pub verdict_under : Option Public → List ℕ → List ℕ → Result (Unit {0}) SigFault
verdict_under (Some key) content signature = verdict key content signature
verdict_under None content signature = Err WrongRoot

abbrev pub refused : ℕ → Result (Unit {0}) SigFault → List Refusal
refused k (Ok x) = []
refused k (Err fault) = Refusal.BadSignature k fault ∷ []

abbrev pub refused_of : Ring → ℕ → Option Who → List ℕ → List ℕ → List Refusal
refused_of ring k (Some who) content signature = refused k (verdict_under (key_of ring who) content signature)
refused_of ring k None content signature = []

-- what is wrong with the signature of a part, if somebody signs it
abbrev pub signature_refusals : Ring → ℕ → Message → List Refusal
signature_refusals ring k p = refused_of ring k (signer_of p) (content_of p) (signature_of p)

-- ---- all that is wrong

abbrev pub of_misfit : Misfit → Refusal
of_misfit (Misfit.Stranger part) = Refusal.Stranger part
of_misfit (Misfit.BadShape part) = Refusal.BadShape part
of_misfit (Misfit.BadCert part) = Refusal.BadCert part
of_misfit (Misfit.WrongDigest part) = Refusal.WrongDigest part

abbrev pub refusals : Roster → Ring → Message → List Refusal
refusals r ring m = map of_misfit (misfits r m) ++ numbered (signature_refusals ring) 0 (parts_of m)

-- the message has a spelling, and there is nothing to refuse in it
pub record IsSound (r : Roster) (ring : Ring) (m : Message) : Type 0 where
  pub spelled : IsTrue (fits m)
  pub accepted : refusals r ring m ≡ []

-- ---- what that means

-- the signer has a key, and the signature of the part is a valid one of its content under it (RFC 8554, section 5.4.2)
pub record IsSignedBy (ring : Ring) (who : Who) (p : Message) : Type 0 where
  pub key : Public
  pub is_key : key_of ring who ≡ Some key
  pub valid : Valid key (content_of p) (signature_of p)

-- each part that somebody signs bears a valid signature of its own
abbrev pub AreSigned : Ring → Message → Type 0
AreSigned ring m = (p : Message) (who : Who) → In p (parts_of m) → signer_of p ≡ Some who → IsSignedBy ring who p

-- ---- what is answered

abbrev pub unless_refused : Message → Option Refusal → Result Message Refusal
unless_refused m None = Ok m
unless_refused m (Some refusal) = Err refusal

-- the message, or the first refusal
abbrev pub judged : Roster → Ring → Message → Result Message Refusal
judged r ring m = unless_refused m (first_of (refusals r ring m))
