-- A refusal that is answered has its cause in the bytes.
use Rattle.std.proofs.Common.{◌≡◌, ◌⊎◌, inl, inr, ℕ, List, Ok, Err, refl, ap, ◌∙◌, true, if◌then◌else◌, Bool}
use Rattle.fab_base.specs.Limits.{Roster}
use Rattle.fab_base.specs.Fields.{are_bytes}
use Rattle.fab_codec.specs.declared.faults.CodeFault.{CodeFault}
use Rattle.msg_read.specs.Reading.{reading_of}
use Rattle.bft_verify.specs.Admitted.{Admitted}
use Rattle.bft_verify.specs.Answers.{IsFree, judged_as_read}
use Rattle.bft_verify.specs.Ring.{Ring}
use Rattle.bft_verify.specs.declared.refusals.Refusal.{Refusal}
use Rattle.run_words.specs.Journal.{Maker, reads}
use Rattle.copy_reader.specs.Reading.{IsMadeWith, IsRead}

has_cause : (x : Refusal) (A : Type 0) → (x ≡ Refusal.NoMemory → ⊥) → IsFree x ⊎ A → A
has_cause x A n (inr a) = a
has_cause Refusal.NoMemory A n (inl f) = absurd (n refl)
has_cause (Refusal.Decode fault) A n (inl f) = absurd f
has_cause (Refusal.Stranger part) A n (inl f) = absurd f
has_cause (Refusal.BadShape part) A n (inl f) = absurd f
has_cause (Refusal.BadCert part) A n (inl f) = absurd f
has_cause (Refusal.WrongDigest part) A n (inl f) = absurd f
has_cause (Refusal.BadSignature part fault) A n (inl f) = absurd f

-- what a maker reads of bytes
of_bytes : (members : Roster) (ring : Ring) (m : Maker) (load : List ℕ) → are_bytes load ≡ true → IsMadeWith members ring m
    → reads m load ≡ judged_as_read members ring (reading_of load)
unfolding reads
of_bytes members ring m load b w =
    ap (λ (x : Bool). if x then judged_as_read m.roster m.ring (reading_of load) else Err (Refusal.Decode (CodeFault.BadTag 0))) b
    ∙ ap (λ (x : Roster). judged_as_read x m.ring (reading_of load)) w.0
    ∙ ap (λ (x : Ring). judged_as_read members x (reading_of load)) w.1

pub read_well : (members : Roster) (ring : Ring) (load : List ℕ) (v : Admitted) → are_bytes load ≡ true → v.members ≡ members
    → v.ring ≡ ring
    → judged_as_read members ring (reading_of load) ≡ Ok v.message → IsRead members ring load (Ok v)
read_well members ring load v b p q j = (p, q, λ m w. of_bytes members ring m load b w ∙ j)

pub read_badly : (members : Roster) (ring : Ring) (load : List ℕ) (x : Refusal) → are_bytes load ≡ true → (x ≡ Refusal.NoMemory → ⊥)
    → IsFree x ⊎ (judged_as_read members ring (reading_of load) ≡ Err x) → IsRead members ring load (Err x)
read_badly members ring load x b n j = λ m w. of_bytes members ring m load b w ∙ has_cause x _ n j
