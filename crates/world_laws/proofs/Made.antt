-- What correct replicas heard of correct signers, these made: it is sound, nothing is forged, and equal contents are equal statements.
use Rattle.std.proofs.Common.{◌≡◌, true, List, [], ◌∷◌, Some, inl, inr, refl, sym, ap, subst}
use Rattle.std.specs.List.{AllByRecursion}
use Rattle.std.specs.Option.{is_some}
use Rattle.fab_base.specs.declared.ids.ReplicaId.{ReplicaId}
use Rattle.fab_base.specs.declared.ids.Who.{Who}
use Rattle.fab_base.specs.declared.messages.Message.{Message}
use Rattle.fab_rules.specs.Lists.{In}
use Rattle.fab_rules.specs.Format.{fields_fit}
use Rattle.fab_rules.specs.Statements.{parts_of, signer_of, unsigned}
use Rattle.fab_rules.specs.Shape.{IsShaped}
use Rattle.fab_rules.specs.Diary.{Heard}
use Rattle.fab_rules.proofs.Fitting.{fields_are}
use Rattle.fab_rules.proofs.Lists.{of_filter}
use Rattle.fab_rules.proofs.Parts.{part_is_statement}
use Rattle.msg_read.proofs.Unique.{told}
use Rattle.bft_msg.proofs.Fitting.{parts_fit}
use Rattle.bft_verify.proofs.Soundness.{shaped_from_sound, signed_from_sound}
use Rattle.world_laws.specs.World.{World, IsCorrect, IsWorld, IsMade, IsCorrectSigner, Unforged, AllMade}

-- what correct replicas heard is shaped
pub heard_is_shaped : (w : World) → IsWorld w → (i : ReplicaId) → IsCorrect w i → (m : Message) → In (Heard m) (w.diary i) → IsShaped w.roster m
heard_is_shaped w world i correct m heard = shaped_from_sound w.roster w.ring m (world.sound i correct m heard)

-- ---- parts that fit

each_of : {X : Type 0} (P : X → Type 0) (xs : List X) (x : X) → AllByRecursion P xs → In x xs → P x
each_of P [] x all h = absurd h
each_of P (y ∷ xs) x all (inl e) = subst P e all.0
each_of P (y ∷ xs) x all (inr h) = each_of P xs x all.1 h

part_fits : (m part : Message) → fields_fit m ≡ true → In part (parts_of m) → fields_fit part ≡ true
part_fits m part h inside = each_of (λ p. fields_fit p ≡ true) (parts_of m) part (parts_fit m h) inside

pub heard_part_fits : (w : World) → IsWorld w → (i : ReplicaId) → IsCorrect w i → (m : Message) → In (Heard m) (w.diary i) → (part : Message)
    → In part (parts_of m) → fields_fit part ≡ true
heard_part_fits w world i correct m heard part inside = part_fits m part (fields_are m (world.sound i correct m heard).spelled) inside

-- ---- whether a statement was made doesn't depend on its signature

made_without : (w : World) (m : Message) → IsMade w m → IsMade w (unsigned m)
made_without w (Message.Request x) made = made
made_without w (Message.PrePrepare x) made = made
made_without w (Message.Prepare x) made = made
made_without w (Message.Commit x) made = made
made_without w (Message.Checkpoint x) made = made
made_without w (Message.ViewChange x) made = made
made_without w (Message.NewView x) made = made
made_without w (Message.Drvc x) made = made
made_without w (Message.Rvc x) made = made
made_without w (Message.ReplyNote x) made = made
made_without w (Message.Share x) made = made
made_without w (Message.Fetch x) made = made

made_with : (w : World) (m : Message) → IsMade w (unsigned m) → IsMade w m
made_with w (Message.Request x) made = made
made_with w (Message.PrePrepare x) made = made
made_with w (Message.Prepare x) made = made
made_with w (Message.Commit x) made = made
made_with w (Message.Checkpoint x) made = made
made_with w (Message.ViewChange x) made = made
made_with w (Message.NewView x) made = made
made_with w (Message.Drvc x) made = made
made_with w (Message.Rvc x) made = made
made_with w (Message.ReplyNote x) made = made
made_with w (Message.Share x) made = made
made_with w (Message.Fetch x) made = made

-- only the statements of correct signers matter
made_if_correct : (w : World) (m : Message) → ((who : Who) → signer_of m ≡ Some who → IsCorrectSigner w who → IsMade w m) → IsMade w m
made_if_correct w (Message.Request x) h = λ not_faulty. h (Who.Client x.client) refl not_faulty not_faulty
made_if_correct w (Message.PrePrepare x) h = λ correct. h (Who.Replica x.signer) refl correct correct
made_if_correct w (Message.Prepare x) h = λ correct. h (Who.Replica x.signer) refl correct correct
made_if_correct w (Message.Commit x) h = λ correct. h (Who.Replica x.signer) refl correct correct
made_if_correct w (Message.Checkpoint x) h = λ correct. h (Who.Replica x.signer) refl correct correct
made_if_correct w (Message.ViewChange x) h = λ correct. h (Who.Replica x.signer) refl correct correct
made_if_correct w (Message.NewView x) h = λ correct. h (Who.Replica x.signer) refl correct correct
made_if_correct w (Message.Drvc x) h = λ correct. h (Who.Replica x.signer) refl correct correct
made_if_correct w (Message.Rvc x) h = λ correct. h (Who.Replica x.signer) refl correct correct
made_if_correct w (Message.ReplyNote x) h = λ correct. h (Who.Replica x.signer) refl correct correct
made_if_correct w (Message.Share x) h = tt
made_if_correct w (Message.Fetch x) h = tt

-- ---- from signatures to statements, and back

pub all_made : (w : World) → IsWorld w → Unforged w → AllMade w
all_made w world unforged i correct m heard statement inside =
    let part : In statement (parts_of m) = (of_filter (λ p. is_some (signer_of p)) statement (parts_of m) inside).0 in
    made_if_correct w statement
    (λ who names is_correct.
    let signed = signed_from_sound w.roster w.ring m (world.sound i correct m heard) statement who part names in
    let source = unforged i correct m heard statement part who names is_correct signed in
    let same : unsigned statement ≡ unsigned source.statement =
    told statement source.statement (heard_part_fits w world i correct m heard statement part) source.fields source.content_is in
    made_with w statement (subst (λ (x : Message). IsMade w x) (sym same) (made_without w source.statement source.made)))

-- a world in which each signer made what was heard of it has nothing forged
pub unforged : (w : World) → IsWorld w → AllMade w → Unforged w
unforged w world made i correct m heard part inside who names is_correct signed = record {
  statement = part;
  fields = heard_part_fits w world i correct m heard part inside;
  names = names;
  made = made i correct m heard part (part_is_statement m part inside (ap (λ s. is_some s) names));
  content_is = refl;
}
