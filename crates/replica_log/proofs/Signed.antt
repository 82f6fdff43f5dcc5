-- A signed message is spelled as its content, the length of its signature, and its signature.
use Rattle.std.proofs.Common.{◌≡◌, ℕ, true, List, ◌++◌, length, sym, append_assoc}
use Rattle.std.specs.Int.{w16, to_be_bytes}
use Rattle.fab_base.specs.declared.ids.ReplicaId.{ReplicaId}
use Rattle.fab_base.specs.declared.messages.Message.{Message}
use Rattle.fab_rules.specs.Spelling.{content_of, spelling_of}
use Rattle.fab_rules.specs.Statements.{signer_of}
use Rattle.fab_machine.specs.Items.{is_own, with_sig}

-- what is in front of the signature
abbrev pub front_of : Message → List ℕ → List ℕ
front_of x sig = content_of x ++ to_be_bytes w16 (length sig)

pub signed_spelling : (me : ReplicaId) (sig : List ℕ) (x : Message) → is_own me (signer_of x) ≡ true
    → spelling_of (with_sig sig x) ≡ front_of x sig ++ sig
unfolding content_of spelling_of
signed_spelling me sig (Message.Request x) h = sym (append_assoc (content_of (Message.Request x)) (to_be_bytes w16 (length sig)) sig)
signed_spelling me sig (Message.PrePrepare x) h = sym (append_assoc (content_of (Message.PrePrepare x)) (to_be_bytes w16 (length sig)) sig)
signed_spelling me sig (Message.Prepare x) h = sym (append_assoc (content_of (Message.Prepare x)) (to_be_bytes w16 (length sig)) sig)
signed_spelling me sig (Message.Commit x) h = sym (append_assoc (content_of (Message.Commit x)) (to_be_bytes w16 (length sig)) sig)
signed_spelling me sig (Message.Checkpoint x) h = sym (append_assoc (content_of (Message.Checkpoint x)) (to_be_bytes w16 (length sig)) sig)
signed_spelling me sig (Message.ViewChange x) h = sym (append_assoc (content_of (Message.ViewChange x)) (to_be_bytes w16 (length sig)) sig)
signed_spelling me sig (Message.NewView x) h = sym (append_assoc (content_of (Message.NewView x)) (to_be_bytes w16 (length sig)) sig)
signed_spelling me sig (Message.Drvc x) h = sym (append_assoc (content_of (Message.Drvc x)) (to_be_bytes w16 (length sig)) sig)
signed_spelling me sig (Message.Rvc x) h = sym (append_assoc (content_of (Message.Rvc x)) (to_be_bytes w16 (length sig)) sig)
signed_spelling me sig (Message.ReplyNote x) h = sym (append_assoc (content_of (Message.ReplyNote x)) (to_be_bytes w16 (length sig)) sig)
signed_spelling me sig (Message.Share x) h = absurd cc
signed_spelling me sig (Message.Fetch x) h = absurd cc
