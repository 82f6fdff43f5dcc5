-- What messages say: their parts, who signs them, what is signed, and the batches in them.
use Rattle.std.specs.Prelude.{ℕ, ◌++◌, List, [], ◌∷◌, map, Option, Some, None}
use Rattle.std.specs.Option.{is_some}
use Rattle.std.specs.List.{filter, flat_map}
use Rattle.fab_base.specs.declared.ids.Who.{Who}
use Rattle.fab_base.specs.declared.requests.Request.{Request}
use Rattle.fab_base.specs.declared.messages.PreparedCert.{PreparedCert}
use Rattle.fab_base.specs.declared.messages.ViewChange.{ViewChange}
use Rattle.fab_base.specs.declared.messages.Message.{Message}

-- who signs a message, if anybody does
abbrev pub signer_of : Message → Option Who
signer_of (Message.Request x) = Some (Who.Client x.client)
signer_of (Message.PrePrepare x) = Some (Who.Replica x.signer)
signer_of (Message.Prepare x) = Some (Who.Replica x.signer)
signer_of (Message.Commit x) = Some (Who.Replica x.signer)
signer_of (Message.Checkpoint x) = Some (Who.Replica x.signer)
signer_of (Message.ViewChange x) = Some (Who.Replica x.signer)
signer_of (Message.NewView x) = Some (Who.Replica x.signer)
signer_of (Message.Drvc x) = Some (Who.Replica x.signer)
signer_of (Message.Rvc x) = Some (Who.Replica x.signer)
signer_of (Message.ReplyNote x) = Some (Who.Replica x.signer)
signer_of (Message.Share x) = None
signer_of (Message.Fetch x) = None

-- a statement as it is said: the message without its own signature. The signatures of what it quotes stay
abbrev pub unsigned : Message → Message
unsigned (Message.Request x) = Message.Request (record x { sig = [] })
unsigned (Message.PrePrepare x) = Message.PrePrepare (record x { sig = [] })
unsigned (Message.Prepare x) = Message.Prepare (record x { sig = [] })
unsigned (Message.Commit x) = Message.Commit (record x { sig = [] })
unsigned (Message.Checkpoint x) = Message.Checkpoint (record x { sig = [] })
unsigned (Message.ViewChange x) = Message.ViewChange (record x { sig = [] })
unsigned (Message.NewView x) = Message.NewView (record x { sig = [] })
unsigned (Message.Drvc x) = Message.Drvc (record x { sig = [] })
unsigned (Message.Rvc x) = Message.Rvc (record x { sig = [] })
unsigned (Message.ReplyNote x) = Message.ReplyNote (record x { sig = [] })
unsigned (Message.Share x) = Message.Share x
unsigned (Message.Fetch x) = Message.Fetch x

-- the signature that a message bears: none, where nobody signs it
abbrev pub signature_of : Message → List ℕ
signature_of (Message.Request x) = x.sig
signature_of (Message.PrePrepare x) = x.sig
signature_of (Message.Prepare x) = x.sig
signature_of (Message.Commit x) = x.sig
signature_of (Message.Checkpoint x) = x.sig
signature_of (Message.ViewChange x) = x.sig
signature_of (Message.NewView x) = x.sig
signature_of (Message.Drvc x) = x.sig
signature_of (Message.Rvc x) = x.sig
signature_of (Message.ReplyNote x) = x.sig
signature_of (Message.Share x) = []
signature_of (Message.Fetch x) = []

-- the message with this signature, where somebody signs it
abbrev pub with_sig : List ℕ → Message → Message
with_sig sig (Message.Request x) = Message.Request (record x { sig = sig })
with_sig sig (Message.PrePrepare x) = Message.PrePrepare (record x { sig = sig })
with_sig sig (Message.Prepare x) = Message.Prepare (record x { sig = sig })
with_sig sig (Message.Commit x) = Message.Commit (record x { sig = sig })
with_sig sig (Message.Checkpoint x) = Message.Checkpoint (record x { sig = sig })
with_sig sig (Message.ViewChange x) = Message.ViewChange (record x { sig = sig })
with_sig sig (Message.NewView x) = Message.NewView (record x { sig = sig })
with_sig sig (Message.Drvc x) = Message.Drvc (record x { sig = sig })
with_sig sig (Message.Rvc x) = Message.Rvc (record x { sig = sig })
with_sig sig (Message.ReplyNote x) = Message.ReplyNote (record x { sig = sig })
with_sig sig (Message.Share x) = Message.Share x
with_sig sig (Message.Fetch x) = Message.Fetch x

-- ---- parts

abbrev pub parts_of_certificate : PreparedCert → List Message
parts_of_certificate k = map Message.Request k.batch ++ map Message.Prepare k.votes

abbrev pub parts_of_change : ViewChange → List Message
parts_of_change c = Message.ViewChange c ∷ map Message.Checkpoint c.proof ++ flat_map parts_of_certificate c.prepared

-- the message itself, and then each statement inside it, at any depth, in the order of their first bytes
abbrev pub parts_of : Message → List Message
parts_of (Message.Request x) = Message.Request x ∷ []
parts_of (Message.PrePrepare x) = Message.PrePrepare x ∷ map Message.Request x.batch
parts_of (Message.Prepare x) = Message.Prepare x ∷ []
parts_of (Message.Commit x) = Message.Commit x ∷ []
parts_of (Message.Checkpoint x) = Message.Checkpoint x ∷ []
parts_of (Message.ViewChange x) = parts_of_change x
parts_of (Message.NewView x) = Message.NewView x ∷ flat_map parts_of_change x.changes
parts_of (Message.Drvc x) = Message.Drvc x ∷ []
parts_of (Message.Rvc x) = Message.Rvc x ∷ []
parts_of (Message.ReplyNote x) = Message.ReplyNote x ∷ []
parts_of (Message.Share x) = Message.Share x ∷ map Message.Request x.batch ++ map Message.Commit x.votes
parts_of (Message.Fetch x) = Message.Fetch x ∷ []

-- the parts that somebody signed
abbrev pub statements_of : Message → List Message
statements_of m = filter (λ p. is_some (signer_of p)) (parts_of m)

-- ---- batches

abbrev pub batches_of_change : ViewChange → List (List Request)
batches_of_change c = map (λ k. k.batch) c.prepared

-- the batches that stand in a message, in the order of their first bytes
abbrev pub batches_of : Message → List (List Request)
batches_of (Message.PrePrepare x) = x.batch ∷ []
batches_of (Message.ViewChange x) = batches_of_change x
batches_of (Message.NewView x) = flat_map batches_of_change x.changes
batches_of (Message.Share x) = x.batch ∷ []
batches_of m = []
