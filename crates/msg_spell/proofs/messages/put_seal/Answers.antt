use Rattle.msg_spell.proofs.messages.put_seal.Goals as goal

pub returns-in-Request : goal.returns-in-Request
returns-in-Request g c = rw c.in-Request.is c.put_signature.ensures

pub returns-in-PrePrepare : goal.returns-in-PrePrepare
returns-in-PrePrepare g c = rw c.in-PrePrepare.is c.put_signature-in-PrePrepare.ensures

pub returns-in-Prepare : goal.returns-in-Prepare
returns-in-Prepare g c = rw c.in-Prepare.is c.put_signature-in-Prepare.ensures

pub returns-in-Commit : goal.returns-in-Commit
returns-in-Commit g c = rw c.in-Commit.is c.put_signature-in-Commit.ensures

pub returns-in-Checkpoint : goal.returns-in-Checkpoint
returns-in-Checkpoint g c = rw c.in-Checkpoint.is c.put_signature-in-Checkpoint.ensures

pub returns-in-ViewChange : goal.returns-in-ViewChange
returns-in-ViewChange g c = rw c.in-ViewChange.is c.put_signature-in-ViewChange.ensures

pub returns-in-NewView : goal.returns-in-NewView
returns-in-NewView g c = rw c.in-NewView.is c.put_signature-in-NewView.ensures

pub returns-in-Drvc : goal.returns-in-Drvc
returns-in-Drvc g c = rw c.in-Drvc.is c.put_signature-in-Drvc.ensures

pub returns-in-Rvc : goal.returns-in-Rvc
returns-in-Rvc g c = rw c.in-Rvc.is c.put_signature-in-Rvc.ensures

pub returns-in-ReplyNote : goal.returns-in-ReplyNote
returns-in-ReplyNote g c = rw c.in-ReplyNote.is c.put_signature-in-ReplyNote.ensures
