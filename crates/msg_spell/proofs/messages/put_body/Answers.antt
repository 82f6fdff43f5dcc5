use Rattle.msg_spell.proofs.messages.put_body.Goals as goal

pub returns-in-Request : goal.returns-in-Request
returns-in-Request g c = rw c.in-Request.is c.put_request_body.ensures

pub returns-in-PrePrepare : goal.returns-in-PrePrepare
returns-in-PrePrepare g c = rw c.in-PrePrepare.is c.put_proposal_body.ensures

pub returns-in-Prepare : goal.returns-in-Prepare
returns-in-Prepare g c = rw c.in-Prepare.is c.put_vote_body.ensures

pub returns-in-Commit : goal.returns-in-Commit
returns-in-Commit g c = rw c.in-Commit.is c.put_vote_body-in-Commit.ensures

pub returns-in-Checkpoint : goal.returns-in-Checkpoint
returns-in-Checkpoint g c = rw c.in-Checkpoint.is c.put_checkpoint_body.ensures

pub returns-in-ViewChange : goal.returns-in-ViewChange
returns-in-ViewChange g c = rw c.in-ViewChange.is c.put_view_change_body.ensures

pub returns-in-NewView : goal.returns-in-NewView
returns-in-NewView g c = rw c.in-NewView.is c.put_new_view_body.ensures

pub returns-in-Drvc : goal.returns-in-Drvc
returns-in-Drvc g c = rw c.in-Drvc.is c.put_plea_body.ensures

pub returns-in-Rvc : goal.returns-in-Rvc
returns-in-Rvc g c = rw c.in-Rvc.is c.put_plea_body-in-Rvc.ensures

pub returns-in-ReplyNote : goal.returns-in-ReplyNote
returns-in-ReplyNote g c = rw c.in-ReplyNote.is c.put_note_body.ensures

pub returns-in-Share : goal.returns-in-Share
returns-in-Share g c = rw c.in-Share.is c.put_share.ensures

pub returns-in-Fetch : goal.returns-in-Fetch
returns-in-Fetch g c = rw c.in-Fetch.is c.put_ask.ensures
