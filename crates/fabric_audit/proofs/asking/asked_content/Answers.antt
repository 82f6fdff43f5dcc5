use Rattle.fabric_audit.proofs.asking.asked_content.Goals as goal

pub put_request_content-put-requires : goal.put_request_content-put-requires
put_request_content-put-requires c = rw (c.in_ok-request.ensures) c.requires
