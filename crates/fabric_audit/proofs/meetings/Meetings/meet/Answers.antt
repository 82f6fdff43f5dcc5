use Rattle.fabric_audit.proofs.Clashes.{meets_again, meets_first}
use Rattle.fabric_audit.proofs.meetings.Meetings.meet.Goals as goal

pub returns-in-Some : goal.returns-in-Some
returns-in-Some c =
    meets_again c.args.self.now c.batch_digest-digest.result c.args.batch.now c.in-Some.first.now c.compare.result c.batch_digest-digest.ensures
    c.in-Some.ensures c.compare.ensures

pub returns-in_ok-keep-in-None : goal.returns-in_ok-keep-in-None
returns-in_ok-keep-in-None c =
    meets_first c.args.self.now c.keep.new.self c.batch_digest-digest.result c.args.batch.now c.batch_digest-digest.ensures
    c.in-None.ensures c.in_ok-keep-in-None.ensures
