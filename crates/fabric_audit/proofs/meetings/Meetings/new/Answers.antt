use Rattle.std.proofs.Common.{ap}
use Rattle.fabric_audit.proofs.Clashes.{null_met, seen}
use Rattle.fabric_audit.proofs.meetings.Meetings.new.Goals as goal

pub returns : goal.returns
returns c =
    null_met (seen c.new.result.entries) c.keep.new.self c.batch_digest.result c.args.null.now (ap seen c.new.ensures.empty) c.requires
    c.batch_digest.ensures c.in_ok-keep.ensures
