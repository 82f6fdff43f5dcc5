use Rattle.std.proofs.Common.{subst}
use Rattle.fabric_audit.specs.Meeting.{Gains}
use Rattle.fabric_audit.proofs.Clashes.{gained, seen}
use Rattle.fabric_audit.proofs.meetings.Meetings.keep.Goals as goal

pub returns : goal.returns
returns c =
    subst (λ old. Gains old (seen c.insert.new.self.entries) c.args.digest.bytes c.args.batch.now) c.self.view_is
    (gained c.self.inside.firsts.entries c.insert.new.self.entries c.args.digest.bytes c.args.batch c.in_ok-insert.ensures.updates.0)
