use Rattle.run_worlds.specs.Scripts.{makers_of}
use Rattle.fabric_audit.proofs.Lawfulness.{wishes_fit, journals_fit}
use Rattle.fabric_audit.proofs.auditing.audit.Goals as goal

pub asked_contents-requires : goal.asked_contents-requires
asked_contents-requires c = rw c.as_slice.ensures (wishes_fit c.args.transcript.now.script c.requires.limits)

pub evidence-requires : goal.evidence-requires
evidence-requires c =
    rw c.in_ok-makers.ensures (journals_fit (makers_of c.args.transcript.now.script) c.args.transcript.now.traces c.requires.kept)
