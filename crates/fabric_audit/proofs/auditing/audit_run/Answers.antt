use Rattle.std.proofs.Common.{List, ap, ◌∙◌, subst}
use Rattle.run_words.specs.declared.logs.Trace.{Trace}
use Rattle.run_worlds.specs.Worlds.{correct_of}
use Rattle.run_worlds.specs.Sights.{after_traces}
use Rattle.fabric_audit.specs.Meeting.{Meets}
use Rattle.fabric_audit.proofs.Following.{found}
use Rattle.fabric_audit.proofs.auditing.audit_run.Goals as goal

pub returns : goal.returns
returns c =
    let t = c.args.makers.now in
    let met = c.in_ok-meetings.meetings in
    found t met c.audit_journals.new.meetings c.audit_journals.result c.in_ok-meetings.ensures
    (subst (λ (traces : List Trace). Meets met c.audit_journals.result c.audit_journals.new.meetings (λ so_far. after_traces t so_far (correct_of traces)))
    (c.as_slice.ensures ∙ ap (λ u. u.traces) c.transcript.ensures) c.audit_journals.ensures)
