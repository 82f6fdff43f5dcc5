use Rattle.std.proofs.Common.{rules, ◌≡◌, refl}
use Rattle.audit_laws.proofs.Sanity.{sane}
use Rattle.script_keys.specs.Keys.{replicas_of}
use Rattle.script_keys.specs.Requests.{copies_of}
use Rattle.script_sim.specs.Schedules.{logs_of}
use Rattle.script_sim.proofs.Ready.{distinct, named, fresh, made_with, scheduled, is_run, made, made_as, journal, shut}
use Rattle.script_sim.proofs.running.run_script.Goals as goal

pub simulate-requires-clause-named : goal.simulate-requires-clause-named
simulate-requires-clause-named c =
    let ids : c.as_slice-6.result.now ≡ replicas_of c.args.script = search rules in
    let logs : c.in_ok-logs.logs.items ≡ logs_of c.args.script = search rules in
    named made journal shut c.args.script (made_as c.args.script) (λ i. refl) (λ i. refl) c.as_slice-6.result.now c.in_ok-logs.logs.items ids logs

pub simulate-requires-clause-apart : goal.simulate-requires-clause-apart
simulate-requires-clause-apart c =
    let ids : c.as_slice-6.result.now ≡ replicas_of c.args.script = search rules in
    distinct c.args.script c.as_slice-6.result.now (sane c.args.script c.requires).apart ids

pub simulate-requires-clause-fresh : goal.simulate-requires-clause-fresh
simulate-requires-clause-fresh c =
    let logs : c.in_ok-logs.logs.items ≡ logs_of c.args.script = search rules in
    fresh made journal shut c.args.script (made_as c.args.script) (λ i. refl) (λ i. refl) c.in_ok-logs.logs.items logs

pub simulate-requires-clause-made : goal.simulate-requires-clause-made
simulate-requires-clause-made c =
    let logs : c.in_ok-logs.logs.items ≡ logs_of c.args.script = search rules in
    made_with made journal shut c.args.script (made_as c.args.script) (λ i. refl) (λ i. refl) c.in_ok-members.members c.in_ok-ring.ring c.in_ok-logs.logs.items
    c.in_ok-members.ensures c.in_ok-ring.ensures logs

pub returns-clause-schedule : goal.returns-clause-schedule
returns-clause-schedule c =
    let logs : c.in_ok-logs.logs.items ≡ logs_of c.args.script = search rules in
    let copies : c.into_vec-2.result.items ≡ copies_of c.args.script = search rules in
    scheduled made journal shut c.args.script (made_as c.args.script) (λ i. refl) (λ i. refl) c.in_ok-logs.logs.items c.into_vec-2.result.items
    c.in_ok-transcript.transcript c.in_ok-transcript._spent logs copies c.requires c.in_ok-transcript.ensures.schedule

pub returns-clause-run : goal.returns-clause-run
returns-clause-run c =
    let logs : c.in_ok-logs.logs.items ≡ logs_of c.args.script = search rules in
    let copies : c.into_vec-2.result.items ≡ copies_of c.args.script = search rules in
    is_run made journal shut c.args.script (made_as c.args.script) (λ i. refl) (λ i. refl) sane c.in_ok-logs.logs.items c.into_vec-2.result.items
    c.in_ok-transcript.transcript c.in_ok-transcript._spent logs copies c.requires c.in_ok-transcript.ensures.lawful
