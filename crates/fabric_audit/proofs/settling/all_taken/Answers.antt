use Rattle.std.proofs.Common.{◌+◌, ◌==◌, sym, ap, subst, ◌∙◌}
use Rattle.std.specs.Prelude.{IsTrue}
use Rattle.std.specs.List.{All, sum_by}
use Rattle.fab_base.specs.Roster.{is_client}
use Rattle.run_worlds.specs.Scripts.{roster_of}
use Rattle.fabric_audit.specs.Counts.{all_taken, sent_by, copies_for}
use Rattle.fabric_audit.proofs.Copies.{clients_known}
use Rattle.fabric_audit.proofs.settling.all_taken.Goals as goal

pub copies-requires : goal.copies-requires
copies-requires c =
    subst (λ r. All (λ w. IsTrue (is_client r w.client)) c.as_slice.result.now) (sym c.in_ok-members.ensures)
    (subst (All (λ w. IsTrue (is_client (roster_of c.args.script.now) w.client))) (sym c.as_slice.ensures) (clients_known c.args.script.now c.requires))

pub returns : goal.returns
returns c =
    let script = c.args.script.now in
    let traces = c.args.traces.now in
    let members = c.in_ok-members.members in
    ap (λ n. n == c.in_ok-put.put) c.in_ok-taken.ensures
    ∙ ap (λ n. all_taken traces == n)
    (c.in_ok-put.ensures
    ∙ ap (λ n. n + c.in_ok-sent_by_all.field-0) (c.in_ok-asked.ensures ∙ ap (sum_by (copies_for members)) c.as_slice.ensures)
    ∙ ap (λ n. sum_by (copies_for members) script.requests + n) c.in_ok-sent_by_all.ensures
    ∙ ap (λ r. sum_by (copies_for r) script.requests + sum_by (sent_by r) traces) c.in_ok-members.ensures)
