use Rattle.std.proofs.Common.{◌≡◌, ◌∙◌, ap, sym, subst, List, length, arith}
use Rattle.lms_leaf.specs.Leaves.{Leaves}
use Rattle.replica_log.specs.Logs.{Log}
use Rattle.run_worlds.specs.Scripts.{makers_of}
use Rattle.forged_example.specs.Standing.{AreStanding}
use Rattle.forged_example.proofs.Hearings.{fresh_stand, for_all, put_back}
use Rattle.forged_example.proofs.forged.traces_with.Goals as goal

pub hear_at-requires-clause-made : goal.hear_at-requires-clause-made
hear_at-requires-clause-made c =
    for_all c.args.script.now c.in_ok-heard.heard c.in_ok-members.field-0.members c.in_ok-members.field-0.ring c.deref_mut.result.now
    c.in_ok-heard.ensures.sound.0 c.in_ok-heard.ensures.sound.1 c.in_ok-members.ensures.members c.in_ok-members.ensures.ring
    (c.deref_mut.ensures.value ∙ c.in_ok-members.ensures.logs)

pub returns : goal.returns
returns c =
    let makers = makers_of c.args.script.now in
    let v = c.deref_mut.ensures.value in
    let m = ap length v in
    let k = c.hear_at.auto.logs in
    let n : c.in_ok-members.field-0.logs.len ≡ length c.hear_at.new.logs = omega arith in
    let back = put_back c.in_ok-members.field-0.logs.len c.hear_at.new.logs _ n in
    let stand = c.in_ok-hear_at.ensures makers (fresh_stand c.args.script.now c.deref_mut.result.now (v ∙ c.in_ok-members.ensures.logs)) in
    c.in_ok-leave_all.ensures makers (subst (λ (l : List (Log Leaves)). AreStanding makers l) (sym back) stand)
