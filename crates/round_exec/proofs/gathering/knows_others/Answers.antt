use Rattle.std.proofs.Common.{◌≡◌, ◌+◌, sym, subst, arith}
use Rattle.round_exec.proofs.Knowing.{NoneUpto, other_found, none_known}
use Rattle.round_exec.proofs.gathering.knows_others.Goals as goal

pub returns-then-is_some : goal.returns-then-is_some
returns-then-is_some c =
    sym (other_found c.args.own c.args.round (c.loop-before.before + 1) c.args.certificates.now c.of.result c.if-before-own.true c.of.ensures (sym c.if-is_some.ensures))

pub returns : goal.returns
returns c =
    let all : c.loop-before.before ≡ c.args.clusters = omega (arith, c.loop-before-test.false, c.loop-before.auto.before-end) in
    sym (none_known c.args.own c.args.round c.args.clusters c.requires.0 c.args.certificates.now c.requires.1
    (subst (NoneUpto c.args.own c.args.certificates.now c.args.round) all c.loop-before.invariant))
