use Rattle.std.proofs.Common.{◌+◌, ◌-◌, ◌*◌, ◌<◌, Some, length, sym, ap, subst, ◌∙◌, arith, rules}
use Rattle.round_exec.proofs.Places.{is_place, place_found}
use Rattle.round_exec.proofs.executed.Executed.place_of.Goals as goal

pub overflow_mul-before : goal.overflow_mul-before
overflow_mul-before c =
    let n = c.self.inside in
    let next = c.next-next.ensures ∙ ap (λ d. d.executed + 1) (sym c.self.view_is) in
    let size = c.len-blocks.ensures ∙ c.self.invariant.whole in
    let p = is_place n.clusters (length n.chains.items - 1) c.args.round c.args.cluster c.len-blocks.result c.next-next.result size c.len-blocks.type_inv next
    c.if-round-eq0.false c.if-round-next.false c.if-cluster-eq0.false c.if-cluster-self.false in
    let small : (c.args.round - 1) * c.from.result < 18446744073709551616 = subst (λ k. (c.args.round - 1) * k < 18446744073709551616) (sym c.from.ensures) p.before in
    search rules

pub overflow_add-place : goal.overflow_add-place
overflow_add-place c =
    let n = c.self.inside in
    let next = c.next-next.ensures ∙ ap (λ d. d.executed + 1) (sym c.self.view_is) in
    let size = c.len-blocks.ensures ∙ c.self.invariant.whole in
    let p = is_place n.clusters (length n.chains.items - 1) c.args.round c.args.cluster c.len-blocks.result c.next-next.result size c.len-blocks.type_inv next
    c.if-round-eq0.false c.if-round-next.false c.if-cluster-eq0.false c.if-cluster-self.false in
    let small : (c.args.round - 1) * c.from.result + c.from-2.result < 18446744073709551616 =
    subst (λ k. (c.args.round - 1) * k + c.from-2.result < 18446744073709551616) (sym c.from.ensures)
    (subst (λ k. (c.args.round - 1) * n.clusters + k < 18446744073709551616) (sym c.from-2.ensures) p.place) in
    search rules

pub returns-clause-is : goal.returns-clause-is
returns-clause-is c =
    let n = c.self.inside in
    let z = ap (λ d. d.clusters) c.self.view_is in
    ap (λ k. Some ((c.args.round - 1) * k + c.from-2.result)) (c.from.ensures ∙ z)
    ∙ (ap (λ k. Some ((c.args.round - 1) * c.args.self.now.clusters + k)) c.from-2.ensures
    ∙ sym (place_found c.args.self.now c.args.round c.args.cluster c.next-next.result c.next-next.ensures c.if-round-eq0.false c.if-round-next.false
    c.if-cluster-eq0.false (omega (arith, c.if-cluster-self.false, z))))
