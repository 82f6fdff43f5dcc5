use Rattle.std.proofs.Common.{◌≡◌, ◌<◌, length, take, true, false, None, sym, ap, ◌∙◌, arith}
use Rattle.std.proofs.lemmas.List.{get_or_default}
use Rattle.vote_certs.specs.Counting.{value_of, is_this, senders_below}
use Rattle.vote_certs.proofs.Lists.{below_more, below_holds, below_fails, length_below, front_more, front_full, front_short, front_none}
use Rattle.vote_certs.proofs.counting.first_senders.Goals.{then-len-most+then-is_for, else-len-most, else-len-most-via-then-len-most+else-is_for, else-len-most-via-else-len-most}
use Rattle.vote_certs.proofs.counting.first_senders.Goals as goal

pub loop-place-init : goal.loop-place-init
unfolding senders_below
loop-place-init g c = c.new-senders.ensures ∙ sym (front_none c.args.most)

pub push-requires : goal.push-requires
push-requires g c =
    let eq = g.V.PartialEq.eq in
    let votes = c.args.votes.now in
    let value = c.args.value.now in
    let k = c.loop-place.place in
    let short = front_short c.args.most k (senders_below eq votes value k) c.loop-place.senders c.loop-place.invariant (length_below eq votes value k) in
    omega (arith, short)

pub loop-place-preserved : goal.loop-place-preserved
loop-place-preserved g c =
    let eq = g.V.PartialEq.eq in
    let votes = c.args.votes.now in
    let value = c.args.value.now in
    let k = c.loop-place.place in
    let below = senders_below eq votes value k in
    let within : k < length votes = omega arith in
    elim c.if-len-most.branch [
      | then-len-most+then-is_for w ↦
          (let read = c.index-votes-place.is ∙ get_or_default votes k c.index-votes-place.result None within in
          let holds : is_this eq value (value_of votes k) ≡ true = ap (is_this eq value) (sym read) ∙ (sym w.is_for.ensures ∙ w.if-is_for.true) in
          let longer = front_more c.args.most k below c.loop-place.senders c.loop-place.invariant (omega (arith, w.if-len-most.true, c.len.ensures)) in
          w.senders-is ∙ (w.push.ensures ∙ (longer ∙ ap (take c.args.most) (sym (below_holds eq votes value k holds)))))
      | else-len-most w ↦ elim w.else-len-most.branch [
        | else-len-most-via-then-len-most+else-is_for x ↦
            (let read = c.index-votes-place.is ∙ get_or_default votes k c.index-votes-place.result None within in
            let fails : is_this eq value (value_of votes k) ≡ false = ap (is_this eq value) (sym read) ∙ (sym x.is_for.ensures ∙ x.if-is_for.false) in
            w.senders-is ∙ (c.loop-place.invariant ∙ ap (take c.args.most) (sym (below_fails eq votes value k fails))))
        | else-len-most-via-else-len-most x ↦
            (let full = front_full c.args.most below c.loop-place.senders _ c.loop-place.invariant (omega (arith, x.if-len-most.false, c.len.ensures)) in
            w.senders-is ∙ (full ∙ ap (take c.args.most) (sym (below_more eq votes value k))))
      ]
    ]
