use Rattle.std.proofs.Common.{◌≡◌, ◌+◌, ◌-◌, ◌*◌, ◌∙◌, ap, ℕ, take, drop, arith}
use Rattle.std.proofs.lemmas.List.{length-set}
use Rattle.lmots_core.specs.Parameters.{width}
use Rattle.lmots_core.specs.Digits.{coef}
use Rattle.lmots_core.specs.OneTime.{value_of}
use Rattle.lmots_core.proofs.LeafLemmas.{filled, filled_rows}
use Rattle.lmots_core.proofs.candidates.load.Goals as goal

pub load-preserved : goal.load-preserved
load-preserved c =
    let from = c.from-at.ensures in
    let value : c.copy_from_slice.new.self ≡ value_of c.args.signature.now c.load.i =
    let long : 36 + 32 * c.from-at.result + 32 - (36 + 32 * c.from-at.result) ≡ 32 = omega arith in
    c.copy_from_slice.ensures.after
    ∙ ap (λ (n : ℕ). take n (drop (36 + 32 * c.from-at.result) c.args.signature.now)) long
    ∙ ap (λ (n : ℕ). take 32 (drop (36 + 32 * n) c.args.signature.now)) from in
    let l0 = c.load.invariant.0 in
    let l1 = c.load.invariant.1 in
    let count = c.chain_count-i-end.ensures in (
      length-set c.load.values c.from-at.result c.words_of.result ∙ l0,
      length-set c.load.places c.from-at.result c.coef.result ∙ l1,
      λ k low. (
        filled_rows (λ j. value_of c.args.signature.now j) c.load.values c.load.i c.from-at.result c.words_of.result from (omega (arith, l0, count)) (c.words_of.ensures ∙ value)
            (λ j lt. (c.load.invariant.2 j lt).0) k low,
        filled (λ j. coef c.args.digits.now j (width c.args.kind)) c.load.places c.load.i c.from-at.result c.coef.result from (omega (arith, l1, count)) c.coef.ensures
            (λ j lt. (c.load.invariant.2 j lt).1) k low,
      ),
    )
