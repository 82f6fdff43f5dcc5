use Rattle.std.proofs.Common.{rules, arith, ◌≡◌, ◌<◌, ◌+◌, ℕ, sym, ap, ◌∙◌, subst, length, true, false, Bool, true≢false, slice_set, List}
use native.Mathlib.Decide.{ℕ_discrete}
use mathlib.Core.Logic.{dite}
use Rattle.turn_lock.specs.Numbers.{has}
use Rattle.turn_lock.proofs.SeatRows.{has_within, has_set, has_here, united_set, united_same}
use Rattle.turn_lock.proofs.numbers.unite.Goals.{then-others-at, else-others-at}
use Rattle.turn_lock.proofs.numbers.unite.Goals as goal

marked : (now ys : List Bool) (at : ℕ) → at < length now → ((k : ℕ) → k < at → has ys k ≡ true → has now k ≡ true) → (k : ℕ) → k < at + 1 → has ys k ≡ true → has (slice_set now at true) k ≡ true
marked now ys at room h k small e = dite (ℕ_discrete k at) (λ is. subst (λ j. has (slice_set now at true) j ≡ true) (sym is) (has_here now at true room)) (λ n. has_set now at k true n ∙ h k (omega arith) e)

left_out : (now ys : List Bool) (at : ℕ) → has ys at ≡ false → ((k : ℕ) → k < at → has ys k ≡ true → has now k ≡ true) → (k : ℕ) → k < at + 1 → has ys k ≡ true → has now k ≡ true
left_out now ys at out h k small e = dite (ℕ_discrete k at) (λ is. absurd (true≢false (sym e ∙ ap (has ys) is ∙ out))) (λ n. h k (omega arith) e)

pub loop-at-preserved : goal.loop-at-preserved
loop-at-preserved c =
    let i = c.loop-at.invariant in
    let now = c.loop-at.numbers in
    let ys = c.args.others.now in
    elim c.if-others-at.branch [
      | then-others-at w ↦
          let here : has ys c.loop-at.at ≡ true = search rules in
          let room : c.loop-at.at < length now = search rules in
          let is : c.if-others-at.numbers ≡ slice_set now c.loop-at.at true = search rules in
          rw is (united_set now ys c.loop-at.at here ∙ i.0, marked now ys c.loop-at.at room i.1)
      | else-others-at w ↦
          let out : has ys c.loop-at.at ≡ false = search rules in
          let is : c.if-others-at.numbers ≡ now = search rules in
          rw is (i.0, left_out now ys c.loop-at.at out i.1)
    ]

pub returns : goal.returns
returns c =
    let i = c.loop-at.invariant in
    sym (united_same c.loop-at.numbers c.args.others.now (λ k e. i.1 k (omega (arith, has_within c.args.others.now k e)) e)) ∙ i.0
