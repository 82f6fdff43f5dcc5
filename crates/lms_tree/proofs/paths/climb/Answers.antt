use Rattle.std.proofs.Common.{◌≡◌, ℕ, ◌/◌, ◌%◌, ◌^◌, sym, ap, ◌∙◌, arith}
use Rattle.lms_tree.specs.Verdict.{parent, climbed}
use Rattle.lms_tree.specs.Paths.{path_read}
use Rattle.lms_tree.proofs.NodeLemmas.{climbed_none, climbed_more}
use Rattle.lms_tree.proofs.paths.climb.Goals as goal
use Rattle.lms_tree.proofs.paths.climb.Goals.{then-number-eq1, else-number-eq1}

pub loop-i-init : goal.loop-i-init
loop-i-init c = sym (climbed_none c.args.id.now (path_read c.args.bytes.now) c.args.r c.args.value)

pub loop-i-preserved : goal.loop-i-preserved
loop-i-preserved c =
    let more = climbed_more c.args.id.now (path_read c.args.bytes.now) c.args.r c.args.value c.loop-i.i in
    let number : ℕ = c.args.r / 2 ^ c.loop-i.i in
    let beside : c.hash_at-beside.result ≡ path_read c.args.bytes.now c.loop-i.i =
    c.hash_at-beside.ensures ∙ ap (λ (n : ℕ). path_read c.args.bytes.now n) c.from.ensures in
    let passed = ap (λ v. parent c.args.id.now number v c.hash_at-beside.result) c.loop-i.invariant
    ∙ ap (λ v. parent c.args.id.now number (climbed c.args.id.now (path_read c.args.bytes.now) c.args.r c.args.value c.loop-i.i) v) beside in
    elim c.if-number-eq1.branch [
      | then-number-eq1 w ↦
          let odd = w.if-number-eq1.true in
          let taken : parent c.args.id.now number c.loop-i.value c.hash_at-beside.result ≡ w.inner_node-value.result =
          rw odd (sym w.inner_node-value.ensures) in
          w.value-is ∙ sym taken ∙ passed ∙ sym more
      | else-number-eq1 w ↦
          let even : number % 2 ≡ 0 = omega (arith, w.if-number-eq1.false) in
          let taken : parent c.args.id.now number c.loop-i.value c.hash_at-beside.result ≡ w.inner_node-value-else-number-eq1.result =
          rw even (sym w.inner_node-value-else-number-eq1.ensures) in
          w.value-is ∙ sym taken ∙ passed ∙ sym more
    ]
