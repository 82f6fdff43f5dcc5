use Rattle.std.proofs.Common.{◌≡◌, ◌++◌, ◌∙◌, ap, sym, refl, arith, rules}
use Rattle.std.proofs.lemmas.List.{append_assoc, append-nil}
use Rattle.std.proofs.lemmas.Slice.{pushed}
use Rattle.lmots_core.specs.Running.{value_in}
use Rattle.lmots_core.specs.Chains.{joined}
use Rattle.lmots_core.proofs.ChainLemmas.{joined_none, joined_more}
use Rattle.lmots_core.proofs.signatures.append_values.Goals as goal

pub loop-i-init : goal.loop-i-init
loop-i-init c =
    let none = joined_none (value_in c.args.values.now) in
    (rw (none, append-nil) refl, omega arith, omega arith)

pub loop-i-preserved : goal.loop-i-preserved
loop-i-preserved c =
    let y = value_in c.args.values.now in
    let grown : c.extend_from_slice.new.self.items ≡ c.args.into.now.items ++ joined y c.loop-i.i ++ y c.loop-i.i =
    pushed c.digest_of.result c.loop-i.invariant.0 c.unwrap.ensures c.extend_from_slice.ensures.items
    ∙ ap (λ l. c.args.into.now.items ++ joined y c.loop-i.i ++ l) c.digest_of.ensures in (
      grown ∙ append_assoc c.args.into.now.items (joined y c.loop-i.i) (y c.loop-i.i)
          ∙ ap (λ l. c.args.into.now.items ++ l) (sym (joined_more y c.loop-i.i)),
      search rules,
      search rules,
    )
