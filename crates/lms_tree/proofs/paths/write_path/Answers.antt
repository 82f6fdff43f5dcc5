use Rattle.std.proofs.Common.{◌≡◌, ◌++◌, refl, sym, ap, ◌∙◌, append-nil, append_assoc, arith, rules}
use Rattle.std.proofs.lemmas.Slice.{pushed}
use Rattle.lmots_core.specs.Chains.{joined}
use Rattle.lmots_core.proofs.ChainLemmas.{joined_none, joined_more}
use Rattle.lms_tree.specs.Paths.{nodes_beside}
use Rattle.lms_tree.proofs.paths.write_path.Goals as goal

pub loop-i-init : goal.loop-i-init
loop-i-init c = let none = joined_none (nodes_beside c.args.nodes.now c.args.r) in (rw (none, append-nil) refl, omega arith, omega arith)

pub loop-i-preserved : goal.loop-i-preserved
loop-i-preserved c =
    let y = nodes_beside c.args.nodes.now c.args.r in
    let grown : c.extend_from_slice.new.self.items ≡ c.args.into.now.items ++ joined y c.loop-i.i ++ y c.loop-i.i =
    pushed (y c.loop-i.i) c.loop-i.invariant.0 c.unwrap.ensures c.extend_from_slice.ensures.items in (
      grown ∙ append_assoc c.args.into.now.items (joined y c.loop-i.i) (y c.loop-i.i)
          ∙ ap (λ l. c.args.into.now.items ++ l) (sym (joined_more y c.loop-i.i)),
      search rules,
      search rules,
    )
