use Rattle.std.proofs.Common.{◌≡◌, rules, sym, ap, subst, ◌∙◌}
use Rattle.std.proofs.lemmas.Fn.{filter_same}
use Rattle.checkpoint_core.specs.Checkpoints.{Checkpoints, AreCheckpoints, pruned}
use Rattle.checkpoint_core.proofs.Keeping.{pruned_keeps, pruned_is}
use Rattle.checkpoint_core.proofs.book.StableBook.prune.Goals as goal

-- what the book held
was : goal.After-retain → Checkpoints
was c = record { low = c.self.inside.low; members = c.self.inside.members; votes = c.self.inside.votes.items }

is_pruned : (c : goal.After-retain)
    → ◌≡◌ {A = Checkpoints} (record { low = c.max-low.result; members = c.self.inside.members; votes = c.retain.new.self.items }) (pruned (was c) c.args.round)
unfolding was
is_pruned c = pruned_is (was c) c.args.round c.max-low.result c.retain.new.self.items c.max-low.ensures (filter_same _ _ _ (λ x b f' k. search rules) _ _ c.retain.ensures.filtered)

pub invariant_of-self : goal.invariant_of-self
unfolding was
invariant_of-self c = subst AreCheckpoints (sym (is_pruned c)) (pruned_keeps (was c) c.args.round c.self.invariant)

pub returns : goal.returns
unfolding was
returns c = is_pruned c ∙ ap (λ b. pruned b c.args.round) c.self.view_is
