use Rattle.std.proofs.Common.{◌≡◌, [], ◌∷◌, ◌++◌, length, true, sym, subst, rules}
use Rattle.fault_script.specs.Scripts.{are_sizes, are_homes, are_timeouts}
use Rattle.fault_script.proofs.Declared.{sizes_and_one, homes_after_one, timeouts_after_one}
use Rattle.fault_script.proofs.drafts.Draft.add_cluster.Goals as goal

pub invariant_of-self-2 : goal.invariant_of-self-2
invariant_of-self-2 c =
    let old = c.self.inside.sizes.items in
    let pushed : c.push.new.self.items ≡ old ++ c.args.size ∷ [] = search rules in
    let none : length old ≡ 0 = search rules in (
      subst (λ l. are_sizes l ≡ true) (sym pushed) (sizes_and_one old c.args.size none c.requires),
      subst (λ l. are_homes (length l) c.self.inside.homes.items ≡ true) (sym pushed) (homes_after_one old c.self.inside.homes.items c.args.size c.self.invariant.1),
      c.self.invariant.2,
      c.self.invariant.3,
      c.self.invariant.4,
      subst (λ l. are_timeouts l c.self.inside.timeouts.items ≡ true) (sym pushed) (timeouts_after_one old c.args.size c.self.inside.timeouts.items c.self.invariant.5),
    )
