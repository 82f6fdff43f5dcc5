use Rattle.std.proofs.Common.{◌≡◌, ◌<◌, [], ◌∷◌, ◌++◌, length, true, sym, subst, rules}
use Rattle.fault_script.specs.declared.scripts.TheConstants.{MOST_TIMEOUTS}
use Rattle.fault_script.specs.declared.twists.TimeoutLine.{TimeoutLine}
use Rattle.fault_script.specs.Drafts.{Draft, is_declared}
use Rattle.fault_script.specs.Scripts.{are_timeouts}
use Rattle.fault_script.proofs.Declared.{timeouts_and_one}
use Rattle.fault_script.proofs.drafts.Draft.add_timeout.Goals as goal

pub invariant_of-self-2 : goal.invariant_of-self-2
invariant_of-self-2 c =
    let sizes = c.self.inside.sizes.items in
    let old = c.self.inside.timeouts.items in
    let line : TimeoutLine = record { replica = c.args.replica; entries = c.args.entries } in
    let pushed : c.push.new.self.items ≡ old ++ line ∷ [] = search rules in
    let there : is_declared sizes c.args.replica ≡ true = subst (λ (d : Draft). is_declared d.sizes c.args.replica ≡ true) (sym c.self.view_is) c.requires.declared in
    let room : length old < MOST_TIMEOUTS = search rules in (
      c.self.invariant.0,
      c.self.invariant.1,
      c.self.invariant.2,
      c.self.invariant.3,
      c.self.invariant.4,
      subst (λ l. are_timeouts sizes l ≡ true) (sym pushed) (timeouts_and_one sizes old line room c.self.invariant.5 there c.requires.within),
    )
