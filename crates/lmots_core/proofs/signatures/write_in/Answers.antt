use Rattle.std.proofs.Common.{◌≡◌, ◌++◌, ◌∙◌, ap, List, ℕ, length}
use Rattle.lmots_core.specs.Running.{value_in}
use Rattle.lmots_core.specs.Parameters.{chain_count}
use Rattle.lmots_core.specs.Chains.{joined}
use Rattle.lmots_core.specs.OneTime.{signed_value}
use Rattle.lmots_core.proofs.ChainLemmas.{joined_same}
use Rattle.lmots_core.proofs.signatures.write_in.Goals as goal

pub returns-clause-items : goal.returns-clause-items
returns-clause-items c =
    let y = signed_value c.args.kind c.args.seed.now c.args.q c.args.digits.now in
    let values = c.sign_values.new.values in
    let long : length values ≡ chain_count c.args.kind = c.sign_values.ensures.long ∙ c.requires.values in
    c.append_values.ensures.items
    ∙ ap (λ (l : List ℕ). c.args.into.now.items ++ l)
    (ap (joined (value_in values)) long ∙ joined_same (value_in values) y (chain_count c.args.kind) c.sign_values.ensures.signed)
