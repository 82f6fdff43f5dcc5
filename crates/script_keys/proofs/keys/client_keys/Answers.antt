use Rattle.std.proofs.Common.{◌≡◌, ℕ, ◌+◌, ◌++◌, ◌∷◌, [], List, ap, sym, ◌∙◌, arith}
use Rattle.std.proofs.lemmas.List.FromFn.{map-range_with_len_more}
use Rattle.lms_tree.specs.Keys.{TreeKey}
use Rattle.script_keys.specs.Keys.{key_of, client}
use Rattle.script_keys.proofs.keys.client_keys.Goals as goal

pub loop-number-preserved : goal.loop-number-preserved
loop-number-preserved c =
    let n = c.loop-number.number in
    let zero_on : 0 + n ≡ n = omega arith in
    let key : ℕ → TreeKey = λ number. key_of c.args.script.now (client number) in
    c.in_ok-push.ensures.ok ∙ ap (λ (k : TreeKey). c.loop-number.keys ++ k ∷ []) c.in_ok-key_of.ensures
    ∙ ap (λ (l : List TreeKey). l ++ key n ∷ []) c.loop-number.invariant ∙ sym (map-range_with_len_more key 0 n n zero_on)
