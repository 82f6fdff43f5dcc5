use Rattle.std.proofs.Common.{[], ◌∷◌, ◌++◌, map, take, sym, ap, ◌∙◌}
use Rattle.std.proofs.lemmas.List.{map_more}
use Rattle.script_keys.specs.Requests.{asked_content}
use Rattle.fabric_audit.proofs.asking.asked_contents.Goals as goal

pub loop-wish-preserved : goal.loop-wish-preserved
loop-wish-preserved c =
    let wishes = c.args.wishes.now in
    let i = c.loop-wish.wish-index in
    c.in_ok-push.ensures.ok
    ∙ ap (λ contents. contents ++ c.in_ok-asked_content.field-0 ∷ []) c.loop-wish.invariant
    ∙ ap (λ content. map asked_content (take i wishes) ++ content ∷ []) (c.in_ok-asked_content.ensures ∙ ap asked_content c.wish-item.is)
    ∙ sym (map_more asked_content wishes i c.wish-item.result c.loop-wish-test.true)
