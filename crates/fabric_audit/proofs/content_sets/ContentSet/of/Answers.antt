use Rattle.std.proofs.Common.{ap, sym, ◌∙◌, ◌||◌, take}
use Rattle.std.specs.List.{list_any}
use Rattle.std.specs.Str.{bytes_eq}
use Rattle.std.proofs.lemmas.List.Folds.{list_any_more}
use Rattle.fabric_audit.proofs.Contents.{bytes_of, gained}
use Rattle.fabric_audit.proofs.content_sets.ContentSet.of.Goals as goal

pub loop-content-preserved : goal.loop-content-preserved
loop-content-preserved c = λ x.
    let contents = c.args.contents.now in
    let i = c.loop-content.content-index in
    let so_far = list_any (bytes_eq x) (take i contents) in
    ap (λ keys. list_any (bytes_eq x) (bytes_of keys)) c.in_ok-insert.ensures.keys
    ∙ gained x c.loop-content.set.keys c.as_slice.result
    ∙ ap (λ b. b || bytes_eq x c.as_slice.result.now) (c.loop-content.invariant x)
    ∙ ap (λ content. so_far || bytes_eq x content) (c.as_slice.ensures ∙ c.content-item.is)
    ∙ sym (list_any_more (bytes_eq x) contents i c.content-item.result c.loop-content-test.true)
