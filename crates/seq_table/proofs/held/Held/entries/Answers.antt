use Rattle.std.proofs.Common.{ap, sym, ◌∙◌, ◌++◌, ◌∷◌, [], map, rules, ◌≡◌}
use Rattle.std.specs.Map.Iter.{deref_pair}
use Rattle.std.proofs.lemmas.Map.Iter.{rest_more, rest_so_far}
use Rattle.seq_table.specs.Holding.{entries_of}
use Rattle.seq_table.proofs.Pairs.{listed}
use Rattle.seq_table.proofs.Sorting.{map-push, not_before, inserted, left_out}
use Rattle.seq_table.proofs.held.Held.entries.Goals as goal

pub loop-key-preserved-in_ok-insert : goal.loop-key-preserved-in_ok-insert
loop-key-preserved-in_ok-insert c =
    let all = c.self.inside.pairs.entries in
    let done = map deref_pair c.loop-key.yielded in
    let e = deref_pair (c.in-Some.key, c.in-Some.value) in
    let so_far = rest_so_far deref_pair c.loop-key.yielded c.into_iter-key-iterator.result c.loop-key.key-iterator c.loop-key.yielded_by in
    let step = rest_more deref_pair c.loop-key.key-iterator c.next.new.self c.next.result (c.in-Some.key, c.in-Some.value) c.in-Some.is c.next.ensures.steps in
    let parts : all ≡ done ++ e ∷ c.next.new.self = sym c.iter-key-items.ensures.rest ∙ sym c.into_iter-key-iterator.ensures.into_iter_gives ∙ so_far ∙ ap (λ l. done ++ l) step in
    let none = not_before all done c.next.new.self e parts c.iter-key-items.ensures.unique in
    let key : c.in_ok-to_vec.field-0.items ≡ c.in-Some.key.now.items = search rules in
    inserted c.loop-key.sorted.entries c.insert.new.self.entries done c.in-Some.key.now c.in_ok-to_vec.field-0 c.in-Some-value.value c.in_ok-copy.field-0 c.in_ok-insert.ensures.entries key c.in_ok-copy.ensures c.loop-key.invariant none
    ∙ ap (λ w. entries_of (listed (done ++ (c.in-Some.key.now, w) ∷ []))) (sym c.in-Some-value.is)
    ∙ ap (λ l. entries_of (listed l)) (sym (map-push deref_pair c.loop-key.yielded (c.in-Some.key, c.in-Some.value)))

pub loop-key-preserved-in_ok-insert-2 : goal.loop-key-preserved-in_ok-insert-2
loop-key-preserved-in_ok-insert-2 c =
    let all = c.self.inside.pairs.entries in
    let done = map deref_pair c.loop-key.yielded in
    let e = deref_pair (c.in-Some.key, c.in-Some.value) in
    let so_far = rest_so_far deref_pair c.loop-key.yielded c.into_iter-key-iterator.result c.loop-key.key-iterator c.loop-key.yielded_by in
    let step = rest_more deref_pair c.loop-key.key-iterator c.next.new.self c.next.result (c.in-Some.key, c.in-Some.value) c.in-Some.is c.next.ensures.steps in
    let parts : all ≡ done ++ e ∷ c.next.new.self = sym c.iter-key-items.ensures.rest ∙ sym c.into_iter-key-iterator.ensures.into_iter_gives ∙ so_far ∙ ap (λ l. done ++ l) step in
    let none = not_before all done c.next.new.self e parts c.iter-key-items.ensures.unique in
    let key : c.in_ok-to_vec.field-0.items ≡ c.in-Some.key.now.items = search rules in
    inserted c.loop-key.sorted.entries c.insert.new.self.entries done c.in-Some.key.now c.in_ok-to_vec.field-0 c.in-Some-value.value c.in_ok-copy.field-0 c.in_ok-insert.ensures.entries key c.in_ok-copy.ensures c.loop-key.invariant none
    ∙ ap (λ w. entries_of (listed (done ++ (c.in-Some.key.now, w) ∷ []))) (sym c.in-Some-value.is)
    ∙ ap (λ l. entries_of (listed l)) (sym (map-push deref_pair c.loop-key.yielded (c.in-Some.key, c.in-Some.value)))

pub loop-key-preserved : goal.loop-key-preserved
loop-key-preserved c =
    let all = c.self.inside.pairs.entries in
    let done = map deref_pair c.loop-key.yielded in
    let e = deref_pair (c.in-Some.key, c.in-Some.value) in
    let so_far = rest_so_far deref_pair c.loop-key.yielded c.into_iter-key-iterator.result c.loop-key.key-iterator c.loop-key.yielded_by in
    let step = rest_more deref_pair c.loop-key.key-iterator c.next.new.self c.next.result (c.in-Some.key, c.in-Some.value) c.in-Some.is c.next.ensures.steps in
    let parts : all ≡ done ++ e ∷ c.next.new.self = sym c.iter-key-items.ensures.rest ∙ sym c.into_iter-key-iterator.ensures.into_iter_gives ∙ so_far ∙ ap (λ l. done ++ l) step in
    let none = not_before all done c.next.new.self e parts c.iter-key-items.ensures.unique in
    c.loop-key.invariant ∙ left_out done c.in-Some.key.now none ∙ ap (λ w. entries_of (listed (done ++ (c.in-Some.key.now, w) ∷ []))) (sym c.in_default.is)
    ∙ ap (λ l. entries_of (listed l)) (sym (map-push deref_pair c.loop-key.yielded (c.in-Some.key, c.in-Some.value)))
