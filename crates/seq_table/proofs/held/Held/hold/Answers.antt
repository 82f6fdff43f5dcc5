use Rattle.std.proofs.Common.{ap, ◌∙◌, nat_eq, ◌∷◌, [], ◌++◌, ◌≡◌, false, rules}
use Rattle.std.specs.Map.{keys_of}
use Rattle.seq_table.specs.Holding.{is_held}
use Rattle.std.specs.Cmp.Lexicographic.{pointwise}
use Rattle.indexmap.proofs.CallerLemmas.{insert_entry-new}
use Rattle.seq_table.proofs.Pairs.{listed, found_there, map_keys-push, none_there}
use Rattle.seq_table.proofs.held.Held.hold.Goals as goal

pub returns-clause-ok : goal.returns-clause-ok
returns-clause-ok c =
    let held = c.args.self.now in
    let key = c.args.key.now in
    let m = c.self.inside.pairs in
    let k = c.in_ok-key.key in
    let same : k.items ≡ key = search rules in
    let absent : is_held (keys_of held) k.items ≡ false = ap (λ x. is_held (keys_of held) x) same ∙ c.requires in
    ap listed (c.in_ok-insert.ensures.entries
    ∙ insert_entry-new (λ x y. pointwise nat_eq x.items y.items) m k c.args.value (found_there m.entries held k.items c.self.view_is ∙ none_there held k.items absent))
    ∙ map_keys-push (λ x. x.items) m.entries (k, c.args.value)
    ∙ (λ i. c.self.view_is i ++ (same i, c.args.value) ∷ [])
