use Rattle.std.proofs.Common.{nat_eq, rules, ◌∙◌}
use borrow.Author.Tests.{tests}
use Rattle.std.proofs.lemmas.Iterator.{YieldsList-from_slice}
use Rattle.std.proofs.lemmas.Iterator.Search.{find_from_yields_List}
use Rattle.view_order.proofs.Firsts.{find_first}
use Rattle.view_order.proofs.adopting.first_with.Goals as goal

pub returns : goal.returns
returns c =
    find_from_yields_List (λ x. nat_eq x.low c.args.low) _ _ c.find.result c.find.ensures.ran (YieldsList-from_slice c.args.changes.now cc)
    (λ x b q k. search (rules, tests))
    ∙ find_first (λ x. nat_eq x.low c.args.low) c.args.changes.now
