use Rattle.std.proofs.Common.{rules, ◌∙◌}
use borrow.Author.Tests.{tests}
use Rattle.std.proofs.lemmas.Iterator.{YieldsList-from_slice}
use Rattle.std.proofs.lemmas.Iterator.Search.{find_from_yields_List}
use Rattle.checkpoint_core.specs.Checkpoints.{is_agreed}
use Rattle.checkpoint_core.proofs.Firsts.{find_first}
use Rattle.checkpoint_core.proofs.book.StableBook.agreed.Goals as goal

pub returns-clause-is : goal.returns-clause-is
returns-clause-is c =
    find_from_yields_List (is_agreed c.args.self.now c.args.round) _ _ c.find.result c.find.ensures.ran
    (YieldsList-from_slice c.args.self.now.votes cc) (λ x b q k. search (rules, tests))
    ∙ find_first (is_agreed c.args.self.now c.args.round) c.args.self.now.votes
