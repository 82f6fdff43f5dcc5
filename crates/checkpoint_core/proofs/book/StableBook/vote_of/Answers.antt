use Rattle.std.proofs.Common.{rules, ◌∙◌}
use borrow.Author.Tests.{tests}
use Rattle.std.proofs.lemmas.Iterator.{YieldsList-from_slice}
use Rattle.std.proofs.lemmas.Iterator.Search.{find_from_yields_List}
use Rattle.checkpoint_core.specs.Checkpoints.{is_by}
use Rattle.checkpoint_core.proofs.Firsts.{find_first}
use Rattle.checkpoint_core.proofs.book.StableBook.vote_of.Goals as goal

pub returns : goal.returns
returns c =
    find_from_yields_List (is_by c.args.sender c.args.round) _ _ c.find.result c.find.ensures.ran
    (YieldsList-from_slice c.args.self.now.votes cc) (λ x b q k. search (rules, tests))
    ∙ find_first (is_by c.args.sender c.args.round) c.args.self.now.votes
