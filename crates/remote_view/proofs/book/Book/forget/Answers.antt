use Rattle.std.proofs.Common.{rules}
use Rattle.std.proofs.lemmas.Fn.{filter_same}
use Rattle.remote_view.proofs.book.Book.forget.Goals as goal

pub returns-clause-heard : goal.returns-clause-heard
returns-clause-heard c = filter_same _ _ _ (λ x b f' k. search rules) _ _ c.retain.ensures.filtered
