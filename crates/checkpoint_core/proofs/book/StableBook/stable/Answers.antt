use Rattle.std.proofs.Common.{rules}
use Rattle.checkpoint_core.proofs.Counting.{stable_by}
use Rattle.checkpoint_core.proofs.book.StableBook.stable.Goals as goal

pub returns-in_err-agreed-clause-is : goal.returns-in_err-agreed-clause-is
returns-in_err-agreed-clause-is c = search rules

pub returns-in_err-agreed-clause-quorum : goal.returns-in_err-agreed-clause-quorum
returns-in_err-agreed-clause-quorum c = λ digest. stable_by _ _ digest _ c.agreed.ensures.whole (returns-in_err-agreed-clause-is c)

pub returns-clause-is : goal.returns-clause-is
returns-clause-is c = search rules

pub returns-clause-quorum : goal.returns-clause-quorum
returns-clause-quorum c = λ digest. stable_by _ _ digest _ c.agreed.ensures.whole (returns-clause-is c)
