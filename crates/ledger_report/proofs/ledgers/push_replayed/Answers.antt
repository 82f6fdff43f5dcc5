use Rattle.std.proofs.Common.{◌≡◌, length, ap, subst, ◌∙◌}
use Rattle.std.specs.Prelude.{IfOk}
use Rattle.round_exec.specs.Book.{Book}
use Rattle.replica_core.specs.Cores.{book_of}
use Rattle.ledger_report.proofs.ledgers.push_replayed.Goals as goal

pub returns-clause-blocks : goal.returns-clause-blocks
returns-clause-blocks c =
    let e = c.rounds.ensures ∙ ap book_of c.in_ok-core.ensures in
    subst (λ (b : Book). IfOk c.push_ledger-blocks.result (λ blocks. blocks ≡ length b.rounds.blocks)) e c.push_ledger-blocks.ensures.blocks
