-- the lines of the replicas so far, and the longest of the ledgers that count
use Rattle.std.proofs.Common.{◌≡◌, ◌++◌, length, take}
use Rattle.std.specs.List.{flat_map}
use Rattle.std.specs.Option.{option_copied}
use Rattle.ledger_report.specs.Replayed.{replica_text, longest_after, IsLedgerOf}
use Rattle.ledger_report.proofs.ledgers.push_ledgers.Given as goal

abbrev pub invariant-loop-trace : goal.invariant-loop-trace
invariant-loop-trace l = record {
  lines : l.text.items ≡ l.fn.text.items ++ flat_map (replica_text l.members) (take l.trace-index l.traces);
  longest : IsLedgerOf l.members (longest_after l.members (take l.trace-index l.traces)) (option_copied l.best);
  most : l.most ≡ length (longest_after l.members (take l.trace-index l.traces));
}
