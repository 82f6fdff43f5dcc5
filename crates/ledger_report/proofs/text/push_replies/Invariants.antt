-- the text so far and the lines of the replies to come are the whole
use Rattle.std.proofs.Common.{◌≡◌, ◌++◌}
use Rattle.ledger_report.specs.Text.{reply_lines}
use Rattle.ledger_report.proofs.text.push_replies.Given as goal

abbrev pub invariant-loop-request : goal.invariant-loop-request
invariant-loop-request l = l.text.items ++ reply_lines l.request-iterator.a.rest.now l.request-iterator.b.rest.now ≡ l.initial.text.items ++ reply_lines l.requests l.outcomes
