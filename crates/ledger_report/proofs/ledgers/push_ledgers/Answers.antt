use Rattle.std.proofs.Common.{◌≡◌, ◌+◌, ◌<◌, ◌≤◌, List, length, take, Option, Bor, sym, ap, subst, ◌∙◌, arith}
use Rattle.std.proofs.lemmas.Grind.{common_steps}
use Rattle.std.specs.Option.{option_copied}
use Rattle.fab_rules.specs.declared.blocks.Block.{Block}
use Rattle.run_words.specs.declared.logs.Trace.{Trace}
use Rattle.run_worlds.specs.Worlds.{is_correct_one}
use Rattle.ledger_report.specs.Replayed.{ledger_after, ledger_counted, longest_after, HasLedger, IsLedgerOf}
use Rattle.ledger_report.proofs.Longest.{counts, longer_taken, longest_stays}
use Rattle.ledger_report.proofs.ledgers.push_ledgers.Goals as goal
use Rattle.ledger_report.proofs.ledgers.push_ledgers.Goals.{then-blocks-most, else-blocks-most}

pub loop-trace-preserved : goal.loop-trace-preserved
loop-trace-preserved c =
    let r = c.args.members.now in
    let all = c.args.traces.now in
    let here = c.loop-trace in
    let i = here.trace-index in
    let t = c.trace-item.result in
    let within = c.loop-trace-test.true in
    let came = c.in_ok-blocks.ensures in
    elim c.if-blocks-most.branch [
      | then-blocks-most w ↦
          let test = w.if-blocks-most.true in
          let more : length (longest_after r (take i all)) < length (ledger_counted r t) = omega (arith, test, here.invariant.most, came.blocks) in
          let own : ledger_counted r t ≡ ledger_after r t = counts (is_correct_one t) (ledger_after r t) (length (longest_after r (take i all))) more in
          let taken = longer_taken (ledger_counted r) all i t within c.trace-item.is more in
          record {
            lines = grind (arith, common_steps);
            longest =
                subst (λ (b : Option (Bor Trace)). IsLedgerOf r (longest_after r (take (i + 1) all)) (option_copied b)) (sym w.best-is)
                (subst (HasLedger r) (sym c.trace-item.is) (c.requires i t within), sym own ∙ sym taken);
            most = w.most-is ∙ came.blocks ∙ ap length (sym taken);
          }
      | else-blocks-most w ↦
          let test = w.if-blocks-most.false in
          let less : length (ledger_counted r t) ≤ length (longest_after r (take i all)) = omega (arith, test, here.invariant.most, came.blocks) in
          let stays = longest_stays (ledger_counted r) all i t within c.trace-item.is less in
          record {
            lines = grind (arith, common_steps);
            longest =
                subst (λ (b : Option (Bor Trace)). IsLedgerOf r (longest_after r (take (i + 1) all)) (option_copied b)) (sym w.best-is)
                (subst (λ (l : List Block). IsLedgerOf r l (option_copied here.best)) (sym stays) here.invariant.longest);
            most = w.most-is ∙ here.invariant.most ∙ ap length (sym stays);
          }
    ]
