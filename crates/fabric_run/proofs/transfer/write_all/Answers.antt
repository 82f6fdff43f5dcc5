use Rattle.std.proofs.Common.{subst}
use Rattle.std.specs.Prelude.{List, ℕ}
use Rattle.std.proofs.lemmas.List.{take_rest}
use Rattle.fab_io.specs.Devices.{Writes}
use Rattle.fab_io.specs.declared.devices.Sunk.TheVariants.{Wrote}
use Rattle.fabric_run.proofs.Transfers.{took_more}
use Rattle.fabric_run.proofs.transfer.write_all.Goals as goal

pub loop-written-preserved : goal.loop-written-preserved
loop-written-preserved g c =
    let written = c.loop-written.written in
    let text = c.args.text.now in
    let before = g.K.Sink.intake c.loop-written.sink in
    let after = g.K.Sink.intake c.write.new.self in
    let wrote = subst (λ (piece : List ℕ). Writes before after (Wrote c.in-Wrote.n) piece) (take_rest text written) c.in-Wrote.ensures in
    took_more (g.K.Sink.intake c.args.sink.now) before after text written c.in-Wrote.n c.loop-written.invariant wrote
