use Rattle.std.proofs.Common.{sym, ap, ◌∙◌}
use Rattle.run_words.specs.Journal.{moves}
use Rattle.replica_log.specs.Keeping.{maker_of}
use Rattle.replica_log.proofs.Asked.{can_batch, can_nudge, can_execute, can_checkpoint, can_time_out}
use Rattle.replica_log.proofs.keepers.Keeper.moves.Goals as goal

pub returns-in-Batch : goal.returns-in-Batch
returns-in-Batch g c =
    let k = c.args.self.now in
    let m = maker_of g.S.Signer.limit g.S.Signer.gives k in
    c.moves.ensures ∙ can_batch m k.journal.items k.core c.requires.live ∙ ap (moves m k.journal.items) (sym c.in-Batch.is)

pub returns-in-Nudge : goal.returns-in-Nudge
returns-in-Nudge g c =
    let k = c.args.self.now in
    let m = maker_of g.S.Signer.limit g.S.Signer.gives k in
    c.moves-in-Nudge.ensures ∙ can_nudge m k.journal.items k.core c.requires.live ∙ ap (moves m k.journal.items) (sym c.in-Nudge.is)

pub returns-in-Execute : goal.returns-in-Execute
returns-in-Execute g c =
    let k = c.args.self.now in
    let m = maker_of g.S.Signer.limit g.S.Signer.gives k in
    c.moves-in-Execute.ensures ∙ can_execute m k.journal.items k.core c.requires.live ∙ ap (moves m k.journal.items) (sym c.in-Execute.is)

pub returns-in-Checkpoint : goal.returns-in-Checkpoint
returns-in-Checkpoint g c =
    let k = c.args.self.now in
    let m = maker_of g.S.Signer.limit g.S.Signer.gives k in
    c.moves-in-Checkpoint.ensures ∙ can_checkpoint m k.journal.items k.core c.requires.live ∙ ap (moves m k.journal.items) (sym c.in-Checkpoint.is)

pub returns-in-Timeout : goal.returns-in-Timeout
returns-in-Timeout g c =
    let k = c.args.self.now in
    let m = maker_of g.S.Signer.limit g.S.Signer.gives k in
    c.moves-in-Timeout.ensures ∙ can_time_out m k.journal.items k.core c.requires.live ∙ ap (moves m k.journal.items) (sym c.in-Timeout.is)
