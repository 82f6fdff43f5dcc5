use Rattle.replica_log.proofs.Signing.{core_keeps, told_keeps}
use Rattle.replica_log.proofs.Acted.{hear_acted, batch_acted, nudge_acted, execute_acted, checkpoint_acted, timeout_acted}
use Rattle.replica_log.proofs.keepers.Keeper.act.Goals as goal

pub returns-in-Hear-clause-acted : goal.returns-in-Hear-clause-acted
returns-in-Hear-clause-acted g c =
    hear_acted g.S.Signer.limit g.S.Signer.made g.S.Signer.gives c.args.self.now c.hear.new.self c.args.act c.in-Hear.origin c.in-Hear.heard c.hear.result
    c.told.result c.in-Hear.is c.told.ensures c.hear.ensures.answer c.hear.ensures.enters

pub returns-in-Batch-clause-acted : goal.returns-in-Batch-clause-acted
returns-in-Batch-clause-acted g c =
    batch_acted g.S.Signer.limit g.S.Signer.made g.S.Signer.gives c.args.self.now c.advance.new.self c.args.act c.new.result c.advance.result
    c.told-in-Batch.result c.in-Batch.is c.new.ensures c.told-in-Batch.ensures c.advance.ensures.answer c.advance.ensures.moves

pub returns-in-Nudge-clause-acted : goal.returns-in-Nudge-clause-acted
returns-in-Nudge-clause-acted g c =
    nudge_acted g.S.Signer.limit g.S.Signer.made g.S.Signer.gives c.args.self.now c.advance-in-Nudge.new.self c.args.act c.new-in-Nudge.result c.advance-in-Nudge.result
    c.told-in-Nudge.result c.in-Nudge.is c.new-in-Nudge.ensures c.told-in-Nudge.ensures c.advance-in-Nudge.ensures.answer c.advance-in-Nudge.ensures.moves

pub returns-in-Execute-clause-acted : goal.returns-in-Execute-clause-acted
returns-in-Execute-clause-acted g c =
    execute_acted g.S.Signer.limit g.S.Signer.made g.S.Signer.gives c.args.self.now c.advance-in-Execute.new.self c.args.act c.new-in-Execute.result c.advance-in-Execute.result
    c.told-in-Execute.result c.in-Execute.is c.new-in-Execute.ensures c.told-in-Execute.ensures c.advance-in-Execute.ensures.answer c.advance-in-Execute.ensures.moves

pub returns-in-Checkpoint-clause-acted : goal.returns-in-Checkpoint-clause-acted
returns-in-Checkpoint-clause-acted g c =
    checkpoint_acted g.S.Signer.limit g.S.Signer.made g.S.Signer.gives c.args.self.now c.advance-in-Checkpoint.new.self c.args.act c.new-in-Checkpoint.result c.advance-in-Checkpoint.result
    c.told-in-Checkpoint.result c.in-Checkpoint.is c.new-in-Checkpoint.ensures c.told-in-Checkpoint.ensures c.advance-in-Checkpoint.ensures.answer c.advance-in-Checkpoint.ensures.moves

pub returns-in-Timeout-clause-acted : goal.returns-in-Timeout-clause-acted
returns-in-Timeout-clause-acted g c =
    timeout_acted g.S.Signer.limit g.S.Signer.made g.S.Signer.gives c.args.self.now c.advance-in-Timeout.new.self c.args.act c.new-in-Timeout.result c.advance-in-Timeout.result
    c.told-in-Timeout.result c.in-Timeout.is c.new-in-Timeout.ensures c.told-in-Timeout.ensures c.advance-in-Timeout.ensures.answer c.advance-in-Timeout.ensures.moves

pub returns-in-Hear-clause-signer : goal.returns-in-Hear-clause-signer
returns-in-Hear-clause-signer g c = core_keeps c.hear.result c.told.result c.args.self.now.signer c.hear.new.self.signer c.told.ensures c.hear.ensures.signer

pub returns-in-Batch-clause-signer : goal.returns-in-Batch-clause-signer
returns-in-Batch-clause-signer g c =
    core_keeps c.advance.result c.told-in-Batch.result c.args.self.now.signer c.advance.new.self.signer c.told-in-Batch.ensures c.advance.ensures.signer

pub returns-in-Nudge-clause-signer : goal.returns-in-Nudge-clause-signer
returns-in-Nudge-clause-signer g c =
    core_keeps c.advance-in-Nudge.result c.told-in-Nudge.result c.args.self.now.signer c.advance-in-Nudge.new.self.signer c.told-in-Nudge.ensures c.advance-in-Nudge.ensures.signer

pub returns-in-Execute-clause-signer : goal.returns-in-Execute-clause-signer
returns-in-Execute-clause-signer g c =
    core_keeps c.advance-in-Execute.result c.told-in-Execute.result c.args.self.now.signer c.advance-in-Execute.new.self.signer c.told-in-Execute.ensures c.advance-in-Execute.ensures.signer

pub returns-in-Checkpoint-clause-signer : goal.returns-in-Checkpoint-clause-signer
returns-in-Checkpoint-clause-signer g c =
    core_keeps c.advance-in-Checkpoint.result c.told-in-Checkpoint.result c.args.self.now.signer c.advance-in-Checkpoint.new.self.signer c.told-in-Checkpoint.ensures c.advance-in-Checkpoint.ensures.signer

pub returns-in-Timeout-clause-signer : goal.returns-in-Timeout-clause-signer
returns-in-Timeout-clause-signer g c =
    core_keeps c.advance-in-Timeout.result c.told-in-Timeout.result c.args.self.now.signer c.advance-in-Timeout.new.self.signer c.told-in-Timeout.ensures c.advance-in-Timeout.ensures.signer

pub returns-in-Emit-clause-signer : goal.returns-in-Emit-clause-signer
returns-in-Emit-clause-signer g c = told_keeps c.emit.result c.told_anyway.result c.args.self.now.signer c.emit.new.self.signer c.told_anyway.ensures c.emit.ensures.signer
