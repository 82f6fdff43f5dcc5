use Rattle.std.proofs.Common.{Bool, not, ◌&&◌, sym, ap, ◌∙◌}
use Rattle.replica_log.specs.Keeping.{maker_of}
use Rattle.replica_log.proofs.Asked.{emit_moves}
use Rattle.replica_log.proofs.keepers.Keeper.can_emit.Goals as goal

pub returns-then-moves : goal.returns-then-moves
returns-then-moves g c =
    let k = c.args.self.now in
    let m = maker_of g.S.Signer.limit g.S.Signer.gives k in
    ap (λ (b : Bool). b && not c.is_blocked-blocked.result) (sym c.if-moves.true ∙ c.moves.ensures)
    ∙ emit_moves m k.journal.items k.core c.is_blocked-blocked.result c.requires.live c.is_blocked-blocked.ensures

pub returns-else-moves : goal.returns-else-moves
returns-else-moves g c =
    let k = c.args.self.now in
    let m = maker_of g.S.Signer.limit g.S.Signer.gives k in
    c.if-moves.false
    ∙ ap (λ (b : Bool). b && not c.is_blocked-blocked.result) (sym c.if-moves.false ∙ c.moves.ensures)
    ∙ emit_moves m k.journal.items k.core c.is_blocked-blocked.result c.requires.live c.is_blocked-blocked.ensures
