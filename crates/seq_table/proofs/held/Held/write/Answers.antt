use Rattle.std.proofs.Common.{Some, sym}
use Rattle.std.proofs.lemmas.Result.{on_ok_weaker}
use Rattle.seq_table.proofs.Steps.{write_held, write_new}
use Rattle.seq_table.proofs.held.Held.write.Goals as goal

pub returns-then-has-clause-state : goal.returns-then-has-clause-state
returns-then-has-clause-state c = (write_held c.args.self.now c.replace.new.self c.args.key.now c.args.value (sym c.if-has.ensures) c.replace.ensures.after).0

pub returns-then-has-clause-keys : goal.returns-then-has-clause-keys
returns-then-has-clause-keys c = (write_held c.args.self.now c.replace.new.self c.args.key.now c.args.value (sym c.if-has.ensures) c.replace.ensures.after).1

pub returns-else-has-clause-state : goal.returns-else-has-clause-state
returns-else-has-clause-state c =
    on_ok_weaker c.hold.result (λ e. (write_new c.args.self.now c.hold.new.self c.args.key.now (Some c.args.value) (sym c.if-has.ensures) e).0) c.hold.ensures.ok

pub returns-else-has-clause-keys : goal.returns-else-has-clause-keys
returns-else-has-clause-keys c =
    on_ok_weaker c.hold.result (λ e. (write_new c.args.self.now c.hold.new.self c.args.key.now (Some c.args.value) (sym c.if-has.ensures) e).1) c.hold.ensures.ok
