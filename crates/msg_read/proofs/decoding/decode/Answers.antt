use Rattle.std.proofs.Common.{subst, arith}
use Rattle.msg_read.specs.Steps.{Gives}
use Rattle.msg_read.proofs.Whole.{is_found, is_read}
use Rattle.msg_read.proofs.decoding.decode.Goals as goal

pub returns-clause-found : goal.returns-clause-found
returns-clause-found c = is_found c.args.bytes.now c.read_all.result (record { at_place = λ i. omega (arith, c.type_inv.bytes i) }) c.read_all.ensures

pub returns-clause-only : goal.returns-clause-only
returns-clause-only c = λ m fit e. subst (λ read. Gives (λ x. x) c.read_all.result read) (is_read c.args.bytes.now m fit e) c.read_all.ensures
