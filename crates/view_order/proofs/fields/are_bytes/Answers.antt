use Rattle.std.proofs.Common.{arith}
use Rattle.fab_base.proofs.Bytes.{are_bytes_of}
use Rattle.view_order.proofs.fields.are_bytes.Goals as goal

pub returns : goal.returns
returns c = are_bytes_of c.args.bytes.now (record { at_place = λ i. omega (arith, c.type_inv.bytes i) })
