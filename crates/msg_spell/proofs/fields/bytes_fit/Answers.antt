use Rattle.std.proofs.Common.{length, nat_le, arith, sym}
use Rattle.std.proofs.Math.Bool.{and-true}
use Rattle.fab_base.proofs.Bytes.{are_bytes_of}
use Rattle.msg_spell.proofs.fields.bytes_fit.Goals as goal

pub returns : goal.returns
returns c =
    let bytes = are_bytes_of c.args.bytes.now (record { at_place = λ i. omega (arith, c.type_inv.bytes i) }) in
    rw bytes (sym (and-true (nat_le (length c.args.bytes.now) c.args.longest)))
