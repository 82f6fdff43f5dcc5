use Rattle.std.proofs.Common.{◌≡◌, true, arith}
use Rattle.fab_base.specs.Fields.{are_bytes}
use Rattle.fab_base.proofs.Bytes.{are_bytes_of}
use Rattle.copy_reader.proofs.ReadingFacts.{read_well, read_badly}
use Rattle.copy_reader.proofs.reading.Reader.read.Goals as goal

pub returns-in-Ok : goal.returns-in-Ok
returns-in-Ok c =
    let bytes : are_bytes c.args.load.now
    ≡ true = are_bytes_of c.args.load.now (record { at_place = λ i. omega (arith, c.type_inv.load i) }) in
    read_well _ _ c.args.load.now c.in-Ok.verified bytes c.in-Ok.ensures.sound.0 c.in-Ok.ensures.sound.1 c.in-Ok.ensures.exact

pub returns-in_default : goal.returns-in_default
returns-in_default c =
    let bytes : are_bytes c.args.load.now
    ≡ true = are_bytes_of c.args.load.now (record { at_place = λ i. omega (arith, c.type_inv.load i) }) in
    read_badly _ _ c.args.load.now c.in-Err.refusal bytes c.in_default.not-NoMemory c.in-Err.ensures.exact
