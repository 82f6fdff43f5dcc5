use Rattle.std.proofs.Common.{◌++◌, take, arith}
use Rattle.fabric_run.proofs.Transfers.{one_more, one_too_many}
use Rattle.fabric_run.proofs.transfer.read_all.Goals as goal

pub returns-then-n-len : goal.returns-then-n-len
returns-then-n-len g c =
    one_too_many (g.S.Source.supply c.args.source.now) (g.S.Source.supply c.loop-bytes.source) (g.S.Source.supply c.read.new.self) c.loop-bytes.bytes.items c.read.new.room c.in-Bytes.n
    c.loop-bytes.invariant c.in-Bytes.ensures (omega (arith, c.if-n-len.true, c.len.ensures, c.loop-bytes.invariant.fits))

pub returns-then-is_err : goal.returns-then-is_err
returns-then-is_err g c =
    let more =
    one_more (g.S.Source.supply c.args.source.now) (g.S.Source.supply c.loop-bytes.source) (g.S.Source.supply c.read.new.self) c.loop-bytes.bytes.items c.read.new.room c.in-Bytes.n
    c.loop-bytes.invariant c.in-Bytes.ensures (omega (arith, c.if-n-len.false, c.len.ensures, c.loop-bytes.invariant.fits)) in
    (c.loop-bytes.bytes.items ++ take c.in-Bytes.n c.read.new.room, more.gave, more.fits)
