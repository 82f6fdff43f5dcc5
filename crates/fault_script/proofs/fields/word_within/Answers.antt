use Rattle.std.proofs.Common.{length, nat_le, arith}
use Rattle.fab_base.specs.Fields.{are_bytes}
use Rattle.fab_base.proofs.Bytes.{are_bytes_of}
use Rattle.fab_base.proofs.Tests.{and_both, is_at_most}
use Rattle.fault_script.proofs.fields.word_within.Goals as goal

-- the items of a slice of bytes are bytes, by its type
pub returns-then-word-longest-clause-within : goal.returns-then-word-longest-clause-within
returns-then-word-longest-clause-within c =
    let word = c.args.word.now in
    and_both (nat_le (length word) c.args.longest) (are_bytes word)
    (is_at_most (length word) c.args.longest (omega (arith, c.if-word-longest.true)))
    (are_bytes_of word (record { at_place = λ i. omega (arith, c.type_inv.word i) }))
