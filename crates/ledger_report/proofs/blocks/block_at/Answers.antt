use Rattle.std.proofs.Common.{◌≡◌, sym, ap, ◌∙◌, arith}
use Rattle.std.proofs.Math.Nat.{div-le_self}
use Rattle.std.specs.Option.{option_copied}
use Rattle.std.specs.List.{slice_get}
use Rattle.ledger_report.proofs.Walking.{block_found, some_found}
use Rattle.ledger_report.proofs.blocks.block_at.Goals as goal

pub overflow_add-round : goal.overflow_add-round
overflow_add-round c = omega (arith, div-le_self c.args.place c.args.clusters)

pub unwrap-requires : goal.unwrap-requires
unwrap-requires c =
    let r = c.args.rounds.now in
    let found = block_found r.clusters r.clients c.args.clusters r.rounds c.args.place c.requires.clusters c.requires.whole c.requires.within in
    some_found c.block.result r.rounds.blocks c.args.place (c.block.ensures.is ∙ found) c.requires.within

pub returns-clause-is : goal.returns-clause-is
returns-clause-is c =
    let r = c.args.rounds.now in
    let found = block_found r.clusters r.clients c.args.clusters r.rounds c.args.place c.requires.clusters c.requires.whole c.requires.within in
    let there : option_copied c.block.result ≡ slice_get r.rounds.blocks c.args.place = c.block.ensures.is ∙ found in
    sym there ∙ ap option_copied c.unwrap.ensures
