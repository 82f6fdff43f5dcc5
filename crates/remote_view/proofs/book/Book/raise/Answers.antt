use Rattle.std.proofs.Common.{◌+◌, ◌-◌, max, slice_set, ap, ◌∙◌, arith}
use Rattle.remote_view.proofs.Counts.{set_least}
use Rattle.remote_view.proofs.book.Book.raise.Goals as goal

pub returns-clause-counts : goal.returns-clause-counts
returns-clause-counts c =
    let counts = c.args.self.now.counts.items in
    let place = c.args.matter.cluster - 1 in
    let least = c.args.matter.count + 1 in
    ap (slice_set counts place) (c.max.ensures ∙ ap (λ x. max x least) c.index.ensures)
    ∙ set_least counts place least c.index.result.now (omega (arith, c.requires.some, c.requires.few))
