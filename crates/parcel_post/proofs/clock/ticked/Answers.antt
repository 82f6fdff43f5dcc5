use Rattle.std.proofs.Common.{max, ◌∙◌, ap, sym, add_comm}
use Rattle.run_words.specs.Journal.{tick_by}
use Rattle.parcel_post.proofs.clock.ticked.Goals as goal

pub returns-in-Some-clause-ticks : goal.returns-in-Some-clause-ticks
returns-in-Some-clause-ticks c =
    c.max.ensures ∙ ap (max c.args.clock) (c.in-Some.ensures.1 ∙ add_comm c.in-Replica.time 1) ∙ ap (tick_by c.args.clock) (sym c.in-Replica.is)
