use Rattle.std.proofs.Common.{◌≡◌, ◌≤◌, ◌-◌, sym, subst, ◌∙◌, length, arith, get_or}
use Rattle.run_words.specs.declared.movers.Mover.{Mover}
use Rattle.run_words.specs.Runs.{Step}
use Rattle.sim_sched.specs.declared.seats.Choice.{Choice}
use Rattle.sim_sched.proofs.SeatFacts.{open_moves}
use Rattle.sim_sched.specs.Seats.{seen, seat_steps, IsChosen, IsPossible}
use Rattle.sim_sched.proofs.Picking.{chosen_copy, event_choice, choice_is, chosen_event}
use Rattle.sim_sched.proofs.seats.Seat.choice.Goals as goal

pub returns-then-number-len : goal.returns-then-number-len
returns-then-number-len g c =
    record {
      possible = omega arith;
      chosen = λ d. chosen_copy (seen g.P.Party.made g.P.Party.journal g.P.Party.shut c.args.self.now) c.args.number d (omega arith);
    }

pub returns : goal.returns
returns g c =
    let s = seen g.P.Party.made g.P.Party.journal g.P.Party.shut c.args.self.now in
    let n : c.args.number - c.len-2.result ≡ c.args.number - length s.way = omega arith in
    let q : c.choice_by.result ≡ event_choice s (c.args.number - length s.way) =
    c.choice_by.ensures
    ∙ choice_is s c.moves-batch.result c.moves-emit.result c.moves-execute.result (c.args.number - c.len-2.result) (c.args.number - length s.way)
    (open_moves _ _ _ c.moves-batch.ensures c.requires.open) (open_moves _ _ _ c.moves-emit.ensures c.requires.open)
    (open_moves _ _ _ c.moves-execute.ensures c.requires.open) n in
    let late : length s.way ≤ c.args.number = omega arith in
    record {
      possible = subst (λ (v : Choice). IsPossible s v) (sym q)
          (chosen_event s c.args.number (Step.Give s.maker Mover.Batch) late c.requires.there).0;
      chosen =
          λ d.
          subst (λ (v : Choice). IsChosen s v (get_or (seat_steps s) c.args.number d)) (sym q)
          (chosen_event s c.args.number d late c.requires.there).1;
    }
