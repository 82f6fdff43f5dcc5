use Rattle.std.proofs.Common.{◌∙◌, ap, map}
use Rattle.rand_chacha.specs.ChaCha.{of_seed}
use Rattle.sim_sched.specs.Seats.{seen}
use Rattle.sim_sched.proofs.Ready.{ready_received}
use Rattle.sim_sched.proofs.Opening.{played_so}
use Rattle.sim_sched.proofs.simulating.run_seats.Goals as goal

pub play-requires-clause-ready : goal.play-requires-clause-ready
play-requires-clause-ready g c =
    ready_received _ _ c.args.ids.now (map (seen g.P.Party.made g.P.Party.journal g.P.Party.shut) c.args.seats.now) _ c.args.requests.items
    c.in_ok-deliver_requests.ensures c.requires.ready

pub returns : goal.returns
returns g c = record {
  «open» = c.play.ensures.open;
  played = played_so c.args.turns _ _ _ _ _ _ _ _ _ _ c.play.result c.in_ok-deliver_requests.ensures
      (c.from_seed-generator.ensures ∙ ap of_seed c.seed_of.ensures) c.play.ensures.played;
}
