-- What a worker keeps that does one thing of the replica's own accord.
use Rattle.std.specs.Prelude.{◌≢◌}
use Rattle.turn_lock.specs.Views.{own}
use Rattle.turn_lock.specs.Passes.{view}
use Rattle.run_words.specs.Journal.{Maker}
use Rattle.run_words.specs.declared.movers.Mover.{Mover}
use Rattle.party_turn.specs.Turns.{PartyTurn, IsPartyPass}
use Rattle.turn_laws.specs.Workers.{Kind, AreOf}
use Rattle.stage_looks.specs.declared.moving.MoverHand.{MoverHand}

-- its pass is of this turn, and it neither hears nor sends
pub record FitsMover {P : Type 0} (made : P → Maker) (turn : PartyTurn P) (h : MoverHand P) : Type 0 where
  pub of_turn : IsPartyPass made turn h.act
  pub own_accord : h.mover ≢ Mover.Emit
  pub kinds : AreOf Kind.Doing (own (view h.act))
