use Rattle.remote_view.proofs.Hearing.{forgotten_left, forgotten_kept}
use Rattle.remote_view.proofs.pleading.Pleas.forget.Goals as goal

pub invariant_of-self : goal.invariant_of-self
invariant_of-self c =
    forgotten_kept _ _ c.args.target c.args.round _ _ _ c.self.view_is c.self.invariant c.forget.ensures.heard c.forget_matters.ensures c.forget.ensures.counts

pub returns : goal.returns
returns c =
    forgotten_left _ _ c.args.target c.args.round _ _ _ c.self.view_is c.forget.ensures.heard c.forget_matters.ensures c.forget.ensures.counts
