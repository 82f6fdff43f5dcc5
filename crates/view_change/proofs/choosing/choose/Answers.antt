use Rattle.view_change.proofs.Deciding.{base_found, top_found}
use Rattle.view_change.proofs.choosing.choose.Goals as goal

pub returns : goal.returns
returns c =
    let x = c.args.new_view.now in
    let pass = c.choice_of.ensures in
    record { base = base_found x _ _ c.as_slice.ensures pass.base; top = top_found x _ _ _ c.as_slice.ensures pass.base pass.top }
