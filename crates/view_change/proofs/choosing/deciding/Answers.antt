use Rattle.view_change.proofs.Deciding.{deciding_found, none_of_slot}
use Rattle.view_change.proofs.choosing.deciding.Goals as goal

pub returns : goal.returns
returns c =
    let x = c.args.new_view.now in
    let found = deciding_found x _ c.args.slot _ c.as_slice.ensures c.latest_in.ensures in
    record { is = found; none = none_of_slot x c.args.slot c.latest_in.result found }
