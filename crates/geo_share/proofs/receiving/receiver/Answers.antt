use Rattle.std.proofs.Math.Nat.{mod-add-mod}
use Rattle.geo_share.proofs.receiving.receiver.Goals as goal

pub returns : goal.returns
returns c = mod-add-mod c.args.round c.args.size c.args.place
