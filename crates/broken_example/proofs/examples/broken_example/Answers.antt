use Rattle.std.proofs.Common.{refl}
use Rattle.broken_example.proofs.Evident.{found}
use Rattle.broken_example.proofs.examples.broken_example.Goals as goal

pub returns : goal.returns
returns c = record { evidence = found; end = found; line = refl; status = refl }
