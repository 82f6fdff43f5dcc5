use Rattle.std.proofs.Common.{arith}
use Rattle.lmots_core.specs.Parameters.{digest_digits}
use Rattle.lmots_core.proofs.DigitLemmas.{lack_of_within, checksum_within}
use Rattle.lmots_core.proofs.laws.checksum_fits.Goals as goal

pub returns-clause-summed : goal.returns-clause-summed
returns-clause-summed c = λ kind digest. omega (arith, lack_of_within kind digest (digest_digits kind) (omega arith))

pub returns-clause-shifted : goal.returns-clause-shifted
returns-clause-shifted c = checksum_within
