use Rattle.stage_looks.proofs.Copied.{copies}
use Rattle.stage_looks.proofs.letters.letters_law.Goals as goal

pub returns : goal.returns
returns c = copies
