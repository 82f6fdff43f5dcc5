use Rattle.script_keys.proofs.Sounds.{keyed, requests}
use Rattle.script_keys.proofs.laws.keys_law.Goals as goal

pub returns : goal.returns
returns c = record { keyed = keyed; requests = requests }
