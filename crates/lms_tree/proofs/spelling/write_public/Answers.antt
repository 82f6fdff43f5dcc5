use Rattle.std.proofs.Common.{◌∙◌, ap, arith}
use Rattle.lms_tree.specs.PublicKeys.{public_of_bytes}
use Rattle.lms_tree.proofs.SpellingLemmas.{read_of_written}
use Rattle.lms_tree.proofs.spelling.write_public.Goals as goal

pub returns-clause-read_back : goal.returns-clause-read_back
returns-clause-read_back c = ap public_of_bytes c.spell.ensures ∙ read_of_written c.args.key.now (omega arith) (omega arith)
