use Rattle.std.proofs.Common.{ap}
use Rattle.fab_rules.specs.Spelling.{spelling_of}
use Rattle.msg_read.proofs.Unique.{begun, equal, told}
use Rattle.msg_read.proofs.laws.spelling_law.Goals as goal

pub returns-clause-none_begins_another : goal.returns-clause-none_begins_another
returns-clause-none_begins_another c = λ m n fm fn p. ap spelling_of (begun m n fm fn p)

pub returns-clause-equal_messages : goal.returns-clause-equal_messages
returns-clause-equal_messages c = equal

pub returns-clause-equal_statements : goal.returns-clause-equal_statements
returns-clause-equal_statements c = told
