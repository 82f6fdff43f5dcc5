use Rattle.budget_laws.proofs.Voicing.{signed_few, spent_opened, next_opened, moves_few, sendings_few}
use Rattle.budget_laws.proofs.Entries.{few_entries}
use Rattle.budget_laws.proofs.Prefixes.{wastes_nothing}
use Rattle.budget_laws.proofs.Budgets.{within_budget}
use Rattle.budget_laws.proofs.laws.budget_law.Goals as goal

pub returns : goal.returns
returns c = record { signed = signed_few; opened = spent_opened; next = next_opened; moved = moves_few; sent = sendings_few; entries = few_entries; thrifty = wastes_nothing; budget = within_budget }
