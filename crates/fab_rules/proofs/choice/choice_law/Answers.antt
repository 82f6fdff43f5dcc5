use Rattle.fab_rules.proofs.Choices.{is_decided, le_base, le_top, base_by_pass, top_by_pass, deciding_by_pass}
use Rattle.fab_rules.proofs.choice.choice_law.Goals as goal

pub returns : goal.returns
returns c = record {
  base_is_greatest = le_base;
  top_is_greatest = le_top;
  latest_decides = is_decided;
  base_by_pass = base_by_pass;
  top_by_pass = top_by_pass;
  deciding_by_pass = deciding_by_pass;
}
