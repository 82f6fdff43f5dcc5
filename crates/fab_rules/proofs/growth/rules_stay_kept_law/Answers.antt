use Rattle.fab_rules.proofs.Growing.{grown_by_heard, grown_by_done, may_say_grown, waiting_grown, fewer_waiting_grown}
use Rattle.fab_rules.proofs.growth.rules_stay_kept_law.Goals as goal

pub returns : goal.returns
returns c = record {
  heard = grown_by_heard;
  done = grown_by_done;
  one = λ r i a b m g. may_say_grown a b g r i m;
  waiting = waiting_grown;
  fewer = fewer_waiting_grown;
}
