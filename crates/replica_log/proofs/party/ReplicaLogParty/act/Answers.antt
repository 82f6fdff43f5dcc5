use Rattle.std.proofs.Common.{sym, ap, ◌∙◌}
use Rattle.replica_log.specs.Logs.{Log}
use Rattle.replica_log.proofs.Opened.{stays_open}
use Rattle.replica_log.proofs.party.ReplicaLogParty.act.Goals as goal

pub returns-clause-open : goal.returns-clause-open
returns-clause-open g c =
    stays_open c.args.act c.act-told.result c.told_anyway.result c.args.self.now.shut c.is_err-self-inside.result
    (ap (λ (log : Log g.row.S.Denot). log.shut) (sym c.self.view_is) ∙ c.if-self.false)
    c.told_anyway.ensures c.is_err-self-inside.ensures.value c.act-told.ensures.may c.act-told.ensures.emits
