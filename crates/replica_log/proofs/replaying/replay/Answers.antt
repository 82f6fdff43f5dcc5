use Rattle.std.proofs.Common.{◌≡◌, false, sym, ap, ◌∙◌}
use Rattle.fab_base.specs.declared.ids.ReplicaId.{ReplicaId}
use Rattle.replica_core.specs.Cores.{Machine}
use Rattle.run_words.specs.Journal.{state}
use Rattle.replica_log.proofs.replaying.replay.Goals as goal

pub redo_all-requires-clause-sound : goal.redo_all-requires-clause-sound
redo_all-requires-clause-sound c =
    let kept = c.requires.kept in
    (kept.0, kept.1, kept.4)

pub returns-in-Ok : goal.returns-in-Ok
returns-in-Ok c = λ m of_members is_me.
    let same : c.in_ok-replica.replica.me ≡ c.args.me = ap (λ (core : Machine). core.me) c.in_ok-replica.ensures in
    c.in-Ok.ensures m of_members (is_me ∙ sym same)
    ∙ ap (λ (i : ReplicaId). record { roster = c.args.members; me = i; state = state m c.args.journal.now; shut = false }) same
