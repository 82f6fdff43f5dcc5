use Rattle.std.proofs.Common.{sym, ap, subst, ◌∙◌}
use Rattle.std.specs.Prelude.{IfSome}
use Rattle.std.specs.Bool.{IsTrue}
use Rattle.std.specs.List.{slice_get}
use Rattle.fab_rules.specs.Format.{batch_fits}
use Rattle.round_exec.specs.Book.{are_clients}
use Rattle.round_exec.proofs.Places.{block_found, sound_found}
use Rattle.round_exec.proofs.executed.Executed.block.Goals as goal

pub returns-clause-is : goal.returns-clause-is
returns-clause-is c =
    let place = c.in_ok-place_of.field-0 in
    let found = sym c.place_of.ensures.is ∙ c.in_ok-place_of.was in
    c.get.ensures ∙ (ap (λ d. slice_get d.blocks place) c.self.view_is ∙ block_found c.args.self.now c.args.round c.args.cluster place found)

pub returns-clause-sound : goal.returns-clause-sound
returns-clause-sound c =
    let n = c.self.inside in
    let same = ap (λ d. d.clients) c.self.view_is in
    subst (λ z. IfSome c.get.result (λ b. IsTrue (batch_fits b.now.batch) × IsTrue (are_clients z b.now.batch))) same
    (sound_found n.clients n.blocks c.in_ok-place_of.field-0 c.get.result c.get.ensures c.self.invariant.sound)
