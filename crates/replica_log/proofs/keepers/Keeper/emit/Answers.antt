use Rattle.std.proofs.Common.{◌≡◌, ◌<◌, true, false, refl, sym, None}
use Rattle.fab_machine.specs.Step.{first}
use Rattle.run_words.specs.Journal.{needs_leaf}
use Rattle.replica_log.specs.Sending.{Waits}
use Rattle.replica_log.proofs.Emitting.{nothing_told, nothing_moves, spent_told, spent_stays, moves_with, moves_without, sent_told, sent_moves}
use Rattle.replica_log.proofs.keepers.Keeper.emit.Goals as goal

pub returns-then-not-has_first-clause-told : goal.returns-then-not-has_first-clause-told
returns-then-not-has_first-clause-told g c =
    let none : first c.args.self.now.core.state ≡ None = c.if-not-has_first.ensures.none refl in
    nothing_told g.S.Signer.limit g.S.Signer.made g.S.Signer.gives c.args.self.now c.requires.kept c.requires.live none

pub returns-then-not-has_first-clause-moves : goal.returns-then-not-has_first-clause-moves
returns-then-not-has_first-clause-moves g c =
    let none : first c.args.self.now.core.state ≡ None = c.if-not-has_first.ensures.none refl in
    nothing_moves g.S.Signer.limit g.S.Signer.made g.S.Signer.gives c.args.self.now c.requires.kept c.requires.live none

pub returns-then-not-needs_leaf-clause-told : goal.returns-then-not-needs_leaf-clause-told
returns-then-not-needs_leaf-clause-told g c =
    let k = c.args.self.now in
    let waits : Waits (first k.core.state) = c.if-not-has_first.ensures.some refl in
    let another : needs_leaf k.me (first k.core.state) ≡ false = sym c.if-not-needs_leaf.ensures in
    sent_told g.S.Signer.limit g.S.Signer.made g.S.Signer.gives k c.requires.kept c.requires.live c.in_ok-pass_on.field-0
    (moves_without g.S.Signer.limit g.S.Signer.made g.S.Signer.gives k c.requires.kept c.requires.live waits another) c.in_ok-pass_on.ensures.parcels

pub returns-then-not-needs_leaf-clause-moves : goal.returns-then-not-needs_leaf-clause-moves
returns-then-not-needs_leaf-clause-moves g c =
    let k = c.args.self.now in
    let waits : Waits (first k.core.state) = c.if-not-has_first.ensures.some refl in
    let another : needs_leaf k.me (first k.core.state) ≡ false = sym c.if-not-needs_leaf.ensures in
    sent_moves g.S.Signer.limit g.S.Signer.made g.S.Signer.gives k c.requires.kept c.requires.live c.pass_on.new.self
    (moves_without g.S.Signer.limit g.S.Signer.made g.S.Signer.gives k c.requires.kept c.requires.live waits another) c.in_ok-pass_on.ensures.enters

pub returns-then-not-has_leaf-clause-told : goal.returns-then-not-has_leaf-clause-told
returns-then-not-has_leaf-clause-told g c =
    let own : needs_leaf c.args.self.now.me (first c.args.self.now.core.state) ≡ true = sym c.if-not-needs_leaf.ensures in
    let spent : g.S.Signer.made c.args.self.now.signer ≡ g.S.Signer.limit c.args.self.now.signer = c.if-not-has_leaf.ensures.none refl in
    spent_told g.S.Signer.limit g.S.Signer.made g.S.Signer.gives c.args.self.now c.requires.kept c.requires.live c.used.result own spent c.used.ensures.number

pub returns-then-not-has_leaf-clause-moves : goal.returns-then-not-has_leaf-clause-moves
returns-then-not-has_leaf-clause-moves g c =
    let own : needs_leaf c.args.self.now.me (first c.args.self.now.core.state) ≡ true = sym c.if-not-needs_leaf.ensures in
    let spent : g.S.Signer.made c.args.self.now.signer ≡ g.S.Signer.limit c.args.self.now.signer = c.if-not-has_leaf.ensures.none refl in
    spent_stays g.S.Signer.limit g.S.Signer.made g.S.Signer.gives c.args.self.now c.requires.kept c.requires.live own spent

pub returns-clause-told : goal.returns-clause-told
returns-clause-told g c =
    let k = c.args.self.now in
    let waits : Waits (first k.core.state) = c.if-not-has_first.ensures.some refl in
    let left : g.S.Signer.made k.signer < g.S.Signer.limit k.signer = c.if-not-has_leaf.ensures.some refl in
    sent_told g.S.Signer.limit g.S.Signer.made g.S.Signer.gives k c.requires.kept c.requires.live c.in_ok-send.field-0
    (moves_with g.S.Signer.limit g.S.Signer.made g.S.Signer.gives k c.requires.kept c.requires.live waits left) c.in_ok-send.ensures.parcels

pub returns-clause-moves : goal.returns-clause-moves
returns-clause-moves g c =
    let k = c.args.self.now in
    let waits : Waits (first k.core.state) = c.if-not-has_first.ensures.some refl in
    let left : g.S.Signer.made k.signer < g.S.Signer.limit k.signer = c.if-not-has_leaf.ensures.some refl in
    sent_moves g.S.Signer.limit g.S.Signer.made g.S.Signer.gives k c.requires.kept c.requires.live c.send.new.self
    (moves_with g.S.Signer.limit g.S.Signer.made g.S.Signer.gives k c.requires.kept c.requires.live waits left) c.in_ok-send.ensures.enters
