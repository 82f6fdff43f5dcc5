use Rattle.std.proofs.Common.{◌≡◌, ◌∙◌, List, [], ◌∷◌, ◌++◌, true, Result, Ok, Err, refl, sym, ap, subst}
use Rattle.std.specs.Result.{OnOk, OnErr}
use Rattle.std.specs.List.{list_all}
use Rattle.std.specs.Map.{values_of}
use Rattle.indexmap.proofs.CallerLemmas.{insert_entry-new}
use Rattle.fab_base.specs.declared.messages.CommitCert.{CommitCert}
use Rattle.fab_machine.specs.Rounds.{certificate_for}
use Rattle.round_exec.specs.Keyed.{is_keyed}
use Rattle.round_exec.specs.declared.place.Place.{Place}
use Rattle.round_exec.proofs.Finding.{lookup_finds, all_keyed-more, values_of-more, is_keyed-own}
use Rattle.round_exec.proofs.certificates.Certificates.add.Goals as goal

either : {A B X Y P : Type 0} (r : Result A B) → OnOk r X → OnErr r Y → (X → P) → (Y → P) → P
either (Ok a) x y f g = f x
either (Err e) x y f g = g y

pub invariant_of-self : goal.invariant_of-self
invariant_of-self c =
    let held = c.self.inside.held in
    let place : Place = record { round = c.round_of.result; cluster = c.args.cert.cluster } in
    let found = lookup_finds _ c.round_of.result c.args.cert.cluster (λ q. refl) held.entries c.self.invariant in
    let none = found ∙ (ap (λ l. certificate_for l c.round_of.result c.args.cert.cluster) c.self.view_is
    ∙ (ap (λ n. certificate_for c.args.self.now n c.args.cert.cluster) c.round_of.ensures ∙ c.requires)) in
    let own = is_keyed-own c.round_of.result c.args.cert.cluster c.args.cert c.round_of.ensures refl in
    let P : List (Place × CommitCert) → Type 0 = λ es. list_all is_keyed es ≡ true in
    either c.insert.result c.insert.ensures.entries c.insert.ensures.err
    (λ e. subst P (sym (e ∙ insert_entry-new _ held place c.args.cert none)) (all_keyed-more held.entries (place, c.args.cert) c.self.invariant own))
    (λ e. subst P (sym e) c.self.invariant)

pub returns-in-Ok-clause-ok : goal.returns-in-Ok-clause-ok
returns-in-Ok-clause-ok c =
    let held = c.self.inside.held in
    let place : Place = record { round = c.round_of.result; cluster = c.args.cert.cluster } in
    let found = lookup_finds _ c.round_of.result c.args.cert.cluster (λ q. refl) held.entries c.self.invariant in
    let none = found ∙ (ap (λ l. certificate_for l c.round_of.result c.args.cert.cluster) c.self.view_is
    ∙ (ap (λ n. certificate_for c.args.self.now n c.args.cert.cluster) c.round_of.ensures ∙ c.requires)) in
    ap (λ es. values_of es) (c.in-Ok.ensures.entries ∙ insert_entry-new _ held place c.args.cert none)
    ∙ (values_of-more held.entries (place, c.args.cert) ∙ ap (λ l. l ++ c.args.cert ∷ []) c.self.view_is)
