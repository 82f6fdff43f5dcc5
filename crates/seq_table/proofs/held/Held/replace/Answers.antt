use Rattle.std.proofs.Common.{ap, sym, ◌∙◌, nat_eq}
use Rattle.std.specs.Cmp.Lexicographic.{pointwise}
use Rattle.std.specs.Map.{set_value}
use Rattle.seq_table.specs.contracts.held.Held.{the_view}
use Rattle.seq_table.proofs.Pairs.{flat, listed, found_there, listed-set_value, set_value-absent, value_there}
use Rattle.seq_table.proofs.held.Held.replace.Goals as goal
use Rattle.seq_table.proofs.held.Held.replace.Goals.{in-Some, in-None+in-Some-1, in-None+in-None-1}

pub returns-clause-after : goal.returns-clause-after
returns-clause-after c =
    let held = c.args.self.now in
    let key = c.args.key.now in
    let es = c.self.inside.pairs.entries in
    elim c.match-get_mut.branch [
      | in-Some w ↦
          ap the_view w.self-inside-is ∙ ap listed (c.get_mut.follows.holds w.replace.new.dest).0
          ∙ listed-set_value es held key w.replace.new.dest c.self.view_is
          ∙ ap (λ v. set_value (pointwise nat_eq key) held v) w.replace.ensures.after
      | in-None+in-Some-1 w ↦
          ap the_view w.self-inside-is ∙ ap (λ m. listed m.entries) c.get_mut.follows.holds-at-none ∙ c.self.view_is
          ∙ sym (set_value-absent (pointwise nat_eq key) held c.args.value (sym (w.in-None.ensures.value ∙ found_there es held key c.self.view_is)))
      | in-None+in-None-1 w ↦
          ap the_view w.self-inside-is ∙ ap (λ m. listed m.entries) c.get_mut.follows.holds-at-none ∙ c.self.view_is
          ∙ sym (set_value-absent (pointwise nat_eq key) held c.args.value (sym (w.in-None.ensures.value ∙ found_there es held key c.self.view_is)))
    ]

pub returns-clause-before : goal.returns-clause-before
returns-clause-before c =
    let held = c.args.self.now in
    let key = c.args.key.now in
    let es = c.self.inside.pairs.entries in
    elim c.match-get_mut.branch [
      | in-Some w ↦
          w.result-is ∙ w.replace.ensures.value
          ∙ ap flat (w.in-Some.ensures.value ∙ found_there es held key c.self.view_is) ∙ sym (value_there held key)
      | in-None+in-Some-1 w ↦
          w.result-is ∙ ap flat (w.in-None.ensures.value ∙ found_there es held key c.self.view_is) ∙ sym (value_there held key)
      | in-None+in-None-1 w ↦
          w.result-is ∙ ap flat (w.in-None.ensures.value ∙ found_there es held key c.self.view_is) ∙ sym (value_there held key)
    ]
