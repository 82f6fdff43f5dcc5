use Rattle.std.proofs.Common.{Some, None, ap, sym, ◌∙◌, nat_eq, refl}
use Rattle.std.specs.Cmp.Lexicographic.{pointwise}
use Rattle.std.specs.Map.{set_value, keys_of}
use Rattle.std.proofs.lemmas.Map.{keys-set_value}
use Rattle.seq_table.proofs.Pairs.{is_held-there}
use Rattle.seq_table.proofs.Steps.{not_swapped, swapped, with_key-held, valued_there}
use Rattle.seq_table.proofs.held.Held.swap.Goals as goal

pub returns-in-Some-2-clause-state : goal.returns-in-Some-2-clause-state
returns-in-Some-2-clause-state c =
    not_swapped c.args.self.now c.args.key.now c.args.expected.now c.args.fresh.now (Some c.in-Some.value.now) c.in-Some.ensures (sym c.if-eq.ensures)

pub returns-in-None-clause-state : goal.returns-in-None-clause-state
returns-in-None-clause-state c =
    not_swapped c.args.self.now c.args.key.now c.args.expected.now c.args.fresh.now None c.in-None.ensures refl

pub returns-clause-state : goal.returns-clause-state
returns-clause-state c =
    let held = c.args.self.now in
    let key = c.args.key.now in
    swapped held c.replace.new.self key c.args.expected.now c.args.fresh.now c.in-Some.value.now c.in-Some.ensures (sym c.if-eq.ensures)
    (c.replace.ensures.after ∙ ap (λ f. set_value (pointwise nat_eq key) held (Some f)) c.in_ok-fresh.ensures)

pub returns-clause-keys : goal.returns-clause-keys
returns-clause-keys c =
    let held = c.args.self.now in
    let key = c.args.key.now in
    ap keys_of c.replace.ensures.after ∙ keys-set_value (pointwise nat_eq key) held (Some c.in_ok-fresh.fresh)
    ∙ sym (with_key-held (keys_of held) key (is_held-there held key ∙ valued_there held key c.in-Some.value.now c.in-Some.ensures))
