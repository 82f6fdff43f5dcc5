use Rattle.std.proofs.Common.{None, Some, true, ap, sym, ◌∙◌, nat_eq, refl, ◌≡◌, subst}
use Rattle.std.specs.Cmp.Lexicographic.{pointwise}
use Rattle.std.specs.Map.{set_value, keys_of}
use Rattle.std.proofs.lemmas.Map.{keys-set_value}
use Rattle.fab_base.specs.Table.{value_in, value_after, entries_after, key_of}
use Rattle.fab_base.specs.declared.requests.Op.{Op}
use Rattle.seq_table.specs.Holding.{entries_of, is_held}
use Rattle.seq_table.specs.Batches.{HoldsFor, value_written}
use Rattle.seq_table.proofs.Pairs.{entries_of-cleared}
use Rattle.seq_table.proofs.Steps.{unchanged, write_held}
use Rattle.seq_table.proofs.held.Held.apply_in.Goals as goal

pub returns-in-Put-clause-state : goal.returns-in-Put-clause-state
returns-in-Put-clause-state c =
    let held = c.args.self.now in
    let key = c.in-Put.key in
    let there : is_held (keys_of held) key ≡ true = subst (λ (o : Op). HoldsFor (keys_of held) o) c.in-Put.is c.requires.held in
    let fresh : c.fresh.result ≡ Some c.in-Put.value = c.fresh.ensures ∙ c.requires.place ∙ ap value_written c.in-Put.is in
    (write_held held c.replace.new.self key c.in-Put.value there (c.replace.ensures.after ∙ (λ i. set_value (pointwise nat_eq (c.as_slice.ensures i)) held (fresh i)))).0
    ∙ sym (ap (λ o. entries_after (entries_of held) o) c.in-Put.is)

pub returns-in-Put-clause-keys : goal.returns-in-Put-clause-keys
returns-in-Put-clause-keys c = ap keys_of c.replace.ensures.after ∙ keys-set_value (pointwise nat_eq c.as_slice.result.now) c.args.self.now c.fresh.result

pub returns-in-Some-clause-state : goal.returns-in-Some-clause-state
returns-in-Some-clause-state c =
    let es = entries_of c.args.self.now in
    unchanged c.args.self.now c.args.op.now (subst (λ (o : Op). value_after (value_in es (key_of o)) o ≡ value_in es (key_of o)) (sym c.in-Get.is) refl)

pub returns-in-None-clause-state : goal.returns-in-None-clause-state
returns-in-None-clause-state c =
    let es = entries_of c.args.self.now in
    unchanged c.args.self.now c.args.op.now (subst (λ (o : Op). value_after (value_in es (key_of o)) o ≡ value_in es (key_of o)) (sym c.in-Get.is) refl)

pub returns-in-Cut-clause-state : goal.returns-in-Cut-clause-state
returns-in-Cut-clause-state c =
    let held = c.args.self.now in
    ap entries_of c.replace-in-Cut.ensures.after
    ∙ ap (λ k. entries_of (set_value (pointwise nat_eq k) held None)) c.as_slice-in-Cut.ensures
    ∙ entries_of-cleared held c.in-Cut.key
    ∙ sym (ap (λ o. entries_after (entries_of held) o) c.in-Cut.is)

pub returns-in-Cut-clause-keys : goal.returns-in-Cut-clause-keys
returns-in-Cut-clause-keys c = ap keys_of c.replace-in-Cut.ensures.after ∙ keys-set_value (pointwise nat_eq c.as_slice-in-Cut.result.now) c.args.self.now None
