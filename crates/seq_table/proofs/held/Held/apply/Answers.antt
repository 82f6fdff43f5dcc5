use Rattle.std.proofs.Common.{None, ap, sym, ◌∙◌, nat_eq, refl, ◌≡◌, subst}
use Rattle.std.specs.Cmp.Lexicographic.{pointwise}
use Rattle.std.specs.Map.{set_value, keys_of}
use Rattle.std.proofs.lemmas.Map.{keys-set_value}
use Rattle.fab_base.specs.Table.{value_in, value_after, entries_after, key_of}
use Rattle.fab_base.specs.declared.requests.Op.{Op}
use Rattle.fab_base.specs.declared.requests.Outcome.TheVariants.{Done}
use Rattle.seq_table.specs.Holding.{entries_of, keys_after}
use Rattle.seq_table.proofs.Pairs.{entries_of-cleared}
use Rattle.seq_table.proofs.Steps.{on_ok, unchanged, read_keys}
use Rattle.seq_table.proofs.held.Held.apply.Goals as goal

pub returns-in-Get-clause-state : goal.returns-in-Get-clause-state
returns-in-Get-clause-state c =
    let es = entries_of c.args.self.now in
    on_ok c.read.result (unchanged c.args.self.now c.args.op.now (subst (λ (o : Op). value_after (value_in es (key_of o)) o ≡ value_in es (key_of o)) (sym c.in-Get.is) refl))

pub returns-in-Cut-clause-state : goal.returns-in-Cut-clause-state
returns-in-Cut-clause-state c =
    let held = c.args.self.now in
    ap entries_of c.replace.ensures.after
    ∙ ap (λ k. entries_of (set_value (pointwise nat_eq k) held None)) c.as_slice-in-Cut.ensures
    ∙ entries_of-cleared held c.in-Cut.key
    ∙ sym (ap (λ o. entries_after (entries_of held) o) c.in-Cut.is)

pub returns-in-Cut-clause-keys : goal.returns-in-Cut-clause-keys
returns-in-Cut-clause-keys c =
    let held = c.args.self.now in
    let key = key_of c.args.op.now in
    ap keys_of c.replace.ensures.after
    ∙ keys-set_value (pointwise nat_eq c.as_slice-in-Cut.result.now) held None
    ∙ sym (ap (λ r. keys_after (keys_of held) (Done r) key) c.reply_of.ensures ∙ read_keys (keys_of held) key c.replace.result)
