use Rattle.std.proofs.Common.{refl, sym, ap, append-nil, ◌∙◌, ◌++◌, ◌∷◌, []}
use Rattle.fab_base.specs.declared.answers.Item.{Item}
use Rattle.run_words.specs.declared.logs.Entry.{Entry}
use Rattle.replica_log.proofs.keepers.Keeper.pass.Goals as goal

pub returns-clause-sealed : goal.returns-clause-sealed
returns-clause-sealed g c = record {
  same = record { me = refl; members = refl; ring = refl; clock = refl; signer = refl };
  core = c.send_first-item.ensures.core;
  journal =
      (rw c.unwrap.ensures at c.push.ensures.items)
      ∙ ap (λ (item : Item). c.args.self.now.journal.items ++ Entry.Sent item ∷ []) c.send_first-item.ensures.item;
  contents_are = sym (append-nil c.args.self.now.signed.items);
  counts = c.send-parcels.ensures.counts;
}
