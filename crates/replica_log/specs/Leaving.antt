-- What a keeper leaves behind.
use Rattle.std.specs.Prelude.{List, [], length, None}
use Rattle.run_words.specs.declared.logs.Parcel.{Parcel}
use Rattle.run_words.specs.declared.logs.Trace.{Trace}
use Rattle.replica_log.specs.declared.keepers.Keeper.{Keeper}

-- with these parcels, and nothing refused
abbrev pub left_with : {S : Type 0} → Keeper S → List Parcel → Trace
left_with k parcels = record {
  id = k.me;
  fault = None;
  journal = k.journal.items;
  signed = k.signed.items;
  parcels = parcels;
  refused = [];
  unsent = length k.core.state.outbox;
}
