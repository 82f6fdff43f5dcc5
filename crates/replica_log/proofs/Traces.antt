-- What a keeper leaves behind is the trace of its journal.
use Rattle.std.proofs.Common.{◌≡◌, ℕ, List, [], length, None, ap, ◌∙◌}
use Rattle.fab_base.specs.declared.ids.ReplicaId.{ReplicaId}
use Rattle.run_words.specs.declared.logs.Entry.{Entry}
use Rattle.run_words.specs.declared.logs.Parcel.{Parcel}
use Rattle.run_words.specs.declared.logs.Trace.{Trace}
use Rattle.run_words.specs.Journal.{waits, parcels_of, signed_of}
use Rattle.run_words.specs.Acts.{IsTraceBut}
use Rattle.run_words.specs.Runs.{trace_of}
use Rattle.replica_core.specs.Cores.{Machine}
use Rattle.replica_log.specs.Keeping.{maker_of, Keeps, IsLive}
use Rattle.replica_log.specs.Leaving.{left_with}
use Rattle.parcel_post.specs.Posting.{AreSpelled}
use Rattle.replica_log.specs.declared.keepers.Keeper.{Keeper}
use Rattle.replica_log.proofs.Waiting.{kept_spelled}

abbrev left : ReplicaId → List Entry → List (List ℕ) → List Parcel → ℕ → Trace
left id journal signed parcels unsent =
    record { id = id; fault = None; journal = journal; signed = signed; parcels = parcels; refused = []; unsent = unsent }

module _ {S : Type 0} (limit made : S → ℕ) (gives : S → ℕ → List ℕ → List ℕ) (k : Keeper S) (kept : Keeps limit made gives k) where
  pub spelled : AreSpelled k.journal.items
  spelled = kept_spelled (maker_of limit gives k) k.journal.items kept.limits kept.member kept.keyed kept.replays kept.sound

  leaves_but : (parcels : List Parcel) → parcels ≡ parcels_of (maker_of limit gives k) k.journal.items
      → IsTraceBut (maker_of limit gives k) k.journal.items (left_with k parcels)
  leaves_but parcels p =
      ap (λ (l : List (List ℕ)). left k.me k.journal.items l parcels (length k.core.state.outbox)) kept.signed_is
      ∙ ap (λ (l : List Parcel). left k.me k.journal.items (signed_of (maker_of limit gives k) k.journal.items) l (length k.core.state.outbox)) p

  pub leaves_all : (parcels : List Parcel) → parcels ≡ parcels_of (maker_of limit gives k) k.journal.items → IsLive limit gives k
      → left_with k parcels ≡ trace_of (maker_of limit gives k) k.journal.items []
  unfolding waits
  leaves_all parcels p live =
      leaves_but parcels p
      ∙ ap
      (λ (c : Machine).
      left k.me k.journal.items (signed_of (maker_of limit gives k) k.journal.items) (parcels_of (maker_of limit gives k) k.journal.items)
      (length c.state.outbox))
      live
