-- A log that has done nothing.
use Rattle.std.proofs.Common.{◌≡◌, ℕ, false, List, [], refl, sym, ap, subst, ◌∙◌}
use Rattle.std.specs.Prelude.{IsTrue}
use Rattle.fab_base.specs.Limits.{IsWithinLimits}
use Rattle.fab_base.specs.Roster.{is_replica}
use Rattle.fab_machine.specs.State.{Replica, fresh}
use Rattle.replica_core.specs.Cores.{Machine}
use Rattle.run_words.specs.declared.logs.Entry.{Entry}
use Rattle.run_words.specs.Journal.{Maker, walk}
use Rattle.run_words.specs.Lawful.{IsKeyed}
use Rattle.run_words.proofs.Replays.{fresh_is}
use Rattle.parcel_post.specs.Posting.{Counts, SendsPlainly}
use Rattle.replica_log.specs.Keeping.{IsKept, core_after, maker_of, IsLog}
use Rattle.replica_log.specs.declared.keepers.Keeper.{Keeper}

none_kept : (m : Maker) → IsWithinLimits m.roster → IsTrue (is_replica m.roster m.id) → SendsPlainly m → m.seconds ≡ [] → IsKeyed m
    → IsKept m [] 0 [] [] 0
unfolding walk
none_kept m limits member plain alone keyed = record {
  limits = limits;
  member = member;
  plain = plain;
  alone = alone;
  replays = tt;
  sound = tt;
  clock_is = refl;
  signed_is = refl;
  numbers = λ i. refl;
  used = refl;
  keyed = keyed;
}

-- four that are nothing
kept_by : (m : Maker) (journal : List Entry) (signed : List (List ℕ)) (counts : Counts) (made : ℕ) → IsKept m [] 0 [] [] 0
    → journal ≡ [] → signed ≡ [] → counts ≡ [] → made ≡ 0
    → IsKept m journal 0 signed counts made
kept_by m journal signed counts made h j s c u =
    subst (λ (l : List Entry). IsKept m l 0 signed counts made) (sym j)
    (subst (λ (l : List (List ℕ)). IsKept m [] 0 l counts made) (sym s)
    (subst (λ (l : Counts). IsKept m [] 0 [] l made) (sym c)
    (subst (λ (n : ℕ). IsKept m [] 0 [] [] n) (sym u) h)))

pub starts : {S : Type 0} (limit made : S → ℕ) (gives : S → ℕ → List ℕ → List ℕ) (k : Keeper S)
    → IsWithinLimits k.members → IsTrue (is_replica k.members k.me) → IsKeyed (maker_of limit gives k)
    → k.clock ≡ 0 → k.journal.items ≡ [] → k.signed.items ≡ [] → k.numbers ≡ [] → made k.signer ≡ 0
    → k.core ≡ record { roster = k.members; me = k.me; state = fresh k.members k.me; shut = false }
    → IsLog limit made gives k false
starts limit made gives k limits member keyed clock journal signed numbers used core =
    let m = maker_of limit gives k in
    let plain : SendsPlainly m = record { lossless = refl; correct = refl } in
    let of_state : Replica → Machine = λ s. record { roster = k.members; me = k.me; state = s; shut = false } in
    record {
      kept = subst (λ (n : ℕ). IsKept m k.journal.items n k.signed.items k.numbers (made k.signer)) (sym clock)
          (kept_by m k.journal.items k.signed.items k.numbers (made k.signer) (none_kept m limits member plain refl keyed) journal signed numbers used);
      live = λ h. core ∙ ap of_state (sym (fresh_is m)) ∙ ap (core_after m) (sym journal);
    }
