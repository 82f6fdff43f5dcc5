-- What a contract sees of a replica's log.
use Rattle.std.specs.Prelude.{◌≡◌, ℕ, Bool, false, List, [], None}
use Rattle.fab_base.specs.Limits.{Roster}
use Rattle.fab_base.specs.declared.ids.ReplicaId.{ReplicaId}
use Rattle.bft_verify.specs.Ring.{Ring}
use Rattle.run_words.specs.Journal.{Maker}
use Rattle.run_words.specs.declared.logs.Entry.{Entry}
use Rattle.run_words.specs.declared.party.Told.{Told}

-- whose it is, its members and keys, its entries, whether it is shut, and its signer
pub record Log (S : Type 0) : Type 0 where
  pub me : ReplicaId
  pub roster : Roster
  pub ring : Ring
  pub journal : List Entry
  pub shut : Bool
  pub signer : S

-- what it is made with, by what its signer is: it is correct, and nothing of what it sends is lost or repeated
abbrev pub made_of : {S : Type 0} → (S → ℕ) → (S → ℕ → List ℕ → List ℕ) → Log S → Maker
made_of limit gives log = record {
  id = log.me;
  roster = log.roster;
  ring = log.ring;
  losses = [];
  fault = None;
  seconds = [];
  leaves = limit log.signer;
  signature = gives log.signer;
}

-- a log that has done nothing yet
abbrev pub fresh_log : {S : Type 0} → Roster → Ring → ReplicaId → S → Log S
fresh_log roster ring me signer = record { me = me; roster = roster; ring = ring; journal = []; shut = false; signer = signer }

-- a leaf is used for what is sent alone: whatever else is told, a refusal of memory too, the signer is what it was
abbrev pub KeepsSigner : {S : Type 0} → Told → S → S → Type 0
KeepsSigner (Told.Out parcels) old now = Unit {0}
KeepsSigner told old now = now ≡ old
