-- A small world of two clusters that meets every premise of the headline: each is one replica, which orders the null batch, pleads for
-- the other's certificate, hears its plea and its Share, and does the blocks of round 1.
use Rattle.std.specs.Prelude.{ℕ, false, nat_eq, List, [], ◌∷◌, if◌then◌else◌}
use Rattle.fab_base.specs.Limits.{Roster}
use Rattle.fab_base.specs.declared.ids.ReplicaId.{ReplicaId}
use Rattle.fab_base.specs.declared.messages.Vote.{Vote}
use Rattle.fab_base.specs.declared.messages.PrePrepare.{PrePrepare}
use Rattle.fab_base.specs.declared.messages.CommitCert.{CommitCert}
use Rattle.fab_base.specs.declared.messages.Plea.{Plea}
use Rattle.fab_base.specs.declared.messages.Message.{Message}
use Rattle.fab_rules.specs.declared.blocks.Block.{Block}
use Rattle.fab_rules.specs.Digests.{batch_digest}
use Rattle.fab_rules.specs.Diary.{Entry, Heard, Said, Did}
use Rattle.lmots_core.specs.declared.seed.OtsSeed.{OtsSeed}
use Rattle.lms_tree.specs.Keys.{public_of_key}
use Rattle.bft_verify.specs.Ring.{Ring}
use Rattle.world_laws.specs.World.{World, member_of}
use Rattle.world_laws.specs.Signing.{signing_key, signed_proposal, signed_vote, signed_plea}

abbrev pub pair : Roster
pair = record { sizes = 1 ∷ 1 ∷ []; homes = []; window = 1; interval = 1; batch = 1 }

-- the one replica of a cluster
abbrev pub one_of : ℕ → ReplicaId
one_of c = member_of c 0

abbrev pub null_proposal : ℕ → PrePrepare
null_proposal c = record { signer = one_of c; view = 0; slot = 1; batch = []; sig = [] }

abbrev pub null_vote : ℕ → Vote
null_vote c = record { signer = one_of c; view = 0; slot = 1; digest = batch_digest []; sig = [] }

abbrev pub null_block : ℕ → Block
null_block c = record { round = 1; cluster = c; batch = [] }

-- cluster c pleads for cluster d's certificate of round 1
abbrev pub plea_for : ℕ → ℕ → Plea
plea_for c d = record { signer = one_of c; target = d; round = 1; count = 0; sig = [] }

-- ---- with its signature, by the leaf after that of what was said before; each has a key of its own

abbrev pub null_signed_proposal : OtsSeed → ℕ → PrePrepare
null_signed_proposal seed c = signed_proposal seed 0 (null_proposal c)

abbrev pub null_prepare : OtsSeed → ℕ → Vote
null_prepare seed c = signed_vote Message.Prepare seed 1 (null_vote c)

abbrev pub null_commit : OtsSeed → ℕ → Vote
null_commit seed c = signed_vote Message.Commit seed 2 (null_vote c)

abbrev pub drvc_for : OtsSeed → ℕ → ℕ → Plea
drvc_for seed c d = signed_plea Message.Drvc seed 3 (plea_for c d)

abbrev pub rvc_for : OtsSeed → ℕ → ℕ → Plea
rvc_for seed c d = signed_plea Message.Rvc seed 4 (plea_for c d)

abbrev pub null_share : OtsSeed → ℕ → CommitCert
null_share seed c = record { cluster = c; batch = []; votes = null_commit seed c ∷ [] }

-- ---- the diary of cluster c's replica, which signs by `own`; d is the other cluster, whose replica signs by `other`. It is told part
-- by part, the newest entry first

abbrev pub pair_proposed : OtsSeed → ℕ → List Entry
pair_proposed own c = Heard (Message.PrePrepare (null_signed_proposal own c)) ∷ Said (Message.PrePrepare (null_proposal c)) ∷ []

abbrev pub pair_prepared : OtsSeed → ℕ → List Entry
pair_prepared own c = Heard (Message.Prepare (null_prepare own c)) ∷ Said (Message.Prepare (null_vote c)) ∷ pair_proposed own c

abbrev pub pair_committed : OtsSeed → ℕ → List Entry
pair_committed own c = Heard (Message.Commit (null_commit own c)) ∷ Said (Message.Commit (null_vote c)) ∷ pair_prepared own c

-- the other's certificate is missing: the cluster says so to itself, and then to the other
abbrev pub pleaded : OtsSeed → ℕ → ℕ → List Entry
pleaded own c d = Heard (Message.Drvc (drvc_for own c d)) ∷ Said (Message.Drvc (plea_for c d)) ∷ pair_committed own c

abbrev pub answered : OtsSeed → OtsSeed → ℕ → ℕ → List Entry
answered own other c d =
    Heard (Message.Share (null_share other d)) ∷ Heard (Message.Rvc (rvc_for other d c)) ∷ Said (Message.Rvc (plea_for c d)) ∷ pleaded own c d

abbrev pub pair_diary : OtsSeed → OtsSeed → ℕ → ℕ → List Entry
pair_diary own other c d = Did (null_block 2) ∷ Did (null_block 1) ∷ answered own other c d

abbrev pub pair_ring : OtsSeed → OtsSeed → Ring
pair_ring first second = record {
  replicas = (public_of_key (signing_key first) ∷ []) ∷ (public_of_key (signing_key second) ∷ []) ∷ [];
  clients = [];
}

abbrev pub pair_world : OtsSeed → OtsSeed → World
pair_world first second = record {
  roster = pair;
  ring = pair_ring first second;
  faulty = λ who. false;
  issued = λ client. [];
  diary = λ i. if nat_eq i.cluster 1 then pair_diary first second 1 2 else pair_diary second first 2 1;
}
