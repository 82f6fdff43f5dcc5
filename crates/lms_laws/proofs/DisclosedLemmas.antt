-- What a signer gives away, chain by chain.
use Rattle.std.proofs.Common.{◌≡◌, ℕ, ◌-◌, ◌<◌, ◌≤◌, List, Option, Some, length, sym, ap, ◌∙◌, arith}
use Rattle.lmots_core.specs.Parameters.{chain_count}
use Rattle.lmots_core.specs.Chains.{chain, chain_start}
use Rattle.lmots_core.specs.OneTime.{value_of}
use Rattle.lmots_core.proofs.ChainLemmas.{chain_from_first}
use Rattle.lms_tree.specs.Keys.{TreeKey}
use Rattle.lms_tree.specs.Signatures.{tree_signature}
use Rattle.lms_tree.specs.Verdict.{ots_part}
use Rattle.lms_laws.specs.Signed.{Signing, lowest_shown}
use Rattle.lms_laws.specs.Forgery.{leaf_of, own_value, lowest, GivesCollision, FollowsFromGiven}
use Rattle.lms_laws.specs.Forgery.GivesCollision.{InTree, AtLeaf, InEnds, InChain, InMessage}
use Rattle.lms_laws.proofs.ChainLemmas.{chain_link}
use Rattle.lms_laws.proofs.ReadLemmas.{value_read}

pub signed_shows : (key : TreeKey) (q i : ℕ) (signing : Signing) → length signing.randomizer ≡ 32 → i < chain_count key.ots
    → value_of (ots_part key.ots (tree_signature key q signing.randomizer signing.content)) i ≡ own_value key q i (lowest_shown key q i (Some signing))
signed_shows key q i signing size lt = value_read key q signing.randomizer signing.content size i lt

pub goes_on : (key : TreeKey) (q i from to : ℕ) → from ≤ to
    → own_value key q i to ≡ chain key.seed.id q i from (to - from) (own_value key q i from)
goes_on key q i from to le =
    let start = chain_start key.seed q i in
    sym (ap (chain key.seed.id q i from (to - from)) (sym (chain_from_first key.seed.id q i from start))
    ∙ chain_link key.seed.id q i 0 from to start (omega arith) le ∙ chain_from_first key.seed.id q i to start)

pub collision_follows : (key : TreeKey) (record_of : ℕ → Option Signing) (content signature : List ℕ)
    → (given : GivesCollision key record_of content signature) → FollowsFromGiven key record_of content signature given
collision_follows key record_of content signature (InChain i j within behind low before collision) =
    goes_on key (leaf_of signature) i (lowest key record_of signature i) j low
collision_follows key record_of content signature (InTree n lt collision) = tt
collision_follows key record_of content signature (AtLeaf collision) = tt
collision_follows key record_of content signature (InEnds collision) = tt
collision_follows key record_of content signature (InMessage signing signed collision) = tt
