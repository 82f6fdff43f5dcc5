-- How it is signed in the small worlds: a replica's statements by the leaves of one key, and a client's one request by a signature to
-- which the key was made.
use Rattle.std.specs.Prelude.{ℕ, List, [], ◌∷◌, ◌++◌, replicate}
use Rattle.lmots_core.specs.declared.seed.OtsSeed.{OtsSeed}
use Rattle.lmots_core.specs.declared.kind.OtsKind.TheVariants.{W4}
use Rattle.lms_tree.specs.declared.heights.Height.TheVariants.{H5}
use Rattle.lms_tree.specs.declared.public.Public.{Public}
use Rattle.lms_tree.specs.Keys.{TreeKey}
use Rattle.lms_tree.specs.Signatures.{leaf_signature}
use Rattle.lms_tree.specs.Verdict.{candidate_root}
use Rattle.fab_base.specs.declared.requests.Request.{Request}
use Rattle.fab_base.specs.declared.messages.PrePrepare.{PrePrepare}
use Rattle.fab_base.specs.declared.messages.Vote.{Vote}
use Rattle.fab_base.specs.declared.messages.StableVote.{StableVote}
use Rattle.fab_base.specs.declared.messages.ViewChange.{ViewChange}
use Rattle.fab_base.specs.declared.messages.NewView.{NewView}
use Rattle.fab_base.specs.declared.messages.Plea.{Plea}
use Rattle.fab_base.specs.declared.messages.Message.{Message}
use Rattle.fab_rules.specs.Spelling.{content_of}

-- ---- a replica's statements

abbrev pub signing_key : OtsSeed → TreeKey
signing_key seed = record { ots = W4; height = H5; seed = seed }

-- the signature of a statement by a leaf of the key (RFC 8554, section 5.4)
unfoldable pub signature_by : OtsSeed → ℕ → Message → List ℕ
signature_by seed leaf m = leaf_signature (signing_key seed) leaf (content_of m)

abbrev pub signed_proposal : OtsSeed → ℕ → PrePrepare → PrePrepare
signed_proposal seed leaf x = record x { sig = signature_by seed leaf (Message.PrePrepare x) }

abbrev pub signed_vote : (Vote → Message) → OtsSeed → ℕ → Vote → Vote
signed_vote kind seed leaf x = record x { sig = signature_by seed leaf (kind x) }

abbrev pub signed_mark : OtsSeed → ℕ → StableVote → StableVote
signed_mark seed leaf x = record x { sig = signature_by seed leaf (Message.Checkpoint x) }

abbrev pub signed_change : OtsSeed → ℕ → ViewChange → ViewChange
signed_change seed leaf x = record x { sig = signature_by seed leaf (Message.ViewChange x) }

abbrev pub signed_new_view : OtsSeed → ℕ → NewView → NewView
signed_new_view seed leaf x = record x { sig = signature_by seed leaf (Message.NewView x) }

abbrev pub signed_plea : (Plea → Message) → OtsSeed → ℕ → Plea → Plea
signed_plea kind seed leaf x = record x { sig = signature_by seed leaf (kind x) }

-- ---- a client's request: its bytes stand in batches, whose digests are computed

-- it names the first leaf, the type codes that RFC 8554 gives W4 and a tree of five levels, and is zeros otherwise
unfoldable pub blank_signature : List ℕ
blank_signature = 0 ∷ 0 ∷ 0 ∷ 0 ∷ 0 ∷ 0 ∷ 0 ∷ 3 ∷ (replicate 2176 0 ++ 0 ∷ 0 ∷ 0 ∷ 5 ∷ replicate 160 0)

-- a key of this root
abbrev pub blank_key : List ℕ → Public
blank_key root = record { ots = W4; height = H5; id = replicate 16 0; root = root }

-- the key under which the blank signature is valid for the content: its root is the one that the signature leads to
unfoldable pub key_for : List ℕ → Public
key_for content = blank_key (candidate_root (blank_key []) content blank_signature)

abbrev pub signed_request : Request → Request
signed_request x = record x { sig = blank_signature }
