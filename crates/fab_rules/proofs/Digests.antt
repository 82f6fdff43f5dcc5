-- Digests are 32 bytes, so each fits its field.
use Rattle.std.proofs.Common.{◌≡◌, ℕ, zero, suc, true, nat_eq, List, [], ◌∷◌, ◌++◌, length, refl}
use Rattle.std.specs.Prelude.{slice_index}
use Rattle.std.specs.Int.{w32, w64, to_be_bytes}
use Rattle.sha2.specs.Sha256.{sha256, digest_bytes}
use Rattle.sha2.proofs.Facts256.{length-sha256}
use Rattle.fab_base.specs.declared.ids.Hash32.{Hash32}
use Rattle.fab_base.specs.declared.requests.Request.{Request}
use Rattle.fab_rules.specs.declared.blocks.Block.{Block}
use Rattle.fab_rules.specs.Spelling.{spelling_of_batch}
use Rattle.fab_rules.specs.Digests.{batch_digest}
use Rattle.fab_rules.specs.Format.{digest_fits}
use Rattle.fab_rules.specs.Ledger.{chain_start, linked, chain_from}
use Rattle.fab_base.specs.Fields.{are_bytes}
use Rattle.fab_base.proofs.Tests.{and_both, are_same}
use Rattle.fab_base.proofs.Bytes.{are_bytes-append, are_bytes-to_be_bytes}

-- ---- SHA-256

digest_bytes_are : (h : List ℕ) (n : ℕ) → are_bytes (digest_bytes h n) ≡ true
unfolding digest_bytes
digest_bytes_are h zero = refl
digest_bytes_are h (suc n) = are_bytes-append (digest_bytes h n) (to_be_bytes w32 (slice_index h n)) (digest_bytes_are h n) (are_bytes-to_be_bytes w32 (slice_index h n))

pub are_bytes-sha256 : (m : List ℕ) → are_bytes (sha256 m) ≡ true
unfolding sha256
are_bytes-sha256 m = digest_bytes_are _ 8

pub sha256_fits : (m : List ℕ) → digest_fits (record { bytes = sha256 m }) ≡ true
sha256_fits m = and_both (nat_eq (length (sha256 m)) 32) (are_bytes (sha256 m)) (are_same _ _ (length-sha256 m)) (are_bytes-sha256 m)

-- ---- the digests of the fabric

pub length-batch_digest : (batch : List Request) → length (batch_digest batch).bytes ≡ 32
unfolding batch_digest
length-batch_digest batch = length-sha256 (spelling_of_batch batch)

pub length-linked : (chain : Hash32) (block : Block) → length (linked chain block).bytes ≡ 32
unfolding linked
length-linked chain block = length-sha256 (chain.bytes ++ to_be_bytes w64 block.round ++ block.cluster ∷ (batch_digest block.batch).bytes)

pub batch_digest_fits : (batch : List Request) → digest_fits (batch_digest batch) ≡ true
unfolding batch_digest
batch_digest_fits batch = sha256_fits (spelling_of_batch batch)

pub linked_fits : (chain : Hash32) (block : Block) → digest_fits (linked chain block) ≡ true
unfolding linked
linked_fits chain block = sha256_fits (chain.bytes ++ to_be_bytes w64 block.round ++ block.cluster ∷ (batch_digest block.batch).bytes)

pub chain_start_fits : digest_fits chain_start ≡ true
unfolding chain_start
chain_start_fits = refl

pub chain_from_fits : (chain : Hash32) (blocks : List Block) → digest_fits chain ≡ true → digest_fits (chain_from chain blocks) ≡ true
chain_from_fits chain [] h = h
chain_from_fits chain (block ∷ rest) h = chain_from_fits (linked chain block) rest (linked_fits chain block)
