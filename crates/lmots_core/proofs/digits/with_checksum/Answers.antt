use Rattle.std.proofs.Common.{◌≡◌, ◌++◌, ◌∷◌, [], refl, List, ℕ, length, ap, ◌∙◌, append-nil}
use Rattle.std.proofs.lemmas.List.{take_at, drop_at}
use borrow.Rule.Slice.PartMut.{put_mid}
use Rattle.lmots_core.proofs.digits.with_checksum.Goals as goal

-- two bytes behind a digest, written over
written_behind : (digest bytes : List ℕ) → length digest ≡ 32 → put_mid 32 2 (digest ++ 0 ∷ 0 ∷ []) bytes ≡ digest ++ bytes
written_behind digest bytes size = rw (take_at digest (0 ∷ 0 ∷ []) 32 size, drop_at digest (0 ∷ 0 ∷ []) 32 size) (ap (λ l. digest ++ l) (append-nil bytes))

pub returns : goal.returns
returns c =
    written_behind c.copy_from_slice.new.self c.copy_from_slice-2.new.self c.copy_from_slice.ensures.len
    ∙ rw (c.copy_from_slice.ensures.after, c.copy_from_slice-2.ensures.after, c.to_be_bytes.ensures, c.checksum.ensures) refl
