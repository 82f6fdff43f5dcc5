use Rattle.std.proofs.Common.{[], ◌∷◌, refl}
use Rattle.std.specs.Int.{w8, w16, w32, w64, to_be_bytes}
use Rattle.std.proofs.lemmas.Nat.{from_be_bytes-to_be_bytes_2, from_be_bytes-to_be_bytes_4, from_be_bytes-to_be_bytes_8}
use Rattle.fab_codec.proofs.Back.{number_back, run_back}
use Rattle.fab_codec.proofs.laws.fields_law.Goals as goal

pub returns : goal.returns
returns c = record {
  u8 = λ front rest n small. number_back w8 front (n ∷ []) rest n refl refl;
  u16 = λ front rest n small. number_back w16 front (to_be_bytes w16 n) rest n refl (from_be_bytes-to_be_bytes_2 n small);
  u32 = λ front rest n small. number_back w32 front (to_be_bytes w32 n) rest n refl (from_be_bytes-to_be_bytes_4 n small);
  u64 = λ front rest n small. number_back w64 front (to_be_bytes w64 n) rest n refl (from_be_bytes-to_be_bytes_8 n small);
  run = λ front run rest. run_back front run rest;
}
