-- What a signer is, seen from outside: a key, and how many of its leaves were used.
use Rattle.std.specs.Prelude.{ℕ}
use Rattle.lms_tree.specs.Keys.{TreeKey}

pub record Leaves : Type 0 where
  pub key : TreeKey
  pub used : ℕ
