-- What a key with its tree is, seen from outside.
use Rattle.lmots_core.specs.declared.kind.OtsKind.{OtsKind}
use Rattle.lmots_core.specs.declared.seed.OtsSeed.{OtsSeed}
use Rattle.lms_tree.specs.declared.heights.Height.{Height}
use Rattle.lms_tree.specs.declared.public.Public.{Public}
use Rattle.lms_tree.specs.Tree.{tree_root}

-- the two types and the seed, from which all else follows
pub record TreeKey : Type 0 where
  pub ots : OtsKind
  pub height : Height
  pub seed : OtsSeed

-- the public key
abbrev pub public_of_key : TreeKey → Public
public_of_key key = record { ots = key.ots; height = key.height; id = key.seed.id; root = tree_root key.ots key.height key.seed }
