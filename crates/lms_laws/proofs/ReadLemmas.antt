-- What is read back from the signature that a leaf makes.
use Rattle.std.proofs.Common.{◌≡◌, ℕ, ◌+◌, ◌*◌, ◌<◌, List, ◌++◌, length, take, drop, refl, ap, ◌∙◌, arith, length-append, append_assoc}
use Rattle.std.specs.Int.{w32, to_be_bytes}
use Rattle.std.proofs.lemmas.List.{drop_at}
use Rattle.lmots_core.specs.Parameters.{width, chain_count, type_code, signature_len}
use Rattle.lmots_core.specs.Digits.{coef}
use Rattle.lmots_core.specs.Chains.{chain_start, joined}
use Rattle.lmots_core.specs.OneTime.{signed_digits, signed_value, signature as ots_signature, randomizer_of, value_of}
use Rattle.lmots_core.proofs.ChainLemmas.{length-chain, length-chain_step, value_in_joined}
use Rattle.lmots_core.proofs.SignatureLemmas.{length-signature}
use Rattle.lms_tree.specs.Heights.{levels, leaf_count, tree_code}
use Rattle.lms_tree.specs.Tree.{sibling, path_node, path}
use Rattle.lms_tree.specs.Keys.{TreeKey}
use Rattle.lms_tree.specs.Signatures.{tree_signature}
use Rattle.lms_tree.specs.Verdict.{ots_part, path_part}
use Rattle.lms_tree.proofs.NodeLemmas.{length-node}
use Rattle.lms_tree.proofs.FieldLemmas.{part_read, behind}

module _ (key : TreeKey) (q : ℕ) (randomizer content : List ℕ) (size : length randomizer ≡ 32) where
  abbrev number : List ℕ
  number = to_be_bytes w32 q

  abbrev one_time : List ℕ
  one_time = ots_signature key.ots key.seed q randomizer content

  abbrev tree_type : List ℕ
  tree_type = to_be_bytes w32 (tree_code key.height)

  abbrev nodes : List ℕ
  nodes = path key.ots key.height key.seed q

  abbrev whole : List ℕ
  whole = tree_signature key q randomizer content

  abbrev ots_type : List ℕ
  ots_type = to_be_bytes w32 (type_code key.ots)

  abbrev value : ℕ → List ℕ
  value = signed_value key.ots key.seed q (signed_digits key.ots key.seed.id q randomizer content)

  value_sized : (i : ℕ) → length (value i) ≡ 32
  value_sized i =
      length-chain key.seed.id q i 0 (coef (signed_digits key.ots key.seed.id q randomizer content) i (width key.ots)) (chain_start key.seed q i)
      (length-chain_step key.seed.id q i 0xff key.seed.seed)

  pub one_time_read : ots_part key.ots whole ≡ one_time
  one_time_read =
      ap (λ l. take (signature_len key.ots) (drop 4 l)) (append_assoc (number ++ one_time) tree_type nodes)
      ∙ part_read number one_time (tree_type ++ nodes) 4 (signature_len key.ots) refl (length-signature key.ots key.seed q randomizer content size)

  pub randomizer_read : randomizer_of (ots_part key.ots whole) ≡ randomizer
  randomizer_read = ap randomizer_of one_time_read ∙ part_read ots_type randomizer (joined value (chain_count key.ots)) 4 32 refl size

  pub value_read : (i : ℕ) → i < chain_count key.ots → value_of (ots_part key.ots whole) i ≡ value i
  value_read i lt =
      let front_long : length (ots_type ++ randomizer) ≡ 36 = omega (arith, length-append ots_type randomizer) in
      ap (λ l. value_of l i) one_time_read
      ∙ behind (ots_type ++ randomizer ++ joined value (chain_count key.ots)) 36 (32 * i) 32
      ∙ ap (λ l. take 32 (drop (32 * i) l)) (drop_at (ots_type ++ randomizer) (joined value (chain_count key.ots)) 36 front_long)
      ∙ value_in_joined value (chain_count key.ots) i value_sized lt

  pub path_read : (n : ℕ) → n < levels key.height → path_part key.ots whole n ≡ path_node key.ots key.height key.seed q n
  path_read n lt =
      let one_long = length-signature key.ots key.seed q randomizer content size in
      let four : length number ≡ 4 = refl in
      let four_more : length tree_type ≡ 4 = refl in
      let front_long : length (number ++ one_time ++ tree_type) ≡ 8 + signature_len key.ots =
      omega (arith, length-append (number ++ one_time) tree_type, length-append number one_time) in
      behind whole (8 + signature_len key.ots) (32 * n) 32
      ∙ ap (λ l. take 32 (drop (32 * n) l)) (drop_at (number ++ one_time ++ tree_type) nodes (8 + signature_len key.ots) front_long)
      ∙ value_in_joined (path_node key.ots key.height key.seed q) (levels key.height) n
      (λ i. length-node key.ots key.height key.seed i (sibling (leaf_count key.height + q) i)) lt
