-- Which signatures are valid (RFC 8554, section 5.4.2), and the order of the refusals (ours).
use Rattle.std.specs.Prelude.{◌≡◌, ℕ, zero, suc, ◌+◌, ◌*◌, ◌/◌, ◌%◌, ◌^◌, ◌<◌, ◌==◌, nat_lt, List, length, take, drop, Result, Ok, Err, if◌then◌else◌}
use Rattle.std.specs.Int.{w32, from_be_bytes}
use Rattle.std.specs.Str.{bytes_eq}
use Rattle.lmots_core.specs.declared.kind.OtsKind.{OtsKind}
use Rattle.lmots_core.specs.Parameters.{type_code, signature_len}
use Rattle.lmots_core.specs.OneTime.{candidate_key}
use Rattle.lms_tree.specs.declared.public.Public.{Public}
use Rattle.lms_tree.specs.declared.faults.SigFault.{SigFault}
use Rattle.lms_tree.specs.declared.faults.SigFault.TheVariants.{BadLength, BadType, BadLeaf, WrongRoot}
use Rattle.lms_tree.specs.Heights.{levels, leaf_count, tree_code}
use Rattle.lms_tree.specs.Tree.{leaf_node, inner_node}
use Rattle.lms_tree.specs.Signatures.{tree_signature_len}

-- the number in the four bytes at this place
abbrev pub number_at : List ℕ → ℕ → ℕ
number_at bytes place = from_be_bytes w32 (take 4 (drop place bytes))

-- the one-time signature inside a signature
abbrev pub ots_part : OtsKind → List ℕ → List ℕ
ots_part ots signature = take (signature_len ots) (drop 4 signature)

-- path[i] of a signature
abbrev pub path_part : OtsKind → List ℕ → ℕ → List ℕ
path_part ots signature i = take 32 (drop (8 + signature_len ots + 32 * i) signature)

-- the node above two siblings, the first of which has number r (algorithm 6a, step 4)
abbrev pub parent : List ℕ → ℕ → List ℕ → List ℕ → List ℕ
parent id r value beside =
    if r % 2 == 1 then inner_node id (r / 2) beside value else inner_node id (r / 2) value beside

-- the node that is reached from leaf node r after so many nodes of the path (algorithm 6a, step 4)
unfoldable pub climbed : List ℕ → (ℕ → List ℕ) → ℕ → List ℕ → ℕ → List ℕ
climbed id path r value zero = value
climbed id path r value (suc n) = parent id (r / 2 ^ n) (climbed id path r value n) (path n)

-- Tc, the root under which the signature would be valid (algorithm 6a)
abbrev pub candidate_root : Public → List ℕ → List ℕ → List ℕ
candidate_root key content signature =
    let q = number_at signature 0 in
    let r = leaf_count key.height + q in
    climbed key.id (path_part key.ots signature) r
    (leaf_node key.id r (candidate_key key.ots key.id q content (ots_part key.ots signature))) (levels key.height)

-- the signature is a valid one of the content under the key (algorithms 6 and 6a)
pub record Valid (key : Public) (content signature : List ℕ) : Type 0 where
  pub sized : length signature ≡ tree_signature_len key.ots key.height
  pub ots_typed : number_at signature 4 ≡ type_code key.ots
  pub tree_typed : number_at signature (4 + signature_len key.ots) ≡ tree_code key.height
  pub leaf : number_at signature 0 < leaf_count key.height
  pub root : candidate_root key content signature ≡ key.root

-- the verdict on a signature: the first refusal that applies, in this order, or none
abbrev pub verdict : Public → List ℕ → List ℕ → Result (Unit {0}) SigFault
verdict key content signature =
    if nat_lt (length signature) 8 then Err BadLength
    else if number_at signature 4 == type_code key.ots
    then if length signature == tree_signature_len key.ots key.height
    then if number_at signature (4 + signature_len key.ots) == tree_code key.height
    then if nat_lt (number_at signature 0) (leaf_count key.height)
    then if bytes_eq (candidate_root key content signature) key.root then Ok tt
    else Err WrongRoot
    else Err BadLeaf
    else Err BadType
    else Err BadLength
    else Err BadType
