-- The fields of a message, as they are read (ours). A field is read whole before it is judged.
use Rattle.std.specs.Prelude.{ℕ, List, Option, Ok, Err, nat_lt, nat_le, nat_eq, if◌then◌else◌}
use Rattle.std.specs.Int.{Width, w8, w16, w64, byte_len}
use Rattle.fab_base.specs.declared.limits.TheConstants.{LONGEST_SIGNATURE}
use Rattle.fab_base.specs.declared.ids.ReplicaId.{ReplicaId}
use Rattle.fab_base.specs.declared.ids.Hash32.{Hash32}
use Rattle.fab_codec.specs.declared.faults.CodeFault.TheVariants.{BadTag, TooLarge, NotAscending}
use Rattle.fab_codec.specs.Fields.{number_at, run_at}
use Rattle.fab_rules.specs.Format.{comes_before}
use Rattle.msg_read.specs.Steps.{◌>>=◌, Reader, moved, next, both, made, checked, items, comes_after}

-- a number, high byte first
unfoldable pub number : Width → Reader ℕ
number w at = do
  n ← number_at w at.bytes at.place
  Ok (n, moved (byte_len w) at)

-- so many bytes
unfoldable pub run : ℕ → Reader (List ℕ)
run len at = do
  r ← run_at len at.bytes at.place
  Ok (r, moved len at)

-- ---- tags

unfoldable pub tagged : ℕ → Reader ℕ
tagged tag at = checked (λ n. nat_eq n tag) (λ place. BadTag place) (number w8) at

-- what stands behind this tag
abbrev pub behind : {X : Type 0} → ℕ → Reader X → Reader X
behind tag read = made (λ p. p.1) (both (tagged tag) read)

-- what stands behind this tag, or what the others read, who look at the tag anew
abbrev pub branch : {X : Type 0} → ℕ → Reader X → Reader X → Reader X
branch tag this others at = do
  k ← number w8 at
  if nat_eq k.0 tag then this k.1 else others at

-- where the tag is none of those that were looked for
abbrev pub no_branch : {X : Type 0} → Reader X
no_branch at = do
  k ← number w8 at
  Err (BadTag at.place)

-- ---- counts and lengths

-- a count or a length of at most so many
unfoldable pub limited : Width → ℕ → Reader ℕ
limited w most at = checked (λ n. nat_le n most) (λ place. TooLarge place) (number w) at

-- a length of at most so many, and that many bytes
unfoldable pub sized : Width → ℕ → Reader (List ℕ)
sized w most at = made (λ p. p.1) (next (limited w most) run) at

-- a count of at most so many in one byte, and that many items. The first of them has none before it
abbrev pub counted : {X K : Type 0} → ℕ → (K → Reader X) → (X → K) → K → Reader (List X)
counted most item key none = made (λ p. p.1) (next (limited w8 most) (λ n. items item key n none))

-- ---- bytes and digests

-- a key or a value
abbrev pub short_bytes : ℕ → Reader (List ℕ)
short_bytes longest = sized w8 longest

abbrev pub signature : Reader (List ℕ)
signature = sized w16 LONGEST_SIGNATURE

unfoldable pub digest : Reader Hash32
digest at = made (λ r. record { bytes = r }) (run 32) at

-- ---- signers and slots

abbrev pub to_replica : ℕ × ℕ → ReplicaId
to_replica (cluster, index) = record { cluster = cluster; index = index }

unfoldable pub replica : Reader ReplicaId
replica at = made to_replica (both (number w8) (number w8)) at

-- a signer, who comes after the one before it in its list, if it stands in a list and isn't the first
unfoldable pub signer : Option ReplicaId → Reader ReplicaId
signer last at = checked (comes_after comes_before last) (λ place. NotAscending place) replica at

-- a slot, which comes after the one before it in its list
unfoldable pub next_slot : Option ℕ → Reader ℕ
next_slot last at = checked (comes_after nat_lt last) (λ place. NotAscending place) (number w64) at
