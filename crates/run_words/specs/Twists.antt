-- What leaves a replica: which copies of an item are put, and what becomes of each (ours). A correct replica puts one copy for each receiver, as it
-- is. Losses and repeats strike all replicas alike.
use Rattle.std.specs.Prelude.{ℕ, ◌+◌, ◌%◌, ◌==◌, nat_lt, Bool, true, false, cond, not, ◌&&◌, List, [], ◌∷◌, ◌++◌, length, Option, Some, None}
use Rattle.std.specs.List.{count_by, list_any}
use Rattle.std.specs.Int.Bits.{bit_xor}
use Rattle.fab_base.specs.declared.ids.ReplicaId.{ReplicaId}
use Rattle.fab_base.specs.declared.requests.Request.{Request}
use Rattle.fab_base.specs.declared.messages.Message.{Message}
use Rattle.fab_rules.specs.Spelling.{spelling_of}
use Rattle.fab_rules.specs.Statements.{signer_of}
use Rattle.fab_machine.specs.Items.{is_own}
use Rattle.fault_script.specs.declared.twists.Fault.{Fault}
use Rattle.fault_script.specs.declared.twists.Loss.{Loss}
use Rattle.run_words.specs.Keyed.{is_same}
use Rattle.run_words.specs.declared.logs.Parcel.{Parcel}

-- ---- losses and repeats

abbrev pub divides : ℕ → ℕ → Bool
divides n k = (k % n) == 0

-- whether a line's sender is this one: `any` is every replica but the receiver
abbrev pub is_from : Option ReplicaId → ReplicaId → ReplicaId → Bool
is_from None from to = not (is_same from to)
is_from (Some i) from to = is_same i from

-- whether a line names a copy: it is number `all_k` of the link, from 1, and number `share_k` of the link's certificates where it is one
abbrev pub names : ReplicaId → ReplicaId → Bool → ℕ → ℕ → Loss → Bool
names from to share all_k share_k line =
    (is_same line.to to && is_from line.from from to)
    && cond line.share (share && divides line.every share_k) (divides line.every all_k)

-- how often a copy passes: not at all where any line loses it; else once, and once more for each line that repeats it
unfoldable pub passes : List Loss → ReplicaId → ReplicaId → Bool → ℕ → ℕ → ℕ
passes losses from to share all_k share_k =
    cond (list_any (λ line. not line.again && names from to share all_k share_k line) losses) 0
    (1 + count_by (λ line. line.again && names from to share all_k share_k line) losses)

-- ---- the null proposal beside a proposal

abbrev pub is_null : List Request → Bool
is_null [] = true
is_null (x ∷ rest) = false

abbrev pub is_equivocate : Option Fault → Bool
is_equivocate (Some Fault.Equivocate) = true
is_equivocate fault = false

-- a proposal of the replica's own that isn't null
abbrev pub is_proposal : ReplicaId → Message → Bool
is_proposal me (Message.PrePrepare x) = is_own me (signer_of (Message.PrePrepare x)) && not (is_null x.batch)
is_proposal me x = false

-- one of the same view and slot, with the null batch, not signed
abbrev pub null_of : Message → Message
null_of (Message.PrePrepare x) = Message.PrePrepare (record x { batch = []; sig = [] })
null_of x = x

-- whether one stands beside what the replica sends, of which the own signature has this number: where a further leaf is left
unfoldable pub is_beside : ReplicaId → ℕ → Option Fault → ℕ → Message → Bool
is_beside me leaves fault k x = (is_equivocate fault && is_proposal me x) && nat_lt (k + 1) leaves

-- ---- the copies of an item

-- one copy, before it is numbered
pub record Copy : Type 0 where
  pub to : ReplicaId
  -- whether it is of a certificate
  pub share : Bool
  pub bytes : List ℕ

abbrev pub is_share : Message → Bool
is_share (Message.Share x) = true
is_share x = false

abbrev pub copy_as : Message → ReplicaId → Message → Copy
copy_as x to sent = record { to = to; share = is_share x; bytes = spelling_of sent }

abbrev pub is_odd : ℕ → Bool
is_odd k = not (divides 2 k)

-- what goes to one receiver, of a message with this null proposal beside it, where there is one
abbrev pub copies_by : Option Fault → Bool → Option Message → Message → ReplicaId → List Copy
copies_by None proposal beside x to = copy_as x to x ∷ []
copies_by (Some Fault.Silent) proposal beside x to = []
copies_by (Some Fault.Equivocate) true (Some null) x to = cond (is_odd to.index) (copy_as x to null ∷ []) (copy_as x to x ∷ [])
copies_by (Some Fault.Equivocate) true None x to = cond (is_odd to.index) [] (copy_as x to x ∷ [])
copies_by (Some Fault.Equivocate) false beside x to = copy_as x to x ∷ []
copies_by (Some (Fault.Withhold cluster)) proposal beside x to = cond (is_share x && to.cluster == cluster) [] (copy_as x to x ∷ [])
copies_by (Some (Fault.Garble every)) proposal beside x to = copy_as x to x ∷ []
copies_by (Some Fault.Replay) proposal beside x to = copy_as x to x ∷ copy_as x to x ∷ []

abbrev pub copies_from : Option Fault → Bool → Option Message → Message → List ReplicaId → List Copy
copies_from fault proposal beside x [] = []
copies_from fault proposal beside x (to ∷ rest) = copies_by fault proposal beside x to ++ copies_from fault proposal beside x rest

-- ---- what is done to the bytes of a copy

abbrev pub spoil_last : List ℕ → List ℕ
spoil_last [] = []
spoil_last (b ∷ []) = bit_xor b 1 ∷ []
spoil_last (b ∷ c ∷ rest) = b ∷ spoil_last (c ∷ rest)

-- the parcel of this number, from 1, of those that a replica puts
abbrev pub spoiled : Option Fault → ℕ → List ℕ → List ℕ
spoiled (Some (Fault.Garble every)) k bytes = cond (divides every k) (spoil_last bytes) bytes
spoiled fault k bytes = bytes

-- ---- parcels

abbrev pub sent_to : ReplicaId → List Parcel → ℕ
sent_to to parcels = count_by (λ q. is_same to q.to) parcels

abbrev pub shares_to : ReplicaId → List ReplicaId → ℕ
shares_to to shares = count_by (λ i. is_same to i) shares

abbrev pub shares_of : List Copy → List ReplicaId
shares_of [] = []
shares_of (c ∷ rest) = cond c.share (c.to ∷ shares_of rest) (shares_of rest)

-- a copy becomes a parcel behind these parcels, and behind certificates that went to these receivers
abbrev pub parcel_of : ReplicaId → List Loss → Option Fault → ℕ → List Parcel → List ReplicaId → Copy → Parcel
parcel_of me losses fault time earlier shares c = record {
  to = c.to;
  number = sent_to c.to earlier;
  time = time;
  bytes = spoiled fault (length earlier + 1) c.bytes;
  passes = passes losses me c.to c.share (sent_to c.to earlier + 1) (shares_to c.to shares + cond c.share 1 0);
}

-- the copies of one item, in order
abbrev pub put : ReplicaId → List Loss → Option Fault → ℕ → List Parcel → List ReplicaId → List Copy → List Parcel
put me losses fault time earlier shares [] = []
put me losses fault time earlier shares (c ∷ rest) =
    let p = parcel_of me losses fault time earlier shares c in
    p ∷ put me losses fault time (earlier ++ p ∷ []) (shares ++ shares_of (c ∷ [])) rest
