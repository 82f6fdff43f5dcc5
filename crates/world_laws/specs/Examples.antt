-- Small worlds to compute in: a cluster of four with two clients, two clusters of four with a client each, and messages in them.
use Rattle.std.specs.Prelude.{ℕ, List, [], ◌∷◌, replicate}
use Rattle.fab_base.specs.Limits.{Roster}
use Rattle.fab_base.specs.declared.ids.ReplicaId.{ReplicaId}
use Rattle.fab_base.specs.declared.ids.Hash32.{Hash32}
use Rattle.fab_base.specs.declared.requests.Op.{Op}
use Rattle.fab_base.specs.declared.requests.Request.{Request}
use Rattle.fab_base.specs.declared.messages.PrePrepare.{PrePrepare}
use Rattle.fab_base.specs.declared.messages.Vote.{Vote}
use Rattle.fab_base.specs.declared.messages.PreparedCert.{PreparedCert}
use Rattle.fab_base.specs.declared.messages.CommitCert.{CommitCert}
use Rattle.fab_base.specs.declared.messages.ViewChange.{ViewChange}
use Rattle.fab_base.specs.declared.messages.NewView.{NewView}
use Rattle.fab_base.specs.declared.messages.Plea.{Plea}
use Rattle.fab_base.specs.declared.messages.Note.{Note}
use Rattle.fab_base.specs.declared.messages.Ask.{Ask}
use Rattle.fab_base.specs.declared.messages.NoteLine.{NoteLine}
use Rattle.fab_base.specs.declared.requests.Outcome.{Outcome}
use Rattle.fab_rules.specs.declared.blocks.Block.{Block}
use Rattle.fab_base.specs.declared.messages.StableVote.{StableVote}

-- one cluster of four replicas, with two clients
abbrev pub four : Roster
four = record { sizes = 4 ∷ []; homes = 1 ∷ 1 ∷ []; window = 16; interval = 8; batch = 8 }

-- two clusters of four replicas: client 0 is of the first, client 1 of the second
abbrev pub four_and_four : Roster
four_and_four = record { sizes = 4 ∷ 4 ∷ []; homes = 1 ∷ 2 ∷ []; window = 16; interval = 8; batch = 8 }

-- a member of the first cluster
abbrev pub member : ℕ → ReplicaId
member index = record { cluster = 1; index = index }

-- 32 bytes that stand for a digest
abbrev pub sevens : Hash32
sevens = record { bytes = replicate 32 7 }

-- ---- new views

abbrev pub certificate : ℕ → ℕ → List Request → List Vote → PreparedCert
certificate view slot batch votes = record { view = view; slot = slot; batch = batch; votes = votes }

-- a change with low mark 0
abbrev pub change : ℕ → ℕ → List PreparedCert → ViewChange
change index view prepared = record { signer = member index; view = view; low = 0; proof = []; prepared = prepared; sig = [] }

abbrev pub new_view : ℕ → List ViewChange → NewView
new_view view changes = record { signer = member view; view = view; changes = changes; sig = [] }

-- a NewView of view 1: one of three changes has a certificate of slot 2
abbrev pub one_certificate : List Request → List Vote → NewView
one_certificate b votes = new_view 1 (change 0 1 [] ∷ change 1 1 (certificate 0 2 b votes ∷ []) ∷ change 2 1 [] ∷ [])

-- a NewView of view 2: certificates of slot 2 from view 0 and from view 1
abbrev pub two_certificates : List Request → List Request → List Vote → NewView
two_certificates a b votes =
    new_view 2 (change 0 2 (certificate 0 2 a votes ∷ []) ∷ change 1 2 (certificate 1 2 b votes ∷ []) ∷ change 3 2 [] ∷ [])

-- a change that has something of each kind inside it
abbrev pub full_change : StableVote → Request → Vote → Vote → ViewChange
full_change x r v w = record (change 0 1 (certificate 0 2 (r ∷ []) (v ∷ w ∷ []) ∷ [])) { proof = x ∷ [] }

abbrev pub full_new_view : StableVote → Request → Vote → Vote → NewView
full_new_view x r v w = new_view 1 (full_change x r v w ∷ change 2 1 [] ∷ [])

-- a Checkpoint of a round
abbrev pub checkpoint : ℕ → ℕ → StableVote
checkpoint index round = record { signer = member index; round = round; digest = sevens; sig = [] }

-- a change with a low mark, and three Checkpoints of round 8 as its proof
abbrev pub proved_change : ℕ → ViewChange
proved_change low = record (change 2 1 []) { low = low; proof = checkpoint 0 8 ∷ checkpoint 1 8 ∷ checkpoint 2 8 ∷ [] }

-- a change for view 1 with a certificate of slot 1: its view, its batch, and how many Prepares it has
abbrev pub change_with : ℕ → List Request → List Vote → ViewChange
change_with view batch votes = change 2 1 (certificate view 1 batch votes ∷ [])

-- ---- votes and proposals

abbrev pub vote : ℕ → ℕ → ℕ → Hash32 → Vote
vote index view slot digest = record { signer = member index; view = view; slot = slot; digest = digest; sig = [] }

-- three Prepares of slot 1
abbrev pub three_votes : ℕ → List Vote
three_votes view = vote 0 view 1 sevens ∷ vote 1 view 1 sevens ∷ vote 2 view 1 sevens ∷ []

abbrev pub proposal : ℕ → ℕ → ℕ → List Request → PrePrepare
proposal index view slot batch = record { signer = member index; view = view; slot = slot; batch = batch; sig = [] }

abbrev pub put : ℕ → ℕ → Request
put client stamp = record { client = record { number = client }; stamp = stamp; op = Op.Put (120 ∷ []) (97 ∷ []); sig = [] }

-- the request of a client to put `1` to `a`
abbrev pub put_one : ℕ → ℕ → Request
put_one client stamp = record { client = record { number = client }; stamp = stamp; op = Op.Put (97 ∷ []) (49 ∷ []); sig = [] }

-- the null batch's certificate, with these Commits
abbrev pub share : List Vote → CommitCert
share votes = record { cluster = 1; batch = []; votes = votes }

abbrev pub plea : ℕ → Plea
plea target = record { signer = member 0; target = target; round = 1; count = 0; sig = [] }

-- a note of round 3 with these lines
abbrev pub note_of : List NoteLine → Note
note_of lines = record { signer = member 0; round = 3; digest = sevens; lines = lines; sig = [] }

-- replica 2.3 asks for cluster 1's certificate of round 5
abbrev pub ask : Ask
ask = record { asker = record { cluster = 2; index = 3 }; cluster = 1; round = 5 }

-- a number below 256 in eight bytes
abbrev pub in_eight : ℕ → List ℕ
in_eight n = 0 ∷ 0 ∷ 0 ∷ 0 ∷ 0 ∷ 0 ∷ 0 ∷ n ∷ []

-- ---- ledgers

-- the cluster's block of a round
abbrev pub block : ℕ → List Request → Block
block round batch = record { round = round; cluster = 1; batch = batch }

abbrev pub line : ℕ → ℕ → Outcome → NoteLine
line client stamp outcome = record { client = record { number = client }; stamp = stamp; outcome = outcome }
