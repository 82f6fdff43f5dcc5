-- What a contract sees of the rounds that a replica keeps and executes, and which certificates may be kept (GeoBFT; the limits are ours).
use Rattle.std.specs.Prelude.{ℕ, ◌&&◌, Bool, List, nat_eq, nat_le, nat_lt, Option, Some, None, Result, Ok, Err}
use Rattle.std.specs.List.{list_all}
use Rattle.fab_base.specs.declared.requests.Request.{Request}
use Rattle.fab_base.specs.declared.messages.CommitCert.{CommitCert}
use Rattle.fab_rules.specs.declared.blocks.Block.{Block}
use Rattle.fab_rules.specs.Format.{batch_fits}
use Rattle.fab_machine.specs.State.{Rounds}
use Rattle.fab_machine.specs.Rounds.{round_of}

pub record Book : Type 0 where
  -- how many clusters there are, numbered from 1, and how many clients, numbered from 0
  pub clusters : ℕ
  pub clients : ℕ
  pub rounds : Rounds

-- whether the requests are of so many clients
abbrev pub are_clients : ℕ → List Request → Bool
are_clients clients batch = list_all (λ x. nat_lt x.client.number clients) batch

-- whether a certificate is of one of so many clusters, has a batch that fits, and is for a slot
abbrev pub is_keepable : ℕ → ℕ → CommitCert → Bool
is_keepable clusters clients k =
    (nat_le 1 k.cluster && nat_le k.cluster clusters) && (nat_le 1 (round_of k) && (batch_fits k.batch && are_clients clients k.batch))

-- whether a certificate is of the cluster, and of a round from one up to another
abbrev pub is_between : ℕ → ℕ → ℕ → CommitCert → Bool
is_between cluster from upto k = nat_eq k.cluster cluster && (nat_le from (round_of k) && nat_le (round_of k) upto)

-- the same, with these rounds
abbrev pub with_rounds : Book → Rounds → Book
with_rounds b rounds = record { clusters = b.clusters; clients = b.clients; rounds = rounds }

-- the first cluster that is missing, where one is
abbrev pub missing_of : Result (List Block) ℕ → Option ℕ
missing_of (Ok blocks) = None
missing_of (Err cluster) = Some cluster
