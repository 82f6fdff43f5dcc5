-- Who takes part in a fabric, its settings, and the limits of both (ours).
use Rattle.std.specs.Prelude.{ℕ, ◌≤◌, List, length, sum, All}
use Rattle.fab_base.specs.declared.limits.TheConstants.{MOST_CLUSTERS, MOST_MEMBERS, MOST_REPLICAS, MOST_CLIENTS, MOST_SLOTS, MOST_REQUESTS}

pub record Roster : Type 0 where
  -- the number of replicas of each cluster; clusters are counted from 1
  pub sizes : List ℕ
  -- the home cluster of each client; clients are counted from 0
  pub homes : List ℕ
  -- how many slots above the low mark are open at once
  pub window : ℕ
  -- each so many rounds there is a checkpoint
  pub interval : ℕ
  -- the greatest number of requests of a batch
  pub batch : ℕ

pub record IsWithinLimits (r : Roster) : Type 0 where
  pub clusters : length r.sizes ≤ MOST_CLUSTERS
  pub replicas : All (λ n. (1 ≤ n) × (n ≤ MOST_MEMBERS)) r.sizes
  pub replicas_in_all : sum r.sizes ≤ MOST_REPLICAS
  pub clients : length r.homes ≤ MOST_CLIENTS
  pub homes : All (λ c. (1 ≤ c) × (c ≤ length r.sizes)) r.homes
  pub window : (1 ≤ r.window) × (r.window ≤ MOST_SLOTS)
  pub interval : (1 ≤ r.interval) × (r.interval ≤ r.window)
  pub batch : (1 ≤ r.batch) × (r.batch ≤ MOST_REQUESTS)
