-- The members of a cluster, one more.
use Rattle.std.proofs.Common.{◌≡◌, ℕ, ◌+◌, List, [], ◌∷◌, ◌++◌, sym, ap, ◌∙◌, arith, append_assoc}
use Rattle.std.proofs.lemmas.List.FromFn.{map-range_with_len_more}
use Rattle.fab_base.specs.declared.ids.ReplicaId.{ReplicaId}
use Rattle.fab_base.specs.Roster.{members_of}

abbrev member : ℕ → ℕ → ReplicaId
member cluster index = record { cluster = cluster; index = index }

pub members_more : (l before : List ReplicaId) (cluster n : ℕ) → l ≡ before ++ members_of cluster n
    → l ++ member cluster n ∷ [] ≡ before ++ members_of cluster (n + 1)
members_more l before cluster n e =
    let zero_on : 0 + n ≡ n = omega arith in
    ap (λ (k : List ReplicaId). k ++ member cluster n ∷ []) e ∙ append_assoc before (members_of cluster n) (member cluster n ∷ [])
    ∙ ap (λ (k : List ReplicaId). before ++ k) (sym (map-range_with_len_more (member cluster) 0 n n zero_on))
