-- The rows of the ring: where a key stands, and that they are the flat list of keys, cut.
use Rattle.std.proofs.Common.{◌≡◌, ℕ, zero, suc, ◌+◌, ◌-◌, ◌<◌, ◌≤◌, Bool, true, false, cond, nat_le, List, [], ◌∷◌, ◌++◌, map, length, take, drop, sum, Some, None, inl, inr, refl, sym, ap, subst, ◌∙◌, arith, length-append}
use Rattle.std.specs.Prelude.{◌==◌, IfOk, Result, Ok, Err}
use Rattle.std.specs.List.{range_with_len, list_all, slice_get, fold}
use Rattle.std.proofs.lemmas.List.FromFn.{length-map-range_with_len}
use Rattle.std.proofs.lemmas.List.{length-map}
use Rattle.fab_base.specs.declared.ids.ReplicaId.{ReplicaId}
use Rattle.fab_base.specs.declared.ids.Who.{Who}
use Rattle.fault_script.specs.declared.scripts.Script.{Script}
use Rattle.lms_tree.specs.declared.public.Public.{Public}
use Rattle.lms_tree.specs.declared.heights.Height.TheVariants.{H5, H10}
use Rattle.lms_tree.specs.Keys.{TreeKey, public_of_key}
use Rattle.lms_leaf.specs.Leaves.{Leaves}
use Rattle.fab_base.proofs.Tests.{is_at_most}
use Rattle.fab_rules.specs.Lists.{In}
use Rattle.fab_rules.proofs.Lists.{in_append_cases, of_map, of_range_with_len}
use Rattle.bft_verify.specs.Rows.{rows}
use Rattle.bft_verify.specs.Ring.{Ring, key_among, key_of, is_low, is_fabric_key}
use Rattle.script_keys.specs.Keys.{public_of, members_of, replicas_from, replicas_of, signer_of, signers_of, key_of as key_for, client, client_keys_of}
use Rattle.script_keys.specs.Rings.{rows_from, ring_of}
use Rattle.script_keys.proofs.Listing.{map_twice, map_both, all_mapped, counted_at}

abbrev ring_by : List (List Public) → List Public → Ring
ring_by replicas clients = record { replicas = replicas; clients = clients }

module _ (script : Script) where
  abbrev of_replica : ReplicaId → Public
  of_replica i = public_of script (Who.Replica i)

  -- ---- the flat list

  taken : {A : Type 0} (n : ℕ) (xs ys : List A) → length xs ≡ n → take n (xs ++ ys) ≡ xs
  taken zero [] ys e = refl
  taken (suc n) [] ys e = absurd (omega arith)
  taken zero (x ∷ xs) ys e = absurd (omega arith)
  taken (suc n) (x ∷ xs) ys e = ap (λ l. x ∷ l) (taken n xs ys (omega arith))

  dropped : {A : Type 0} (n : ℕ) (xs ys : List A) → length xs ≡ n → drop n (xs ++ ys) ≡ ys
  dropped zero [] ys e = refl
  dropped (suc n) [] ys e = absurd (omega arith)
  dropped zero (x ∷ xs) ys e = absurd (omega arith)
  dropped (suc n) (x ∷ xs) ys e = dropped n xs ys (omega arith)

  row_long : (cluster n : ℕ) → length (map of_replica (members_of cluster n)) ≡ n
  row_long cluster n = length-map (members_of cluster n) of_replica ∙ length-map-range_with_len (λ index. record { cluster = cluster; index = index }) 0 n

  pub cut : (cluster : ℕ) (sizes : List ℕ) → rows sizes (map of_replica (replicas_from cluster sizes)) ≡ rows_from script cluster sizes
  cut cluster [] = refl
  cut cluster (n ∷ sizes) =
      let row = map of_replica (members_of cluster n) in
      let rest = map of_replica (replicas_from (cluster + 1) sizes) in
      ap (rows (n ∷ sizes)) (map_both of_replica (members_of cluster n) (replicas_from (cluster + 1) sizes))
      ∙ ap (λ l. l ∷ rows sizes (drop n (row ++ rest))) (taken n row rest (row_long cluster n))
      ∙ ap (λ l. row ∷ rows sizes l) (dropped n row rest (row_long cluster n))
      ∙ ap (λ l. row ∷ l) (cut (cluster + 1) sizes)

  summed : (a : ℕ) (xs : List ℕ) → fold ◌+◌ a xs ≡ a + sum xs
  summed a [] = omega arith
  summed a (x ∷ xs) = omega (arith, summed (a + x) xs, summed (0 + x) xs)

  sum_more : (n : ℕ) (xs : List ℕ) → n + sum xs ≡ sum (n ∷ xs)
  sum_more n xs = omega (arith, summed (0 + n) xs)

  all_long : (cluster : ℕ) (sizes : List ℕ) → length (map of_replica (replicas_from cluster sizes)) ≡ sum sizes
  all_long cluster [] = refl
  all_long cluster (n ∷ sizes) =
      ap length (map_both of_replica (members_of cluster n) (replicas_from (cluster + 1) sizes))
      ∙ length-append (map of_replica (members_of cluster n)) (map of_replica (replicas_from (cluster + 1) sizes))
      ∙ ap (λ k. k + length (map of_replica (replicas_from (cluster + 1) sizes))) (row_long cluster n)
      ∙ ap (λ k. n + k) (all_long (cluster + 1) sizes) ∙ sum_more n sizes

  low_by : (b : Bool) → is_low (cond b H5 H10) ≡ true
  low_by true = refl
  low_by false = refl

  replica_kind : (i : ReplicaId) → is_fabric_key (of_replica i) ≡ true
  replica_kind i = low_by (script.height == 5)

  -- ---- from the signers and keys of the code

  replicas_public : (signers : List Leaves) → signers ≡ signers_of script
      → map (λ (s : Leaves). public_of_key s.key) signers ≡ map of_replica (replicas_of script)
  replicas_public signers e =
      ap (map (λ (s : Leaves). public_of_key s.key)) e
      ∙ map_twice (λ (s : Leaves). public_of_key s.key) (λ i. signer_of script (Who.Replica i)) (replicas_of script)

  clients_public : (keys : List TreeKey) → keys ≡ client_keys_of script
      → map (λ (k : TreeKey). public_of_key k) keys ≡ (ring_of script).clients
  clients_public keys e =
      ap (map (λ (k : TreeKey). public_of_key k)) e
      ∙ map_twice (λ (k : TreeKey). public_of_key k) (λ number. key_for script (client number)) (range_with_len 0 (length script.homes))

  pub record Flat (publics : List Public) : Type 0 where
    pub long : length publics ≡ sum script.sizes
    pub kinds : list_all is_fabric_key publics ≡ true
    pub rows_are : rows script.sizes publics ≡ (ring_of script).replicas

  pub flat : (publics : List Public) (signers : List Leaves) → publics ≡ map (λ (s : Leaves). public_of_key s.key) signers
      → signers ≡ signers_of script → Flat publics
  flat publics signers p e =
      let is : map of_replica (replicas_of script) ≡ publics = sym (p ∙ replicas_public signers e) in
      subst (λ (l : List Public). Flat l) is
      (record { long = all_long 1 script.sizes; kinds = all_mapped is_fabric_key of_replica replica_kind (replicas_of script); rows_are = cut 1 script.sizes })

  pub record Counted (publics : List Public) : Type 0 where
    pub long : length publics ≡ length script.homes
    pub kinds : list_all is_fabric_key publics ≡ true
    pub is : publics ≡ (ring_of script).clients

  pub counted : (publics : List Public) (keys : List TreeKey) → publics ≡ map (λ (k : TreeKey). public_of_key k) keys
      → keys ≡ client_keys_of script → Counted publics
  counted publics keys p e =
      let is : (ring_of script).clients ≡ publics = sym (p ∙ clients_public keys e) in
      subst (λ (l : List Public). Counted l) is
      (record {
        long = length-map-range_with_len (λ number. public_of script (client number)) 0 (length script.homes);
        kinds = all_mapped is_fabric_key (λ number. public_of script (client number)) (λ number. refl) (range_with_len 0 (length script.homes));
        is = refl;
      })

  -- ---- where a key stands

  pub record Stands (cluster : ℕ) (rows : List (List Public)) (i : ReplicaId) : Type 0 where
    pub from : cluster ≤ i.cluster
    pub at : key_among (slice_get rows (i.cluster - cluster)) i.index ≡ Some (of_replica i)

  here : (cluster n k : ℕ) (rest : List (List Public)) → k < n
      → Stands cluster (map of_replica (members_of cluster n) ∷ rest) (record { cluster = cluster; index = k })
  here cluster n k rest lt =
      let row = map of_replica (members_of cluster n) in
      let none : cluster - cluster ≡ 0 = omega arith in
      let zero_on : 0 + k ≡ k = omega arith in
      record {
        from = omega arith;
        at = ap (λ c. key_among (slice_get (row ∷ rest) c) k) none
            ∙ ap (λ l. slice_get l k) (map_twice of_replica (λ index. record { cluster = cluster; index = index }) (range_with_len 0 n))
            ∙ counted_at (λ index. of_replica (record { cluster = cluster; index = index })) 0 n k lt
            ∙ ap (λ index. Some (of_replica (record { cluster = cluster; index = index }))) zero_on;
      }

  pub stands : (cluster : ℕ) (sizes : List ℕ) (i : ReplicaId) → In i (replicas_from cluster sizes) → Stands cluster (rows_from script cluster sizes) i
  stands cluster [] i h = absurd h
  stands cluster (n ∷ sizes) i h =
      elim (in_append_cases i (members_of cluster n) (replicas_from (cluster + 1) sizes) h) [
        | inl member ↦
            (let m = of_map (λ index. record { cluster = cluster; index = index }) i (range_with_len 0 n) member in
            let within = of_range_with_len 0 n m.from m.is_in in
            subst (Stands cluster (rows_from script cluster (n ∷ sizes))) m.same
            (here cluster n m.from (rows_from script (cluster + 1) sizes) (omega (arith, within.1))))
        | inr later ↦
            (let s = stands (cluster + 1) sizes i later in
            let on : i.cluster - cluster ≡ suc (i.cluster - (cluster + 1)) = omega (arith, s.from) in
            record {
              from = omega (arith, s.from);
              at = ap (λ c. key_among (slice_get (rows_from script cluster (n ∷ sizes)) c) i.index) on ∙ s.at;
            })
      ]

  by_number : (i : ReplicaId) (b : Bool) → b ≡ true → key_among (slice_get (rows_from script 1 script.sizes) (i.cluster - 1)) i.index ≡ Some (of_replica i)
      → key_among (cond b (slice_get (rows_from script 1 script.sizes) (i.cluster - 1)) None) i.index ≡ Some (of_replica i)
  by_number i true e h = h
  by_number i false e h = absurd cc

  pub replica_in_ring : (i : ReplicaId) → In i (replicas_of script) → key_of (ring_of script) (Who.Replica i) ≡ Some (of_replica i)
  replica_in_ring i h =
      let s = stands 1 script.sizes i h in by_number i (nat_le 1 i.cluster) (is_at_most 1 i.cluster s.from) s.at

  pub client_in_ring : (number : ℕ) → number < length script.homes → key_of (ring_of script) (client number) ≡ Some (public_of script (client number))
  client_in_ring number lt =
      let zero_on : 0 + number ≡ number = omega arith in
      counted_at (λ n. public_of script (client n)) 0 (length script.homes) number lt ∙ ap (λ n. Some (public_of script (client n))) zero_on

  -- ---- the ring that is made of them

  same_rows : (sizes : List ℕ) (publics clients : List Public) → sizes ≡ script.sizes → Flat publics → Counted clients
      → ring_by (rows sizes publics) clients ≡ ring_of script
  same_rows sizes publics clients e f c =
      ap (λ (l : List ℕ). ring_by (rows l publics) clients) e ∙ ap (λ (l : List (List Public)). ring_by l clients) f.rows_are
      ∙ ap (λ (l : List Public). ring_by (ring_of script).replicas l) c.is

  pub same_ring : {E : Type 0} (sizes : List ℕ) (publics clients : List Public) (result : Result Ring E) → sizes ≡ script.sizes → Flat publics → Counted clients
      → IfOk result (λ ring. ring ≡ ring_by (rows sizes publics) clients) → IfOk result (λ ring. ring ≡ ring_of script)
  same_ring sizes publics clients (Ok ring) e f c h = h ∙ same_rows sizes publics clients e f c
  same_ring sizes publics clients (Err x) e f c h = tt
