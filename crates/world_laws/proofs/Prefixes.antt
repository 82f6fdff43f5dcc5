-- Across replicas and clusters: ledgers of correct replicas begin one another, and the longest of them begins with all.
use Rattle.std.proofs.Common.{◌≡◌, ℕ, ◌+◌, ◌/◌, ◌%◌, ◌<◌, ◌≤◌, Bool, true, false, cond, not, nat_lt, List, [], ◌∷◌, ◌++◌, length, map, ◌⊎◌, inl, inr, refl, sym, ap, subst, ◌∙◌, arith}
use Rattle.std.specs.List.{filter, range_with_len}
use Rattle.std.proofs.lemmas.List.{nil_from_length}
use Rattle.std.proofs.lemmas.Bool.Decides.{nat_tests}
use Rattle.fab_base.specs.Limits.{Roster}
use Rattle.fab_base.specs.Roster.{is_cluster, is_replica, size_of}
use Rattle.fab_base.specs.declared.ids.ReplicaId.{ReplicaId}
use Rattle.fab_base.specs.declared.ids.Who.{Who}
use Rattle.fab_base.specs.declared.ids.Hash32.{Hash32}
use Rattle.fab_rules.specs.declared.blocks.Block.{Block}
use Rattle.fab_rules.specs.Lists.{In, IsPrefixOf}
use Rattle.fab_rules.specs.Digests.{batch_digest}
use Rattle.fab_rules.specs.Diary.{Entry, Heard, Said, Did, ledger, CommitHeard, QuorumHeard}
use Rattle.fab_rules.specs.Rules.{WholeRounds, KeepsRules}
use Rattle.world_laws.specs.World.{World, member_of, IsCorrect, AllHonest, IsKnown, NoClash, OneCertificate, replicas_of, longest, common_ledger}
use Rattle.world_laws.specs.Safety.{IsInOrder}
use Rattle.fab_rules.proofs.Lists.{in_append_cases, in_map, of_map, in_flat_map, of_flat_map, in_filter, of_filter, in_range_with_len, of_range_with_len, prefix_refl, prefix_more}
use Rattle.fab_rules.proofs.Diaries.{kept}

-- ---- one ledger

-- a block of a ledger was done
was_done : (block : Block) (diary : List Entry) → In block (ledger diary) → In (Did block) diary
was_done block [] h = absurd h
was_done block (Heard m ∷ past) h = inr (was_done block past h)
was_done block (Said m ∷ past) h = inr (was_done block past h)
was_done block (Did other ∷ past) h =
    elim (in_append_cases block (ledger past) (other ∷ []) h) [ inl k ↦ inr (was_done block past k) | inr (inl e) ↦ inl (ap Did e) | inr (inr k) ↦ absurd k ]

-- a block more, of the next place
in_order_push : (z k n : ℕ) (blocks : List Block) (block : Block) → IsInOrder z k blocks → n ≡ k + length blocks → block.round ≡ n / z + 1
    → block.cluster ≡ n % z + 1 → IsInOrder z k (blocks ++ block ∷ [])
in_order_push z k n [] block h e r c =
    let here : n ≡ k = omega arith in
    (subst (λ x. block.round ≡ x / z + 1) here r, subst (λ x. block.cluster ≡ x % z + 1) here c, tt)
in_order_push z k n (x ∷ rest) block h e r c = (h.0, h.1, in_order_push z (k + 1) n rest block h.2 (omega arith) r c)

-- the ledger of an honest diary is in order
pub ledger_in_order : (r : Roster) (i : ReplicaId) (diary : List Entry) → KeepsRules r i diary → IsInOrder (length r.sizes) 0 (ledger diary)
ledger_in_order r i [] rules = tt
ledger_in_order r i (Heard m ∷ past) rules = ledger_in_order r i past rules.1
ledger_in_order r i (Said m ∷ past) rules = ledger_in_order r i past rules.1
ledger_in_order r i (Did block ∷ past) rules =
    in_order_push (length r.sizes) 0 (length (ledger past)) (ledger past) block (ledger_in_order r i past rules.1) (omega arith) rules.0.round_is rules.0.cluster_is

-- ---- two ledgers

-- of two lists in order whose blocks agree, the shorter begins the longer
shorter_begins : (z k : ℕ) (xs ys : List Block) → IsInOrder z k xs → IsInOrder z k ys
    → ((a b : Block) → In a xs → In b ys → a.round ≡ b.round → a.cluster ≡ b.cluster → a ≡ b) → length xs ≤ length ys → IsPrefixOf xs ys
shorter_begins z k [] ys p q agree short = (ys, refl)
shorter_begins z k (x ∷ xs) [] p q agree short = absurd (omega arith)
shorter_begins z k (x ∷ xs) (y ∷ ys) p q agree short =
    let same = agree x y (inl refl) (inl refl) (p.0 ∙ sym q.0) (p.1 ∙ sym q.1) in
    let rest = shorter_begins z (k + 1) xs ys p.2 q.2 (λ a b h l. agree a b (inr h) (inr l)) (omega arith) in
    subst (λ y. IsPrefixOf (x ∷ xs) (y ∷ ys)) same (prefix_more x xs ys rest)

same_block : (a b : Block) → a.round ≡ b.round → a.cluster ≡ b.cluster → a.batch ≡ b.batch → a ≡ b
same_block a b e f g =
    ap (λ x. record { round = x; cluster = a.cluster; batch = a.batch }) e ∙
    (ap (λ x. record { round = b.round; cluster = x; batch = a.batch }) f ∙ ap (λ x. record { round = b.round; cluster = b.cluster; batch = x }) g)

-- what is known of a block in a correct replica's ledger
pub record Certified (w : World) (block : Block) : Type 0 where
  pub cluster : is_cluster w.roster block.cluster ≡ true
  pub replica : ReplicaId
  pub correct : IsCorrect w replica
  pub view : ℕ
  pub committed : QuorumHeard w.roster (CommitHeard (w.diary replica)) block.cluster view block.round (batch_digest block.batch)
  pub known : (block.batch ≡ []) ⊎ IsKnown w block.batch

cluster_from : (r : Roster) (n c : ℕ) → 1 ≤ length r.sizes → c ≡ n % length r.sizes + 1 → is_cluster r c ≡ true
cluster_from r n c some e =
    let low : 1 ≤ c = omega arith in
    let high : c ≤ length r.sizes = omega arith in
    grind (arith, nat_tests)

some_cluster : (r : Roster) (i : ReplicaId) → is_replica r i ≡ true → 1 ≤ length r.sizes
some_cluster r i h = grind (arith, nat_tests)

module _ (w : World) (honest : AllHonest w) where
  pub certified : (i : ReplicaId) → IsCorrect w i → (block : Block) → In block (ledger (w.diary i)) → Certified w block
  certified i correct block h =
      let at = kept w.roster i (w.diary i) (Did block) ((honest i correct).rules) (was_done block (w.diary i) h) in
      let may : WholeRounds w.roster at.past block = at.may in
      record {
        cluster = cluster_from w.roster (length (ledger at.past)) block.cluster (some_cluster w.roster i correct.takes_part) may.cluster_is;
        replica = i;
        correct = correct;
        view = may.view;
        committed = record {
          members = may.committed.members;
          quorum = may.committed.quorum;
          each = λ k q. (let a = may.committed.each k q in record {
            vote = a.vote;
            heard = record { message = a.heard.message; heard = at.within (Heard a.heard.message) a.heard.heard; inside = a.heard.inside };
            signer = a.signer;
            votes_for = a.votes_for;
          });
        };
        known = elim may.batch_heard [
          | inl e ↦ inl e
          | inr x ↦ inr (record { hearer = i; correct = correct; message = x.message; heard = at.within (Heard x.message) x.heard; inside = x.inside })
        ];
      }

  module _ (no_clash : NoClash w) (one : OneCertificate w) where
    -- one certificate for each cluster and round, and no two batches of one digest: so one block
    one_block : (a b : Block) → Certified w a → Certified w b → a.round ≡ b.round → a.cluster ≡ b.cluster → a ≡ b
    one_block a b ca cb e f =
        let committed =
        subst (λ c. QuorumHeard w.roster (CommitHeard (w.diary ca.replica)) c ca.view b.round (batch_digest a.batch)) f
        (subst (λ round. QuorumHeard w.roster (CommitHeard (w.diary ca.replica)) a.cluster ca.view round (batch_digest a.batch)) e ca.committed) in
        let d : Hash32 = batch_digest a.batch in
        let d2 : Hash32 = batch_digest b.batch in
        let same = one b.cluster cb.cluster ca.replica cb.replica ca.correct cb.correct ca.view cb.view b.round d d2 committed cb.committed in
        same_block a b e f (no_clash a.batch b.batch ca.known cb.known same)

    -- of two correct replicas' ledgers the shorter begins the longer
    pub ledgers_begin : (i j : ReplicaId) → IsCorrect w i → IsCorrect w j → length (ledger (w.diary i)) ≤ length (ledger (w.diary j))
        → IsPrefixOf (ledger (w.diary i)) (ledger (w.diary j))
    ledgers_begin i j ci cj short =
        shorter_begins (length w.roster.sizes) 0 (ledger (w.diary i)) (ledger (w.diary j))
        (ledger_in_order w.roster i (w.diary i) ((honest i ci).rules)) (ledger_in_order w.roster j (w.diary j) ((honest j cj).rules))
        (λ a b h k. one_block a b (certified i ci a h) (certified j cj b k)) short

-- ---- the longest ledger

longest_cases : {X : Type 0} (xs ys : List X)
    → ((cond (nat_lt (length xs) (length ys)) ys xs ≡ xs) × (length ys ≤ length xs)) ⊎ ((cond (nat_lt (length xs) (length ys)) ys xs ≡ ys) × (length xs ≤ length ys))
longest_cases {X} xs ys = go (nat_lt (length xs) (length ys)) refl
  where
    go : (t : Bool) → nat_lt (length xs) (length ys) ≡ t
        → ((cond t ys xs ≡ xs) × (length ys ≤ length xs)) ⊎ ((cond t ys xs ≡ ys) × (length xs ≤ length ys))
    go true e = let l : length xs ≤ length ys = grind (arith, nat_tests) in inr (refl, l)
    go false e = let l : length ys ≤ length xs = grind (arith, nat_tests) in inl (refl, l)

longest_is_long : {X : Type 0} (xs : List X) (all : List (List X)) → In xs all → length xs ≤ length (longest all)
longest_is_long xs [] h = absurd h
longest_is_long xs (ys ∷ all) (inl e) =
    let l = ap length e in
    elim (longest_cases ys (longest all)) [ inl c ↦ omega (arith, ap length c.0, c.1) | inr c ↦ omega (arith, ap length c.0, c.1) ]
longest_is_long xs (ys ∷ all) (inr h) =
    let l = longest_is_long xs all h in
    elim (longest_cases ys (longest all)) [ inl c ↦ omega (arith, ap length c.0, c.1) | inr c ↦ omega (arith, ap length c.0, c.1) ]

longest_is_one : {X : Type 0} (all : List (List X)) → (longest all ≡ []) ⊎ In (longest all) all
longest_is_one [] = inl refl
longest_is_one (ys ∷ all) =
    elim (longest_cases ys (longest all)) [
      | inl c ↦ inr (inl (sym c.0))
      | inr c ↦ elim (longest_is_one all) [ inl e ↦ inl (c.0 ∙ e) | inr h ↦ inr (inr (subst (λ l. In l all) (sym c.0) h)) ]
    ]

-- ---- the common ledger

replica_parts : (r : Roster) (i : ReplicaId) → is_replica r i ≡ true
    → (1 ≤ i.cluster) × (i.cluster ≤ length r.sizes) × (i.index < size_of r i.cluster)
replica_parts r i h = grind (arith, nat_tests)

replica_from : (r : Roster) (c k : ℕ) → 1 ≤ c → c ≤ length r.sizes → k < size_of r c → is_replica r (member_of c k) ≡ true
replica_from r c k some last l = grind (arith, nat_tests)

replica_is_listed : (r : Roster) (i : ReplicaId) → is_replica r i ≡ true → In i (replicas_of r)
replica_is_listed r i h =
    let p = replica_parts r i h in
    let in_clusters = in_range_with_len 1 (length r.sizes) i.cluster p.0 (omega (arith, p.1)) in
    let in_cluster = in_range_with_len 0 (size_of r i.cluster) i.index (omega arith) (omega (arith, p.2)) in
    in_flat_map (λ c. map (member_of c) (range_with_len 0 (size_of r c))) i.cluster i (range_with_len 1 (length r.sizes)) in_clusters
    (in_map (member_of i.cluster) i.index (range_with_len 0 (size_of r i.cluster)) in_cluster)

listed_is_replica : (r : Roster) (i : ReplicaId) → In i (replicas_of r) → is_replica r i ≡ true
listed_is_replica r i h =
    let c = of_flat_map (λ c. map (member_of c) (range_with_len 0 (size_of r c))) i (range_with_len 1 (length r.sizes)) h in
    let k = of_map (member_of c.from) i (range_with_len 0 (size_of r c.from)) c.inside in
    let in_clusters = of_range_with_len 1 (length r.sizes) c.from c.is_in in
    let in_cluster = of_range_with_len 0 (size_of r c.from) k.from k.is_in in
    subst (λ j. is_replica r j ≡ true) k.same (replica_from r c.from k.from in_clusters.0 (omega (arith, in_clusters.1)) (omega (arith, in_cluster.1)))

not_true : (b : Bool) → not b ≡ true → b ≡ false
not_true true h = cc
not_true false h = refl

module _ (w : World) where
  abbrev is_good : ReplicaId → Bool
  is_good i = not (w.faulty (Who.Replica i))

  abbrev ledger_of : ReplicaId → List Block
  ledger_of i = ledger (w.diary i)

  pub no_longer_than_common : (i : ReplicaId) → IsCorrect w i → length (ledger (w.diary i)) ≤ length (common_ledger w)
  no_longer_than_common i correct =
      let all : List ReplicaId = replicas_of w.roster in
      let is_listed = in_filter is_good i all (replica_is_listed w.roster i correct.takes_part) (ap not correct.not_faulty) in
      longest_is_long (ledger_of i) (map ledger_of (filter is_good all)) (in_map ledger_of i (filter is_good all) is_listed)

  -- what holds of the empty ledger and of each correct replica's holds of the common one
  pub common_by : (P : List Block → Type 0) → P [] → ((i : ReplicaId) → IsCorrect w i → P (ledger (w.diary i))) → P (common_ledger w)
  common_by P none each =
      elim (longest_is_one (map ledger_of (filter is_good (replicas_of w.roster)))) [
        | inl e ↦ subst P (sym e) none
        | inr h ↦
            (let from = of_map ledger_of (common_ledger w) (filter is_good (replicas_of w.roster)) h in
            let good = of_filter is_good from.from (replicas_of w.roster) from.is_in in
            let correct : IsCorrect w from.from =
            record { takes_part = listed_is_replica w.roster from.from good.0; not_faulty = not_true (w.faulty (Who.Replica from.from)) good.1 } in
            subst P from.same (each from.from correct))
      ]

-- ---- prefixes: the ledger of each correct replica begins the common one

pub prefixes : (w : World) → AllHonest w → NoClash w → OneCertificate w → (i : ReplicaId) → IsCorrect w i
    → IsPrefixOf (ledger (w.diary i)) (common_ledger w)
prefixes w honest no_clash one i correct =
    common_by w (λ blocks. length (ledger (w.diary i)) ≤ length blocks → IsPrefixOf (ledger (w.diary i)) blocks)
    (λ short. subst (λ l. IsPrefixOf l []) (sym (nil_from_length (ledger (w.diary i)) (omega arith))) (prefix_refl []))
    (λ j other short. ledgers_begin w honest no_clash one i j correct other short)
    (no_longer_than_common w i correct)
