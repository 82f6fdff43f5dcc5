-- The replicas of a script, one after another, with their signers.
use Rattle.std.proofs.Common.{◌≡◌, true, ℕ, zero, suc, ◌+◌, ◌<◌, ◌≤◌, List, [], ◌∷◌, ◌++◌, map, length, take, get_or, inl, inr, refl, sym, ap, subst, ◌∙◌, arith, Some, length-append, append_assoc}
use Rattle.fab_base.specs.declared.ids.ReplicaId.{ReplicaId}
use Rattle.fab_base.specs.declared.ids.Who.{Who}
use Rattle.std.proofs.lemmas.List.{take_more}
use Rattle.script_keys.proofs.Listing.{map_both}
use Rattle.fab_base.specs.Limits.{Roster}
use Rattle.run_worlds.specs.Scripts.{roster_of}
use Rattle.fab_rules.specs.Lists.{In}
use Rattle.fault_script.specs.declared.scripts.Script.{Script}
use Rattle.lms_tree.specs.Keys.{public_of_key}
use Rattle.lms_leaf.specs.Leaves.{Leaves}
use Rattle.bft_verify.specs.Ring.{Ring, key_of}
use Rattle.script_keys.specs.Keys.{replicas_of, signer_of, signers_of}
use Rattle.script_keys.specs.Rings.{ring_of}
use Rattle.script_keys.proofs.Rows.{replica_in_ring}
use Rattle.script_keys.proofs.Signatures.{has_place as signature_has_place}
use Rattle.fab_rules.specs.Format.{signature_fits}
use Rattle.lms_tree.specs.Heights.{leaf_count}
use Rattle.lms_tree.specs.Signatures.{leaf_signature}
use Rattle.replica_log.specs.Logs.{Log, fresh_log}
use Rattle.script_sim.specs.Schedules.{log_of}

-- ---- the next one

record IsAt {A B : Type 0} (f : A → B) (xs : List A) (k : ℕ) (y : B) (d : A) : Type 0 where
  pub within : k < length xs
  pub there : In (get_or xs k d) xs
  pub is : y ≡ f (get_or xs k d)

next_at : {A B : Type 0} (f : A → B) (xs : List A) (before : List B) (y : B) (rest : List B) (d : A) → before ++ y ∷ rest ≡ map f xs
    → IsAt f xs (length before) y d
next_at f [] [] y rest d e = absurd cc
next_at f (x ∷ xs) [] y rest d e = record { within = omega arith; there = inl refl; is = grind arith }
next_at f [] (b ∷ before) y rest d e = absurd cc
next_at f (x ∷ xs) (b ∷ before) y rest d e =
    let at = next_at f xs before y rest d (grind arith) in
    record { within = omega (arith, at.within); there = inr at.there; is = at.is }

-- ---- what the log of the next one asks

pub record IsNext (script : Script) (me : ReplicaId) (signer : Leaves) : Type 0 where
  pub is_in : In me (replicas_of script)
  pub signs : signer ≡ signer_of script (Who.Replica me)

pub next_is : (script : Script) (replicas : List ReplicaId) (signers : List Leaves) (before rest later : List Leaves) (signer : Leaves) (d : ReplicaId)
    → replicas ≡ replicas_of script → signers ≡ signers_of script → before ++ rest ≡ signers → rest ≡ signer ∷ later
    → IsNext script (get_or replicas (length before) d) signer
next_is script replicas signers before rest later signer d ids all cut first =
    let at = next_at (λ i. signer_of script (Who.Replica i)) (replicas_of script) before signer later d
    (ap (λ l. before ++ l) (sym first) ∙ cut ∙ all) in
    subst (λ (l : List ReplicaId). IsNext script (get_or l (length before) d) signer) (sym ids)
    (record { is_in = at.there; signs = at.is })

pub long : {A B : Type 0} (f : A → B) (xs : List A) (n : ℕ) → n ≤ length xs → length (map f (take n xs)) ≡ n
long f xs zero h = refl
long f [] (suc n) h = absurd (omega arith)
long f (x ∷ xs) (suc n) h = ap suc (long f xs n (omega arith))

pub in_ring : (script : Script) (ring : Ring) (me : ReplicaId) (signer : Leaves) → ring ≡ ring_of script → IsNext script me signer
    → key_of ring (Who.Replica me) ≡ Some (public_of_key signer.key)
in_ring script ring me signer e h =
    ap (λ (r : Ring). key_of r (Who.Replica me)) e ∙ replica_in_ring script me h.is_in
    ∙ ap (λ (s : Leaves). Some (public_of_key s.key)) (sym h.signs)

-- at the place behind the logs that were made
pub next_at_length : (script : Script) (replicas : List ReplicaId) (signers : List Leaves) (logs : List (Log Leaves)) (before rest later : List Leaves)
    (signer : Leaves) (d : ReplicaId) (k : ℕ)
    → replicas ≡ replicas_of script → signers ≡ signers_of script
    → logs ≡ map (log_of script) (take (length before) replicas) → before ++ rest ≡ signers → rest ≡ signer ∷ later → k ≡ length logs
    → IsNext script (get_or replicas k d) signer
next_at_length script replicas signers logs before rest later signer d k ids all made cut first at =
    let here = next_at (λ i. signer_of script (Who.Replica i)) (replicas_of script) before signer later d
    (ap (λ l. before ++ l) (sym first) ∙ cut ∙ all) in
    let within : length before ≤ length replicas = subst (λ (l : List ReplicaId). length before ≤ length l) (sym ids) (omega (arith, here.within)) in
    let same : k ≡ length before = at ∙ ap length made ∙ long (log_of script) replicas (length before) within in
    subst (λ n. IsNext script (get_or replicas n d) signer) (sym same) (next_is script replicas signers before rest later signer d ids all cut first)

pub has_place : (script : Script) (me : ReplicaId) (signer : Leaves) → IsNext script me signer
    → (k : ℕ) (content : List ℕ) → k < leaf_count signer.key.height → signature_fits (leaf_signature signer.key k content) ≡ true
has_place script me signer h =
    subst (λ (s : Leaves). (k : ℕ) (content : List ℕ) → k < leaf_count s.key.height → signature_fits (leaf_signature s.key k content) ≡ true) (sym h.signs)
    (λ k content lt. signature_has_place script (Who.Replica me) k content lt)

-- ---- a log more

-- what a step of the loop leaves: the logs of all that came so far, and the signers that are left
pub goes_on : (script : Script) (replicas : List ReplicaId) (signers : List Leaves) (logs now : List (Log Leaves)) (before rest later : List Leaves)
    (signer : Leaves) (log : Log Leaves) (members : Roster) (ring : Ring) (d : ReplicaId) (k : ℕ)
    → replicas ≡ replicas_of script → signers ≡ signers_of script → members ≡ roster_of script → ring ≡ ring_of script
    → logs ≡ map (log_of script) (take (length before) replicas) → before ++ rest ≡ signers → rest ≡ signer ∷ later → k ≡ length logs
    → log ≡ fresh_log members ring (get_or replicas k d) signer → now ≡ logs ++ log ∷ []
    → (now ≡ map (log_of script) (take (length (before ++ signer ∷ [])) replicas)) × ((before ++ signer ∷ []) ++ later ≡ signers)
goes_on script replicas signers logs now before rest later signer log members ring d k ids all m r made cut first at is more =
    let here = next_at (λ i. signer_of script (Who.Replica i)) (replicas_of script) before signer later d
    (ap (λ l. before ++ l) (sym first) ∙ cut ∙ all) in
    let n = length before in
    let lt : n < length replicas = subst (λ (l : List ReplicaId). n < length l) (sym ids) here.within in
    let within : n ≤ length replicas = omega (arith, lt) in
    let same : k ≡ n = at ∙ ap length made ∙ long (log_of script) replicas n within in
    let me = get_or replicas n d in
    let next = next_is script replicas signers before rest later signer d ids all cut first in
    let log_is : log ≡ log_of script me =
    is ∙ ap (λ (j : ℕ). fresh_log members ring (get_or replicas j d) signer) same
    ∙ ap (λ (x : Roster). fresh_log x ring me signer) m
    ∙ ap (λ (x : Ring). fresh_log (roster_of script) x me signer) r
    ∙ ap (λ (x : Leaves). fresh_log (roster_of script) (ring_of script) me x) next.signs in
    let longer : length (before ++ signer ∷ []) ≡ n + 1 = length-append before (signer ∷ []) in (
      more ∙ ap (λ (l : List (Log Leaves)). l ++ log ∷ []) made
          ∙ ap (λ (x : Log Leaves). map (log_of script) (take n replicas) ++ x ∷ []) log_is
          ∙ sym (map_both (log_of script) (take n replicas) (me ∷ []))
          ∙ ap (map (log_of script)) (sym (take_more replicas n d lt))
          ∙ ap (λ (j : ℕ). map (log_of script) (take j replicas)) (sym longer),
      append_assoc before (signer ∷ []) later ∙ ap (λ l. before ++ l) (sym first) ∙ cut,
    )
