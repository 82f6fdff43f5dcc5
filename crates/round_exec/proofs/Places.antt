-- Where what was executed is found.
use Rattle.std.proofs.Common.{◌≡◌, ℕ, zero, suc, ◌+◌, ◌-◌, ◌*◌, ◌^◌, ◌<◌, ◌≤◌, cond, Bool, true, false, nat_le, ◌&&◌, List, [], ◌∷◌, Option, Some, None, Bor, refl, sym, ap, subst, arith}
use Rattle.std.specs.Option.{option_copied, option_map}
use Rattle.std.specs.List.{slice_get}
use Rattle.std.proofs.Math.Nat.{suc-mul, mul-le-mul_right}
use Rattle.std.specs.Prelude.{All, IfSome}
use Rattle.std.specs.Bool.{IsTrue}
use Rattle.std.proofs.lemmas.Option.{slice_get-map, slice_get_within, get_or_from_slice_get}
use Rattle.fab_base.specs.Table.{State, empty_state, state_after_all}
use Rattle.fab_rules.specs.declared.blocks.Block.{Block}
use Rattle.fab_rules.specs.Ledger.{run_from}
use Rattle.fab_base.proofs.Tests.{and_both, is_at_most}
use Rattle.fab_machine.specs.Rounds.{has_block, place_of, ran_block}
use Rattle.fab_rules.specs.Format.{batch_fits}
use Rattle.round_exec.specs.Book.{are_clients}
use Rattle.round_exec.specs.Done.{Done, rounds_of, place_at, outcomes_in, AreSound}

-- the place of a block is within the ledger
pub place_within : (z executed round cluster : ℕ) → 1 ≤ round → round ≤ executed → 1 ≤ cluster → cluster ≤ z
    → (round - 1) * z + (cluster - 1) < executed * z
place_within z executed zero cluster r e c d = absurd (omega (arith, r))
place_within z executed (suc round) cluster r e c d =
    let up : suc round * z ≤ executed * z = mul-le-mul_right z e in
    let back : suc round - 1 ≡ round = omega arith in
    subst (λ n. n * z + (cluster - 1) < executed * z) (sym back) (omega (arith, up, suc-mul round z, c, d))

-- the run has the blocks of the ledger
pub run_blocks : (state : State) (blocks : List Block) (i : ℕ) → slice_get blocks i ≡ option_map (λ ran. ran.block) (slice_get (run_from state blocks) i)
run_blocks state [] i = refl
run_blocks state (b ∷ rest) zero = refl
run_blocks state (b ∷ rest) (suc i) = run_blocks (state_after_all state b.batch) rest i

pub outcomes_found : (state : State) (blocks : List Block) (i : ℕ) → slice_get (outcomes_in state blocks) i ≡ option_map (λ ran. ran.outcomes) (slice_get (run_from state blocks) i)
outcomes_found state blocks i = slice_get-map (λ ran. ran.outcomes) (run_from state blocks) i

-- and no number on the way to it is too great, where the ledger has this many blocks
pub record IsPlace (z executed round cluster blocks : ℕ) : Type 0 where
  pub before : (round - 1) * z < 2 ^ 64
  pub place : (round - 1) * z + (cluster - 1) < 2 ^ 64
  pub within : (round - 1) * z + (cluster - 1) < blocks

pub is_place : (z executed round cluster blocks next : ℕ) → blocks ≡ executed * z → blocks < 2 ^ 64 → next ≡ executed + 1 → (round ≡ 0 → ⊥) → round < next
    → (cluster ≡ 0 → ⊥) → cluster ≤ z → IsPlace z executed round cluster blocks
is_place z executed round cluster blocks next e l n r f c d =
    let some : 1 ≤ round = omega (arith, r) in
    let upto : round ≤ executed = omega (arith, n, f) in
    let first : 1 ≤ cluster = omega (arith, c) in
    let w = place_within z executed round cluster some upto first d in
    record { before = omega (arith, w, e, l); place = omega (arith, w, e, l); within = omega (arith, w, e) }

pub place_found : (d : Done) (round cluster next : ℕ) → next ≡ d.executed + 1 → (round ≡ 0 → ⊥) → round < next → (cluster ≡ 0 → ⊥) → cluster ≤ d.clusters
    → place_at d round cluster ≡ Some (place_of d.clusters round cluster)
place_found d round cluster next n r f c l =
    let there : has_block d.clusters (rounds_of d) round cluster ≡ true =
    and_both (nat_le 1 round && nat_le round d.executed) (nat_le 1 cluster && nat_le cluster d.clusters)
    (and_both (nat_le 1 round) (nat_le round d.executed) (is_at_most 1 round (omega (arith, r))) (is_at_most round d.executed (omega (arith, n, f))))
    (and_both (nat_le 1 cluster) (nat_le cluster d.clusters) (is_at_most 1 cluster (omega (arith, c))) (is_at_most cluster d.clusters l)) in
    ap (λ b. cond b (Some (place_of d.clusters round cluster)) None) there

-- ---- what stands there

pub block_found : (d : Done) (round cluster place : ℕ) → place_at d round cluster ≡ Some place
    → slice_get d.blocks place ≡ option_map (λ ran. ran.block) (ran_block d.clusters d.clients (rounds_of d) round cluster)
block_found d round cluster place = go (has_block d.clusters (rounds_of d) round cluster)
  where
    go : (b : Bool) → cond b (Some (place_of d.clusters round cluster)) None ≡ Some place
        → slice_get d.blocks place ≡ option_map (λ ran. ran.block) (cond b (slice_get (run_from (empty_state d.clients) d.blocks) (place_of d.clusters round cluster)) None)
    go false h = cc
    go true h =
        let here : place_of d.clusters round cluster ≡ place = cc in
        subst (λ i. slice_get d.blocks place ≡ option_map (λ ran. ran.block) (slice_get (run_from (empty_state d.clients) d.blocks) i)) (sym here)
        (run_blocks (empty_state d.clients) d.blocks place)

pub holds_at : {X : Type 0} (P : X → Type 0) (xs : List X) (i : ℕ) (x : X) → All P xs → slice_get xs i ≡ Some x → P x
holds_at P xs i x all h = subst P (get_or_from_slice_get xs i x x h) (all i x (slice_get_within xs i x h))

pub sound_found : (clients : ℕ) (blocks : List Block) (i : ℕ) (r : Option (Bor Block)) → option_copied r ≡ slice_get blocks i → AreSound clients blocks
    → IfSome r (λ b. IsTrue (batch_fits b.now.batch) × IsTrue (are_clients clients b.now.batch))
sound_found clients blocks i None e all = tt
sound_found clients blocks i (Some b) e all = holds_at (λ x. IsTrue (batch_fits x.batch) × IsTrue (are_clients clients x.batch)) blocks i b.now all (sym e)
