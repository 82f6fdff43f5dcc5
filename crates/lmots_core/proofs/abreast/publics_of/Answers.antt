use Rattle.std.proofs.Common.{◌≡◌, ℕ, ◌*◌, ◌+◌, List, [], ◌∷◌, ◌++◌, length, slice_index, sym, ap, ◌∙◌, arith, append_assoc, length-append}
use Rattle.std.specs.Int.{w32, to_be_bytes}
use Rattle.std.proofs.lemmas.List.{append-nil}
use Rattle.sha2.specs.Sha256.{sha256}
use Rattle.lmots_core.specs.Parameters.{chain_count, top_digit}
use Rattle.lmots_core.specs.Chains.{chain_end, chain_start, joined}
use Rattle.lmots_core.specs.OneTime.{key_of_ends}
use Rattle.lmots_core.proofs.ChainLemmas.{joined_none, joined_more, length-joined, length-chain, length-chain_step}
use Rattle.lmots_core.proofs.AbreastLemmas.{hold_same}
use Rattle.lmots_core.proofs.abreast.publics_of.Goals as goal

pub chains-init : goal.chains-init
chains-init c =
    let front = λ (k : ℕ). c.args.seed.now.id ++ to_be_bytes w32 (slice_index c.args.leaves k) ++ 0x80 ∷ 0x80 ∷ [] in
    let y = λ (k : ℕ). chain_end c.args.kind c.args.seed.now (slice_index c.args.leaves k) in
    record {
      room = c.push_heads-filled.ensures.room;
      held = hold_same _ _ _ _ front (λ k. front k ++ joined (y k) 0) c.push_heads-filled.ensures.held (λ k lt. sym (ap (λ (l : List ℕ). front k ++ l) (joined_none (y k)) ∙ append-nil (front k)));
    }

pub chains-preserved : goal.chains-preserved
chains-preserved c =
    let front = λ (k : ℕ). c.args.seed.now.id ++ to_be_bytes w32 (slice_index c.args.leaves k) ++ 0x80 ∷ 0x80 ∷ [] in
    let y = λ (k : ℕ). chain_end c.args.kind c.args.seed.now (slice_index c.args.leaves k) in
    let i = c.chains.i in
    record {
      room = c.push_ends-filled.ensures.room;
      held = hold_same _ _ _ _ _ (λ k. front k ++ joined (y k) (i + 1)) (c.push_ends-filled.ensures.held _ c.chains.invariant.held) (λ k lt.
          ap (λ (l : List ℕ). front k ++ joined (y k) i ++ l) (c.ends-values.ensures k lt) ∙ append_assoc (front k) (joined (y k) i) (y k i)
          ∙ ap (λ (l : List ℕ). front k ++ l) (sym (joined_more (y k) i)));
    }

pub returns : goal.returns
unfolding key_of_ends
returns c = λ k lt.
    let seed = c.args.seed.now in
    let q = slice_index c.args.leaves k in
    let n = chain_count c.args.kind in
    let front = seed.id ++ to_be_bytes w32 q ++ 0x80 ∷ 0x80 ∷ [] in
    let y = chain_end c.args.kind seed q in
    let count = c.chain_count-i-end.ensures in
    let done : c.chains.i ≡ n = omega (arith, count) in
    let each = λ (i : ℕ). length-chain seed.id q i 0 (top_digit c.args.kind) (chain_start seed q i) (length-chain_step seed.id q i 0xff seed.seed) in
    let ends = length-joined y c.chains.i each in
    let l1 = length-append front (joined y c.chains.i) in
    let l2 = length-append (seed.id ++ to_be_bytes w32 q) (0x80 ∷ 0x80 ∷ []) in
    let l3 = length-append seed.id (to_be_bytes w32 q) in
    let id : length seed.id ≡ 16 = c.push_heads-filled.ensures.sized in
    let size : length (front ++ joined y c.chains.i) ≡ 22 + 32 * c.chains.i = omega (arith, ends, l1, l2, l3, id) in
    c.digests4.ensures k lt ∙ c.push_padding.ensures _ c.chains.invariant.held k lt (omega (arith, size)) (omega (arith, size, done))
    ∙ ap (λ (m : ℕ). sha256 (front ++ joined y m)) done
