use Rattle.std.proofs.Common.{ℕ, List, ◌++◌, slice_index, arith}
use Rattle.std.specs.Int.{w32, to_be_bytes}
use Rattle.sha_lanes.specs.Lanes.{vector}
use Rattle.lmots_core.proofs.AbreastLemmas.{ends_whole, halves_at}
use Rattle.lmots_core.proofs.abreast.push_ends.Goals as goal

pub returns : goal.returns
returns c =
    let e : List (List ℕ) = c.args.ends.now in
    let add = λ (w : List ℕ) (m : ℕ → List ℕ) (k : ℕ). m k ++ to_be_bytes w32 (slice_index w k) in
    record {
      room = omega (arith, c.push.ensures.filled);
      held = λ m held.
          let m1 : ℕ → List ℕ = add c.halves.result held.words in
          let m2 : ℕ → List ℕ = add c.halves-2.result m1 in
          let m3 : ℕ → List ℕ = add c.halves-3.result m2 in
          let m4 : ℕ → List ℕ = add c.halves-4.result m3 in
          let m5 : ℕ → List ℕ = add c.halves-5.result m4 in
          let m6 : ℕ → List ℕ = add c.halves-6.result m5 in
          let m7 : ℕ → List ℕ = add c.halves-7.result m6 in
          let t1 = c.push-filled.ensures.taken held.words held.taken in
          let t2 = c.push-filled-2.ensures.taken m1 t1 in
          let t3 = c.push-filled-3.ensures.taken m2 t2 in
          let t4 = c.push-filled-4.ensures.taken m3 t3 in
          let t5 = c.push-filled-5.ensures.taken m4 t4 in
          let t6 = c.push-filled-6.ensures.taken m5 t5 in
          let t7 = c.push-filled-7.ensures.taken m6 t6 in
          record {
            words = add c.halves-8.result m7;
            taken = c.push.ensures.taken m7 t7;
            whole = λ k lt.
                ends_whole (m k) (held.words k) (slice_index c.args.last k) e k _ _ _ _ _ _ _ _ (held.whole k lt)
                (halves_at c.halves.result c.args.last (vector e 0) k lt c.halves.ensures)
                (halves_at c.halves-2.result (vector e 0) (vector e 1) k lt c.halves-2.ensures)
                (halves_at c.halves-3.result (vector e 1) (vector e 2) k lt c.halves-3.ensures)
                (halves_at c.halves-4.result (vector e 2) (vector e 3) k lt c.halves-4.ensures)
                (halves_at c.halves-5.result (vector e 3) (vector e 4) k lt c.halves-5.ensures)
                (halves_at c.halves-6.result (vector e 4) (vector e 5) k lt c.halves-6.ensures)
                (halves_at c.halves-7.result (vector e 5) (vector e 6) k lt c.halves-7.ensures)
                (halves_at c.halves-8.result (vector e 6) (vector e 7) k lt c.halves-8.ensures);
          };
    }
