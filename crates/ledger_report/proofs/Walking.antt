-- A walk over the blocks of a ledger.
use Rattle.std.proofs.Common.{◌≡◌, ℕ, zero, suc, ◌+◌, ◌-◌, ◌*◌, ◌/◌, ◌%◌, ◌<◌, ◌≤◌, true, cond, nat_le, ◌&&◌, List, [], ◌∷◌, ◌++◌, length, drop, map, Option, Some, None, Bor, Result, Ok, Err, OnOk, refl, sym, ap, ◌∙◌, append_assoc, add-one, arith}
use Rattle.std.specs.Option.{option_map, option_copied, IsSome}
use Rattle.std.specs.List.{slice_get, flat_map}
use Rattle.std.proofs.Math.Nat.{div-lt_iff_lt-mul, mul_comm}
use Rattle.std.proofs.Math.Seq.{drop-cons}
use Rattle.std.proofs.lemmas.Option.{slice_get_within, get_or_from_slice_get}
use Rattle.std.proofs.lemmas.List.Concat.{flat_map-cons}
use Rattle.fab_base.proofs.Tests.{and_both, is_at_most}
use Rattle.fab_base.specs.Table.{State, empty_state, outcomes_of, state_after_all}
use Rattle.fab_base.specs.declared.requests.Outcome.{Outcome}
use Rattle.fab_rules.specs.declared.blocks.Block.{Block}
use Rattle.fab_rules.specs.Ledger.{RunBlock, run_from, state_after_blocks}
use Rattle.fab_machine.specs.State.{Rounds}
use Rattle.fab_machine.specs.Rounds.{has_block, place_of, ran_block}
use Rattle.run_words.specs.declared.logs.Trace.{Trace}
use Rattle.round_exec.proofs.Places.{run_blocks}
use Rattle.run_worlds.specs.Worlds.{correct_of}
use Rattle.ledger_report.specs.Text.{reply_lines, table_text}
use Rattle.ledger_report.specs.Report.{block_lines}
use Rattle.ledger_report.specs.Telling.{Telling, telling_of}
use Rattle.ledger_report.specs.Walking.{block_line, lines_told, run_text}
use Rattle.ledger_report.proofs.Tellings.{notes_are}

-- ---- where a place's block stands

pub record IsPlaced (clusters executed place : ℕ) : Type 0 where
  pub some : 0 < clusters
  pub round_upto : place / clusters + 1 ≤ executed
  pub cluster_upto : place % clusters + 1 ≤ clusters
  pub place_is : place_of clusters (place / clusters + 1) (place % clusters + 1) ≡ place

pub is_placed : (clusters executed place blocks : ℕ) → blocks ≡ executed * clusters → place < blocks → IsPlaced clusters executed place
is_placed zero executed place blocks e l = absurd (omega (arith, e, l))
is_placed (suc c) executed place blocks e l =
    let some : 0 < suc c = omega arith in
    let below : place < executed * suc c = omega (arith, e, l) in
    let back : place / suc c + 1 - 1 ≡ place / suc c = omega arith in
    let round : place / suc c < executed = (div-lt_iff_lt-mul {k = suc c} {x = place} {y = executed} some).1 below in
    record {
      some = some;
      round_upto = omega (arith, round);
      cluster_upto = omega arith;
      place_is = rw back (omega (arith, mul_comm (place / suc c) (suc c)));
    }

pub block_found : (clusters clients z : ℕ) (t : Rounds) (place : ℕ) → z ≡ clusters → length t.blocks ≡ t.executed * clusters → place < length t.blocks
    → option_map (λ ran. ran.block) (ran_block clusters clients t (place / z + 1) (place % z + 1)) ≡ slice_get t.blocks place
block_found clusters clients z t place same whole within =
    let h = is_placed clusters t.executed place (length t.blocks) whole within in
    let round = place / clusters + 1 in
    let cluster = place % clusters + 1 in
    let there : has_block clusters t round cluster ≡ true =
    and_both (nat_le 1 round && nat_le round t.executed) (nat_le 1 cluster && nat_le cluster clusters)
    (and_both (nat_le 1 round) (nat_le round t.executed) (is_at_most 1 round (omega arith)) (is_at_most round t.executed h.round_upto))
    (and_both (nat_le 1 cluster) (nat_le cluster clusters) (is_at_most 1 cluster (omega arith)) (is_at_most cluster clusters h.cluster_upto)) in
    ap (λ x. option_map (λ ran. ran.block) (ran_block clusters clients t (place / x + 1) (place % x + 1))) same
    ∙ ap (λ b. option_map (λ ran. ran.block) (cond b (slice_get (run_from (empty_state clients) t.blocks) (place_of clusters round cluster)) None)) there
    ∙ ap (λ i. option_map (λ ran. ran.block) (slice_get (run_from (empty_state clients) t.blocks) i)) h.place_is
    ∙ sym (run_blocks (empty_state clients) t.blocks place)

pub some_found : {X : Type 0} (r : Option (Bor X)) (xs : List X) (i : ℕ) → option_copied r ≡ slice_get xs i → i < length xs → IsSome r
some_found None [] i e l = absurd (omega (arith, l))
some_found None (x ∷ xs) zero e l = absurd cc
some_found None (x ∷ xs) (suc i) e l = some_found None xs i e (omega (arith, l))
some_found (Some b) xs i e l = refl

-- ---- one block more

pub drop_at : {X : Type 0} (xs : List X) (i : ℕ) (x : X) → slice_get xs i ≡ Some x → drop i xs ≡ x ∷ drop (i + 1) xs
drop_at xs i x h =
    rw add-one
    (drop-cons xs i x (slice_get_within xs i x h) ∙ ap (λ y. y ∷ drop (suc i) xs) (get_or_from_slice_get xs i x x h))

pub lines_step : (f : RunBlock → List ℕ) (done now whole : List ℕ) (s t : State) (left rest : List Block) (b : Block) (o : List Outcome)
    → now ≡ done ++ f (record { block = b; outcomes = o }) → o ≡ outcomes_of s b.batch → t ≡ state_after_all s b.batch → left ≡ b ∷ rest
    → done ++ flat_map f (run_from s left) ≡ whole → now ++ flat_map f (run_from t rest) ≡ whole
lines_step f done now whole s t left rest b o n e a l h =
    (λ i. n i ++ flat_map f (run_from (a i) rest))
    ∙ append_assoc done (f (record { block = b; outcomes = o })) (flat_map f (run_from (state_after_all s b.batch) rest))
    ∙ ap (λ x. done ++ (f (record { block = b; outcomes = x }) ++ flat_map f (run_from (state_after_all s b.batch) rest))) e
    ∙ ap (λ x. done ++ x) (sym (flat_map-cons f (record { block = b; outcomes = outcomes_of s b.batch }) (run_from (state_after_all s b.batch) rest)))
    ∙ sym (ap (λ x. done ++ flat_map f (run_from s x)) l) ∙ h

-- ---- what is told is what the journals tell

lines_are : (traces : List Trace) (ran : List RunBlock) → flat_map (lines_told (map telling_of (correct_of traces))) ran ≡ flat_map (block_lines traces) ran
lines_are traces ran =
    ap (λ (f : RunBlock → List ℕ). flat_map f ran) (λ i x. block_line x.block (notes_are traces x i) ++ reply_lines x.block.batch x.outcomes)

pub run_is : (now mid old : List ℕ) (traces : List Trace) (told : List Telling) (s t u : State) (entries : List (List ℕ × List ℕ)) (blocks : List Block)
    → told ≡ map telling_of (correct_of traces) → s ≡ u → t ≡ state_after_blocks s blocks → entries ≡ t.entries
    → mid ≡ old ++ flat_map (lines_told told) (run_from s blocks) → now ≡ mid ++ table_text entries → now ≡ old ++ run_text traces u blocks
run_is now mid old traces told s t u entries blocks a b c d e f =
    let table : entries ≡ (state_after_blocks u blocks).entries = d ∙ (λ i. (c i).entries) ∙ (λ i. (state_after_blocks (b i) blocks).entries) in
    f
    ∙ (λ i. e i ++ table_text (table i))
    ∙ (λ i. (old ++ flat_map (lines_told (a i)) (run_from (b i) blocks)) ++ table_text (state_after_blocks u blocks).entries)
    ∙ ap (λ l. (old ++ l) ++ table_text (state_after_blocks u blocks).entries) (lines_are traces (run_from u blocks))
    ∙ append_assoc old (flat_map (block_lines traces) (run_from u blocks)) (table_text (state_after_blocks u blocks).entries)

pub on_ok : {T E P Q : Type 0} (r : Result T E) → (P → Q) → OnOk r P → OnOk r Q
on_ok (Ok x) f h = f h
on_ok (Err e) f h = tt
