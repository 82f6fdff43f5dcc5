-- What is stored after a round more.
use Rattle.std.proofs.Common.{◌≡◌, ℕ, zero, suc, ◌+◌, ◌-◌, ◌*◌, ◌<◌, ◌≤◌, List, [], ◌∷◌, ◌++◌, length, map, take, drop, Some, ◌⊎◌, inl, inr, refl, sym, ap, subst, ◌∙◌, arith, length-append}
use Rattle.std.specs.List.{slice_get}
use Rattle.std.proofs.Math.Nat.{suc-mul, mul-le-mul_right}
use Rattle.std.proofs.lemmas.Bool.{cases_lt}
use Rattle.std.proofs.lemmas.List.{map-append, take-append-le, take_all, take_rest}
use Rattle.std.proofs.lemmas.List.Elements.{All-append}
use Rattle.std.proofs.Math.Seq.{drop-append_seam}
use Rattle.fab_base.specs.Table.{State, empty_state}
use Rattle.fab_base.specs.declared.ids.Hash32.{Hash32}
use Rattle.fab_base.specs.declared.requests.Outcome.{Outcome}
use Rattle.fab_rules.specs.declared.blocks.Block.{Block}
use Rattle.std.specs.Bool.{IsTrue}
use Rattle.fab_rules.specs.Format.{batch_fits}
use Rattle.round_exec.specs.Book.{are_clients}
use Rattle.fab_rules.specs.Ledger.{chain_start, chain_from, chain_of, run_from, state_after_blocks}
use Rattle.fab_rules.proofs.Chains.{chain_from-append, state_after_blocks-append, run_from-append}
use Rattle.seq_table.specs.Holding.{Holding, state_of}
use Rattle.round_exec.specs.Done.{IsStored, AreChains, AreSound, outcomes_in}

-- ---- the chains

get_front : {X : Type 0} (xs ys : List X) (i : ℕ) → i < length xs → slice_get (xs ++ ys) i ≡ slice_get xs i
get_front [] ys i h = absurd (omega (arith, h))
get_front (x ∷ xs) ys zero h = refl
get_front (x ∷ xs) ys (suc i) h = get_front xs ys i (omega (arith, h))

get_seam : {X : Type 0} (xs : List X) (y : X) → slice_get (xs ++ y ∷ []) (length xs) ≡ Some y
get_seam [] y = refl
get_seam (x ∷ xs) y = get_seam xs y

-- what was added to a list
pub tail_is : (xs ys all : List Block) (n : ℕ) → all ≡ xs ++ ys → n ≡ length xs → take (length all - n) (drop n all) ≡ ys
tail_is xs ys all n a e = take_rest all n ∙ ((λ i. drop (e i) (a i)) ∙ drop-append_seam xs ys)

-- so many rounds and one more are the whole
take_whole : (z n : ℕ) (blocks more : List Block) → 1 ≤ n → length blocks ≡ (n - 1) * z → length more ≡ z → take (n * z) (blocks ++ more) ≡ blocks ++ more
take_whole z zero blocks more b w m = absurd (omega (arith, b))
take_whole z (suc n) blocks more b w m =
    let before : length blocks ≡ n * z = w ∙ ap (λ k. k * z) (let e : suc n - 1 ≡ n = omega arith in e) in
    let whole : length (blocks ++ more) ≤ suc n * z = omega (arith, length-append blocks more, before, m, suc-mul n z) in
    take_all (suc n * z) (blocks ++ more) whole

take_within : (z n i : ℕ) (blocks more : List Block) → i < n → length blocks ≡ (n - 1) * z → take (i * z) (blocks ++ more) ≡ take (i * z) blocks
take_within z n i blocks more h w =
    let up : i ≤ n - 1 = omega (arith, h) in
    take-append-le (i * z) blocks more (subst (λ k. i * z ≤ k) (sym w) (mul-le-mul_right z up))

pub chains_more : (z : ℕ) (blocks more : List Block) (chains : List Hash32) → 1 ≤ length chains → length blocks ≡ (length chains - 1) * z
    → length more ≡ z → AreChains z blocks chains → AreChains z (blocks ++ more) (chains ++ chain_from (chain_of blocks) more ∷ [])
chains_more z blocks more chains b w m h i l = go (cases_lt i (length chains))
  where
    last : Hash32
    last = chain_from (chain_of blocks) more

    go : (i < length chains) ⊎ (length chains ≤ i) → slice_get (chains ++ last ∷ []) i ≡ Some (chain_of (take (i * z) (blocks ++ more)))
    go (inl below) =
        get_front chains (last ∷ []) i below
        ∙ (h i below ∙ ap (λ k. Some (chain_of k)) (sym (take_within z (length chains) i blocks more below w)))
    go (inr above) =
        let here : i ≡ length chains = omega (arith, above, l, length-append chains (last ∷ [])) in
        ap (λ k. slice_get (chains ++ last ∷ []) k) here
        ∙ (get_seam chains last
        ∙ (ap (λ c. Some c) (sym (chain_from-append chain_start blocks more))
        ∙ (ap (λ k. Some (chain_of k)) (sym (take_whole z (length chains) blocks more b w m))
        ∙ ap (λ k. Some (chain_of (take (k * z) (blocks ++ more)))) (sym here))))

-- ---- all of it

outcomes_in-append : (state : State) (xs ys : List Block) → outcomes_in state (xs ++ ys) ≡ outcomes_in state xs ++ outcomes_in (state_after_blocks state xs) ys
outcomes_in-append state xs ys =
    ap (λ l. map (λ ran. ran.outcomes) l) (run_from-append state xs ys)
    ∙ map-append (λ ran. ran.outcomes) (run_from state xs) (run_from (state_after_blocks state xs) ys)

size_more : (z n : ℕ) (blocks more : List Block) → 1 ≤ n → length blocks ≡ (n - 1) * z → length more ≡ z → length (blocks ++ more) ≡ n * z
size_more z zero blocks more b w m = absurd (omega (arith, b))
size_more z (suc n) blocks more b w m =
    let before : length blocks ≡ n * z = w ∙ ap (λ k. k * z) (let e : suc n - 1 ≡ n = omega arith in e) in
    omega (arith, length-append blocks more, before, m, suc-mul n z)

pub stored_more : (z clients : ℕ) (blocks more : List Block) (outcomes outcomes_now : List (List Outcome)) (chains chains_now : List Hash32) (table table_now : Holding)
    → IsStored z clients blocks outcomes chains table → length more ≡ z → outcomes_now ≡ outcomes ++ outcomes_in (state_of table) more
    → chains_now ≡ chains ++ chain_from (chain_of blocks) more ∷ [] → state_of table_now ≡ state_after_blocks (state_of table) more
    → length table_now.stamps ≡ length table.stamps → AreSound clients more → IsStored z clients (blocks ++ more) outcomes_now chains_now table_now
stored_more z clients blocks more outcomes outcomes_now chains chains_now table table_now s m o c t n sound =
    let last = chain_from (chain_of blocks) more in
    let count : length chains_now ≡ length chains + 1 = ap length c ∙ length-append chains (last ∷ []) in
    let back : length chains_now - 1 ≡ length chains = omega (arith, count) in
    record {
      begun = omega (arith, count);
      whole = size_more z (length chains) blocks more s.begun s.whole m ∙ ap (λ k. k * z) (sym back);
      outcomes_are =
          o ∙ (ap (λ l. l ++ outcomes_in (state_of table) more) s.outcomes_are
          ∙ (ap (λ x. outcomes_in (empty_state clients) blocks ++ outcomes_in x more) s.state_is ∙ sym (outcomes_in-append (empty_state clients) blocks more)));
      chains_are = subst (λ l. AreChains z (blocks ++ more) l) (sym c) (chains_more z blocks more chains s.begun s.whole m s.chains_are);
      state_is = t ∙ (ap (λ x. state_after_blocks x more) s.state_is ∙ sym (state_after_blocks-append (empty_state clients) blocks more));
      clients_are = n ∙ s.clients_are;
      sound = All-append (λ x. IsTrue (batch_fits x.batch) × IsTrue (are_clients clients x.batch)) blocks more s.sound sound;
    }
