-- The rule of stamps over a run: a client's last stamp never falls, and what is done raises it to its own.
use Rattle.std.proofs.Common.{◌≡◌, ℕ, zero, suc, ◌+◌, ◌≤◌, ◌<◌, Bool, true, false, cond, nat_eq, nat_le, List, [], ◌∷◌, refl, ap, ◌∙◌, arith}
use Rattle.std.specs.Prelude.{slice_index}
use Rattle.std.proofs.lemmas.Bool.Decides.{nat_tests}
use Rattle.fab_base.specs.declared.requests.Request.{Request}
use Rattle.fab_base.specs.declared.requests.Reply.{Reply}
use Rattle.fab_base.specs.declared.requests.Outcome.TheVariants.{Done, Again, Early}
use Rattle.fab_base.specs.Table.{State, last_of, with_stamp, reply_at, value_of, key_of, entries_after, outcome_of, state_after}

not_old : (stamp last : ℕ) → nat_le stamp last ≡ false → last < stamp
not_old stamp last h = grind (arith, nat_tests)

-- ---- the list of stamps

pub slice_index-with_stamp : (stamps : List ℕ) (client stamp : ℕ) → slice_index (with_stamp stamps client stamp) client ≡ stamp
slice_index-with_stamp [] zero stamp = refl
slice_index-with_stamp [] (suc client) stamp = slice_index-with_stamp [] client stamp
slice_index-with_stamp (s ∷ rest) zero stamp = refl
slice_index-with_stamp (s ∷ rest) (suc client) stamp = slice_index-with_stamp rest client stamp

-- a greater stamp lowers none
with_greater_stamp : (stamps : List ℕ) (client stamp other : ℕ) → slice_index stamps client ≤ stamp
    → slice_index stamps other ≤ slice_index (with_stamp stamps client stamp) other
with_greater_stamp [] zero stamp zero h = omega arith
with_greater_stamp [] zero stamp (suc other) h = omega arith
with_greater_stamp [] (suc client) stamp zero h = omega arith
with_greater_stamp [] (suc client) stamp (suc other) h = with_greater_stamp [] client stamp other (omega arith)
with_greater_stamp (s ∷ rest) zero stamp zero h = h
with_greater_stamp (s ∷ rest) zero stamp (suc other) h = omega arith
with_greater_stamp (s ∷ rest) (suc client) stamp zero h = omega arith
with_greater_stamp (s ∷ rest) (suc client) stamp (suc other) h = with_greater_stamp rest client stamp other h

-- ---- one request

-- the state where the request takes effect
abbrev effect : State → Request → State
effect state request =
    record { entries = entries_after state.entries request.op; stamps = with_stamp state.stamps request.client.number request.stamp }

by_cases : (old next : Bool) (state after : State) (client : ℕ) → (old ≡ false → last_of state client ≤ last_of after client)
    → last_of state client ≤ last_of (cond old state (cond next after state)) client
by_cases true next state after client h = omega arith
by_cases false true state after client h = h refl
by_cases false false state after client h = omega arith

-- a client's last stamp never falls
pub last_of-state_after : (state : State) (request : Request) (client : ℕ)
    → last_of state client ≤ last_of (state_after state request) client
last_of-state_after state request client =
    let last : ℕ = last_of state request.client.number in
    by_cases (nat_le request.stamp last) (nat_eq request.stamp (last + 1)) state (effect state request) client
    (λ e. with_greater_stamp state.stamps request.client.number request.stamp client (omega (arith, not_old request.stamp last e)))

done_cases : (old next : Bool) (result reply : Reply) → cond old Again (cond next (Done result) Early) ≡ Done reply
    → (old ≡ false) × (next ≡ true)
done_cases true next result reply h = cc
done_cases false true result reply h = (refl, refl)
done_cases false false result reply h = cc

-- a request that is done has a stamp above its client's last one, which is its own from then on
pub done_raises : (state : State) (request : Request) (reply : Reply) → outcome_of state request ≡ Done reply
    → (last_of state request.client.number < request.stamp) × (last_of (state_after state request) request.client.number ≡ request.stamp)
done_raises state request reply h =
    let last : ℕ = last_of state request.client.number in
    let next : Bool = nat_eq request.stamp (last + 1) in
    let after : State = effect state request in
    let cases = done_cases (nat_le request.stamp last) next (reply_at (value_of state (key_of request.op)) request.op) reply h in (
      not_old request.stamp last cases.0,
      ap (λ old. last_of (cond old state (cond next after state)) request.client.number) cases.0 ∙
          (ap (λ t. last_of (cond t after state) request.client.number) cases.1 ∙ slice_index-with_stamp state.stamps request.client.number request.stamp),
    )
