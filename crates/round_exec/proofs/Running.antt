-- Blocks applied one after another.
use Rattle.std.proofs.Common.{◌≡◌, ℕ, zero, suc, ◌+◌, ◌<◌, true, ◌&&◌, nat_le, nat_lt, List, [], ◌∷◌, ◌++◌, length, take, slice_index_or, Option, sym, ap, ◌∙◌, append_assoc, arith}
use Rattle.std.specs.Prelude.{get_or}
use Rattle.std.specs.List.{All, list_all}
use Rattle.std.proofs.lemmas.List.{map_more}
use Rattle.fab_base.specs.declared.limits.TheConstants.{LONGEST_KEY, LONGEST_VALUE, MOST_REQUESTS}
use Rattle.fab_base.specs.Fields.{are_bytes, bytes_fit, op_fits}
use Rattle.fab_base.specs.declared.requests.Op.{Op}
use Rattle.fab_base.specs.declared.requests.Op.TheVariants.{Put, Get, Cut, Swap}
use Rattle.fab_base.proofs.Tests.{and_left, and_right, below, at_most}
use Rattle.fab_rules.specs.Format.{is_u8, is_u32, signature_fits, request_fits, batch_fits}
use Rattle.fab_base.specs.Table.{State, outcomes_of, state_after_all}
use Rattle.fab_base.specs.declared.requests.Outcome.{Outcome}
use Rattle.fab_base.specs.declared.requests.Request.{Request}
use Rattle.fab_rules.specs.declared.blocks.Block.{Block}
use Rattle.fab_rules.specs.Ledger.{state_after_blocks}
use Rattle.seq_table.specs.Holding.{is_held, WritesShort}
use Rattle.seq_table.specs.Batches.{values_written}
use Rattle.seq_table.proofs.Reserving.{all_hold_for_more}
use Rattle.round_exec.specs.Book.{are_clients}
use Rattle.round_exec.specs.Done.{outcomes_in, AreHeld, rooms_for}

pub outcomes_step : (done new whole : List (List Outcome)) (s t : State) (left rest : List Block) (b : Block) (o : List Outcome) → new ≡ done ++ o ∷ []
    → o ≡ outcomes_of s b.batch → t ≡ state_after_all s b.batch → left ≡ b ∷ rest → done ++ outcomes_in s left ≡ whole → new ++ outcomes_in t rest ≡ whole
outcomes_step done new whole s t left rest b o n e a l h =
    (λ i. n i ++ outcomes_in (a i) rest)
    ∙ append_assoc done (o ∷ []) (outcomes_in (state_after_all s b.batch) rest)
    ∙ ap (λ x. done ++ x ∷ outcomes_in (state_after_all s b.batch) rest) e
    ∙ sym (ap (λ x. done ++ outcomes_in s x) l) ∙ h

pub state_step : (whole s t : State) (left rest : List Block) (b : Block) → t ≡ state_after_all s b.batch → left ≡ b ∷ rest
    → state_after_blocks s left ≡ whole → state_after_blocks t rest ≡ whole
state_step whole s t left rest b a l h = ap (λ x. state_after_blocks x rest) a ∙ sym (ap (λ x. state_after_blocks s x) l) ∙ h

-- the room of one block more
pub rooms_step : (done new : List (List (Option (List ℕ)))) (room : List (Option (List ℕ))) (blocks : List Block) (i : ℕ) (b : Block) → i < length blocks
    → b ≡ get_or blocks i b → new ≡ done ++ room ∷ [] → room ≡ values_written b.batch → done ≡ rooms_for (take i blocks)
    → new ≡ rooms_for (take (i + 1) blocks)
rooms_step done new room blocks i b below at n r d =
    n ∙ ((λ j. d j ++ r j ∷ [])
    ∙ (ap (λ x. rooms_for (take i blocks) ++ values_written x.batch ∷ []) at ∙ sym (map_more (λ x. values_written x.batch) blocks i b below)))

-- keys that are held stay so where none is lost
pub held_more : (keys more : List (List ℕ)) (blocks : List Block) → ((key : List ℕ) → is_held keys key ≡ true → is_held more key ≡ true)
    → AreHeld keys blocks → AreHeld more blocks
held_more keys more blocks h all = λ k d l. all_hold_for_more keys more (slice_index_or blocks k d).batch h (all k d l)

-- ---- what a sound block keeps

op_short : (op : Op) → op_fits op ≡ true → WritesShort op
op_short (Put k v) h = at_most (length v) LONGEST_VALUE (and_left (nat_le (length v) LONGEST_VALUE) (are_bytes v) (and_right (bytes_fit LONGEST_KEY k) (bytes_fit LONGEST_VALUE v) h))
op_short (Get k) h = tt
op_short (Cut k) h = tt
op_short (Swap k e f) h =
    let both = and_right (bytes_fit LONGEST_KEY k) (bytes_fit LONGEST_VALUE e && bytes_fit LONGEST_VALUE f) h in
    at_most (length f) LONGEST_VALUE (and_left (nat_le (length f) LONGEST_VALUE) (are_bytes f) (and_right (bytes_fit LONGEST_VALUE e) (bytes_fit LONGEST_VALUE f) both))

request_short : (r : Request) → request_fits r ≡ true → WritesShort r.op
request_short r h =
    op_short r.op (and_left (op_fits r.op) (signature_fits r.sig) (and_right (is_u32 r.stamp) (op_fits r.op && signature_fits r.sig)
    (and_right (is_u8 r.client.number) (is_u32 r.stamp && (op_fits r.op && signature_fits r.sig)) h)))

all_short : (batch : List Request) → list_all request_fits batch ≡ true → All (λ r. WritesShort r.op) batch
all_short [] h k d l = absurd (omega (arith, l))
all_short (r ∷ rest) h zero d l = request_short r (and_left (request_fits r) (list_all request_fits rest) h)
all_short (r ∷ rest) h (suc k) d l = all_short rest (and_right (request_fits r) (list_all request_fits rest) h) k d (omega (arith, l))

pub batch_short : (batch : List Request) → batch_fits batch ≡ true → All (λ r. WritesShort r.op) batch
batch_short batch h = all_short batch (and_right (nat_le (length batch) MOST_REQUESTS) (list_all request_fits batch) h)

pub clients_below : (n : ℕ) (batch : List Request) → are_clients n batch ≡ true → All (λ r. r.client.number < n) batch
clients_below n [] h k d l = absurd (omega (arith, l))
clients_below n (r ∷ rest) h zero d l = below r.client.number n (and_left (nat_lt r.client.number n) (are_clients n rest) h)
clients_below n (r ∷ rest) h (suc k) d l = clients_below n rest (and_right (nat_lt r.client.number n) (are_clients n rest) h) k d (omega (arith, l))
