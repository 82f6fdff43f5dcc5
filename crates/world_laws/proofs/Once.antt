-- Runs: no request is done twice, whatever the ledger.
use Rattle.std.proofs.Common.{◌≡◌, ◌<◌, List, [], ◌∷◌, ◌++◌, inl, inr, refl, sym, ap, subst, ◌∙◌, arith}
use Rattle.std.specs.List.{flat_map}
use Rattle.fab_base.specs.declared.requests.Reply.{Reply}
use Rattle.fab_base.specs.declared.requests.Outcome.{Outcome}
use Rattle.fab_base.specs.declared.requests.Outcome.TheVariants.{Done, Again, Early}
use Rattle.fab_base.specs.declared.requests.Request.{Request}
use Rattle.fab_base.specs.declared.messages.NoteLine.{NoteLine}
use Rattle.fab_rules.specs.declared.blocks.Block.{Block}
use Rattle.fab_base.specs.Table.{State, last_of, outcome_of, outcomes_of, state_after, state_after_all}
use Rattle.fab_base.proofs.Stamps.{last_of-state_after, done_raises}
use Rattle.fab_rules.specs.Lists.{In}
use Rattle.fab_rules.specs.Ledger.{run_from, lines_with, all_lines}
use Rattle.world_laws.specs.Safety.{IsDone, IsDoneOnce}

-- the lines of a list of requests
abbrev lines_after : State → List Request → List NoteLine
lines_after state requests = lines_with requests (outcomes_of state requests)

record DoneWith (outcome : Outcome) : Type 0 where
  reply : Reply
  is : outcome ≡ Done reply

done_with : (outcome : Outcome) → IsDone outcome → DoneWith outcome
done_with (Done reply) h = record { reply = reply; is = refl }
done_with Again h = absurd h
done_with Early h = absurd h

raises : (state : State) (request : Request) → IsDone (outcome_of state request)
    → (last_of state request.client.number < request.stamp) × (last_of (state_after state request) request.client.number ≡ request.stamp)
raises state request h = let d = done_with (outcome_of state request) h in done_raises state request d.reply d.is

-- a line that is done later has a stamp above its client's last one
later_is_above : (state : State) (requests : List Request) (line : NoteLine) → In line (lines_after state requests) → IsDone line.outcome
    → last_of state line.client.number < line.stamp
later_is_above state [] line h d = absurd h
later_is_above state (request ∷ rest) line (inl e) d =
    subst (λ l. IsDone l.outcome → last_of state l.client.number < l.stamp) e (λ k. (raises state request k).0) d
later_is_above state (request ∷ rest) line (inr h) d =
    omega (arith, later_is_above (state_after state request) rest line h d, last_of-state_after state request line.client.number)

lines_done_once : (state : State) (requests : List Request) → IsDoneOnce (lines_after state requests)
lines_done_once state [] = tt
lines_done_once state (request ∷ rest) = (
  λ d later h e same_client same_stamp.
      (let above = later_is_above (state_after state request) rest later h e in
      let raised = (raises state request d).1 in
      let client = ap (λ c. last_of (state_after state request) c.number) same_client in
      absurd (omega (arith, above, raised, client, same_stamp))),
  lines_done_once (state_after state request) rest,
)

lines-append : (state : State) (xs ys : List Request)
    → lines_after state (xs ++ ys) ≡ lines_after state xs ++ lines_after (state_after_all state xs) ys
lines-append state [] ys = refl
lines-append state (x ∷ xs) ys = ap (λ l. record { client = x.client; stamp = x.stamp; outcome = outcome_of state x } ∷ l) (lines-append (state_after state x) xs ys)

-- a run of blocks is the run of their requests
lines_of_blocks : (state : State) (blocks : List Block)
    → all_lines (run_from state blocks) ≡ lines_after state (flat_map (λ b. b.batch) blocks)
lines_of_blocks state [] = refl
lines_of_blocks state (block ∷ rest) =
    ap (λ l. lines_after state block.batch ++ l) (lines_of_blocks (state_after_all state block.batch) rest) ∙
    sym (lines-append state block.batch (flat_map (λ b. b.batch) rest))

pub run_done_once : (state : State) (blocks : List Block) → IsDoneOnce (all_lines (run_from state blocks))
run_done_once state blocks = subst IsDoneOnce (sym (lines_of_blocks state blocks)) (lines_done_once state (flat_map (λ b. b.batch) blocks))
