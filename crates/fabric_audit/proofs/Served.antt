-- What the requests of a script came to, ledger by ledger.
use Rattle.std.proofs.Common.{◌≡◌, ℕ, ◌+◌, ◌<◌, Bool, true, false, cond, ◌&&◌, List, length, take, get_or, refl, sym, ap, ◌∙◌}
use Rattle.std.specs.List.{All, prefix_len, slice_get}
use Rattle.std.proofs.lemmas.List.Folds.{list_all_more}
use Rattle.fault_script.specs.declared.scripts.Script.{Script}
use Rattle.fault_script.specs.declared.scripts.Wish.{Wish}
use Rattle.run_words.specs.declared.logs.Trace.{Trace}
use Rattle.run_words.specs.declared.logs.Transcript.{Transcript}
use Rattle.replica_log.specs.Replayed.{IsReplayable}
use Rattle.run_worlds.specs.Scripts.{roster_of, makers_of}
use Rattle.run_worlds.specs.Worlds.{is_correct_one}
use Rattle.run_worlds.specs.Endings.{IsOfLogs, is_effective, first_missing}
use Rattle.fabric_audit.specs.Stamps.{stamps_of, is_served, is_served_in, served_by}
use Rattle.fabric_audit.proofs.Prefixes.{both_pass, same_pass, first_not}
use Rattle.fabric_audit.proofs.Ledgers.{all_of, all_replayable, effective}

-- what took effect in the first ledgers and in the next one
served_next : (script : Script) (traces : List Trace) (i : ℕ) (t : Trace) (w : Wish) (here : Bool) → i < length traces → t ≡ get_or traces i t
    → here ≡ is_served_in script w t → (served_by script (take i traces) w && here) ≡ served_by script (take (i + 1) traces) w
served_next script traces i t w here lt is e =
    ap (λ b. served_by script (take i traces) w && b) (e ∙ ap (is_served_in script w) is)
    ∙ sym (list_all_more (is_served_in script w) traces i t lt)

-- the ledger of a correct replica more
pub served_more : (script : Script) (traces : List Trace) (i : ℕ) (t : Trace) (stamps : List ℕ) (count now : ℕ) → i < length traces
    → t ≡ get_or traces i t → is_correct_one t ≡ true → stamps ≡ stamps_of script t
    → count ≡ prefix_len (served_by script (take i traces)) script.requests
    → now ≡ prefix_len (is_served stamps) (take count script.requests)
    → now ≡ prefix_len (served_by script (take (i + 1) traces)) script.requests
served_more script traces i t stamps count now lt is correct by before after =
    after
    ∙ ap (λ (l : List ℕ). prefix_len (is_served l) (take count script.requests)) by
    ∙ ap (λ n. prefix_len (is_served (stamps_of script t)) (take n script.requests)) before
    ∙ both_pass (served_by script (take i traces)) (is_served (stamps_of script t)) script.requests
    ∙ same_pass (λ w. served_by script (take i traces) w && is_served (stamps_of script t) w) (served_by script (take (i + 1) traces)) script.requests
    (λ w h. served_next script traces i t w (is_served (stamps_of script t) w) lt is
    (ap (λ b. cond b (is_served (stamps_of script t) w) true) (sym correct)))

-- that of a faulty one changes nothing
pub served_still : (script : Script) (traces : List Trace) (i : ℕ) (t : Trace) (count : ℕ) → i < length traces
    → t ≡ get_or traces i t → is_correct_one t ≡ false → count ≡ prefix_len (served_by script (take i traces)) script.requests
    → count ≡ prefix_len (served_by script (take (i + 1) traces)) script.requests
served_still script traces i t count lt is faulty before =
    before
    ∙ same_pass (served_by script (take i traces)) (served_by script (take (i + 1) traces)) script.requests
    (λ w h. and_true (served_by script (take i traces) w)
    ∙ served_next script traces i t w true lt is (ap (λ b. cond b (is_served (stamps_of script t) w) true) (sym faulty)))
  where
    and_true : (b : Bool) → b ≡ (b && true)
    and_true true = refl
    and_true false = refl

-- the first request that didn't take effect in each ledger
pub missing_is : (t : Transcript) (count : ℕ) → IsOfLogs t → count ≡ prefix_len (served_by t.script t.traces) t.script.requests
    → slice_get t.script.requests count ≡ first_missing t
missing_is t count run is =
    ap (slice_get t.script.requests)
    (is ∙ same_pass (served_by t.script t.traces) (is_effective t) t.script.requests
    (λ w h. effective t.script w (makers_of t.script) t.traces run.limits h (all_of t.script) run.kept))
    ∙ first_not (is_effective t) t.script.requests

pub run_replayable : (t : Transcript) → IsOfLogs t → All (IsReplayable (roster_of t.script)) t.traces
run_replayable t run = all_replayable t.script (makers_of t.script) t.traces (all_of t.script) run.kept
