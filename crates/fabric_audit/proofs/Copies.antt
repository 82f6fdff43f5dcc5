-- The copies of a script's requests go to members, and how many there are.
use Rattle.std.proofs.Common.{◌≡◌, ℕ, ◌+◌, ◌-◌, true, List, [], ◌∷◌, map, length, slice_index, get_or, sum_by, inl, inr, refl, ap, ◌∙◌, arith}
use Rattle.std.specs.Prelude.{IsTrue}
use Rattle.std.specs.List.{All, range_with_len}
use Rattle.std.proofs.lemmas.List.Sums.{sum_by-cons, sum_by-append}
use Rattle.std.proofs.lemmas.List.FromFn.{length-range_with_len}
use Rattle.fab_base.proofs.Tests.{and_both, is_at_most, is_below}
use Rattle.fab_base.specs.Roster.{is_replica, is_client}
use Rattle.fab_base.specs.declared.ids.ReplicaId.{ReplicaId}
use Rattle.fab_rules.specs.Lists.{In}
use Rattle.fab_rules.proofs.Lists.{of_range_with_len}
use Rattle.fault_script.specs.declared.scripts.Script.{Script}
use Rattle.fault_script.specs.declared.scripts.Wish.{Wish}
use Rattle.fault_script.specs.Scripts.{keeps_limits}
use Rattle.run_words.specs.declared.logs.Pending.{Pending}
use Rattle.script_keys.specs.Keys.{members_of}
use Rattle.script_keys.specs.Requests.{request_of, pending_of, receivers_of, copies_to, copies_from, copies_of}
use Rattle.script_keys.proofs.Wishes.{asked_at, asked_in}
use Rattle.run_worlds.specs.Scripts.{roster_of}
use Rattle.run_worlds.proofs.ScriptLimits.{within_limits}
use Rattle.fabric_audit.specs.Counts.{copies_for}
use Rattle.fabric_audit.proofs.Sums.{sum_map, sum_ones}
use Rattle.fabric_audit.proofs.Members.{once}

-- each request's client is one of the script's
pub clients_known : (script : Script) → keeps_limits script ≡ true → All (λ w. IsTrue (is_client (roster_of script) w.client)) script.requests
clients_known script limits k d lt =
    let w = get_or script.requests k d in
    is_below w.client.number (length script.homes) (asked_at script script.requests k w d limits refl lt refl).declared

abbrev goes_to_member : Script → ReplicaId × Pending → ℕ
goes_to_member script p = once (is_replica (roster_of script) p.0)

-- the copies of one request
one_request : (script : Script) (k : ℕ) (w : Wish) → keeps_limits script ≡ true → In w script.requests
    → sum_by (goes_to_member script) (copies_to (pending_of k (request_of script w)) (receivers_of script (request_of script w)))
    ≡ copies_for (roster_of script) w
one_request script k w limits asked =
    let a = asked_in script w limits asked in
    let home = slice_index script.homes w.client.number in
    let size = slice_index script.sizes (home - 1) in
    let member : ℕ → ReplicaId = λ index. record { cluster = home; index = index } in
    let within = (within_limits script limits).homes w.client.number 0 a.declared in
    sum_map (goes_to_member script) (λ (to : ReplicaId). (to, pending_of k (request_of script w))) (members_of home size)
    ∙ sum_map (λ (to : ReplicaId). once (is_replica (roster_of script) to)) member (range_with_len 0 size)
    ∙ sum_ones (λ (index : ℕ). once (is_replica (roster_of script) (member index))) (range_with_len 0 size)
    (λ index i.
    let lt = (of_range_with_len 0 size index i).1 in
    ap once
    (and_both _ _
    (and_both _ _ (is_at_most 1 home within.0) (is_at_most home (length script.sizes) within.1))
    (is_below index size (omega (arith, lt)))))
    ∙ length-range_with_len 0 size

all_requests : (script : Script) (k : ℕ) (ws : List Wish) → keeps_limits script ≡ true → ((w : Wish) → In w ws → In w script.requests)
    → sum_by (goes_to_member script) (copies_from script k (map (request_of script) ws)) ≡ sum_by (copies_for (roster_of script)) ws
all_requests script k [] limits asked = refl
all_requests script k (w ∷ ws) limits asked =
    let r = request_of script w in
    let both = sum_by-append (goes_to_member script) (copies_to (pending_of k r) (receivers_of script r)) (copies_from script (k + 1) (map (request_of script) ws)) in
    let here = one_request script k w limits (asked w (inl refl)) in
    let rest = all_requests script (k + 1) ws limits (λ x i. asked x (inr i)) in
    let sum = sum_by-cons (copies_for (roster_of script)) w ws in
    omega (arith, both, here, rest, sum)

-- as many copies go to members as the homes of the clients have replicas
pub copies_counted : (script : Script) → keeps_limits script ≡ true
    → sum_by (λ p. once (is_replica (roster_of script) p.0)) (copies_of script) ≡ sum_by (copies_for (roster_of script)) script.requests
copies_counted script limits = all_requests script 0 script.requests limits (λ w i. i)
