-- What a primary proposed was asked by the script, so it is no more than the script asks; and at a moment at which nothing is on its way, all
-- that the script asks of a client and that wasn't proposed is eligible.
use Rattle.std.proofs.Common.{Option, ◌≡◌, ℕ, ◌+◌, ◌-◌, ◌<◌, ◌≤◌, Bool, true, false, cond, ◌&&◌, nat_le, nat_eq, List, [], ◌∷◌, ◌++◌, filter, length, append_assoc, None, ◌⊎◌, inl, inr, refl, sym, ap, subst, ◌∙◌, arith}
use Rattle.std.specs.Prelude.{slice_index}
use Rattle.std.specs.List.{list_all, range_with_len}
use Rattle.std.specs.Option.{is_some}
use Rattle.std.proofs.lemmas.Bool.{cases_lt}
use Rattle.std.proofs.lemmas.List.{append-nil}
use Rattle.fab_base.specs.Limits.{Roster}
use Rattle.fab_base.specs.Roster.{size_of, is_replica, is_cluster}
use Rattle.fab_base.specs.declared.ids.ClientId.{ClientId}
use Rattle.fab_base.specs.declared.messages.Message.{Message}
use Rattle.fab_base.specs.declared.messages.PrePrepare.{PrePrepare}
use Rattle.fab_base.specs.declared.requests.Request.{Request}
use Rattle.fab_base.proofs.Tests.{and_left, and_right, and_both, is_below, is_at_most, same, are_same}
use Rattle.fab_rules.specs.Diary.{Entry, Heard, Said, Did}
use Rattle.fab_rules.specs.Lists.{In, first_of}
use Rattle.fab_rules.proofs.Lists.{in_append_cases, in_filter, of_filter, in_map, of_map, of_flat_map, all_pass, of_range_with_len}
use Rattle.fab_rules.proofs.Saying.{heard_before, still_heard}
use Rattle.fab_machine.specs.State.{Local}
use Rattle.fab_machine.specs.Items.{statements_in}
use Rattle.fab_machine.specs.Requests.{waiting_of}
use Rattle.fab_machine.specs.Proposing.{stamps_of, expected, is_eligible, eligible}
use Rattle.fault_script.specs.declared.scripts.Script.{Script}
use Rattle.fault_script.specs.declared.scripts.Wish.{Wish}
use Rattle.fault_script.specs.Scripts.{are_sizes, are_homes, are_wishes, is_wish, count_of, stamps_run, keeps_limits}
use Rattle.fault_script.proofs.Stamps.{count_and_one}
use Rattle.world_laws.specs.World.{IsCorrect, IsMade}
use Rattle.heed_laws.specs.Fronts.{GoOn}
use Rattle.heed_laws.specs.Heeding.{IsHeeded, IsWaitingFor, IsAskedFor}
use Rattle.heed_laws.specs.Resting.{member}
use Rattle.run_words.specs.Lawful.{AreEach}
use Rattle.run_words.specs.declared.logs.Transcript.{Transcript}
use Rattle.script_keys.proofs.Wishes.{asked_in}
use Rattle.script_keys.proofs.Wishes as wishes
use Rattle.run_worlds.proofs.Untroubled.{none_faulty}
use Rattle.fault_script.specs.declared.twists.Fault.{Fault}
use Rattle.std.specs.Option.{is_some}
use Rattle.run_worlds.specs.Scripts.{roster_of, makers_of}
use Rattle.run_worlds.specs.Worlds.{world_of}
use Rattle.run_worlds.specs.Sights.{first_evidence}
use Rattle.run_worlds.specs.Endings.{IsRunOf}
use Rattle.run_worlds.proofs.RunLogs.{logs_of}
use Rattle.run_laws.proofs.Unforged.{all_made}
use Rattle.plain_laws.specs.Plain.{IsUnspent, HasTimedOut}
use Rattle.plain_laws.proofs.Resting as resting
use Rattle.plain_laws.proofs.Resting.{IsStill}
use Rattle.plain_laws.proofs.Stamps.{HasWish, AllUpTo, one_more, wish_made}
use Rattle.budget_laws.specs.Opened.{state_at, full_at}
use Rattle.budget_laws.specs.Proposals.{batch_in, proposals_said, requests_said, stamps_said, IsThrifty}
use Rattle.budget_laws.proofs.Sums.{no_more, no_fewer, go_last}
use Rattle.budget_laws.proofs.Voicing.{voiced}

-- ---- the stamps of a script

-- a request's stamp is at most the number of its client's
stamp_counted : (before wishes : List Wish) (w : Wish) → stamps_run before wishes ≡ true → In w wishes → w.stamp ≤ count_of w.client.number (before ++ wishes)
stamp_counted before [] w run h = absurd h
stamp_counted before (first ∷ rest) w run h =
    let next = before ++ first ∷ [] in
    let e = same first.stamp (count_of first.client.number before + 1) (and_left (nat_eq first.stamp (count_of first.client.number before + 1)) _ run) in
    let joined : next ++ rest ≡ before ++ first ∷ rest = append_assoc before (first ∷ []) rest in
    go e (λ k. subst (λ l. w.stamp ≤ count_of w.client.number l) joined (stamp_counted next rest w (and_right (nat_eq first.stamp (count_of first.client.number before + 1)) _ run) k)) h
  where
    counted : (a b : List Wish) (client : ℕ) → count_of client a ≤ count_of client (a ++ b)
    counted [] b client = omega arith
    counted (x ∷ a) b client = by (nat_eq x.client.number client) (counted a b client)
      where
        mine : List Wish → List Wish
        mine l = filter (λ (y : Wish). nat_eq y.client.number client) l

        by : (t : Bool) → count_of client a ≤ count_of client (a ++ b)
            → length (cond t (x ∷ filter (λ (y : Wish). nat_eq y.client.number client) a) (filter (λ (y : Wish). nat_eq y.client.number client) a))
            ≤ length (cond t (x ∷ filter (λ (y : Wish). nat_eq y.client.number client) (a ++ b)) (filter (λ (y : Wish). nat_eq y.client.number client) (a ++ b)))
        by true h = omega (arith, h)
        by false h = h

    go : first.stamp ≡ count_of first.client.number before + 1 → (In w rest → w.stamp ≤ count_of w.client.number (before ++ first ∷ rest)) → In w (first ∷ rest)
        → w.stamp ≤ count_of w.client.number (before ++ first ∷ rest)
    go e later (inr k) = later k
    go e later (inl is) =
        let one = count_and_one first.client.number before first true (are_same first.client.number first.client.number refl) in
        let more = counted (before ++ first ∷ []) rest first.client.number in
        let joined = ap (count_of first.client.number) (append_assoc before (first ∷ []) rest) in
        let here : first.stamp ≤ count_of first.client.number (before ++ first ∷ rest) = omega (arith, e, one, more, joined) in
        subst (λ (x : Wish). x.stamp ≤ count_of x.client.number (before ++ first ∷ rest)) is here

-- and each number up to that is the stamp of one
all_there : (before wishes : List Wish) → stamps_run before wishes ≡ true → AllUpTo before → AllUpTo (before ++ wishes)
all_there before [] run all = subst AllUpTo (sym (append-nil before)) all
all_there before (first ∷ rest) run all =
    let e = same first.stamp (count_of first.client.number before + 1) (and_left (nat_eq first.stamp (count_of first.client.number before + 1)) _ run) in
    subst AllUpTo (append_assoc before (first ∷ []) rest)
    (all_there (before ++ first ∷ []) rest (and_right (nat_eq first.stamp (count_of first.client.number before + 1)) _ run) (one_more before first e all))

run_of_stamps : (script : Script) → keeps_limits script ≡ true → stamps_run [] script.requests ≡ true
run_of_stamps script limits =
    and_right (list_all (is_wish (length script.homes)) script.requests) _
    (and_left (are_wishes (length script.homes) script.requests) _
    (and_right (are_homes (length script.sizes) script.homes) _ (and_right (are_sizes script.sizes) _ limits)))

-- ---- proposals and their requests

of_batch : (m : Message) (b : List Request) → In b (batch_in m) → (p : PrePrepare) × (m ≡ Message.PrePrepare p) × (p.batch ≡ b)
of_batch (Message.PrePrepare p) b (inl e) = (p, refl, e)
of_batch (Message.PrePrepare p) b (inr none) = absurd none
of_batch (Message.Request x) b h = absurd h
of_batch (Message.Prepare x) b h = absurd h
of_batch (Message.Commit x) b h = absurd h
of_batch (Message.Checkpoint x) b h = absurd h
of_batch (Message.ViewChange x) b h = absurd h
of_batch (Message.NewView x) b h = absurd h
of_batch (Message.Drvc x) b h = absurd h
of_batch (Message.Rvc x) b h = absurd h
of_batch (Message.ReplyNote x) b h = absurd h
of_batch (Message.Share x) b h = absurd h
of_batch (Message.Fetch x) b h = absurd h

record IsSaidBatch (full : List Entry) (b : List Request) : Type 0 where
  proposal : PrePrepare
  said : In (Said (Message.PrePrepare proposal)) full
  batch_is : proposal.batch ≡ b

of_proposals : (full : List Entry) (b : List Request) → In b (proposals_said full) → IsSaidBatch full b
of_proposals [] b h = absurd h
of_proposals (Said m ∷ past) b h = elim (in_append_cases b (proposals_said past) (batch_in m) h) [
  | inl old ↦ (let o = of_proposals past b old in record { proposal = o.proposal; said = inr o.said; batch_is = o.batch_is })
  | inr here ↦ (let o = of_batch m b here in record { proposal = o.0; said = inl (ap Said o.1); batch_is = o.2 })
]
of_proposals (Heard m ∷ past) b h = let o = of_proposals past b h in record { proposal = o.proposal; said = inr o.said; batch_is = o.batch_is }
of_proposals (Did block ∷ past) b h = let o = of_proposals past b h in record { proposal = o.proposal; said = inr o.said; batch_is = o.batch_is }

-- a stamp of a client is that of a request of it
record IsOfStamp (xs : List Request) (client stamp : ℕ) : Type 0 where
  request : Request
  inside : In request xs
  client_is : request.client.number ≡ client
  stamp_is : request.stamp ≡ stamp

of_stamps : (client stamp : ℕ) (xs : List Request) → In stamp (stamps_of client xs) → IsOfStamp xs client stamp
of_stamps client stamp xs h =
    let m = of_map (λ (x : Request). x.stamp) stamp (filter (λ x. nat_eq x.client.number client) xs) h in
    let f = of_filter (λ (x : Request). nat_eq x.client.number client) m.from xs m.is_in in
    record { request = m.from; inside = f.0; client_is = same m.from.client.number client f.1; stamp_is = m.same }

in_stamps : (x : Request) (xs : List Request) (client : ℕ) → In x xs → x.client.number ≡ client → In x.stamp (stamps_of client xs)
in_stamps x xs client h e =
    in_map (λ (y : Request). y.stamp) x (filter (λ y. nat_eq y.client.number client) xs)
    (in_filter (λ (y : Request). nat_eq y.client.number client) x xs h (are_same x.client.number client e))

-- of more requests there are more stamps
pub stamps_among : (client stamp : ℕ) (xs ys : List Request) → ((x : Request) → In x xs → In x ys) → In stamp (stamps_of client xs) → In stamp (stamps_of client ys)
stamps_among client stamp xs ys more h =
    let o = of_stamps client stamp xs h in
    subst (λ s. In s (stamps_of client ys)) o.stamp_is (in_stamps o.request ys client (more o.request o.inside) o.client_is)

waits_there : (waiting : List Request) (client stamp : ℕ) → IsWaitingFor waiting client stamp → is_some (waiting_of waiting client stamp) ≡ true
waits_there waiting client stamp w =
    some_first (filter (λ x. nat_eq x.client.number client && nat_eq x.stamp stamp) waiting) w.request
    (in_filter (λ x. nat_eq x.client.number client && nat_eq x.stamp stamp) w.request waiting w.inside
    (and_both (nat_eq w.request.client.number client) _ (are_same w.request.client.number client w.client_is) (are_same w.request.stamp stamp w.stamp_is)))
  where
    some_first : (xs : List Request) (x : Request) → In x xs → is_some (first_of xs) ≡ true
    some_first [] x h = absurd h
    some_first (y ∷ xs) x h = refl

module _ (t : Transcript) (run : IsRunOf t.script t) (one : length t.script.sizes ≡ 1) (some : 0 < size_of (roster_of t.script) 1) where
  pub member_known : is_replica (roster_of t.script) (member 0) ≡ true
  member_known =
      and_both (is_cluster (roster_of t.script) 1) _ (and_both (nat_le 1 1) _ refl (is_at_most 1 (length t.script.sizes) (omega (arith, one))))
      (is_below 0 (size_of (roster_of t.script) 1) some)

  pub home_is : (c : ℕ) → c < length t.script.homes → slice_index t.script.homes c ≡ 1
  home_is c lt = let home = wishes.home_of t.script c run.limits lt in omega (arith, home.first, home.last, one)

module _ (t : Transcript) (run : IsRunOf t.script t) (untimed : HasTimedOut t → ⊥) (one : length t.script.sizes ≡ 1) (some : 0 < size_of (roster_of t.script) 1) where
  abbrev r : Roster
  r = roster_of t.script

  abbrev full : List Entry
  full = full_at t 0

  abbrev l : Local
  l = (state_at t 0).local

  wish_declared : (w : Wish) → In w t.script.requests → w.client.number < length t.script.homes
  wish_declared w h = (asked_in t.script w run.limits h).declared

  -- what was proposed was asked
  said_wish : (x : Request) → In x (requests_said (full_at t 0)) → HasWish t.script.requests x.client.number x.stamp
  said_wish x h =
      let j = of_flat_map (λ (b : List Request). b) x (proposals_said full) h in
      let o = of_proposals full j.from j.is_in in
      let for_all : IsAskedFor (full_at t 0) (Message.PrePrepare o.proposal) = ((voiced t run untimed one).heeds 0 some).are.asked (Message.PrePrepare o.proposal) o.said in
      let heard = for_all x (subst (In x) (sym o.batch_is) j.inside) in
      let early = heard_before ((world_of t).diary (member 0)) (statements_in (member 0) (state_at t 0).outbox) (Message.Request x) heard in
      let correct : IsCorrect (world_of t) (member 0) = record { takes_part = member_known t run one some; not_faulty = ap (λ (f : Option Fault). is_some f) (none_faulty t.script (member 0)) } in
      let made : IsMade (world_of t) (Message.Request x) =
      all_made t (logs_of t run) run.lawful.delivered (member 0) correct (Message.Request x) early (Message.Request x) (inl refl) in
      wish_made t x made

  stamps_upto : (c : ℕ) → GoOn 1 (stamps_said c (full_at t 0)) → length (stamps_said c (full_at t 0)) ≤ count_of c t.script.requests
  stamps_upto c goes = elim (cases_lt 0 (length (stamps_said c (full_at t 0)))) [
    | inr none ↦ omega (arith, none)
    | inl lives ↦ (let k = length (stamps_said c (full_at t 0)) in
        let o = of_stamps c k (requests_said (full_at t 0)) (go_last 1 k (stamps_said c (full_at t 0)) goes (omega (arith, lives)) (omega arith)) in
        let w = said_wish o.request o.inside in
        let n = stamp_counted [] t.script.requests w.wish (run_of_stamps t.script run.limits) w.inside in
        let at = ap (λ d. count_of d t.script.requests) (w.client_is ∙ o.client_is) in
        omega (arith, n, at, w.stamp_is, o.stamp_is))
  ]

  said_declared : (x : Request) → In x (requests_said (full_at t 0)) → x.client.number < length t.script.homes
  said_declared x h = let w = said_wish x h in let d = wish_declared w.wish w.inside in omega (arith, d, w.client_is)

  -- a primary proposes no more than the script asks
  pub requests_few : IsThrifty (roster_of t.script) (state_at t 0).local (full_at t 0) → length (requests_said (full_at t 0)) ≤ length t.script.requests
  requests_few thrift =
      no_more (length t.script.homes) (requests_said (full_at t 0)) t.script.requests said_declared wish_declared
      (λ c lt. stamps_upto c (thrift.stamps (let k : ClientId = record { number = c } in k) (home_is t run one some c lt)))

  -- where it proposed as many as each client asks, it proposed all
  pub requests_all : ((c : ℕ) → c < length t.script.homes → count_of c t.script.requests ≤ length (stamps_said c (full_at t 0)))
      → length t.script.requests ≤ length (requests_said (full_at t 0))
  requests_all each = no_fewer (length t.script.homes) (requests_said (full_at t 0)) t.script.requests said_declared wish_declared each

module _ (t : Transcript) (run : IsRunOf t.script t) (untimed : HasTimedOut t → ⊥) (one : length t.script.sizes ≡ 1) (some : 0 < size_of (roster_of t.script) 1) (still : IsStill t)
    (unspent : AreEach IsUnspent (makers_of t.script) t.traces) (clean : first_evidence t ≡ None) where
  abbrev here : Local
  here = (state_at t 0).local

  -- each number that is expected and asked waits
  waits : (c u : ℕ) → c < length t.script.homes → expected (state_at t 0).local c ≤ u → u ≤ count_of c t.script.requests → IsWaitingFor (state_at t 0).local.waiting c u
  waits c u lt from upto =
      let w = all_there [] t.script.requests (run_of_stamps t.script run.limits) (λ client k a b. absurd (omega (arith, a, b))) c u (omega (arith, from)) upto in
      let a = resting.asked t run untimed still unspent clean one some w.wish w.inside u (omega (arith, from)) (omega (arith, w.stamp_is)) in
      let x : Request = a.request in
      let full_heard = still_heard ((world_of t).diary (member 0)) (statements_in (member 0) (state_at t 0).outbox) (Message.Request x) a.heard in
      by x w.wish.client a.client_is w.client_is a.stamp_is (((voiced t run untimed one).heeds 0 some).are.local.heeded (Message.Request x) full_heard)
    where
      by : (x : Request) (k : ClientId) → x.client ≡ k → k.number ≡ c → x.stamp ≡ u
          → IsHeeded (roster_of t.script) (member 0) here.slots here.kept here.waiting here.last here.checkpoints (Message.Request x) ⊎ In (Message.Request x) []
          → IsWaitingFor (state_at t 0).local.waiting c u
      by x k is number_is stamp_is (inr none) = absurd none
      by x k is number_is stamp_is (inl good) =
          let client_is : x.client.number ≡ c = ap (λ (i : ClientId). i.number) is ∙ number_is in
          elim (good (ap (slice_index t.script.homes) client_is ∙ home_is t run one some c lt)) [
            | inl old ↦ absurd (omega (arith, old, stamp_is, from, ap (slice_index here.last) client_is))
            | inr w ↦ record { request = w.request; inside = w.inside; client_is = w.client_is ∙ client_is; stamp_is = w.stamp_is ∙ stamp_is }
          ]

  -- so where more is asked than is in work or took effect, the last number of it is eligible
  pub last_eligible : (c : ℕ) → c < length t.script.homes → expected (state_at t 0).local c ≤ count_of c t.script.requests
      → In (count_of c t.script.requests) (stamps_of c (eligible (state_at t 0).local))
  last_eligible c lt from =
      let last = count_of c t.script.requests in
      let w = waits c last lt from (omega arith) in
      let y : Request = w.request in
      let all : list_all (λ stamp. is_some (waiting_of here.waiting c stamp)) (range_with_len (expected here c) (last - expected here c)) ≡ true =
      all_pass (λ stamp. is_some (waiting_of here.waiting c stamp)) (range_with_len (expected here c) (last - expected here c))
      (λ u h. (let within = of_range_with_len (expected here c) (last - expected here c) u h in
      waits_there here.waiting c u (waits c u lt within.0 (omega (arith, within.1, from))))) in
      let passes : is_from c last ≡ true = and_both (nat_le (expected here c) last) _ (is_at_most (expected here c) last from) all in
      let is : is_eligible here y ≡ true = ap (λ d. is_from d y.stamp) w.client_is ∙ (ap (is_from c) w.stamp_is ∙ passes) in
      subst (λ s. In s (stamps_of c (eligible here))) w.stamp_is (in_stamps y (eligible here) c (in_filter (is_eligible here) y here.waiting w.inside is) w.client_is)
    where
      is_from : ℕ → ℕ → Bool
      is_from d s = nat_le (expected here d) s && list_all (λ stamp. is_some (waiting_of here.waiting d stamp)) (range_with_len (expected here d) (s - expected here d))
