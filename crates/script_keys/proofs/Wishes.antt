-- What a script within its limits says of each of its requests.
use Rattle.std.proofs.Common.{◌≡◌, ℕ, zero, suc, inl, inr, ◌+◌, ◌-◌, ◌<◌, ◌≤◌, true, nat_lt, nat_le, List, [], ◌∷◌, ◌++◌, map, length, get_or, take, refl, sym, ap, subst, ◌∙◌, arith}
use Rattle.std.specs.List.{list_all}
use Rattle.std.specs.Prelude.{slice_index}
use Rattle.std.proofs.lemmas.List.{map_more}
use Rattle.std.proofs.lemmas.List.FromFn.{get_or-map-range_with_len}
use Rattle.fab_base.specs.Fields.{op_fits}
use Rattle.fab_base.specs.declared.limits.TheConstants.{MOST_CLIENTS, MOST_STAMPS, MOST_CLUSTERS}
use Rattle.fab_base.specs.declared.ids.Who.{Who}
use Rattle.fab_base.specs.declared.requests.Op.{Op}
use Rattle.fab_base.specs.declared.requests.Request.{Request}
use Rattle.fab_base.proofs.Tests.{and_left, and_right, and_both, at_most, below, is_below}
use Rattle.fab_rules.specs.Format.{is_u8, is_u32, signature_fits, request_fits}
use Rattle.fab_rules.specs.Lists.{In}
use Rattle.fab_rules.proofs.Lists.{each_passes}
use Rattle.fault_script.specs.declared.scripts.Script.{Script}
use Rattle.fault_script.specs.declared.scripts.Wish.{Wish}
use Rattle.fault_script.specs.Fields.{is_within}
use Rattle.fault_script.specs.Scripts.{is_wish, are_sizes, are_homes, are_wishes, stamps_run, keeps_limits}
use Rattle.lms_tree.specs.Keys.{TreeKey}
use Rattle.script_keys.specs.Keys.{key_of, client, client_keys_of}
use Rattle.script_keys.specs.Requests.{request_by, request_of}
use Rattle.script_keys.proofs.Listing.{passes_at}
use Rattle.script_keys.proofs.Signatures.{has_place}

pub record IsAsked (script : Script) (w : Wish) : Type 0 where
  pub declared : w.client.number < length script.homes
  pub number : w.client.number < 256
  pub stamp : (1 ≤ w.stamp) × (w.stamp ≤ 32)
  pub op : op_fits w.op ≡ true

few_clients : (script : Script) → keeps_limits script ≡ true → length script.homes ≤ MOST_CLIENTS
few_clients script h =
    at_most (length script.homes) MOST_CLIENTS
    (and_left _ (list_all (is_within 1 (length script.sizes)) script.homes)
    (and_left (are_homes (length script.sizes) script.homes) _ (and_right (are_sizes script.sizes) _ h)))

pub few_clusters : (script : Script) → keeps_limits script ≡ true → length script.sizes ≤ MOST_CLUSTERS
few_clusters script h = at_most (length script.sizes) MOST_CLUSTERS (and_left _ _ (and_left (are_sizes script.sizes) _ h))

-- the home of a client that takes part is one of the clusters, from 1
pub home_declared : (script : Script) (number : ℕ) → keeps_limits script ≡ true → number < length script.homes
    → slice_index script.homes number - 1 < length script.sizes
home_declared script number h lt =
    let clusters = length script.sizes in
    let home = slice_index script.homes number in
    let all = and_right (nat_le (length script.homes) MOST_CLIENTS) _
    (and_left (are_homes clusters script.homes) _ (and_right (are_sizes script.sizes) _ h)) in
    let here = passes_at (is_within 1 clusters) script.homes number home 0 all lt refl in
    let low : 1 ≤ home = at_most 1 home (and_left (nat_le 1 home) (nat_le home clusters) here) in
    let high : home ≤ clusters = at_most home clusters (and_right (nat_le 1 home) (nat_le home clusters) here) in
    omega arith

all_wishes : (script : Script) → keeps_limits script ≡ true → list_all (is_wish (length script.homes)) script.requests ≡ true
all_wishes script h =
    and_left _ (stamps_run [] script.requests)
    (and_left (are_wishes (length script.homes) script.requests) _
    (and_right (are_homes (length script.sizes) script.homes) _ (and_right (are_sizes script.sizes) _ h)))

asked_of : (script : Script) (w : Wish) → keeps_limits script ≡ true → is_wish (length script.homes) w ≡ true → IsAsked script w
asked_of script w h is =
    let few = few_clients script h in
    let lt = below w.client.number (length script.homes) (and_left _ _ is) in
    let rest = and_right (nat_lt w.client.number (length script.homes)) _ is in
    let stamp = and_left (is_within 1 MOST_STAMPS w.stamp) (op_fits w.op) rest in
    record {
      declared = lt;
      number = omega (arith, few, lt);
      stamp = (at_most 1 w.stamp (and_left _ _ stamp), at_most w.stamp 32 (and_right (nat_le 1 w.stamp) _ stamp));
      op = and_right (is_within 1 MOST_STAMPS w.stamp) (op_fits w.op) rest;
    }

pub asked_at : (script : Script) (ws : List Wish) (k : ℕ) (w d : Wish) → keeps_limits script ≡ true → ws ≡ script.requests → k < length ws → w ≡ get_or ws k d
    → IsAsked script w
asked_at script ws k w d h e lt is =
    asked_of script w h
    (passes_at (is_wish (length script.homes)) ws k w d
    (subst (λ (l : List Wish). list_all (is_wish (length script.homes)) l ≡ true) (sym e) (all_wishes script h)) lt is)

pub asked_in : (script : Script) (w : Wish) → keeps_limits script ≡ true → In w script.requests → IsAsked script w
asked_in script w h i = asked_of script w h (each_passes (is_wish (length script.homes)) script.requests w (all_wishes script h) i)

-- ---- the key that signs it

pub key_at : (script : Script) (keys : List TreeKey) (n : ℕ) (key d : TreeKey) → keys ≡ client_keys_of script → n < length script.homes → key ≡ get_or keys n d
    → key ≡ key_of script (client n)
key_at script keys n key d e lt is =
    let zero_on : 0 + n ≡ n = omega arith in
    is ∙ ap (λ (l : List TreeKey). get_or l n d) e
    ∙ get_or-map-range_with_len (λ number. key_of script (client number)) 0 (length script.homes) n n d lt zero_on

pub one_more : (script : Script) (ws : List Wish) (k : ℕ) (w d : Wish) (key : TreeKey) (r : Request) → k < length ws → w ≡ get_or ws k d
    → key ≡ key_of script (Who.Client w.client) → r ≡ request_by key w
    → map (request_of script) (take k ws) ++ r ∷ [] ≡ map (request_of script) (take (k + 1) ws)
one_more script ws k w d key r lt is e by =
    ap (λ (x : Request). map (request_of script) (take k ws) ++ x ∷ [])
    (by ∙ ap (λ (t : TreeKey). request_by t w) e ∙ ap (request_of script) is)
    ∙ sym (map_more (request_of script) ws k d lt)

-- ---- its fields

pub asked_fits : (w : Wish) (op : Op) (sig : List ℕ) → w.client.number < 256 → w.stamp ≤ 32 → op_fits w.op ≡ true → op ≡ w.op
    → signature_fits sig ≡ true → request_fits (record { client = w.client; stamp = w.stamp; op = op; sig = sig }) ≡ true
asked_fits w op sig small few o e s =
    and_both (is_u8 w.client.number) _ (is_below w.client.number 256 small)
    (and_both (is_u32 w.stamp) _ (is_below w.stamp 4294967296 (omega (arith, few)))
    (and_both (op_fits op) (signature_fits sig) (ap op_fits e ∙ o) s))

pub request_has_fields : (script : Script) (w : Wish) → IsAsked script w → request_fits (request_of script w) ≡ true
request_has_fields script w a =
    asked_fits w w.op (request_of script w).sig a.number a.stamp.1 a.op refl
    (has_place script (Who.Client w.client) (w.stamp - 1) _ (omega (arith, a.stamp.0, a.stamp.1)))

-- ---- where its copies go

pub record HasHome (script : Script) (number : ℕ) : Type 0 where
  pub first : 1 ≤ slice_index script.homes number
  pub last : slice_index script.homes number ≤ length script.sizes

pub home_of : (script : Script) (number : ℕ) → keeps_limits script ≡ true → number < length script.homes → HasHome script number
home_of script number h lt =
    let all =
    and_right _ (list_all (is_within 1 (length script.sizes)) script.homes)
    (and_left (are_homes (length script.sizes) script.homes) _ (and_right (are_sizes script.sizes) _ h)) in
    let is = passes_at (is_within 1 (length script.sizes)) script.homes number (slice_index script.homes number) 0 all lt refl in
    record {
      first = at_most 1 (slice_index script.homes number) (and_left _ _ is);
      last = at_most (slice_index script.homes number) (length script.sizes) (and_right (nat_le 1 (slice_index script.homes number)) _ is);
    }

pub record IsSigned (script : Script) (r : Request) : Type 0 where
  pub declared : r.client.number < length script.homes
  pub has_fields : request_fits r ≡ true

record IsMapped (script : Script) (ws : List Wish) (r : Request) : Type 0 where
  pub wish : Wish
  pub is_in : In wish ws
  pub is : request_of script wish ≡ r

mapped_at : (script : Script) (ws : List Wish) (k : ℕ) (r d : Request) → k < length (map (request_of script) ws)
    → r ≡ get_or (map (request_of script) ws) k d → IsMapped script ws r
mapped_at script [] k r d lt e = absurd (omega arith)
mapped_at script (w ∷ ws) zero r d lt e = record { wish = w; is_in = inl refl; is = sym e }
mapped_at script (w ∷ ws) (suc k) r d lt e =
    let m = mapped_at script ws k r d (omega (arith, lt)) e in record { wish = m.wish; is_in = inr m.is_in; is = m.is }

pub signed_at : (script : Script) (rs : List Request) (k : ℕ) (r d : Request) → keeps_limits script ≡ true → rs ≡ map (request_of script) script.requests
    → k < length rs → r ≡ get_or rs k d → IsSigned script r
signed_at script rs k r d h e lt is =
    let m = mapped_at script script.requests k r d (subst (λ (l : List Request). k < length l) e lt) (is ∙ ap (λ (l : List Request). get_or l k d) e) in
    let a = asked_in script m.wish h m.is_in in
    subst (λ (x : Request). IsSigned script x) m.is (record { declared = a.declared; has_fields = request_has_fields script m.wish a })
