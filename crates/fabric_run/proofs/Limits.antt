-- What the limits of a script mean for its requests: each meets what the table asks of one.
use Rattle.std.proofs.Common.{◌≡◌, ℕ, ◌<◌, ◌≤◌, true, ◌&&◌, nat_lt, nat_le, List, [], ◌∷◌, length, map, sym, subst}
use Rattle.std.proofs.lemmas.List.Elements.{All-nil, All-cons}
use Rattle.std.specs.List.{list_all, All}
use Rattle.fab_base.specs.declared.limits.TheConstants.{LONGEST_KEY, LONGEST_VALUE, MOST_STAMPS}
use Rattle.fab_base.specs.declared.requests.Request.{Request}
use Rattle.fab_base.specs.declared.requests.Op.{Op}
use Rattle.fab_base.specs.declared.requests.Op.TheVariants.{Put, Get, Cut, Swap}
use Rattle.fab_base.specs.Fields.{are_bytes, bytes_fit, op_fits}
use Rattle.fab_base.proofs.Tests.{and_left, and_right, below, at_most}
use Rattle.seq_table.specs.Holding.{WritesShort}
use Rattle.fault_script.specs.declared.scripts.Script.{Script}
use Rattle.fault_script.specs.declared.scripts.Wish.{Wish}
use Rattle.fault_script.specs.Fields.{is_within}
use Rattle.fault_script.specs.Scripts.{are_sizes, are_homes, is_wish, stamps_run, are_wishes, are_timeouts, keeps_limits}
use Rattle.fault_script.specs.Settings.{are_settings}
use Rattle.fabric_run.specs.Plain.{request_of, requests_of}

value_short : (value : List ℕ) → bytes_fit LONGEST_VALUE value ≡ true → length value ≤ LONGEST_VALUE
value_short value h = at_most (length value) LONGEST_VALUE (and_left (nat_le (length value) LONGEST_VALUE) (are_bytes value) h)

op_short : (op : Op) → op_fits op ≡ true → WritesShort op
op_short (Put key value) h = value_short value (and_right (bytes_fit LONGEST_KEY key) (bytes_fit LONGEST_VALUE value) h)
op_short (Get key) h = tt
op_short (Cut key) h = tt
op_short (Swap key expected fresh) h =
    value_short fresh
    (and_right (bytes_fit LONGEST_VALUE expected) (bytes_fit LONGEST_VALUE fresh)
    (and_right (bytes_fit LONGEST_KEY key) (bytes_fit LONGEST_VALUE expected && bytes_fit LONGEST_VALUE fresh) h))

wish_declared : (n : ℕ) (wish : Wish) → is_wish n wish ≡ true → wish.client.number < n
wish_declared n wish h = below wish.client.number n (and_left (nat_lt wish.client.number n) (is_within 1 MOST_STAMPS wish.stamp && op_fits wish.op) h)

wish_short : (n : ℕ) (wish : Wish) → is_wish n wish ≡ true → WritesShort wish.op
wish_short n wish h =
    let stamped = is_within 1 MOST_STAMPS wish.stamp in
    op_short wish.op (and_right stamped (op_fits wish.op) (and_right (nat_lt wish.client.number n) (stamped && op_fits wish.op) h))

-- what holds of each request within the limits holds of each of a script's
requests_all : (P : Request → Type 0) (n : ℕ) → ((wish : Wish) → is_wish n wish ≡ true → P (request_of wish))
    → (wishes : List Wish) → list_all (is_wish n) wishes ≡ true → All P (map request_of wishes)
requests_all P n each [] h = All-nil P
requests_all P n each (wish ∷ wishes) h =
    All-cons P (request_of wish) (map request_of wishes)
    (each wish (and_left (is_wish n wish) (list_all (is_wish n) wishes) h))
    (requests_all P n each wishes (and_right (is_wish n wish) (list_all (is_wish n) wishes) h))

all_wishes : (script : Script) → keeps_limits script ≡ true → list_all (is_wish (length script.homes)) script.requests ≡ true
all_wishes script h =
    let clients = are_homes (length script.sizes) script.homes in
    let each = list_all (is_wish (length script.homes)) script.requests in
    let requests = are_wishes (length script.homes) script.requests in
    let settings = are_settings script.batch script.window script.interval script.seed script.turns script.patience script.height in
    let rest = are_timeouts script.sizes script.timeouts && settings in
    and_left each (stamps_run [] script.requests)
    (and_left requests rest (and_right clients (requests && rest) (and_right (are_sizes script.sizes) (clients && (requests && rest)) h)))

pub requests_declared : (script : Script) (n : ℕ) → n ≡ length script.homes → keeps_limits script ≡ true → All (λ (r : Request). r.client.number < n) (requests_of script)
requests_declared script n e h =
    subst (λ m. All (λ (r : Request). r.client.number < m) (requests_of script)) (sym e)
    (requests_all (λ r. r.client.number < length script.homes) (length script.homes) (λ wish w. wish_declared (length script.homes) wish w) script.requests (all_wishes script h))

pub requests_short : (script : Script) → keeps_limits script ≡ true → All (λ (r : Request). WritesShort r.op) (requests_of script)
requests_short script h =
    requests_all (λ r. WritesShort r.op) (length script.homes) (λ wish w. wish_short (length script.homes) wish w) script.requests (all_wishes script h)
