-- What an operation does to held keys, and a request to a table.
use Rattle.std.proofs.Common.{◌≡◌, ℕ, zero, suc, ◌+◌, ◌<◌, ◌≤◌, Bool, true, false, cond, unwrap_or, nat_eq, nat_le, slice_index, Result, Ok, Err, List, [], ◌∷◌, ◌++◌, length, Option, None, Some, refl, sym, ap, subst, ◌∙◌, true≢false, if◌then◌else◌, arith}
use Rattle.std.proofs.Math.ListN.{set}
use Rattle.std.proofs.lemmas.Bool.Decides.{nat_tests}
use Rattle.std.specs.Option.{IsSome}
use Rattle.std.specs.Result.{OnOk}
use Rattle.fab_base.specs.declared.limits.TheConstants.{LONGEST_VALUE}
use Rattle.fab_base.specs.declared.requests.Request.{Request}
use Rattle.std.specs.BTreeMap.{is_at}
use Rattle.std.specs.Map.{set_value, keys_of}
use Rattle.std.specs.Cmp.Lexicographic.{pointwise}
use Rattle.std.proofs.lemmas.Map.{keys-set_value}
use Rattle.fab_base.specs.Table.{State, state_after, byte_order, value_in, with_value, with_stamp, is_value, value_after, entries_after, key_of, found}
use Rattle.fab_base.specs.declared.requests.Op.{Op}
use Rattle.fab_base.specs.declared.requests.Op.TheVariants.{Put, Get, Cut, Swap}
use Rattle.fab_base.specs.declared.requests.Outcome.TheVariants.{Done}
use Rattle.fab_base.proofs.Entries.{value_in-with_value, with_value-same}
use Rattle.seq_table.specs.Holding.{Held, Holding, state_of, entries_of, is_held, with_key, keys_after, HoldsShort, WritesShort}
use Rattle.seq_table.proofs.Pairs.{flat, there, value_there, is_held-there, none_there, ordered, entries_of-set_value, entries_of-push}

-- ---- held keys

-- a key with a value is held
pub valued_there : (held : Held) (k v : List ℕ) → Some v ≡ value_in (entries_of held) k → IsSome (there held k)
valued_there held k v h = by (there held k) (h ∙ value_there held k)
  where
    by : (o : Option (Option (List ℕ))) → Some v ≡ flat o → IsSome o
    by None e = let clash : Some v ≡ None = e in cc
    by (Some w) e = refl

pub with_key-held : (keys : List (List ℕ)) (k : List ℕ) → is_held keys k ≡ true → with_key keys k ≡ keys
with_key-held keys k h = ap (λ b. if b then keys else keys ++ k ∷ []) h

-- a write at a held key
pub write_held : (held new : Held) (k v : List ℕ) → is_held (keys_of held) k ≡ true → new ≡ set_value (pointwise nat_eq k) held (Some v)
    → (entries_of new ≡ with_value (entries_of held) k (Some v)) × (keys_of new ≡ with_key (keys_of held) k)
write_held held new k v h e = (
  ap entries_of e ∙ entries_of-set_value held k (Some v) (sym (is_held-there held k) ∙ h),
  ap keys_of e ∙ keys-set_value (pointwise nat_eq k) held (Some v) ∙ sym (with_key-held (keys_of held) k h),
)

pub keys_of-push : {K X : Type 0} (es : List (K × X)) (k : K) (w : X) → keys_of (es ++ (k, w) ∷ []) ≡ keys_of es ++ k ∷ []
keys_of-push [] k w = refl
keys_of-push (e ∷ es) k w = ap (λ l. e.0 ∷ l) (keys_of-push es k w)

-- and at one that isn't
pub write_new : (held new : Held) (k : List ℕ) (w : Option (List ℕ)) → is_held (keys_of held) k ≡ false → new ≡ held ++ (k, w) ∷ []
    → (entries_of new ≡ with_value (entries_of held) k w) × (keys_of new ≡ with_key (keys_of held) k)
write_new held new k w h e = (
  ap entries_of e ∙ entries_of-push held k w (none_there held k h),
  ap keys_of e ∙ keys_of-push held k w ∙ sym (ap (λ b. if b then keys_of held else keys_of held ++ k ∷ []) h),
)

-- ---- operations

-- an operation that leaves a key's value leaves the entries
pub unchanged : (held : Held) (op : Op) → value_after (value_in (entries_of held) (key_of op)) op ≡ value_in (entries_of held) (key_of op) → entries_of held ≡ entries_after (entries_of held) op
unchanged held op h = sym (with_value-same (entries_of held) (key_of op) (value_after (value_in (entries_of held) (key_of op)) op) (ordered held) (sym h))

-- a swap where the value isn't the expected one
pub not_swapped : (held : Held) (k expected fresh : List ℕ) (o : Option (List ℕ)) → o ≡ value_in (entries_of held) k → is_value o expected ≡ false
    → entries_of held ≡ entries_after (entries_of held) (Swap k expected fresh)
not_swapped held k expected fresh o h e =
    let same : is_value (value_in (entries_of held) k) expected ≡ false = sym (ap (λ o. is_value o expected) h) ∙ e in
    unchanged held (Swap k expected fresh) (ap (λ b. if b then Some fresh else value_in (entries_of held) k) same)

-- and where it is
pub swapped : (held new : Held) (k expected fresh v : List ℕ) → Some v ≡ value_in (entries_of held) k → pointwise nat_eq v expected ≡ true → new ≡ set_value (pointwise nat_eq k) held (Some fresh)
    → entries_of new ≡ entries_after (entries_of held) (Swap k expected fresh)
swapped held new k expected fresh v h e n =
    let same : is_value (value_in (entries_of held) k) expected ≡ true = sym (ap (λ o. is_value o expected) h) ∙ e in
    ap entries_of n ∙ entries_of-set_value held k (Some fresh) (valued_there held k v h)
    ∙ sym (ap (λ b. with_value (entries_of held) k (if b then Some fresh else value_in (entries_of held) k)) same)

-- reading a value, or none, holds no new key
pub read_keys : (keys : List (List ℕ)) (k : List ℕ) (o : Option (List ℕ)) → keys_after keys (Done (found o)) k ≡ keys
read_keys keys k None = refl
read_keys keys k (Some v) = refl

-- ---- lengths

short_by : (o : Option (List ℕ)) (b : Bool) (w : Option (List ℕ)) (v : List ℕ) → ((v : List ℕ) → w ≡ Some v → length v ≤ LONGEST_VALUE) → ((v : List ℕ) → o ≡ Some v → length v ≤ LONGEST_VALUE)
    → cond b w o ≡ Some v → length v ≤ LONGEST_VALUE
short_by o true w v h g e = h v e
short_by o false w v h g e = g v e

after_short : (o : Option (List ℕ)) (op : Op) → WritesShort op → ((v : List ℕ) → o ≡ Some v → length v ≤ LONGEST_VALUE) → (v : List ℕ) → value_after o op ≡ Some v → length v ≤ LONGEST_VALUE
after_short o (Put k value) s h v e = let same : value ≡ v = cc in subst (λ (x : List ℕ). length x ≤ LONGEST_VALUE) same s
after_short o (Get k) s h v e = h v e
after_short o (Cut k) s h v e = let clash : None ≡ Some v = e in cc
after_short o (Swap k expected fresh) s h v e = by (is_value o expected) e
  where
    by : (b : Bool) → (if b then Some fresh else o) ≡ Some v → length v ≤ LONGEST_VALUE
    by true e = let same : fresh ≡ v = cc in subst (λ (x : List ℕ). length x ≤ LONGEST_VALUE) same s
    by false e = h v e

-- an operation that writes nothing too long leaves nothing too long
pub stays_short : (held new : Held) (op : Op) → HoldsShort held → WritesShort op → entries_of new ≡ entries_after (entries_of held) op → HoldsShort new
stays_short held new op h s e q v f =
    short_by (value_in (entries_of held) q) (is_at (byte_order (key_of op)) q) (value_after (value_in (entries_of held) (key_of op)) op) v
    (λ v g. after_short (value_in (entries_of held) (key_of op)) op s (λ v g. h (key_of op) v g) v g) (λ v g. h q v g)
    (sym (value_in-with_value (entries_of held) (key_of op) (value_after (value_in (entries_of held) (key_of op)) op) q (ordered held)) ∙ sym (ap (λ es. value_in es q) e) ∙ f)

-- ---- a request

pub on_ok : {T E P : Type 0} (r : Result T E) → P → OnOk r P
on_ok (Ok x) p = p
on_ok (Err e) p = tt

-- ---- stamps

pub with_stamp-set : (stamps : List ℕ) (client stamp : ℕ) → client < length stamps → set stamps client stamp ≡ with_stamp stamps client stamp
with_stamp-set [] client stamp h = absurd (omega arith)
with_stamp-set (s ∷ rest) zero stamp h = refl
with_stamp-set (s ∷ rest) (suc client) stamp h = ap (λ l. s ∷ l) (with_stamp-set rest client stamp (omega arith))

-- a request whose stamp is the next one
pub took_effect : (table : Holding) (new : Held) (request : Request) → request.client.number < length table.stamps → request.stamp ≡ slice_index table.stamps request.client.number + 1
    → entries_of new ≡ entries_after (entries_of table.held) request.op
    → state_of (record { held = new; stamps = set table.stamps request.client.number request.stamp }) ≡ state_after (state_of table) request
took_effect table new request h n e =
    let after : State = record { entries = entries_after (entries_of table.held) request.op; stamps = with_stamp table.stamps request.client.number request.stamp } in
    let last : ℕ = slice_index table.stamps request.client.number in
    let made : state_of (record { held = new; stamps = set table.stamps request.client.number request.stamp }) ≡ after =
    λ i. record { entries = e i; stamps = with_stamp-set table.stamps request.client.number request.stamp h i } in
    let late : nat_le request.stamp last ≡ false = grind (arith, nat_tests) in
    let next : nat_eq request.stamp (last + 1) ≡ true = grind (arith, nat_tests) in
    made
    ∙ sym (ap (λ b. if b then after else state_of table) next)
    ∙ sym (ap (λ b. if b then state_of table else (if nat_eq request.stamp (last + 1) then after else state_of table)) late)

-- ---- in memory that was taken before

pub some_unwrapped : (o : Option (List ℕ)) → IsSome o → o ≡ Some (unwrap_or o [])
some_unwrapped None h = absurd (true≢false (sym h))
some_unwrapped (Some v) h = refl
