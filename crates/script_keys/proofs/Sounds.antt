-- Each copy of a request is sound for whoever is made with the script's members and keys.
use Rattle.std.proofs.Common.{◌≡◌, ℕ, ◌+◌, ◌-◌, ◌<◌, Bool, true, false, cond, ◌&&◌, nat_lt, List, [], ◌∷◌, ◌++◌, map, length, Option, Some, Ok, Err, inl, inr, refl, sym, ap, subst, ◌∙◌, arith}
use Rattle.std.specs.Int.{w16, w32, to_be_bytes}
use Rattle.fab_base.specs.Fields.{are_bytes, bytes_fit, op_fits}
use Rattle.fab_base.specs.Limits.{Roster}
use Rattle.fab_base.specs.declared.limits.TheConstants.{LONGEST_KEY, LONGEST_VALUE}
use Rattle.fab_base.specs.declared.ids.ReplicaId.{ReplicaId}
use Rattle.fab_base.specs.declared.ids.Who.{Who}
use Rattle.fab_base.specs.declared.requests.Op.{Op}
use Rattle.fab_base.specs.declared.requests.Op.TheVariants.{Put, Get, Cut, Swap}
use Rattle.fab_base.specs.declared.requests.Request.{Request}
use Rattle.fab_base.specs.declared.messages.Message.{Message}
use Rattle.fab_base.proofs.Bytes.{are_bytes-append, are_bytes-to_be_bytes}
use Rattle.fab_base.proofs.Tests.{and_left, and_right, and_both, is_below}
use Rattle.fab_base.proofs.Tests as tests
use Rattle.fab_rules.specs.declared.misfits.Misfit.{Misfit}
use Rattle.fab_rules.specs.Lists.{In, first_of}
use Rattle.fab_rules.specs.Format.{is_u8, is_u32, signature_fits, request_fits}
use Rattle.fab_rules.specs.Shape.{unless}
use Rattle.fab_rules.specs.Spelling.{short_bytes, signed, op_bytes, request_body, content_of, spelling_of}
use Rattle.fab_rules.specs.Statements.{signer_of}
use Rattle.fab_rules.proofs.Lengths.{request_is_spelled}
use Rattle.fab_rules.proofs.Lists.{in_append_cases, of_map}
use Rattle.fab_codec.specs.declared.faults.CodeFault.{CodeFault}
use Rattle.fault_script.specs.declared.scripts.Script.{Script}
use Rattle.fault_script.specs.declared.scripts.Wish.{Wish}
use Rattle.msg_read.specs.Reading.{reading_of}
use Rattle.msg_read.proofs.Whole.{is_read}
use Rattle.lms_tree.specs.Verdict.{Valid}
use Rattle.bft_verify.specs.declared.refusals.Refusal.{Refusal}
use Rattle.bft_verify.specs.Answers.{judged_as_read}
use Rattle.bft_verify.specs.Ring as rings
use Rattle.bft_verify.specs.Ring.{Ring}
use Rattle.bft_verify.specs.Sound.{IsSound, IsSignedBy, refusals, unless_refused}
use Rattle.bft_verify.proofs.Soundness.{sound_from_both}
use Rattle.run_words.specs.Keyed.{is_same, of}
use Rattle.run_words.specs.Journal.{Maker, reads}
use Rattle.run_words.specs.Lawful.{IsRequest}
use Rattle.run_words.specs.declared.logs.Pending.{Pending}
use Rattle.script_keys.specs.Keys.{public_of}
use Rattle.script_keys.specs.Rings.{ring_of}
use Rattle.script_keys.specs.Requests.{asked, asked_content, request_of, pending_of, receivers_of, copies_to, copies_from, copies_of}
use Rattle.script_keys.specs.Laws.{KeyedLaw, RequestsLaw}
use Rattle.script_keys.proofs.Rows.{replica_in_ring, client_in_ring}
use Rattle.script_keys.proofs.Signatures.{is_valid, has_place}
use Rattle.script_keys.proofs.Wishes.{IsAsked, asked_in, request_has_fields}

-- ---- keys

pub keyed : KeyedLaw
keyed script m h = record {
  key = public_of script (Who.Replica m.id);
  is_key = ap (λ (ring : Ring). rings.key_of ring (Who.Replica m.id)) h.ring ∙ replica_in_ring script m.id h.replica;
  valid = λ k content lt.
      subst (λ (s : List ℕ). Valid (public_of script (Who.Replica m.id)) content s) (sym (h.signature k content))
      (is_valid script (Who.Replica m.id) k content (subst (λ n. k < n) h.leaves lt));
  fits = λ k content lt.
      ap signature_fits (h.signature k content) ∙ has_place script (Who.Replica m.id) k content (subst (λ n. k < n) h.leaves lt);
}

-- ---- a request is spelled in bytes

short : (longest : ℕ) (bytes : List ℕ) → longest < 256 → bytes_fit longest bytes ≡ true → are_bytes (short_bytes bytes) ≡ true
short longest bytes small h =
    let few = tests.at_most (length bytes) longest (and_left _ (are_bytes bytes) h) in
    and_both (nat_lt (length bytes) 256) (are_bytes bytes) (is_below (length bytes) 256 (omega (arith, few))) (and_right _ (are_bytes bytes) h)

op_are : (op : Op) → op_fits op ≡ true → are_bytes (op_bytes op) ≡ true
op_are (Put key value) h =
    are_bytes-append (short_bytes key) (short_bytes value) (short LONGEST_KEY key (omega arith) (and_left _ (bytes_fit LONGEST_VALUE value) h))
    (short LONGEST_VALUE value (omega arith) (and_right (bytes_fit LONGEST_KEY key) _ h))
op_are (Get key) h = short LONGEST_KEY key (omega arith) h
op_are (Cut key) h = short LONGEST_KEY key (omega arith) h
op_are (Swap key expected fresh) h =
    let rest = and_right (bytes_fit LONGEST_KEY key) _ h in
    are_bytes-append (short_bytes key ++ short_bytes expected) (short_bytes fresh)
    (are_bytes-append (short_bytes key) (short_bytes expected)
    (short LONGEST_KEY key (omega arith) (and_left _ (bytes_fit LONGEST_VALUE expected && bytes_fit LONGEST_VALUE fresh) h))
    (short LONGEST_VALUE expected (omega arith) (and_left _ (bytes_fit LONGEST_VALUE fresh) rest)))
    (short LONGEST_VALUE fresh (omega arith) (and_right (bytes_fit LONGEST_VALUE expected) _ rest))

body_are : (r : Request) → request_fits r ≡ true → are_bytes (request_body r) ≡ true
body_are r h =
    let rest = and_right (is_u8 r.client.number) _ h in
    let op = and_left (op_fits r.op) _ (and_right (is_u32 r.stamp) _ rest) in
    and_both (is_u8 r.client.number) _ (and_left (is_u8 r.client.number) _ h)
    (are_bytes-append (to_be_bytes w32 r.stamp) (op_bytes r.op) (are_bytes-to_be_bytes w32 r.stamp) (op_are r.op op))

seal_are : (signature : List ℕ) → signature_fits signature ≡ true → are_bytes (signed [] signature) ≡ true
seal_are signature s =
    are_bytes-append (to_be_bytes w16 (length signature)) signature (are_bytes-to_be_bytes w16 (length signature)) (and_right _ (are_bytes signature) s)

spelled_are : (r : Request) → request_fits r ≡ true → are_bytes (spelling_of (Message.Request r)) ≡ true
unfolding spelling_of
spelled_are r h =
    are_bytes-append (1 ∷ request_body r) (signed [] r.sig) (body_are r h)
    (seal_are r.sig (and_right (op_fits r.op) _ (and_right (is_u32 r.stamp) _ (and_right (is_u8 r.client.number) _ h))))

-- ---- a request is sound

no_misfit : (a : Bool) → a ≡ true → (unless a (Misfit.Stranger 0) ++ []) ++ ((unless true (Misfit.BadShape 0) ++ []) ++ []) ≡ []
no_misfit true e = refl
no_misfit false e = absurd cc

unsigned_content : (w : Wish) (signature : List ℕ) → content_of (Message.Request (asked w signature)) ≡ asked_content w
unfolding content_of
unsigned_content w signature = refl

abbrev some_who : Who → Option Who
some_who x = Some x

same_who : (y z : Who) → some_who y ≡ some_who z → y ≡ z
same_who y z q = cc

-- the one part of a message that is its own
signed_as : (ring : Ring) (y : Who) (x : Message) → IsSignedBy ring y x → signer_of x ≡ Some y → (p : Message) (z : Who) → In p (x ∷ [])
    → signer_of p ≡ Some z → IsSignedBy ring z p
signed_as ring y x by is p z (inl e) s =
    let who : y ≡ z = same_who y z (sym is ∙ ap signer_of e ∙ s) in
    subst (λ (q : Message). IsSignedBy ring z q) e (subst (λ (w : Who). IsSignedBy ring w x) who by)
signed_as ring y x by is p z (inr none) s = absurd none

sound : (script : Script) (roster : Roster) (w : Wish) → length roster.homes ≡ length script.homes → IsAsked script w
    → IsSound roster (ring_of script) (Message.Request (request_of script w))
sound script roster w homes a =
    let who : Who = Who.Client w.client in
    let x : Message = Message.Request (request_of script w) in
    let lt : w.client.number < length roster.homes = omega (arith, homes, a.declared) in
    let by : IsSignedBy (ring_of script) who x =
    record {
      key = public_of script who;
      is_key = client_in_ring script w.client.number a.declared;
      valid =
          subst (λ (c : List ℕ). Valid (public_of script who) c (request_of script w).sig) (sym (unsigned_content w (request_of script w).sig))
          (is_valid script who (w.stamp - 1) (asked_content w) (omega (arith, a.stamp.0, a.stamp.1)));
    } in
    sound_from_both roster (ring_of script) x
    (record {
      spelled = request_is_spelled (request_of script w) (request_has_fields script w a);
      fitting = no_misfit (nat_lt w.client.number (length roster.homes)) (is_below w.client.number (length roster.homes) lt);
    })
    (λ p z i e. signed_as (ring_of script) who x by refl p z i e)

-- ---- it is read

judged_sound : (roster : Roster) (ring : Ring) (x : Message) (l : List Refusal) → l ≡ [] → unless_refused x (first_of l) ≡ Ok x
judged_sound roster ring x [] e = refl
judged_sound roster ring x (y ∷ l) e = absurd cc

pub read : (m : Maker) (x : Message) → are_bytes (spelling_of x) ≡ true → IsSound m.roster m.ring x → reads m (spelling_of x) ≡ Ok x
unfolding reads
read m x b h =
    ap (λ t. cond t (judged_as_read m.roster m.ring (reading_of (spelling_of x))) (Err (Refusal.Decode (CodeFault.BadTag 0)))) b
    ∙ ap (judged_as_read m.roster m.ring) (is_read (spelling_of x) x h.spelled refl)
    ∙ judged_sound m.roster m.ring x (refusals m.roster m.ring x) h.accepted

-- ---- which copies there are

pub record IsOwned (i : ReplicaId) (l : List (ReplicaId × Pending)) (c : Pending) : Type 0 where
  pub pair : ReplicaId × Pending
  pub is_in : In pair l
  pub is : pair.1 ≡ c

pub owned : (i : ReplicaId) (l : List (ReplicaId × Pending)) (c : Pending) → In c (of i l) → IsOwned i l c
owned i [] c h = absurd h
owned i (p ∷ l) c h = go (is_same i p.0) h (λ k. owned i l c k)
  where
    later : IsOwned i l c → IsOwned i (p ∷ l) c
    later o = record { pair = o.pair; is_in = inr o.is_in; is = o.is }

    go : (b : Bool) → In c (cond b (p.1 ∷ of i l) (of i l)) → (In c (of i l) → IsOwned i l c) → IsOwned i (p ∷ l) c
    go true (inl e) rest = record { pair = p; is_in = inl refl; is = e }
    go true (inr k) rest = later (rest k)
    go false k rest = later (rest k)

pub record IsCopy (script : Script) (ws : List Wish) (p : ReplicaId × Pending) : Type 0 where
  pub wish : Wish
  pub is_in : In wish ws
  pub place : ℕ
  pub is : p.1 ≡ pending_of place (request_of script wish)

pub copied : (script : Script) (k : ℕ) (ws : List Wish) (p : ReplicaId × Pending) → In p (copies_from script k (map (request_of script) ws)) → IsCopy script ws p
copied script k [] p h = absurd h
copied script k (w ∷ ws) p h =
    let r = request_of script w in
    elim (in_append_cases p (copies_to (pending_of k r) (receivers_of script r)) (copies_from script (k + 1) (map (request_of script) ws)) h) [
      | inl here ↦
          (let m = of_map (λ (to : ReplicaId). (to, pending_of k r)) p (receivers_of script r) here in
          record { wish = w; is_in = inl refl; place = k; is = ap (λ (q : ReplicaId × Pending). q.1) (sym m.same) })
      | inr later ↦
          (let o = copied script (k + 1) ws p later in
          record { wish = o.wish; is_in = inr o.is_in; place = o.place; is = o.is })
    ]

pub requests : RequestsLaw
requests script m limits h c i =
    let o = owned m.id (copies_of script) c i in
    let k = copied script 0 script.requests o.pair o.is_in in
    let a = asked_in script k.wish limits k.is_in in
    let x = Message.Request (request_of script k.wish) in
    let long : length m.roster.homes ≡ length script.homes = ap length h.homes in
    let is_sound : IsSound m.roster m.ring x =
    subst (λ (ring : Ring). IsSound m.roster ring x) (sym h.ring) (sound script m.roster k.wish long a) in
    let is : pending_of k.place (request_of script k.wish) ≡ c = sym k.is ∙ o.is in
    subst (λ (q : Pending). IsRequest m q) is
    (record { client = tt; message = x; is_read = read m x (spelled_are (request_of script k.wish) (request_has_fields script k.wish a)) is_sound })
