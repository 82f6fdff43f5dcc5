-- What is signed stands at the place whose signature it bears: what was said, and the null proposal beside it.
use Rattle.std.proofs.Common.{◌≡◌, ℕ, ◌+◌, nat_lt, Bool, true, false, cond, ◌&&◌, List, [], ◌∷◌, ◌++◌, length, Option, Some, None, refl, sym, ap, subst, ◌∙◌, arith}
use Rattle.std.specs.List.{slice_get}
use Rattle.fab_base.proofs.Tests.{and_left, and_right}
use Rattle.fab_base.specs.declared.ids.ReplicaId.{ReplicaId}
use Rattle.fab_base.specs.declared.messages.Message.{Message}
use Rattle.fab_base.specs.declared.answers.Item.{Item}
use Rattle.fab_rules.specs.Spelling.{content_of}
use Rattle.fab_rules.specs.Statements.{signer_of}
use Rattle.fab_machine.specs.Items.{is_own, with_sig}
use Rattle.fab_machine.proofs.Lists.{get_behind}
use Rattle.bft_verify.specs.Sound.{signature_of}
use Rattle.fault_script.specs.declared.twists.Fault.{Fault}
use Rattle.run_words.specs.declared.logs.Entry.{Entry}
use Rattle.run_words.specs.Twists.{is_equivocate, is_proposal, null_of, is_beside}
use Rattle.run_words.specs.Journal.{Maker, null_beside, stated_by, second_at, signed_beside, signed_by, signed_of}
use Rattle.run_words.specs.Lawful.{IsPlaced, PlaceLaw, BesideLaw}
use Rattle.run_words.proofs.Placing.{content_signed, by_leaf}
use Rattle.run_words.proofs.Signing.{signed_more}

-- ---- what a sent item adds to what was signed

states : (m : Maker) (item : Item) → is_own m.id (signer_of item.message) ≡ true → stated_by m (Entry.Sent item) ≡ content_of item.message ∷ []
unfolding stated_by
states m item own = ap (λ (b : Bool). cond b (content_of item.message ∷ []) []) own

signs_beside : (m : Maker) (k : ℕ) (item : Item) → is_beside m.id m.leaves m.fault k item.message ≡ true
    → signed_beside m k (Entry.Sent item) ≡ content_of (null_of item.message) ∷ []
unfolding signed_beside
signs_beside m k item h =
    ap (λ (b : Bool). cond b (content_of (null_of item.message) ∷ []) (cond (is_own m.id (signer_of item.message)) (second_at (k + 1) m.seconds) [])) h

adds : (m : Maker) (earlier : List Entry) (item : Item) → is_own m.id (signer_of item.message) ≡ true
    → signed_of m (earlier ++ Entry.Sent item ∷ [])
    ≡ signed_of m earlier ++ content_of item.message ∷ signed_beside m (length (signed_of m earlier)) (Entry.Sent item)
unfolding signed_by
adds m earlier item own =
    signed_more m earlier (Entry.Sent item)
    ∙ ap (λ (l : List (List ℕ)). signed_of m earlier ++ (l ++ signed_beside m (length (signed_of m earlier)) (Entry.Sent item))) (states m item own)

at_end : (l rest : List (List ℕ)) (c : List ℕ) → slice_get (l ++ c ∷ rest) (length l) ≡ Some c
at_end l rest c = ap (slice_get (l ++ c ∷ rest)) (let e : length l ≡ length l + 0 = omega arith in e) ∙ get_behind l (c ∷ rest) 0

next_end : (l rest : List (List ℕ)) (c d : List ℕ) → slice_get (l ++ c ∷ d ∷ rest) (length l + 1) ≡ Some d
next_end l rest c d = get_behind l (c ∷ d ∷ rest) 1

pub placed : PlaceLaw
placed m earlier item made own =
    let leaf = by_leaf m earlier [] item made own in
    record {
      there = ap (λ (l : List (List ℕ)). slice_get l (length (signed_of m earlier))) (adds m earlier item own)
          ∙ at_end (signed_of m earlier) (signed_beside m (length (signed_of m earlier)) (Entry.Sent item)) (content_of item.message);
      bears = leaf.signed;
    }

-- ---- the null proposal

proposes : (me : ReplicaId) (leaves : ℕ) (fault : Option Fault) (k : ℕ) (x : Message) → is_beside me leaves fault k x ≡ true → is_proposal me x ≡ true
unfolding is_beside
proposes me leaves fault k x h = and_right (is_equivocate fault) (is_proposal me x) (and_left (is_equivocate fault && is_proposal me x) (nat_lt (k + 1) leaves) h)

own_proposal : (me : ReplicaId) (x : Message) → is_proposal me x ≡ true → is_own me (signer_of x) ≡ true
own_proposal me (Message.PrePrepare x) h = and_left (is_own me (signer_of (Message.PrePrepare x))) _ h
own_proposal me (Message.Prepare x) h = absurd cc
own_proposal me (Message.Commit x) h = absurd cc
own_proposal me (Message.Checkpoint x) h = absurd cc
own_proposal me (Message.ReplyNote x) h = absurd cc
own_proposal me (Message.Request x) h = absurd cc
own_proposal me (Message.ViewChange x) h = absurd cc
own_proposal me (Message.NewView x) h = absurd cc
own_proposal me (Message.Drvc x) h = absurd cc
own_proposal me (Message.Rvc x) h = absurd cc
own_proposal me (Message.Share x) h = absurd cc
own_proposal me (Message.Fetch x) h = absurd cc

null_bears : (me : ReplicaId) (sig : List ℕ) (x : Message) → is_proposal me x ≡ true → signature_of (with_sig sig (null_of x)) ≡ sig
null_bears me sig (Message.PrePrepare x) h = refl
null_bears me sig (Message.Prepare x) h = absurd cc
null_bears me sig (Message.Commit x) h = absurd cc
null_bears me sig (Message.Checkpoint x) h = absurd cc
null_bears me sig (Message.ReplyNote x) h = absurd cc
null_bears me sig (Message.Request x) h = absurd cc
null_bears me sig (Message.ViewChange x) h = absurd cc
null_bears me sig (Message.NewView x) h = absurd cc
null_bears me sig (Message.Drvc x) h = absurd cc
null_bears me sig (Message.Rvc x) h = absurd cc
null_bears me sig (Message.Share x) h = absurd cc
null_bears me sig (Message.Fetch x) h = absurd cc

abbrev null_signed : Maker → ℕ → Message → Message
null_signed m k x = with_sig (m.signature (k + 1) (content_of (null_of x))) (null_of x)

beside_if : (m : Maker) (k : ℕ) (x null : Message) → null_beside m k x ≡ Some null → (is_beside m.id m.leaves m.fault k x ≡ true) × (null_signed m k x ≡ null)
unfolding null_beside
beside_if m k x null h = go (is_beside m.id m.leaves m.fault k x) refl h
  where
    go : (b : Bool) → is_beside m.id m.leaves m.fault k x ≡ b → cond b (Some (null_signed m k x)) None ≡ Some null
        → (is_beside m.id m.leaves m.fault k x ≡ true) × (null_signed m k x ≡ null)
    go true e q = (e, cc)
    go false e q = absurd cc

pub beside : BesideLaw
beside m earlier item null h =
    let k = length (signed_of m earlier) in
    let b = beside_if m k item.message null h in
    let proposal = proposes m.id m.leaves m.fault k item.message b.0 in
    let own = own_proposal m.id item.message proposal in
    let content : content_of (null_signed m k item.message) ≡ content_of (null_of item.message) =
    content_signed (m.signature (k + 1) (content_of (null_of item.message))) (null_of item.message) in
    let there : slice_get (signed_of m (earlier ++ Entry.Sent item ∷ [])) (k + 1) ≡ Some (content_of (null_of item.message)) =
    ap (λ (l : List (List ℕ)). slice_get l (k + 1))
    (adds m earlier item own
    ∙ ap (λ (l : List (List ℕ)). signed_of m earlier ++ content_of item.message ∷ l) (signs_beside m k item b.0))
    ∙ next_end (signed_of m earlier) [] (content_of item.message) (content_of (null_of item.message)) in
    subst (IsPlaced m (signed_of m (earlier ++ Entry.Sent item ∷ [])) (k + 1)) b.1
    (record {
      there = there ∙ ap (λ (c : List ℕ). Some c) (sym content);
      bears = null_bears m.id (m.signature (k + 1) (content_of (null_of item.message))) item.message proposal
          ∙ ap (m.signature (k + 1)) (sym content);
    })
