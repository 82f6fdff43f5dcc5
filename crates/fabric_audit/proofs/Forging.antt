-- What the walk over the parts of a message finds, and whom a request's content names.
use Rattle.std.proofs.Common.{◌≡◌, ℕ, Bool, true, false, ◌&&◌, ◌||◌, nat_eq, ◌+◌, List, [], ◌∷◌, ◌++◌, map, Option, Some, None, ◌⊎◌, inl, inr, refl, sym, ap, ◌∙◌, if◌then◌else◌}
use Rattle.std.specs.List.{list_any}
use Rattle.std.specs.Option.{option_map}
use Rattle.std.specs.Str.{bytes_eq}
use Rattle.std.specs.Cmp.{nat_eq_equiv}
use Rattle.fab_base.specs.declared.ids.ClientId.{ClientId}
use Rattle.fab_base.specs.declared.ids.Who.{Who}
use Rattle.fab_base.specs.declared.requests.Request.{Request}
use Rattle.fab_base.specs.declared.messages.Message.{Message}
use Rattle.fab_rules.specs.Lists.{first_of}
use Rattle.fab_rules.specs.Shape.{numbered}
use Rattle.fab_rules.specs.Spelling.{content_of}
use Rattle.fab_rules.specs.Statements.{signer_of}
use Rattle.fault_script.specs.declared.scripts.Wish.{Wish}
use Rattle.run_words.specs.declared.logs.Transcript.{Transcript}
use Rattle.run_worlds.specs.Sights.{is_made_by, first_forged}
use Rattle.script_keys.specs.Requests.{asked_content}
use Rattle.fabric_audit.specs.declared.makers.Unmade.{Unmade}
use Rattle.fabric_audit.specs.Forgeries.{unmade_by, unmade, IsFree}

-- ---- the first fault

abbrev by_signer : Option Who → Option Unmade
by_signer who = option_map Unmade.By who

one_more : (t : Transcript) (signer : Option Who) (x : List ℕ) (rest : List Unmade) (later : Option Who) → first_of rest ≡ by_signer later
    → first_of (unmade_by (is_made_by t signer x) signer ++ rest) ≡ by_signer (if is_made_by t signer x then later else signer)
one_more t None x rest later e = e
one_more t (Some who) x rest later e = by (is_made_by t (Some who) x)
  where
    by : (b : Bool) → first_of (unmade_by b (Some who) ++ rest) ≡ by_signer (if b then later else Some who)
    by true = e
    by false = refl

first_found : (t : Transcript) (k : ℕ) (parts : List Message) → first_of (numbered (λ j p. unmade t p) k parts) ≡ by_signer (first_forged t parts)
first_found t k [] = refl
first_found t k (p ∷ parts) =
    one_more t (signer_of p) (content_of p) (numbered (λ j q. unmade t q) (k + 1) parts) (first_forged t parts) (first_found t (k + 1) parts)

nobody : (who : Option Who) → by_signer who ≡ None → None ≡ who
nobody None e = refl
nobody (Some x) e = cc

somebody : (who : Option Who) (x : Who) → by_signer who ≡ Some (Unmade.By x) → Some x ≡ who
somebody None x e = cc
somebody (Some y) x e = cc

pub none_forged : (t : Transcript) (parts : List Message) → numbered (λ k p. unmade t p) 0 parts ≡ [] → None ≡ first_forged t parts
none_forged t parts e = nobody (first_forged t parts) (sym (first_found t 0 parts) ∙ ap first_of e)

pub one_forged : (t : Transcript) (parts : List Message) (fault : Unmade) (x : Who) → fault ≡ Unmade.By x
    → IsFree fault ⊎ (first_of (numbered (λ k p. unmade t p) 0 parts) ≡ Some fault) → Some x ≡ first_forged t parts
one_forged t parts (Unmade.By y) x is (inl e) = absurd e
one_forged t parts (Unmade.By y) x is (inr e) = somebody (first_forged t parts) x (sym (first_found t 0 parts) ∙ e ∙ ap Some is)
one_forged t parts Unmade.NoMemory x is h = cc

-- ---- the content of a request names its client

twice : (p r : Bool) → (p && r) ≡ (p && (p && r))
twice true r = refl
twice false r = refl

gated : (a b : ℕ) (r : Bool) → (nat_eq a b && r) ≡ (nat_eq b a && (nat_eq a b && r))
gated a b r = twice (nat_eq a b) r ∙ ap (λ p. p && (nat_eq a b && r)) (nat_eq_equiv.symm a b)

of_client : (x : Request) (w : Wish) → bytes_eq (content_of (Message.Request x)) (asked_content w)
    ≡ (nat_eq w.client.number x.client.number && bytes_eq (content_of (Message.Request x)) (asked_content w))
unfolding content_of
of_client x w = gated x.client.number w.client.number _

pub asked_by_client : (x : Request) (wishes : List Wish) → list_any (bytes_eq (content_of (Message.Request x))) (map asked_content wishes)
    ≡ list_any (λ w. nat_eq w.client.number x.client.number && bytes_eq (content_of (Message.Request x)) (asked_content w)) wishes
asked_by_client x [] = refl
asked_by_client x (w ∷ wishes) = λ i. of_client x w i || asked_by_client x wishes i

-- the same of the content of any part that the client signs: it is a request
pub asked_by_part : (p : Message) (c : ClientId) (content : List ℕ) (wishes : List Wish) → signer_of p ≡ Some (Who.Client c) → content_of p ≡ content
    → list_any (bytes_eq content) (map asked_content wishes)
    ≡ list_any (λ w. nat_eq w.client.number c.number && bytes_eq content (asked_content w)) wishes
asked_by_part (Message.Request x) c content wishes of is =
    let same : x.client ≡ c = cc in
    ap (λ k. list_any (bytes_eq k) (map asked_content wishes)) (sym is) ∙ asked_by_client x wishes
    ∙ ap (λ k. list_any (λ w. nat_eq w.client.number x.client.number && bytes_eq k (asked_content w)) wishes) is
    ∙ ap (λ (k : ClientId). list_any (λ w. nat_eq w.client.number k.number && bytes_eq content (asked_content w)) wishes) same
asked_by_part (Message.PrePrepare x) c content wishes of is = cc
asked_by_part (Message.Prepare x) c content wishes of is = cc
asked_by_part (Message.Commit x) c content wishes of is = cc
asked_by_part (Message.Checkpoint x) c content wishes of is = cc
asked_by_part (Message.ViewChange x) c content wishes of is = cc
asked_by_part (Message.NewView x) c content wishes of is = cc
asked_by_part (Message.Drvc x) c content wishes of is = cc
asked_by_part (Message.Rvc x) c content wishes of is = cc
asked_by_part (Message.ReplyNote x) c content wishes of is = cc
asked_by_part (Message.Share x) c content wishes of is = cc
asked_by_part (Message.Fetch x) c content wishes of is = cc
