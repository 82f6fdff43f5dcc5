-- What local ordering brings about, taken over one after another.
use Rattle.std.proofs.Common.{◌≡◌, ℕ, zero, suc, ◌≤◌, ◌<◌, true, ◌&&◌, nat_eq, nat_le, nat_lt, List, [], ◌∷◌, length, inl, inr, refl, sym, ap, subst, ◌∙◌, arith}
use Rattle.std.specs.Bool.{IsTrue}
use Rattle.std.specs.Prelude.{slice_index}
use Rattle.fab_base.specs.Limits.{Roster, IsWithinLimits}
use Rattle.fab_base.specs.Roster.{home_of, is_replica}
use Rattle.fab_base.specs.declared.ids.ReplicaId.{ReplicaId}
use Rattle.fab_base.specs.declared.requests.Request.{Request}
use Rattle.fab_base.specs.declared.messages.CommitCert.{CommitCert}
use Rattle.fab_base.specs.declared.messages.Message.{Message}
use Rattle.fab_base.proofs.Tests.{and_both, same, is_at_most, is_below}
use Rattle.fab_rules.specs.Lists.{In}
use Rattle.fab_rules.specs.Format.{batch_fits}
use Rattle.fab_rules.specs.Shape.{IsShaped, is_batch_of}
use Rattle.fab_rules.proofs.Lists.{each_passes, all_pass}
use Rattle.fab_machine.specs.ReplicaState.{IsKeptCertificate}
use Rattle.fab_machine.specs.Rounds.{round_of}
use Rattle.fab_base.specs.declared.answers.Answer.{Answer}
use Rattle.fab_machine.specs.State.{Local}
use Rattle.fab_machine.specs.Changing.{asked}
use Rattle.fab_machine.specs.Joining.{after_out, after_outs}
use Rattle.fab_machine.specs.declared.outs.Out.{Out}
use Rattle.fab_machine.proofs.Members.{is_member}
use Rattle.fab_machine.proofs.Shares.{share_cluster, share_may}
use Rattle.view_order.specs.Views.{Views}
use Rattle.round_exec.specs.Book.{Book, are_clients, is_keepable}
use Rattle.cluster_talk.specs.Talking.{Talking}
use Rattle.replica_core.specs.Inside.{Assembly, AreParts, with_state}

-- ---- one after another

-- what was handed over up to these has been taken over
pub record TakenOver (old now : Assembly) (outs rest : List Out) : Type 0 where
  pub beside : now ≡ with_state old now.state
  pub whole : after_outs old.roster old.me now.state rest ≡ after_outs old.roster old.me old.state outs
  pub inside : (k : CommitCert) → In (Out.Certified k) rest → In (Out.Certified k) outs

pub taken_first : (old : Assembly) (outs rest : List Out) → rest ≡ outs → TakenOver old old outs rest
taken_first old outs rest e = record {
  beside = refl;
  whole = ap (after_outs old.roster old.me old.state) e;
  inside = λ k h. subst (In (Out.Certified k)) e h;
}

pub taken_more : (old now later : Assembly) (outs rest more : List Out) (out : Out) → rest ≡ out ∷ more
    → later ≡ with_state now (after_out now.roster now.me now.state out) → TakenOver old now outs rest → TakenOver old later outs more
taken_more old now later outs rest more out e is h =
    let r = old.roster in
    let me = old.me in
    let by : later ≡ with_state now (after_out r me now.state out) =
    is ∙ (ap (λ x. with_state now (after_out x now.me now.state out)) (ap (λ a. a.roster) h.beside)
    ∙ ap (λ i. with_state now (after_out r i now.state out)) (ap (λ a. a.me) h.beside)) in
    let state : later.state ≡ after_out r me now.state out = ap (λ a. a.state) by in
    record {
      beside = by ∙ (ap (λ a. with_state a (after_out r me now.state out)) h.beside ∙ ap (with_state old) (sym state));
      whole = ap (λ s. after_outs r me s more) state ∙ (ap (after_outs r me now.state) (sym e) ∙ h.whole);
      inside = λ k i. h.inside k (subst (In (Out.Certified k)) (sym e) (inr i));
    }

pub taken_all : (old now : Assembly) (outs rest : List Out) → rest ≡ [] → TakenOver old now outs rest
    → now ≡ with_state old (after_outs old.roster old.me old.state outs)
taken_all old now outs rest e h = h.beside ∙ ap (with_state old) (ap (after_outs old.roster old.me now.state) (sym e) ∙ h.whole)

pub none_left : (outs : List Out) → length outs ≡ 0 → outs ≡ []
none_left [] e = refl
none_left (x ∷ outs) e = absurd (omega (arith, e))

-- asking for a view forms no certificate
pub asks_without : (r : Roster) (me : ReplicaId) (l : Local) (view : ℕ) (answer : Answer) (k : CommitCert) → In (Out.Certified k) (asked r me l view answer).outs → ⊥
asks_without r me l view answer k (inl e) = cc
asks_without r me l view answer k (inr (inl e)) = cc
asks_without r me l view answer k (inr (inr none)) = none

-- the first of them
pub is_first_out : (k : CommitCert) (out : Out) (rest more : List Out) → rest ≡ out ∷ more → out ≡ Out.Certified k → In (Out.Certified k) rest
is_first_out k out rest more e is = subst (In (Out.Certified k)) (sym e) (inl is)

-- ---- a certificate that may be kept

-- whoever has a home is a client
has_home : (homes : List ℕ) (n : ℕ) → 1 ≤ slice_index homes n → n < length homes
has_home [] n h = absurd (omega (arith, h))
has_home (x ∷ rest) zero h = omega arith
has_home (x ∷ rest) (suc n) h = omega (arith, has_home rest n h)

clients_by_home : (r : Roster) (cluster : ℕ) (batch : List Request) → 1 ≤ cluster → is_batch_of r cluster batch ≡ true → are_clients (length r.homes) batch ≡ true
clients_by_home r cluster batch some h =
    all_pass (λ x. nat_lt x.client.number (length r.homes)) batch
    (λ x i. is_below x.client.number (length r.homes) (has_home r.homes x.client.number
    (let home : home_of r x.client ≡ cluster = same (home_of r x.client) cluster (each_passes (λ y. nat_eq (home_of r y.client) cluster) batch x h i) in
    subst (λ n. 1 ≤ n) (sym home) some)))

pub keepable : (r : Roster) (k : CommitCert) → IsKeptCertificate r k → IsTrue (is_keepable (length r.sizes) (length r.homes) k)
keepable r k is =
    let c = is.certificate in
    and_both (nat_le 1 k.cluster && nat_le k.cluster (length r.sizes)) _
    (and_both (nat_le 1 k.cluster) _ (is_at_most 1 k.cluster c.cluster_from) (is_at_most k.cluster (length r.sizes) c.cluster_upto))
    (and_both (nat_le 1 (round_of k)) _ (is_at_most 1 (round_of k) c.round_from)
    (and_both (batch_fits k.batch) _ c.fits (clients_by_home r k.cluster k.batch c.cluster_from is.homes)))

-- so it may be kept among the rounds of the parts
pub keepable_in : (me : ReplicaId) (o : Views) (b : Book) (t : Talking) (r : Roster) (k : CommitCert) → AreParts me o b t → o.roster ≡ r → IsKeptCertificate r k
    → IsTrue (is_keepable b.clusters b.clients k)
keepable_in me o b t r k parts roster is =
    subst (λ n. IsTrue (is_keepable n b.clients k)) (sym (parts.clusters ∙ ap (λ x. length x.sizes) roster))
    (subst (λ n. IsTrue (is_keepable (length r.sizes) n k)) (sym (parts.clients ∙ ap (λ x. length x.homes) roster)) (keepable r k is))

-- and so may that of a share
pub share_kept : (r : Roster) (me : ReplicaId) (k : CommitCert) → IsWithinLimits r → IsTrue (is_replica r me) → IsShaped r (Message.Share k)
    → IsKeptCertificate r k
share_kept r me k limits known fine = share_may r k fine ((is_member r me limits known).each_some k.cluster (share_cluster r k fine))

-- ---- the certificates that are handed over

abbrev pub AreKept : Roster → List Out → Type 0
AreKept r outs = (k : CommitCert) → In (Out.Certified k) outs → IsKeptCertificate r k

-- of the same members, and these are what was handed over
pub kept_as : (r s : Roster) (outs told : List Out) → s ≡ r → told ≡ outs → AreKept r outs → AreKept s told
kept_as r s outs told e f h k i = subst (λ x. IsKeptCertificate x k) (sym e) (h k (subst (In (Out.Certified k)) f i))
