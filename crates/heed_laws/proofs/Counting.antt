-- After a proposal or a vote was counted: what newly holds of its slot has its consequences.
use Rattle.std.proofs.Common.{◌≡◌, ℕ, ◌≤◌, true, List, [], ◌∷◌, ◌++◌, Option, Some, None, ◌⊎◌, inl, inr, refl, sym, ap, subst, ◌∙◌, arith}
use Rattle.fab_base.specs.Limits.{Roster}
use Rattle.fab_base.specs.declared.limits.TheConstants.{GREATEST_NUMBER}
use Rattle.fab_base.specs.declared.ids.ReplicaId.{ReplicaId}
use Rattle.fab_base.specs.declared.ids.Hash32.{Hash32}
use Rattle.fab_base.specs.declared.messages.Vote.{Vote}
use Rattle.fab_base.specs.declared.messages.CommitCert.{CommitCert}
use Rattle.fab_base.specs.declared.messages.Message.{Message}
use Rattle.fab_rules.specs.Lists.{In}
use Rattle.fab_rules.specs.Diary.{Entry, Heard, Said}
use Rattle.fab_rules.specs.Statements.{signer_of, unsigned}
use Rattle.fab_rules.proofs.Saying.{heard_before}
use Rattle.pbft_slots.specs.declared.slot.Proposal.{Proposal}
use Rattle.pbft_slots.specs.Window.{Window, proposal_at, prepared_at, committed_at}
use Rattle.fab_machine.specs.State.{Local}
use Rattle.fab_machine.specs.Items.{vote_of, is_own, to_cluster}
use Rattle.fab_machine.specs.Voting.{commit_certificate, newly, keep_prepared, commit_outs, certified_outs, newly_prepared, newly_committed, after_count, outs_after}
use Rattle.fab_machine.specs.Rounds.{round_of}
use Rattle.fab_machine.specs.LocalState.{IsLocalState}
use Rattle.fab_machine.specs.Relation.{after_puts}
use Rattle.fab_machine.specs.declared.outs.Out.{Out}
use Rattle.fab_machine.proofs.Members.{IsMember}
use Rattle.fab_machine.proofs.Certificates.{certificate_formed}
use Rattle.fab_machine.proofs.Made.{is_newly}
use Rattle.fab_machine.proofs.Telling.{own, says_own}
use Rattle.heed_laws.specs.Heeding.{IsPlainMessage, IsHeeded, IsFormed, AreProposed, AllMarked, IsCalm, AreHeeded, formed_by, IsOutgoing, IsAskedFor}
use Rattle.heed_laws.proofs.Gaining.{IsGained}
use Rattle.heed_laws.proofs.Alike.{alike_saying, proposed_alike, marked_alike}

-- ---- what is told of a step

-- what a step puts is the replica's own, goes where it should, and if it is a proposal was asked; what it forms is of the own cluster and
-- of a slot
abbrev pub IsFine : Roster → ReplicaId → List Entry → Out → Type 0
IsFine r me full (Out.Put item) = IsOutgoing r me item × IsAskedFor full item.message
IsFine r me full Out.Clear = ⊥
IsFine r me full (Out.Entered base) = ⊥
IsFine r me full (Out.Certified k) = (k.cluster ≡ me.cluster) × (1 ≤ round_of k)

pub asked_more : (a b : List Entry) (m : Message) → ((x : Message) → In (Heard x) a → In (Heard x) b) → IsAskedFor a m → IsAskedFor b m
asked_more a b (Message.PrePrepare p) f h = λ x k. f (Message.Request x) (h x k)
asked_more a b m f h = h

pub fine_more : (r : Roster) (me : ReplicaId) (a b : List Entry) (o : Out) → ((x : Message) → In (Heard x) a → In (Heard x) b) → IsFine r me a o → IsFine r me b o
fine_more r me a b (Out.Put item) f h = (h.0, asked_more a b item.message f h.1)
fine_more r me a b Out.Clear f h = absurd h
fine_more r me a b (Out.Entered base) f h = absurd h
fine_more r me a b (Out.Certified k) f h = h

pub record IsHeededOf (r : Roster) (me : ReplicaId) (l : Local) (outs : List Out) (formed : List CommitCert) (full : List Entry) (rest : List Message) : Type 0 where
  pub are : AreHeeded r me l (formed_by formed outs) (after_puts me full outs) rest
  pub fine : (o : Out) → In o outs → IsFine r me full o

pub told_none : (r : Roster) (me : ReplicaId) (l : Local) (formed : List CommitCert) (full : List Entry) (rest : List Message)
    → AreHeeded r me l formed full rest → IsHeededOf r me l [] formed full rest
told_none r me l formed full rest are = record { are = are; fine = λ o h. absurd h }

fine_first : (r : Roster) (me : ReplicaId) (full : List Entry) (first : Out) (rest : List Out) → IsFine r me full first → ((o : Out) → In o rest → IsFine r me full o)
    → (o : Out) → In o (first ∷ rest) → IsFine r me full o
fine_first r me full first rest f g o (inl e) = subst (IsFine r me full) e f
fine_first r me full first rest f g o (inr h) = g o h

-- a statement of its own is put to the cluster, and then the rest follows
pub heeded_put : (r : Roster) (me : ReplicaId) (l : Local) (m : Message) (outs : List Out) (formed : List CommitCert) (full : List Entry) (rest : List Message)
    → is_own me (signer_of m) ≡ true → IsPlainMessage m → IsAskedFor full m → IsHeededOf r me l outs formed (Said (unsigned m) ∷ full) rest → IsHeededOf r me l (to_cluster r me m ∷ outs) formed full rest
heeded_put r me l m outs formed full rest mine plain asked t = record {
  are = subst (λ f. AreHeeded r me l (formed_by formed outs) (after_puts me f outs) rest) (sym (says_own me m full mine)) t.are;
  fine = fine_first r me full (to_cluster r me m) outs (record { own = mine; plain = plain; to = inl refl }, asked)
      (λ o h. fine_more r me (Said (unsigned m) ∷ full) full o (λ x k. heard_before full (unsigned m ∷ []) x k) (t.fine o h));
}

-- ---- the slots are counted anew

-- all but what newly holds
pub record AreReady (r : Roster) (me : ReplicaId) (l : Local) (now : Window Vote) (slot : ℕ) (formed : List CommitCert) (full : List Entry) (rest : List Message) : Type 0 where
  pub gained : IsGained l.slots now slot
  pub calm : IsCalm l
  pub heeded : (m : Message) → In (Heard m) full → IsHeeded r me now l.kept l.waiting l.last l.checkpoints m ⊎ In m rest
  pub prepares : (s : ℕ) (p : Proposal) → proposal_at now s ≡ Some p → In (Said (Message.Prepare (vote_of me 0 s p.digest))) full
  pub commits : (s : ℕ) (d : Hash32) → prepared_at l.slots s ≡ Some d → In (Said (Message.Commit (vote_of me 0 s d))) full
  pub certified : (s : ℕ) (d : Hash32) → committed_at l.slots s ≡ Some d → IsFormed me formed s
  pub proposed : AreProposed me l.slots.low l.next l.proposed full
  pub marked : AllMarked r me l.executed l.due full

-- what holds of a window after the step, by what held before it and what newly holds of its slot
holds_by : (at : ℕ → Option Hash32) (now : ℕ → Option Hash32) (slot : ℕ) (P : ℕ → Hash32 → Type 0)
    → ((s : ℕ) (d : Hash32) → at s ≡ Some d → now s ≡ Some d) → ((s : ℕ) (d : Hash32) → now s ≡ Some d → (at s ≡ Some d) ⊎ (s ≡ slot))
    → ((s : ℕ) (d : Hash32) → at s ≡ Some d → P s d) → ((d : Hash32) → newly (at slot) (now slot) ≡ Some d → P slot d)
    → (s : ℕ) (d : Hash32) → now s ≡ Some d → P s d
holds_by at now slot P stays here old new s d h =
    elim (here s d h) [
      | inl before ↦ old s d before
      | inr same ↦ subst (λ j. P j d) (sym same) (go (at slot) refl (subst (λ j. now j ≡ Some d) same h))
    ]
  where
    go : (before : Option Hash32) → at slot ≡ before → now slot ≡ Some d → P slot d
    go None e q = new d (ap (λ o. newly o (now slot)) e ∙ q)
    go (Some b) e q = let same : b ≡ d = (let both = sym (stays slot b e) ∙ q in cc) in subst (P slot) same (old slot b e)

pub counted : (r : Roster) (me : ReplicaId) (l : Local) (now : Window Vote) (slot : ℕ) (formed : List CommitCert) (full : List Entry) (rest : List Message)
    → IsMember r me → slot ≤ GREATEST_NUMBER → 1 ≤ slot → IsLocalState r me (record l { slots = now }) → AreReady r me l now slot formed full rest
    → IsHeededOf r me (after_count l now slot) (outs_after r me l now slot) formed full rest
counted r me l now slot formed full rest member low_enough from is ready = first (newly_prepared l now slot) refl
  where
    at : Local
    at = record l { slots = now }

    k : Hash32 → CommitCert
    k d = commit_certificate me at slot d

    gained : IsGained l.slots now slot
    gained = ready.gained

    second : (n : Option Hash32) (f : List Entry) → ((m : Message) → In (Heard m) f → IsHeeded r me now l.kept l.waiting l.last l.checkpoints m ⊎ In m rest)
        → ((s : ℕ) (p : Proposal) → proposal_at now s ≡ Some p → In (Said (Message.Prepare (vote_of me 0 s p.digest))) f)
        → ((s : ℕ) (d : Hash32) → prepared_at now s ≡ Some d → In (Said (Message.Commit (vote_of me 0 s d))) f)
        → AreProposed me l.slots.low l.next l.proposed f → AllMarked r me l.executed l.due f
        → (o : Option Hash32) → newly_committed l now slot ≡ o → IsHeededOf r me (keep_prepared at slot n) (certified_outs me at slot o) formed f rest
    second n f heeded prepares commits proposed marked None e = go n
      where
        certified : (s : ℕ) (d : Hash32) → committed_at now s ≡ Some d → IsFormed me formed s
        certified = holds_by (committed_at l.slots) (committed_at now) slot (λ s d. IsFormed me formed s) gained.committed gained.committed_here ready.certified
            (λ d h. (let none : None ≡ Some d = sym e ∙ h in cc))

        go : (n : Option Hash32) → IsHeededOf r me (keep_prepared at slot n) [] formed f rest
        go None = record {
          are = record {
            calm = record { view_is = ready.calm.view_is; calm = ready.calm.calm; low_upto = subst (λ x. x ≤ l.executed) (sym gained.low_is) ready.calm.low_upto };
            heeded = heeded;
            voted = record { prepares = prepares; commits = commits; certified = certified };
            proposed = subst (λ x. AreProposed me x l.next l.proposed f) (sym gained.low_is) proposed;
            marked = marked;
          };
          fine = λ o h. absurd h;
        }
        go (Some d) = record {
          are = record {
            calm = record { view_is = ready.calm.view_is; calm = ready.calm.calm; low_upto = subst (λ x. x ≤ l.executed) (sym gained.low_is) ready.calm.low_upto };
            heeded = heeded;
            voted = record { prepares = prepares; commits = commits; certified = certified };
            proposed = subst (λ x. AreProposed me x l.next l.proposed f) (sym gained.low_is) proposed;
            marked = marked;
          };
          fine = λ o h. absurd h;
        }
    second n f heeded prepares commits proposed marked (Some c) e = go n
      where
        newly_is : committed_at now slot ≡ Some c
        newly_is = (is_newly (committed_at l.slots slot) (committed_at now slot) c e).now_is

        round_is : round_of (k c) ≡ slot
        round_is = (certificate_formed r me at slot c member is newly_is).round_is

        certified : (s : ℕ) (d : Hash32) → committed_at now s ≡ Some d → IsFormed me (k c ∷ formed) s
        certified = holds_by (committed_at l.slots) (committed_at now) slot (λ s d. IsFormed me (k c ∷ formed) s) gained.committed gained.committed_here
            (λ s d h. (let x = ready.certified s d h in record { certificate = x.certificate; inside = inr x.inside; round_is = x.round_is; cluster_is = x.cluster_is }))
            (λ d h. record { certificate = k c; inside = inl refl; round_is = round_is; cluster_is = refl })

        fine : (o : Out) → In o (Out.Certified (k c) ∷ []) → IsFine r me f o
        fine = fine_first r me f (Out.Certified (k c)) [] (refl, omega (arith, round_is, from)) (λ o h. absurd h)

        go : (n : Option Hash32) → IsHeededOf r me (keep_prepared at slot n) (Out.Certified (k c) ∷ []) formed f rest
        go None = record {
          are = record {
            calm = record { view_is = ready.calm.view_is; calm = ready.calm.calm; low_upto = subst (λ x. x ≤ l.executed) (sym gained.low_is) ready.calm.low_upto };
            heeded = heeded;
            voted = record { prepares = prepares; commits = commits; certified = certified };
            proposed = subst (λ x. AreProposed me x l.next l.proposed f) (sym gained.low_is) proposed;
            marked = marked;
          };
          fine = fine;
        }
        go (Some d) = record {
          are = record {
            calm = record { view_is = ready.calm.view_is; calm = ready.calm.calm; low_upto = subst (λ x. x ≤ l.executed) (sym gained.low_is) ready.calm.low_upto };
            heeded = heeded;
            voted = record { prepares = prepares; commits = commits; certified = certified };
            proposed = subst (λ x. AreProposed me x l.next l.proposed f) (sym gained.low_is) proposed;
            marked = marked;
          };
          fine = fine;
        }

    first : (n : Option Hash32) → newly_prepared l now slot ≡ n
        → IsHeededOf r me (keep_prepared at slot n) (commit_outs r me l.view slot n ++ certified_outs me at slot (newly_committed l now slot)) formed full rest
    first None e =
        second None full ready.heeded ready.prepares
        (holds_by (prepared_at l.slots) (prepared_at now) slot (λ s d. In (Said (Message.Commit (vote_of me 0 s d))) full) gained.prepared gained.prepared_here ready.commits
        (λ d h. (let none : None ≡ Some d = sym e ∙ h in cc)))
        ready.proposed ready.marked (newly_committed l now slot) refl
    first (Some c) e =
        let m = Message.Commit (vote_of me l.view slot c) in
        let more = Said m ∷ full in
        let alike = alike_saying full (m ∷ []) in
        let commits = holds_by (prepared_at l.slots) (prepared_at now) slot (λ s d. In (Said (Message.Commit (vote_of me 0 s d))) more) gained.prepared gained.prepared_here
        (λ s d h. inr (ready.commits s d h))
        (λ d h. (let same : c ≡ d = (let both : Some c ≡ Some d = sym e ∙ h in cc) in
        inl (ap (λ view. Said (Message.Commit (vote_of me view slot c))) ready.calm.view_is ∙ ap (λ x. Said (Message.Commit (vote_of me 0 slot x))) same))) in
        heeded_put r me (keep_prepared at slot (Some c)) m (certified_outs me at slot (newly_committed l now slot)) formed full rest (own me) tt tt
        (second (Some c) more (λ x h. ready.heeded x (alike.heard x h)) (λ s p h. inr (ready.prepares s p h)) commits
        (proposed_alike me l.slots.low l.next l.proposed full more alike.said ready.proposed) (marked_alike r me l.executed l.due full more alike.said ready.marked)
        (newly_committed l now slot) refl)
