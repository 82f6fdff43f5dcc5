-- Diaries that are written out: what holds of each entry, entry by entry.
use Rattle.std.proofs.Common.{◌≡◌, ℕ, ◌≤◌, List, [], ◌∷◌, inl, inr, sym, subst}
use Rattle.fab_base.specs.declared.messages.ViewChange.{ViewChange}
use Rattle.fab_base.specs.declared.messages.Message.{Message}
use Rattle.fab_rules.specs.declared.blocks.Block.{Block}
use Rattle.fab_rules.specs.Lists.{In}
use Rattle.fab_rules.specs.Diary.{Entry, Heard, Said, Did}
use Rattle.fab_rules.specs.Rules.{Covers}
use Rattle.fab_rules.proofs.Saying.{same_said, same_heard, said_is_not_heard, did_is_not_heard}

-- ---- what holds of each

abbrev pub Each : {X : Type 0} → (X → Type 0) → List X → Type 0
Each P [] = Unit {0}
Each P (x ∷ xs) = P x × Each P xs

pub each : {X : Type 0} (P : X → Type 0) (xs : List X) (x : X) → Each P xs → In x xs → P x
each P [] x e h = absurd h
each P (y ∷ xs) x e (inl s) = subst P s e.0
each P (y ∷ xs) x e (inr h) = each P xs x e.1 h

did_is_not_said : (b : Block) (m : Message) → Did b ≡ Said m → ⊥
did_is_not_said b m e = cc

abbrev pub EachSaid : (Message → Type 0) → List Entry → Type 0
EachSaid P [] = Unit {0}
EachSaid P (Said x ∷ past) = P x × EachSaid P past
EachSaid P (Heard x ∷ past) = EachSaid P past
EachSaid P (Did x ∷ past) = EachSaid P past

pub each_said : (P : Message → Type 0) (past : List Entry) (m : Message) → EachSaid P past → In (Said m) past → P m
each_said P [] m e h = absurd h
each_said P (Said x ∷ past) m e (inl s) = subst P (same_said x m s) e.0
each_said P (Said x ∷ past) m e (inr h) = each_said P past m e.1 h
each_said P (Heard x ∷ past) m e (inl s) = absurd (said_is_not_heard m x (sym s))
each_said P (Heard x ∷ past) m e (inr h) = each_said P past m e h
each_said P (Did x ∷ past) m e (inl s) = absurd (did_is_not_said x m s)
each_said P (Did x ∷ past) m e (inr h) = each_said P past m e h

abbrev pub EachHeard : (Message → Type 0) → List Entry → Type 0
EachHeard P [] = Unit {0}
EachHeard P (Heard x ∷ past) = P x × EachHeard P past
EachHeard P (Said x ∷ past) = EachHeard P past
EachHeard P (Did x ∷ past) = EachHeard P past

pub each_heard : (P : Message → Type 0) (past : List Entry) (m : Message) → EachHeard P past → In (Heard m) past → P m
each_heard P [] m e h = absurd h
each_heard P (Heard x ∷ past) m e (inl s) = subst P (same_heard x m s) e.0
each_heard P (Heard x ∷ past) m e (inr h) = each_heard P past m e.1 h
each_heard P (Said x ∷ past) m e (inl s) = absurd (said_is_not_heard x m s)
each_heard P (Said x ∷ past) m e (inr h) = each_heard P past m e h
each_heard P (Did x ∷ past) m e (inl s) = absurd (did_is_not_heard x m s)
each_heard P (Did x ∷ past) m e (inr h) = each_heard P past m e h

-- ---- what the rules ask of each that was said

abbrev pub OtherProposal : ℕ → ℕ → Message → Type 0
OtherProposal view slot (Message.PrePrepare x) = x.view ≡ view → x.slot ≡ slot → ⊥
OtherProposal view slot m = Unit {0}

abbrev pub OtherPrepare : ℕ → ℕ → Message → Type 0
OtherPrepare view slot (Message.Prepare x) = x.view ≡ view → x.slot ≡ slot → ⊥
OtherPrepare view slot m = Unit {0}

abbrev pub OtherCommit : ℕ → ℕ → Message → Type 0
OtherCommit view slot (Message.Commit x) = x.view ≡ view → x.slot ≡ slot → ⊥
OtherCommit view slot m = Unit {0}

abbrev pub OtherMark : ℕ → Message → Type 0
OtherMark round (Message.Checkpoint x) = x.round ≡ round → ⊥
OtherMark round m = Unit {0}

abbrev pub OtherNote : ℕ → Message → Type 0
OtherNote round (Message.ReplyNote x) = x.round ≡ round → ⊥
OtherNote round m = Unit {0}

-- no view beyond this one was asked for
abbrev pub NotBeyond : ℕ → Message → Type 0
NotBeyond view (Message.ViewChange c) = c.view ≤ view
NotBeyond view m = Unit {0}

-- no view was asked for
abbrev pub NoChange : Message → Type 0
NoChange (Message.ViewChange c) = ⊥
NoChange m = Unit {0}

-- a Commit is covered by the change
abbrev pub CoveredBy : ViewChange → Message → Type 0
CoveredBy c (Message.Commit v) = Covers c v
CoveredBy c m = Unit {0}
