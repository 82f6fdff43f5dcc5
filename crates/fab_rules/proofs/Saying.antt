-- What a diary has once more is said: what was heard, what was done and the first new view stay, and what was said is what was, or
-- what is said now.
use Rattle.std.proofs.Common.{◌≡◌, ℕ, List, [], ◌∷◌, ◌++◌, ◌⊎◌, inl, inr, refl, ap}
use Rattle.fab_base.specs.declared.messages.Message.{Message}
use Rattle.fab_rules.specs.declared.blocks.Block.{Block}
use Rattle.fab_rules.specs.Lists.{In}
use Rattle.fab_rules.specs.Diary.{Entry, Heard, Said, Did, ledger, first_new_view}
use Rattle.fab_rules.specs.Growth.{after_saying}

-- ---- the entries are told apart

pub same_said : (x y : Message) → Said x ≡ Said y → x ≡ y
same_said x y e = cc

pub same_heard : (x y : Message) → Heard x ≡ Heard y → x ≡ y
same_heard x y e = cc

pub said_is_not_heard : (x y : Message) → Said x ≡ Heard y → ⊥
said_is_not_heard x y e = cc

pub did_is_not_heard : (b : Block) (m : Message) → Did b ≡ Heard m → ⊥
did_is_not_heard b m e = cc

-- ---- what was heard

pub heard_before : (diary : List Entry) (items : List Message) (m : Message) → In (Heard m) (after_saying diary items) → In (Heard m) diary
heard_before diary [] m h = h
heard_before diary (x ∷ items) m h = elim (heard_before (Said x ∷ diary) items m h) [ inl e ↦ absurd (said_is_not_heard x m e) | inr k ↦ k ]

pub still_heard : (diary : List Entry) (items : List Message) (m : Message) → In (Heard m) diary → In (Heard m) (after_saying diary items)
still_heard diary [] m h = h
still_heard diary (x ∷ items) m h = still_heard (Said x ∷ diary) items m (inr h)

-- ---- what was said

pub still_said : (diary : List Entry) (items : List Message) (m : Message) → In (Said m) diary → In (Said m) (after_saying diary items)
still_said diary [] m h = h
still_said diary (x ∷ items) m h = still_said (Said x ∷ diary) items m (inr h)

pub now_said : (diary : List Entry) (items : List Message) (m : Message) → In m items → In (Said m) (after_saying diary items)
now_said diary [] m h = absurd h
now_said diary (x ∷ items) m (inl e) = still_said (Said x ∷ diary) items m (inl (ap Said e))
now_said diary (x ∷ items) m (inr h) = now_said (Said x ∷ diary) items m h

-- it was said before, or it is said now
pub said_cases : (diary : List Entry) (items : List Message) (m : Message) → In (Said m) (after_saying diary items) → In (Said m) diary ⊎ In m items
said_cases diary [] m h = inl h
said_cases diary (x ∷ items) m h =
    elim (said_cases (Said x ∷ diary) items m h) [ inl (inl e) ↦ inr (inl (same_said x m e)) | inl (inr k) ↦ inl k | inr k ↦ inr (inr k) ]

-- ---- what was done, and the first new view

pub ledger-after_saying : (diary : List Entry) (items : List Message) → ledger (after_saying diary items) ≡ ledger diary
ledger-after_saying diary [] = refl
ledger-after_saying diary (x ∷ items) = ledger-after_saying (Said x ∷ diary) items

pub first_new_view-after_saying : (cluster view : ℕ) (diary : List Entry) (items : List Message)
    → first_new_view cluster view (after_saying diary items) ≡ first_new_view cluster view diary
first_new_view-after_saying cluster view diary [] = refl
first_new_view-after_saying cluster view diary (x ∷ items) = first_new_view-after_saying cluster view (Said x ∷ diary) items

-- ---- some items, and then others

pub after_saying-both : (diary : List Entry) (xs ys : List Message) → after_saying diary (xs ++ ys) ≡ after_saying (after_saying diary xs) ys
after_saying-both diary [] ys = refl
after_saying-both diary (x ∷ xs) ys = after_saying-both (Said x ∷ diary) xs ys
