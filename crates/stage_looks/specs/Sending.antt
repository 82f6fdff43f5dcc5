-- What the output worker has sent of what it put, and what it has in hand.
use Rattle.std.specs.Prelude.{◌≡◌, ◌++◌, ℕ, ◌<◌, false, List, [], ◌∷◌, length, Option, Some, None, option_to_list, slice_index_or}
use Rattle.std.specs.Vec.Iter.{into_iter_items}
use Rattle.fab_base.specs.declared.ids.ReplicaId.{ReplicaId}
use Rattle.turn_lock.specs.Views.{own}
use Rattle.turn_lock.specs.Passes.{view, numbers, first_machine}
use Rattle.stage_link.specs.Links.{pushed, IsSameIn}
use Rattle.run_words.specs.Keyed.{is_same}
use Rattle.run_words.specs.Journal.{Maker}
use Rattle.run_words.specs.declared.logs.Parcel.{Parcel}
use Rattle.party_turn.specs.Turns.{PartyTurn, IsPartyPass}
use Rattle.turn_laws.specs.Workers.{Kind, AreOf}
use Rattle.turn_laws.specs.Doings.{put_of}
use Rattle.stage_looks.specs.Letters.{letters_of, letters_to}
use Rattle.stage_looks.specs.declared.letters.Letter.{Letter}
use Rattle.stage_looks.specs.declared.delivering.OutputHand.{OutputHand}
use Rattle.stage_looks.specs.declared.outlets.Outlet.{Outlet}

-- ---- outlets

-- none leads to this receiver
abbrev pub HasNone : ReplicaId → List Outlet → Type 0
HasNone to [] = Unit {0}
HasNone to (o ∷ rest) = (is_same to o.to ≡ false) × HasNone to rest

-- no two lead to one receiver
abbrev pub AreApart : List Outlet → Type 0
AreApart [] = Unit {0}
AreApart (o ∷ rest) = HasNone o.to rest × AreApart rest

-- nothing was pushed on any
abbrev pub AreUnused : List Outlet → Type 0
AreUnused [] = Unit {0}
AreUnused (o ∷ rest) = (pushed o.link ≡ []) × AreUnused rest

-- the same ends of the same links, to the same receivers
abbrev pub AreSameOutlets : List Outlet → List Outlet → Type 0
AreSameOutlets [] [] = Unit {0}
AreSameOutlets (a ∷ before) (b ∷ after) = (b.to ≡ a.to) × IsSameIn a.link b.link × AreSameOutlets before after
AreSameOutlets before after = ⊥

-- of each: what was pushed, and then what is in hand for its receiver, is the letters to it of what was put, in order
abbrev pub AreSent : List Parcel → List Parcel → List Outlet → Type 0
AreSent put hand [] = Unit {0}
AreSent put hand (o ∷ rest) = (pushed o.link ++ letters_to o.to hand ≡ letters_to o.to put) × AreSent put hand rest

-- where one stands that leads to a receiver, if there is one
abbrev pub IsPlaceOf : ReplicaId → List Outlet → Option ℕ → Type 0
IsPlaceOf to outlets None = HasNone to outlets
IsPlaceOf to outlets (Some k) = (k < length outlets) × ((o : Outlet) → (slice_index_or outlets k o).to ≡ to)

-- the letters of what is left of a parcel
abbrev pub letters_left : Option Parcel → List Letter
letters_left None = []
letters_left (Some p) = letters_of p

-- ---- the hand

module _ {P : Type 0} where
  -- the parcels that it has still to send, in order
  abbrev pub unsent : OutputHand P → List Parcel
  unsent h = option_to_list h.first ++ into_iter_items h.rest

  -- all that it put
  abbrev pub put_by : (P → Maker) → PartyTurn P → OutputHand P → List Parcel
  put_by made turn h = put_of (made (first_machine turn).first) (view h.act).numbers (view h.act).seen

  -- its pass is of this turn; it sends and does nothing else; and each outlet has got all letters to its receiver but those of the parcels in `hand`
  pub record Delivers (made : P → Maker) (turn : PartyTurn P) (h : OutputHand P) (hand : List Parcel) : Type 0 where
    pub of_turn : IsPartyPass made turn h.act
    pub kinds : AreOf Kind.Sending (own (view h.act))
    pub apart : AreApart h.outlets.items
    pub sent : AreSent (put_by made turn h) hand h.outlets.items

  -- these are the parcels that it has still to send
  abbrev pub FitsOutput : (P → Maker) → PartyTurn P → OutputHand P → Type 0
  FitsOutput made turn h = Delivers made turn h (unsent h)

  -- the same seats and the same links
  pub record IsSameOutput (a b : OutputHand P) : Type 0 where
    pub numbers_are : numbers b.act ≡ numbers a.act
    pub outlets_are : AreSameOutlets a.outlets.items b.outlets.items
