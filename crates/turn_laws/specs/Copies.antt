-- Copies by who sent them, and what a receiver makes of them.
use Rattle.std.specs.Prelude.{◌≡◌, Bool, true, false, cond, List, [], ◌∷◌, ◌++◌, Result, Ok, Err}
use Rattle.fab_base.specs.declared.ids.ReplicaId.{ReplicaId}
use Rattle.fab_base.specs.declared.messages.Message.{Message}
use Rattle.fab_rules.specs.Lists.{In}
use Rattle.bft_verify.specs.declared.refusals.Refusal.{Refusal}
use Rattle.run_words.specs.Keyed.{is_same}
use Rattle.run_words.specs.Journal.{Maker, reads}
use Rattle.run_words.specs.Runs.{Declined}
use Rattle.run_words.specs.declared.logs.Origin.{Origin}
use Rattle.run_words.specs.declared.logs.Entry.{Entry}
use Rattle.run_words.specs.declared.logs.Pending.{Pending}

-- ---- who sent them

abbrev pub is_from : ReplicaId → Origin → Bool
is_from i (Origin.Client k) = false
is_from i (Origin.Replica from time) = is_same i from

abbrev pub is_asked : Origin → Bool
is_asked (Origin.Client k) = true
is_asked (Origin.Replica from time) = false

-- those of a replica, and those of clients, in order
abbrev pub from : ReplicaId → List Pending → List Pending
from i [] = []
from i (c ∷ rest) = cond (is_from i c.origin) (c ∷ from i rest) (from i rest)

abbrev pub asked : List Pending → List Pending
asked [] = []
asked (c ∷ rest) = cond (is_asked c.origin) (c ∷ asked rest) (asked rest)

-- of a client, or of one of these replicas
abbrev pub IsKnown : List Maker → Origin → Type 0
IsKnown makers (Origin.Client k) = Unit {0}
IsKnown makers (Origin.Replica from time) = (n : Maker) × In n makers × (n.id ≡ from)

-- ---- what a receiver makes of them

abbrev pub item_by : Pending → Result Message Refusal → List Entry
item_by c (Ok x) = Entry.Heard c.origin x ∷ []
item_by c (Err refusal) = []

abbrev pub declined_by : Pending → Result Message Refusal → List Declined
declined_by c (Ok x) = []
declined_by c (Err refusal) = record { copy = c; refusal = refusal } ∷ []

-- what it reads, to be heard, and what it refuses
abbrev pub items : Maker → List Pending → List Entry
items m [] = []
items m (c ∷ rest) = item_by c (reads m c.load) ++ items m rest

abbrev pub refused : Maker → List Pending → List Declined
refused m [] = []
refused m (c ∷ rest) = declined_by c (reads m c.load) ++ refused m rest
