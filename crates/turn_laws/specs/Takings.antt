-- What a consumer took of its producers, and what a replica heard of what its input workers read.
use Rattle.std.specs.Prelude.{◌≡◌, ◌==◌, ℕ, ◌+◌, Bool, false, List, [], ◌∷◌, ◌++◌, map}
use Rattle.std.specs.List.{sum_by}
use Rattle.fab_rules.specs.Lists.{In}
use Rattle.turn_lock.specs.Histories.{of_numbers, entries}
use Rattle.stage_link.specs.Producers.{of}
use Rattle.run_words.specs.Journal.{Maker}
use Rattle.run_words.specs.Lawful.{Test, heard_counted}
use Rattle.run_words.specs.declared.logs.Entry.{Entry}
use Rattle.run_words.specs.declared.logs.Pending.{Pending}
use Rattle.turn_laws.specs.Workers.{Kind, AreBy}
use Rattle.turn_laws.specs.Doings.{hearings}
use Rattle.turn_laws.specs.Copies.{items}

abbrev pub IsNoneOf : ℕ → List ℕ → Type 0
IsNoneOf n [] = Unit {0}
IsNoneOf n (m ∷ rest) = (n == m ≡ false) × IsNoneOf n rest

abbrev pub AreDistinct : List ℕ → Type 0
AreDistinct [] = Unit {0}
AreDistinct (n ∷ rest) = IsNoneOf n rest × AreDistinct rest

-- an item without its producer's number
abbrev pub item_of : {T : Type 0} → ℕ × T → T
item_of x = x.1

-- what is counted of all that was taken is what is counted producer by producer
abbrev pub TakenLaw : Type 0
TakenLaw = (f : Entry → ℕ) (producers : List ℕ) (taken : List (ℕ × Entry)) → AreDistinct producers
    → ((x : ℕ × Entry) → In x taken → In x.0 producers)
    → sum_by (λ n. sum_by f (of n taken)) producers ≡ sum_by f (map item_of taken)

-- a producer at the end: its number, what it put, and what of that is still in the queue
pub record Producer : Type 0 where
  pub number : ℕ
  pub put : List Entry
  pub queued : List Entry

abbrev pub number_of : Producer → ℕ
number_of j = j.number

-- what stands in the queue still, of all producers
abbrev pub all_queued : List Producer → List Entry
all_queued [] = []
all_queued (j ∷ rest) = j.queued ++ all_queued rest

-- what was read and neither heard nor lost: in the order worker's hand, in the queue, and in the hands of input workers
abbrev pub unheard_of : List Entry → List Producer → List Entry → List Entry
unheard_of in_order producers in_input = in_order ++ (all_queued producers ++ in_input)

-- What input workers read was heard, or is unheard. All hearings are the order worker's, and these are what it took, in order, but for what it holds.
-- Of each producer it took a beginning of what that put, and it took of no other. The input workers put what they read, but for what they hold
abbrev pub HeardEndLaw : Type 0
HeardEndLaw = (m : Maker) (order : List Bool) (log : List (ℕ × Entry)) (taken : List (ℕ × Entry)) (producers : List Producer) (took : List Pending)
    (in_order in_input : List Entry)
    → AreBy Kind.Hearing order log → hearings (of_numbers order log) ++ in_order ≡ map item_of taken
    → AreDistinct (map number_of producers) → ((x : ℕ × Entry) → In x taken → In x.0 (map number_of producers))
    → ((j : Producer) → In j producers → of j.number taken ++ j.queued ≡ j.put)
    → ((p : Test) → sum_by (λ (j : Producer). heard_counted p j.put) producers + heard_counted p in_input ≡ heard_counted p (items m took))
    → (p : Test) → heard_counted p (entries log) + heard_counted p (unheard_of in_order producers in_input) ≡ heard_counted p (items m took)
