-- Items, as the entries that hearing them makes.
use Rattle.std.specs.Prelude.{ℕ, List, [], ◌∷◌, Option, Some, None}
use Rattle.run_words.specs.declared.logs.Entry.{Entry}
use Rattle.stage_looks.specs.declared.items.Item.{Item}

abbrev pub entry_of : Item → Entry
entry_of item = Entry.Heard item.origin item.heard.message

abbrev pub entries_of : List Item → List Entry
entries_of [] = []
entries_of (x ∷ rest) = entry_of x ∷ entries_of rest

abbrev pub in_hand : Option Item → List Entry
in_hand None = []
in_hand (Some item) = entry_of item ∷ []

-- what a consumer took, each with the number of the producer that put it
abbrev pub taken : List (ℕ × Item) → List (ℕ × Entry)
taken [] = []
taken (x ∷ rest) = (x.0, entry_of x.1) ∷ taken rest
