-- What is compared with the pleas that are let go.
use Rattle.std.specs.Prelude.{Bool, List, [], ◌∷◌, ◌++◌, not, filter}
use Rattle.remote_view.specs.declared.heard.Matter.{Matter}
use Rattle.remote_view.specs.declared.heard.Heard.{Heard}
use Rattle.remote_view.specs.Pleading.{Pleading, is_past, after_rvc}

-- the pleas on matters that are so
abbrev pub those_on : (Matter → Bool) → List Heard → List Heard
those_on is_so heard = filter (λ h. is_so h.matter) heard

-- without the Rvcs that are past
abbrev pub without_past : Pleading → Pleading
without_past s = record s { rvcs = filter (λ h. not (is_past s h)) s.rvcs }

-- what an Rvc that counts would leave if nothing were let go
abbrev pub hoarding : Pleading → Heard → Pleading
hoarding s plea = record (after_rvc s plea) { rvcs = s.rvcs ++ plea ∷ [] }
