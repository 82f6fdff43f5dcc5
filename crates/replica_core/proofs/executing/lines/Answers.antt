use Rattle.std.proofs.Common.{◌≡◌, List, [], ◌∷◌, ◌++◌, refl, sym, ap, ◌∙◌, inl, inr, None}
use Rattle.std.specs.Prelude.{◌⊎◌}
use Rattle.std.proofs.lemmas.List.{append-nil}
use Rattle.std.proofs.lemmas.Slice.Zip.{either_empty_from_Zip}
use Rattle.fab_base.specs.declared.requests.Request.{Request}
use Rattle.fab_base.specs.declared.requests.Outcome.{Outcome}
use Rattle.fab_base.specs.declared.messages.NoteLine.{NoteLine}
use Rattle.fab_rules.specs.Ledger.{lines_with}
use Rattle.replica_core.proofs.executing.lines.Goals as goal

-- where one of two lists has no item left, there is no line more
no_line : (batch : List Request) (outcomes : List Outcome) → (batch ≡ []) ⊎ (outcomes ≡ []) → lines_with batch outcomes ≡ []
no_line [] outcomes h = refl
no_line (request ∷ batch) [] h = refl
no_line (request ∷ batch) (outcome ∷ outcomes) (inl h) = cc
no_line (request ∷ batch) (outcome ∷ outcomes) (inr h) = cc

pub returns : goal.returns
returns c =
    let at = c.loop-request.request-iterator in
    let ended = either_empty_from_Zip at c.next.new.self None refl c.in-None.ensures.steps in
    let none = no_line at.a.rest.now at.b.rest.now ended in
    sym (append-nil c.loop-request.lines) ∙ (ap (λ (rest : List NoteLine). c.loop-request.lines ++ rest) (sym none) ∙ c.loop-request.invariant)
