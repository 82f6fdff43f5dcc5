use Rattle.std.proofs.Common.{◌≡◌, ℕ, List, [], ◌∷◌, ◌++◌, refl, sym, ap, ◌∙◌, inl, inr, None}
use Rattle.std.specs.Prelude.{◌⊎◌}
use Rattle.std.proofs.lemmas.List.{append-nil}
use Rattle.std.proofs.lemmas.Slice.Zip.{either_empty_from_Zip}
use Rattle.fab_base.specs.declared.requests.Request.{Request}
use Rattle.fab_base.specs.declared.requests.Outcome.{Outcome}
use Rattle.ledger_report.specs.Text.{reply_lines}
use Rattle.ledger_report.proofs.text.push_replies.Goals as goal

-- where one of two lists has no item left, there is no line more
no_line : (requests : List Request) (outcomes : List Outcome) → (requests ≡ []) ⊎ (outcomes ≡ []) → reply_lines requests outcomes ≡ []
no_line [] outcomes h = refl
no_line (request ∷ requests) [] h = refl
no_line (request ∷ requests) (outcome ∷ outcomes) (inl h) = cc
no_line (request ∷ requests) (outcome ∷ outcomes) (inr h) = cc

pub returns : goal.returns
returns c =
    let at = c.loop-request.request-iterator in
    let ended = either_empty_from_Zip at c.next.new.self None refl c.in-None.ensures.steps in
    let none = no_line at.a.rest.now at.b.rest.now ended in
    sym (append-nil c.loop-request.text.items) ∙ ap (λ (rest : List ℕ). c.loop-request.text.items ++ rest) (sym none) ∙ c.loop-request.invariant
