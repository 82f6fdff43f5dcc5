use Rattle.std.proofs.Common.{◌+◌, ◌∷◌, nat_eq, take, length, Some, None, ap, sym, ◌∙◌, arith, length-drop}
use Rattle.std.proofs.lemmas.List.{take_rest}
use Rattle.std.specs.List.{slice_split}
use Rattle.fault_script.proofs.Cuts.{cut_at}
use Rattle.fault_script.proofs.words.cut_once.Goals as goal

pub returns-in-Some : goal.returns-in-Some
returns-in-Some c =
    let at = c.in-Some.at in
    let text = c.args.text.now in
    let cut = cut_at (λ b. nat_eq b c.args.byte) text (Some at) c.in-Some.ensures in
    let rest = take_rest text (at + 1) in (
      cut.1 ∙ ap (λ l. take at text ∷ slice_split (λ b. nat_eq b c.args.byte) l) (sym rest),
      omega (arith, cut.0, ap length rest, length-drop (at + 1) text),
    )

pub returns-in-None : goal.returns-in-None
returns-in-None c = cut_at (λ b. nat_eq b c.args.byte) c.args.text.now None c.in-None.ensures
