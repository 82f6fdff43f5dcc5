use Rattle.std.proofs.Common.{◌≡◌, nat_eq, sym, ◌∙◌}
use Rattle.fault_script.proofs.Cuts.{cut_twice}
use Rattle.fault_script.proofs.fields.two_numbers.Goals as goal

pub returns-then-is_some : goal.returns-then-is_some
returns-then-is_some c =
    sym (cut_twice (λ b. nat_eq b 46) c.args.word.now c.in-Some.front.now c.in-Some.back.now c.cut_once-2.result (λ a. a.0.now) (λ a. a.1.now)
    c.in-Some.ensures.0 c.cut_once-2.ensures (sym c.if-is_some.ensures))
