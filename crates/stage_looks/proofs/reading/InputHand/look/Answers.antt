use Rattle.std.proofs.Common.{◌++◌, refl, sym, ap, ◌∙◌}
use Rattle.stage_looks.specs.Feeding.{kept_copy}
use Rattle.stage_looks.specs.declared.reading.InputHand.{InputHand}
use Rattle.stage_looks.proofs.Feeding.{rekept, handed_feeds, retries_on}
use Rattle.stage_looks.proofs.reading.InputHand.look.Goals as goal

pub returns-in-Some-clause-feeds : goal.returns-in-Some-clause-feeds
returns-in-Some-clause-feeds g c = λ popped f m w.
    let a = c.args.self.now in
    let mid : InputHand = record { put = a.put; held = c.take.new.self; kept = a.kept; refused = a.refused } in
    handed_feeds m popped c.in-Some.item a mid c.hand_on.new.self (sym c.take.ensures.value ∙ c.in-Some.is) refl c.hand_on.ensures.others.0
    c.hand_on.ensures.others.1 c.hand_on.ensures.put (f m w)

pub returns-in-Some-take-clause-feeds : goal.returns-in-Some-take-clause-feeds
returns-in-Some-take-clause-feeds g c = λ popped f.
    let a = c.args.self.now in
    let reader = c.args.reader.now in
    let mid : InputHand = record { put = a.put; held = c.take.new.self; kept = c.take-2.new.self; refused = a.refused } in
    retries_on reader.members.now reader.ring.now popped c.in-Some-take.copy a mid c.read_in.new.self (sym c.take-2.ensures.value ∙ c.in-Some-take.is)
    c.take-2.ensures.after refl (c.take.ensures.after ∙ sym (sym c.take.ensures.value ∙ c.in_default.is)) refl c.read_in.ensures.feeds f

pub returns-in-None-clause-feeds : goal.returns-in-None-clause-feeds
returns-in-None-clause-feeds g c = λ popped f m w.
    let a = c.args.self.now in
    let b : InputHand = record { put = a.put; held = c.take.new.self; kept = c.take-2.new.self; refused = a.refused } in
    let kept = c.take-2.ensures.after ∙ sym (sym c.take-2.ensures.value ∙ c.in-None.is) in
    rekept m popped popped a b refl (c.take.ensures.after ∙ sym (sym c.take.ensures.value ∙ c.in_default.is)) refl
    (λ took p. ap (λ k. took ++ kept_copy k) kept ∙ p) (f m w)
