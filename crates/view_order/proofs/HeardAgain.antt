-- Messages that are heard again, one after another.
use Rattle.std.proofs.Common.{◌≡◌, false, List, [], ◌∷◌, ◌++◌, inl, inr, refl, sym, ap, subst, ◌∙◌}
use Rattle.fab_base.specs.declared.messages.Message.{Message}
use Rattle.fab_base.specs.declared.answers.Answer.{Answer}
use Rattle.fab_rules.specs.Lists.{In}
use Rattle.fab_rules.specs.Shape.{IsShaped}
use Rattle.fab_machine.specs.State.{Local}
use Rattle.fab_machine.specs.Voting.{Told}
use Rattle.fab_machine.specs.Hearing.{hear}
use Rattle.fab_machine.specs.Checkpointing.{heard_again}
use Rattle.fab_machine.specs.declared.outs.Out.{Out}
use Rattle.local_order.specs.Ordering.{Ordering, with_local}
use Rattle.view_order.specs.Pieces.{IsSame}

abbrev pub told_so : Answer → Local → List Out → Told
told_so answer l outs = record { answer = answer; local = l; outs = outs }

-- what was heard up to these has been heard: to hear them from here comes to what it is to hear all from the start
pub record HeardSo (old now : Ordering) (messages rest : List Message) (before outs : List Out) : Type 0 where
  pub same : IsSame old now
  pub live : now.shut ≡ false
  pub whole : (answer : Answer) → heard_again old.roster old.me (told_so answer now.local outs) rest
      ≡ heard_again old.roster old.me (told_so answer old.local before) messages
  pub inside : (m : Message) → In m rest → In m messages

-- the first of these is shaped
pub first_shaped : (old now : Ordering) (messages rest more : List Message) (before outs : List Out) (m : Message) → rest ≡ m ∷ more
    → HeardSo old now messages rest before outs → ((x : Message) → In x messages → IsShaped old.roster x) → IsShaped now.roster m
first_shaped old now messages rest more before outs m e h shaped =
    subst (λ r. IsShaped r m) (sym h.same.0) (shaped m (h.inside m (subst (In m) (sym e) (inl refl))))

-- one more is heard
pub heard_more : (old now later : Ordering) (messages rest more : List Message) (before outs all : List Out) (m : Message) → rest ≡ m ∷ more
    → later ≡ with_local now (hear now.roster now.me now.local m).local → all ≡ outs ++ (hear now.roster now.me now.local m).outs
    → HeardSo old now messages rest before outs → HeardSo old later messages more before all
heard_more old now later messages rest more before outs all m e is joined h =
    let r = old.roster in
    let me = old.me in
    let told = hear r me now.local m in
    let by : hear now.roster now.me now.local m ≡ told =
    ap (λ s. hear s now.me now.local m) h.same.0 ∙ ap (λ i. hear r i now.local m) h.same.1 in
    let local : later.local ≡ told.local = ap (λ o. o.local) is ∙ ap (λ t. t.local) by in
    let sum : all ≡ outs ++ told.outs = joined ∙ ap (λ t. outs ++ t.outs) by in
    record {
      same = (ap (λ o. o.roster) is ∙ h.same.0, ap (λ o. o.me) is ∙ h.same.1);
      live = ap (λ o. o.shut) is;
      whole = λ answer. ap (λ l. heard_again r me (told_so answer l all) more) local ∙ (ap (λ o. heard_again r me (told_so answer told.local o) more) sum
          ∙ (ap (heard_again r me (told_so answer now.local outs)) (sym e) ∙ h.whole answer));
      inside = λ x i. h.inside x (subst (In x) (sym e) (inr i));
    }

-- all were heard
pub heard_outs : (old now : Ordering) (messages rest : List Message) (before outs : List Out) (answer : Answer) → rest ≡ [] → HeardSo old now messages rest before outs
    → outs ≡ (heard_again old.roster old.me (told_so answer old.local before) messages).outs
heard_outs old now messages rest before outs answer e h =
    ap (λ ms. (heard_again old.roster old.me (told_so answer now.local outs) ms).outs) (sym e) ∙ ap (λ t. t.outs) (h.whole answer)

pub heard_state : (old now : Ordering) (messages rest : List Message) (before outs : List Out) (answer : Answer) → rest ≡ [] → HeardSo old now messages rest before outs
    → now ≡ with_local old (heard_again old.roster old.me (told_so answer old.local before) messages).local
heard_state old now messages rest before outs answer e h =
    let local : now.local ≡ (heard_again old.roster old.me (told_so answer old.local before) messages).local =
    ap (λ ms. (heard_again old.roster old.me (told_so answer now.local outs) ms).local) (sym e) ∙ ap (λ t. t.local) (h.whole answer) in
    ap (λ r. let y : Ordering = record { roster = r; me = now.me; local = now.local; shut = now.shut } in y) h.same.0
    ∙ (ap (λ i. let y : Ordering = record { roster = old.roster; me = i; local = now.local; shut = now.shut } in y) h.same.1
    ∙ (ap (λ l. let y : Ordering = record { roster = old.roster; me = old.me; local = l; shut = now.shut } in y) local
    ∙ ap (λ b. let y : Ordering = record { roster = old.roster; me = old.me; local = (heard_again old.roster old.me (told_so answer old.local before) messages).local; shut = b } in y) h.live))
