use Rattle.std.proofs.Common.{◌≡◌, ◌+◌, ◌<◌, [], ◌∷◌, ◌++◌, length, true, sym, subst, rules}
use Rattle.std.specs.List.{list_all}
use Rattle.fab_base.specs.declared.limits.TheConstants.{MOST_CLIENTS}
use Rattle.fault_script.specs.Drafts.{Draft}
use Rattle.fault_script.specs.Fields.{is_within}
use Rattle.fault_script.specs.Scripts.{are_homes, is_wish, stamps_run, AreCounts}
use Rattle.fab_base.proofs.Tests.{and_left, and_right, and_both}
use Rattle.fault_script.proofs.Declared.{homes_and_one, wishes_more}
use Rattle.fault_script.proofs.Stamps.{counts_and_client}
use Rattle.fault_script.proofs.drafts.Draft.add_client.Goals as goal

pub invariant_of-self-2 : goal.invariant_of-self-2
invariant_of-self-2 c =
    let sizes = c.self.inside.sizes.items in
    let old = c.self.inside.homes.items in
    let wishes = c.self.inside.wishes.items in
    let pushed : c.push-2.new.self.items ≡ old ++ c.args.home ∷ [] = search rules in
    let here : is_within 1 (length sizes) c.args.home ≡ true = subst (λ (d : Draft). is_within 1 (length d.sizes) c.args.home ≡ true) (sym c.self.view_is) c.requires in
    let room : length old < MOST_CLIENTS = search rules in
    let homes : length c.push-2.new.self.items ≡ length old + 1 = search rules in
    let each : list_all (is_wish (length old)) wishes ≡ true = and_left (list_all (is_wish (length old)) wishes) (stamps_run [] wishes) c.self.invariant.3 in
    let counted : c.push.new.self.items ≡ c.self.inside.stamps.items ++ 0 ∷ [] = search rules in
    let stamps : length c.push.new.self.items ≡ length c.push-2.new.self.items = search rules in (
      c.self.invariant.0,
      subst (λ l. are_homes (length sizes) l ≡ true) (sym pushed) (homes_and_one (length sizes) old c.args.home room c.self.invariant.1 here),
      stamps,
      and_both (list_all (is_wish (length c.push-2.new.self.items)) wishes) (stamps_run [] wishes)
          (subst (λ n. list_all (is_wish n) wishes ≡ true) (sym homes) (wishes_more _ wishes each))
          (and_right (list_all (is_wish (length old)) wishes) (stamps_run [] wishes) c.self.invariant.3),
      subst (λ l. AreCounts l wishes) (sym counted) (counts_and_client c.self.inside.stamps.items wishes c.self.invariant.4 (subst (λ n. list_all (is_wish n) wishes ≡ true) (sym c.self.invariant.2) each)),
      c.self.invariant.5,
    )
