use Rattle.std.proofs.Common.{◌≡◌, ◌+◌, ◌<◌, ◌≤◌, [], ◌∷◌, ◌++◌, length, slice_index, slice_set, true, ap, sym, subst, ◌∙◌, rules}
use Rattle.std.proofs.lemmas.Grind.{get_or_default_zero}
use Rattle.fab_base.specs.declared.limits.TheConstants.{MOST_STAMPS}
use Rattle.fault_script.specs.declared.scripts.Wish.{Wish}
use Rattle.fault_script.specs.Scripts.{are_wishes, AreCounts}
use Rattle.fault_script.proofs.Declared.{wish_fits}
use Rattle.fault_script.proofs.Stamps.{wishes_and_one, counts_and_wish}
use Rattle.fault_script.proofs.drafts.Draft.add_request.Goals as goal

pub invariant_of-self-2 : goal.invariant_of-self-2
invariant_of-self-2 c =
    let clients = length c.self.inside.homes.items in
    let stamps = c.self.inside.stamps.items in
    let wishes = c.self.inside.wishes.items in
    let client = c.args.client in
    let last = c.index-last.result.now in
    let wish : Wish = record { client = record { number = client }; stamp = last + 1; op = c.args.op } in
    let pushed : c.push.new.self.items ≡ wishes ++ wish ∷ [] = search rules in
    let declared : client < clients = search rules in
    let counted : client < length stamps = search rules in
    let was : last ≡ slice_index stamps client = c.index-last.ensures ∙ get_or_default_zero stamps client last counted in
    let few : last + 1 ≤ MOST_STAMPS = search rules in
    let low : 1 ≤ last + 1 = search rules in
    let next : last + 1 ≡ slice_index stamps client + 1 = ap (λ n. n + 1) was in
    let size : length (slice_set stamps client (last + 1)) ≡ clients = search rules in (
      c.self.invariant.0,
      c.self.invariant.1,
      size,
      subst (λ l. are_wishes clients l ≡ true) (sym pushed)
          (wishes_and_one clients stamps wishes wish c.self.invariant.2 c.self.invariant.4 c.self.invariant.3 (wish_fits clients client (last + 1) c.args.op declared low few c.requires.within) next),
      subst (λ l. AreCounts (slice_set stamps client (last + 1)) l) (sym pushed)
          (subst (λ n. AreCounts (slice_set stamps client (n + 1)) (wishes ++ wish ∷ [])) (sym was) (counts_and_wish stamps wishes wish c.self.invariant.4 counted)),
      c.self.invariant.5,
    )
