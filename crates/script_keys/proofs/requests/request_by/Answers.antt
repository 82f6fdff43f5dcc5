use Rattle.std.proofs.Common.{◌≡◌, true, [], refl, subst, sym}
use Rattle.fab_base.specs.declared.requests.Request.{Request}
use Rattle.fab_rules.specs.Format.{request_fits}
use Rattle.script_keys.proofs.Wishes.{asked_fits}
use Rattle.script_keys.proofs.requests.request_by.Goals as goal

pub put_request_content-requires : goal.put_request_content-requires
put_request_content-requires c =
    let wish = c.args.wish.now in
    subst (λ (r : Request). request_fits r ≡ true) (sym c.in_ok-request.ensures)
    (asked_fits wish wish.op [] c.requires.number c.requires.stamp.1 c.requires.op refl refl)
