use Rattle.std.proofs.Common.{◌≡◌, true, sym, subst}
use Rattle.fab_base.specs.declared.messages.Message.{Message}
use Rattle.fab_base.specs.declared.requests.Request.{Request}
use Rattle.fab_rules.specs.Format.{fits}
use Rattle.fab_rules.proofs.Lengths.{request_is_spelled}
use Rattle.script_keys.proofs.copies.load_of.Goals as goal

pub encode-requires : goal.encode-requires
encode-requires c =
    subst (λ (r : Request). fits (Message.Request r) ≡ true) (sym c.in_ok-duplicate.ensures) (request_is_spelled c.args.request.now c.requires)
