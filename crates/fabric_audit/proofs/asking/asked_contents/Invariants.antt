use Rattle.std.proofs.Common.{◌≡◌, map, take}
use Rattle.script_keys.specs.Requests.{asked_content}
use Rattle.fabric_audit.proofs.asking.asked_contents.Given as goal

abbrev pub invariant-loop-wish : goal.invariant-loop-wish
invariant-loop-wish l = l.contents ≡ map asked_content (take l.wish-index l.wishes)
