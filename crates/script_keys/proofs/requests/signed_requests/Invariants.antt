use Rattle.std.proofs.Common.{◌≡◌, map, take}
use Rattle.script_keys.specs.Requests.{request_of}
use Rattle.script_keys.proofs.requests.signed_requests.Given as goal

abbrev pub invariant-loop-k : goal.invariant-loop-k
invariant-loop-k l = l.requests ≡ map (request_of l.script) (take l.k l.wishes)
