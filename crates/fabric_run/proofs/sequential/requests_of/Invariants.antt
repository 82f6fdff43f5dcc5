-- a request for each wish so far
use Rattle.std.proofs.Common.{◌≡◌, map}
use Rattle.fabric_run.specs.Plain.{request_of}
use Rattle.fabric_run.proofs.sequential.requests_of.Given as goal

abbrev pub invariant-loop-wish : goal.invariant-loop-wish
invariant-loop-wish l = l.requests.items ≡ map request_of l.yielded
