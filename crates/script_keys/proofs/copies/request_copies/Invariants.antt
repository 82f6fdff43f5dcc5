use Rattle.std.proofs.Common.{◌≡◌, ◌++◌, drop}
use Rattle.script_keys.specs.Requests.{copies_from}
use Rattle.script_keys.proofs.copies.request_copies.Given as goal

-- what is left comes behind
abbrev pub invariant-loop-k : goal.invariant-loop-k
invariant-loop-k l = l.copies ++ copies_from l.script l.k (drop l.k l.requests) ≡ copies_from l.script 0 l.requests
