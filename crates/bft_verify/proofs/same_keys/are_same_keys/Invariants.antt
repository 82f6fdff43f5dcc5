use Rattle.std.proofs.Common.{◌≡◌, take}
use Rattle.bft_verify.proofs.same_keys.are_same_keys.Given as goal

-- so far they are the same
abbrev pub invariant-keys : goal.invariant-keys
invariant-keys l = take l.place l.keys ≡ take l.place l.others
