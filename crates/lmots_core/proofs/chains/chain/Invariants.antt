use Rattle.std.proofs.Common.{◌≡◌, ◌-◌}
use Rattle.sha2.specs.Sha256.{digest_bytes}
use Rattle.lmots_core.specs.Chains.{chain}
use Rattle.lmots_core.proofs.chains.chain.Given as goal

abbrev pub invariant-loop-j : goal.invariant-loop-j
invariant-loop-j l = digest_bytes l.value 8 ≡ chain l.id l.q l.i l.from (l.j - l.from) (digest_bytes l.initial.value 8)
