-- Hash chains (RFC 8554, sections 4.2, 4.3 and 4.5, and appendix A).
use Rattle.std.specs.Prelude.{ℕ, zero, suc, ◌+◌, List, [], ◌∷◌, ◌++◌}
use Rattle.std.specs.Int.{w16, w32, to_be_bytes}
use Rattle.sha2.specs.Sha256.{sha256}
use Rattle.lmots_core.specs.declared.kind.OtsKind.{OtsKind}
use Rattle.lmots_core.specs.declared.seed.OtsSeed.{OtsSeed}
use Rattle.lmots_core.specs.Parameters.{top_digit}

-- H(I ‖ u32str(q) ‖ u16str(i) ‖ u8str(j) ‖ tmp): one step of chain i, at place j
unfoldable pub chain_step : List ℕ → ℕ → ℕ → ℕ → List ℕ → List ℕ
chain_step id q i j tmp = sha256 (id ++ to_be_bytes w32 q ++ to_be_bytes w16 i ++ j ∷ [] ++ tmp)

-- the value of chain i that is `steps` steps behind `value`, which stands at place `from`
unfoldable pub chain : List ℕ → ℕ → ℕ → ℕ → ℕ → List ℕ → List ℕ
chain id q i from zero value = value
chain id q i from (suc steps) value = chain_step id q i (from + steps) (chain id q i from steps value)

-- x[i], where chain i starts: derived from the seed (appendix A)
abbrev pub chain_start : OtsSeed → ℕ → ℕ → List ℕ
chain_start seed q i = chain_step seed.id q i 0xff seed.seed

-- y[i], where chain i ends
abbrev pub chain_end : OtsKind → OtsSeed → ℕ → ℕ → List ℕ
chain_end kind seed q i = chain seed.id q i 0 (top_digit kind) (chain_start seed q i)

-- y(0) ‖ y(1) ‖ … ‖ y(n − 1)
unfoldable pub joined : (ℕ → List ℕ) → ℕ → List ℕ
joined y zero = []
joined y (suc n) = joined y n ++ y n
