-- What is written piece by piece.
use Rattle.std.specs.Prelude.{ℕ, List, ◌++◌}

-- a writer that was `before` and is `after` has gained this piece: whatever it held, the piece stands behind that now. What it means to
-- hold bytes is the writer's own word
pub record Gains {W : Type 0} (holds : W → List ℕ → Type 0) (before after : W) (piece : List ℕ) : Type 0 where
  pub behind : (written : List ℕ) → holds before written → holds after (written ++ piece)
