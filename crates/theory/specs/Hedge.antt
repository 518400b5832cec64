-- Hedges: what a message is once its text has been read.
use Rattle.std.specs.Prelude.{ℕ}

-- A finite sequence of items. An item is a name (by its number) with a hedge inside it; the
-- hedge inside a simple name is always `nothing`.
pub data Hedge : Type 0 where
  nothing : Hedge
  item : (name : ℕ) (inside following : Hedge) → Hedge

-- `Follows u v w`: w is u followed by v.
pub data Follows : Hedge → Hedge → Hedge → Type 0 where
  at_once : {v : Hedge} → Follows nothing v v
  after : {t : ℕ} {i u v w : Hedge} → Follows u v w → Follows (item t i u) v (item t i w)
