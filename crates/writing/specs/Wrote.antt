-- What is written into an output from a place on. Past its end nothing is altered.
use Rattle.std.specs.Prelude.{◌≡◌, ℕ, ◌+◌, ◌-◌, ◌^◌, ◌<◌, min, List, [], ◌∷◌, ◌++◌, length, drop, Ok, Err, Result, slice_set}
use Rattle.records.specs.declared.fault.CallFault.{CallFault}
use Rattle.writing.specs.declared.put.Writer.{Writer}

-- the output with the bytes from a place on
abbrev pub laid : List ℕ → ℕ → List ℕ → List ℕ
laid out at [] = out
laid out at (b ∷ bs) = laid (slice_set out at b) (at + 1) bs

-- the bytes were put into a writer's output from its place on: the output is the same lent one, and
-- the next place, which stops at the greatest number, is known
pub record Wrote (w : Writer) (bs : List ℕ) (v : Writer) : Type 0 where
  pub same : v.out.ghost_name ≡ w.out.ghost_name
  pub bytes : length w.out.now < 2 ^ 64 → v.out.now ≡ laid w.out.now w.at bs
  pub next : v.at ≡ min (w.at + length bs) (2 ^ 64 - 1)

-- an output after a call: the text in front, or as before
abbrev pub filled : Result ℕ CallFault → List ℕ → List ℕ → List ℕ
filled (Ok n) text out = text ++ drop n out
filled (Err e) text out = out
