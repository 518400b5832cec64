-- A result is one case or the other.
use Rattle.std.proofs.Common.{◌≡◌, Ok, Result}

pub same_ok : {X E : Type 0} {x y : X} → ◌≡◌ {A = Result X E} (Ok x) (Ok y) → x ≡ y
same_ok h = cc
