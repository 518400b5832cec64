-- What a chain of tests that succeeds tells of each test.
use Rattle.std.proofs.Common.{◌≡◌, Bool, true, false, cond, Ok, Err, Result, refl, ap}
use Rattle.text.specs.declared.fault.LineFault.{LineFault}
use Rattle.text.specs.declared.fault.TableFault.{TableFault}
use Rattle.text_law.proofs.Cases.{same_ok}
use Rattle.tables.specs.Chain.{then, lift}

-- both tests of a chain succeed
pub then_ok : {X Y E : Type 0} (r : Result X E) (f : X → Result Y E) (y : Y) → then r f ≡ Ok y → (x : X) × (r ≡ Ok x) × (f x ≡ Ok y)
then_ok (Ok x) f y h = (x, refl, h)
then_ok (Err e) f y h = absurd cc

pub lift_ok : {X : Type 0} (r : Result X LineFault) (x : X) → lift r ≡ Ok x → r ≡ Ok x
lift_ok (Ok x) y h = ap Ok (same_ok h)
lift_ok (Err e) y h = absurd cc

-- a lifted test of a chain
pub lifted : {X Y : Type 0} (r : Result X LineFault) (f : X → Result Y TableFault) (y : Y) → then (lift r) f ≡ Ok y → (x : X) × (r ≡ Ok x) × (f x ≡ Ok y)
lifted (Ok x) f y h = (x, refl, h)
lifted (Err e) f y h = absurd cc

-- a test that has to hold, and one that must not
pub holds_ok : {X E : Type 0} (b : Bool) (x y : X) (e : E) → cond b (Ok x) (Err e) ≡ Ok y → (b ≡ true) × (x ≡ y)
holds_ok true x y e h = (refl, same_ok h)
holds_ok false x y e h = absurd cc

pub fails_ok : {X E : Type 0} (b : Bool) (x y : X) (e : E) → cond b (Err e) (Ok x) ≡ Ok y → (b ≡ false) × (x ≡ y)
fails_ok true x y e h = absurd cc
fails_ok false x y e h = (refl, same_ok h)
