-- What holds of every success of a chain of tests.
use Rattle.std.proofs.Common.{◌≡◌, Bool, true, false, cond, IfOk, Ok, Err, Result, refl, subst}
use Rattle.text.specs.declared.fault.LineFault.{LineFault}
use Rattle.records.specs.Chains.{then, of_line}

-- what holds of every success of the second test, after a success of the first
pub made_then : {X Y E : Type 0} (r : Result X E) (f : X → Result Y E) (P : Y → Type 0) →
    ((x : X) → r ≡ Ok x → IfOk (f x) P) → IfOk (then r f) P
made_then (Ok x) f P h = h x refl
made_then (Err e) f P h = tt

-- a test that succeeds with y, or is refused
pub made_cond : {Y E : Type 0} (b : Bool) (y : Y) (e : E) (P : Y → Type 0) → (b ≡ true → P y) → IfOk (cond b (Ok y) (Err e)) P
made_cond true y e P h = h refl
made_cond false y e P h = tt

-- one of two ways
pub made_either : {Y E : Type 0} (b : Bool) (r s : Result Y E) (P : Y → Type 0) → IfOk r P → IfOk s P → IfOk (cond b r s) P
made_either true r s P h k = h
made_either false r s P h k = k

-- a success of what may be refused came by its test
pub cond_ok : {Y E : Type 0} (b : Bool) (x y : Y) (e : E) → cond b (Ok x) (Err e) ≡ Ok y → (b ≡ true) × (x ≡ y)
cond_ok true x y e h = (refl, cc)
cond_ok false x y e h = absurd cc

-- a chain that succeeds: each of its parts does
pub then_ok : {X Y E : Type 0} (r : Result X E) (f : X → Result Y E) (y : Y) → then r f ≡ Ok y → (x : X) × (r ≡ Ok x) × (f x ≡ Ok y)
then_ok (Ok x) f y h = (x, refl, h)
then_ok {Y = Y} {E = E} (Err e) f y h = absurd cc

pub line_ok : {X : Type 0} (r : Result X LineFault) (x : X) → of_line r ≡ Ok x → r ≡ Ok x
line_ok (Ok y) x h = cc
line_ok (Err e) x h = absurd cc

pub made_is : {Y E : Type 0} (P : Y → Type 0) (r : Result Y E) (y : Y) → r ≡ Ok y → IfOk r P → P y
made_is P r y e h = subst (λ s. IfOk s P) e h
