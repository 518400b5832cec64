-- Gathering pairs in a vector that has room for so many.
use Rattle.std.proofs.Common.{◌≡◌, ℕ, ◌+◌, ◌<◌, ◌≤◌, Bool, true, false, cond, List, [], ◌∷◌, ◌++◌, length, take, Some, None, Ok, Err, Result, OnOk, OnErr, sym, refl, ap, ◌∙◌, subst, leb, arith}
use Rattle.std.specs.List.{position}
use Rattle.std.specs.Result.{is_ok, IsOk}
use Rattle.std.specs.Prelude.{◌↔◌}
use Rattle.std.proofs.lemmas.Bool.{cond-true, cond-false, le-leb, lt-leb, leb-true}
use Rattle.std.proofs.lemmas.List.{take_all, take_at, length_push, length-take}
use Rattle.arrayvec.specs.ArrayVec.{ArrayVec}
use Rattle.theory.specs.Count.{entered, each}
use Rattle.theory.specs.Inequality.{Pair, same_pair}
use Rattle.book.specs.Feeding.{Fed}
use Rattle.book.proofs.Enter.{found, missing}
use Rattle.book.proofs.Feeding.{fed_none, fed_turn, fed_stop, fed_as, fed_says}
use Rattle.sides.specs.Gathers.{Gathers}

module _ {limit : ℕ} where
  -- what was gathered has room
  within : {b a xs : List Pair} {answer : Bool} → Fed same_pair limit b a xs answer → length a ≤ limit
  within {a = a} fed = omega (arith, ap length fed.held, length-take {A = Pair})

  pub gather_none : (b : List Pair) → Gathers limit b b [] true
  gather_none b le = fed_none same_pair limit b le

  -- a pair that is there
  pub gather_old : (b : List Pair) (x : Pair) (i : ℕ) → Some i ≡ position (same_pair x) b → Gathers limit b b (x ∷ []) true
  gather_old b x i is le =
      let e = (found same_pair b x i is).1 in
      record { held = sym (take_all limit b le) ∙ ap (take limit) (sym e); fits = sym (le-leb _ limit le) ∙ ap (λ l. leb (length l) limit) (sym e) }

  -- a pair that is new
  pub gather_push : {E : Type 0} (b a : ArrayVec Pair) (x : Pair) (r : Result Unit E) → None ≡ position (same_pair x) b.items →
      OnOk r (a.items ≡ b.items ++ x ∷ []) → OnErr r (a ≡ b) → (IsOk r ↔ (length b.items < limit)) → OnErr r (length b.items ≡ limit) →
      Gathers limit b.items a.items (x ∷ []) (is_ok r)
  gather_push b a x (Ok _) is pushed same room full le =
      let e = (missing same_pair b.items x is).1 in
      let few : length (b.items ++ x ∷ []) ≤ limit = omega (arith, length_push b.items x, room.0 refl) in
      record {
        held = pushed ∙ sym (take_all limit _ few) ∙ ap (take limit) (sym e);
        fits = sym (le-leb _ limit few) ∙ ap (λ l. leb (length l) limit) (sym e);
      }
  gather_push b a x (Err _) is pushed same room full le =
      let e = (missing same_pair b.items x is).1 in
      let many : limit < length (b.items ++ x ∷ []) = omega (arith, length_push b.items x, full) in
      record {
        held = ap (λ (v : ArrayVec Pair). v.items) same ∙ sym (take_at b.items (x ∷ []) limit full) ∙ ap (take limit) (sym e);
        fits = sym (lt-leb _ limit many) ∙ ap (λ l. leb (length l) limit) (sym e);
      }

  -- under a condition
  pub gather_when : (b a : List Pair) (test : Bool) (xs : List Pair) (answer : Bool) → test ≡ true →
      Gathers limit b a xs answer → Gathers limit b a (cond test xs []) answer
  gather_when b a test xs answer is all le = fed_as (sym (cond-true test xs [] is)) (all le)

  pub gather_unless : (b : List Pair) (test : Bool) (xs : List Pair) → test ≡ false → Gathers limit b b (cond test xs []) true
  gather_unless b test xs is le = fed_as (sym (cond-false test xs [] is)) (gather_none b le)

  -- the turns of a loop that enters f 0, f 1 and so on
  pub gather_turn : (b m a : List Pair) (f : ℕ → List Pair) (i : ℕ) → Gathers limit b m (each i f) true → Gathers limit m a (f i) true →
      Gathers limit b a (each (i + 1) f) true
  gather_turn b m a f i first then le = fed_turn f i (first le) (then (within (first le)))

  pub gather_stop : (b m a : List Pair) (f : ℕ → List Pair) (i n : ℕ) → i < n → Gathers limit b m (each i f) true → Gathers limit m a (f i) false →
      Gathers limit b a (each n f) false
  gather_stop b m a f i n lt first then le = fed_stop f i n lt (first le) (then (within (first le)))

  pub gather_end : (b a : List Pair) (f : ℕ → List Pair) (i n : ℕ) → i ≤ n → n ≤ i → Gathers limit b a (each i f) true → Gathers limit b a (each n f) true
  gather_end b a f i n le ge all room = let e : i ≡ n = omega arith in fed_as (ap (λ k. each k f) e) (all room)

  pub gather_as : {b a xs ys : List Pair} {x y : Bool} → xs ≡ ys → x ≡ y → Gathers limit b a xs x → Gathers limit b a ys y
  gather_as {b} {a} {xs} {ys} {x} {y} e is all le = fed_as e (fed_says is (all le))

  pub gather_to : {b a a' xs : List Pair} {x : Bool} → a' ≡ a → Gathers limit b a xs x → Gathers limit b a' xs x
  gather_to {b} {xs = xs} {x} e all le = subst (λ l. Fed same_pair limit b l xs x) (sym e) (all le)

  -- what was gathered from nothing
  pub gathered : (b a xs : List Pair) (answer : Bool) → b ≡ [] → Gathers limit b a xs answer →
      (answer ≡ leb (length (entered same_pair [] xs)) limit) × (answer ≡ true → a ≡ entered same_pair [] xs)
  gathered b a xs answer e all =
      let fed : Fed same_pair limit [] a xs answer = subst (λ l. Fed same_pair limit l a xs answer) e (all (omega (arith, ap length e))) in
      (fed.fits, λ is. fed.held ∙ take_all limit _ (leb-true _ limit (sym fed.fits ∙ is)))

  -- the first of them, whether or not there are more
  pub first_gathered : (b a xs : List Pair) (answer : Bool) → b ≡ [] → Gathers limit b a xs answer → a ≡ take limit (entered same_pair [] xs)
  first_gathered b a xs answer e all =
      let fed : Fed same_pair limit [] a xs answer = subst (λ l. Fed same_pair limit l a xs answer) e (all (omega (arith, ap length e))) in
      fed.held
