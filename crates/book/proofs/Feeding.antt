-- Entering list after list.
use Rattle.std.proofs.Common.{◌≡◌, ℕ, zero, suc, ◌+◌, ◌<◌, ◌≤◌, Bool, true, false, cond, leb, List, [], ◌∷◌, ◌++◌, length, take, sym, refl, ap, ◌∙◌, subst, ⊎_elim, add-one, arith}
use Rattle.std.proofs.lemmas.Bool.{le-leb, lt-leb, leb-true, leb-false, cases_eq}
use Rattle.std.proofs.lemmas.List.{take_all, append-nil, append_assoc, length-append, take-append-le, length-take}
use Rattle.theory.specs.Count.{any, each, enter, entered}
use Rattle.book.specs.declared.Book.{Book}
use Rattle.book.specs.Feeding.{holds, room, Fed, Kept, Fills}

-- entering one list and then another is entering both in a row
pub entered_append : {A : Type 0} (same : A → A → Bool) (book xs ys : List A) →
    entered same book (xs ++ ys) ≡ entered same (entered same book xs) ys
entered_append same book [] ys = refl
entered_append same book (x ∷ xs) ys = entered_append same (enter same book x) xs ys

-- entering only adds at the end
pub entered_longer : {A : Type 0} (same : A → A → Bool) (book xs : List A) →
    (more : List A) × (entered same book xs ≡ book ++ more)
entered_longer same book [] = ([], sym (append-nil book))
entered_longer {A} same book (x ∷ xs) = go (any (same x) book) (entered_longer same (enter same book x) xs)
  where
    go : (b : Bool) → ((more : List A) × (entered same (enter same book x) xs ≡ enter same book x ++ more)) →
        (more : List A) × (entered same (enter same book x) xs ≡ book ++ more)
    go b tail = one (any (same x) book) refl
      where
        one : (b : Bool) → any (same x) book ≡ b → (more : List A) × (entered same (enter same book x) xs ≡ book ++ more)
        one true e = (tail.0, tail.1 ∙ ap (λ b. cond b book (book ++ x ∷ []) ++ tail.0) e)
        one false e = (x ∷ tail.0, tail.1 ∙ ap (λ b. cond b book (book ++ x ∷ []) ++ tail.0) e ∙ append_assoc book (x ∷ []) tail.0)

-- nothing entered
pub fed_none : {A : Type 0} (same : A → A → Bool) (limit : ℕ) (b : List A) → length b ≤ limit → Fed same limit b b [] true
fed_none same limit b le = record { held = sym (take_all limit b le); fits = sym (le-leb (length b) limit le) }

-- all of one list had room, and then another list was entered
pub fed_more : {A : Type 0} {same : A → A → Bool} {limit : ℕ} {b m a xs ys : List A} {answer : Bool} →
    Fed same limit b m xs true → Fed same limit m a ys answer → Fed same limit b a (xs ++ ys) answer
fed_more {same = same} {limit} {b} {m} {a} {xs} {ys} {answer} first then =
    let le : length (entered same b xs) ≤ limit = leb-true (length (entered same b xs)) limit (sym first.fits) in
    let mid : m ≡ entered same b xs = first.held ∙ take_all limit (entered same b xs) le in
    let whole : entered same m ys ≡ entered same b (xs ++ ys) = ap (λ l. entered same l ys) mid ∙ sym (entered_append same b xs ys) in
    record { held = then.held ∙ ap (take limit) whole; fits = then.fits ∙ ap (λ l. leb (length l) limit) whole }

-- once there was no room, it stays so
pub fed_full : {A : Type 0} {same : A → A → Bool} {limit : ℕ} {b a xs : List A} (ys : List A) →
    Fed same limit b a xs false → Fed same limit b a (xs ++ ys) false
fed_full {same = same} {limit} {b} {a} {xs} ys first =
    let gt : limit < length (entered same b xs) = leb-false (length (entered same b xs)) limit (sym first.fits) in
    let le : limit ≤ length (entered same b xs) = omega arith in
    let more = entered_longer same (entered same b xs) ys in
    let whole = entered_append same b xs ys ∙ more.1 in
    let e = ap length whole ∙ length-append (entered same b xs) more.0 in
    let over : limit < length (entered same b (xs ++ ys)) = omega arith in
    record {
      held = first.held ∙ sym (take-append-le limit (entered same b xs) more.0 le) ∙ ap (take limit) (sym whole);
      fits = sym (lt-leb (length (entered same b (xs ++ ys))) limit over);
    }

pub each_more : {A : Type 0} (f : ℕ → List A) (i : ℕ) → each (i + 1) f ≡ each i f ++ f i
each_more f i = rw add-one

-- the first lists of a row of lists begin the whole
pub each_begins : {A : Type 0} (f : ℕ → List A) (i n : ℕ) → i < n → (rest : List A) × (each n f ≡ each (i + 1) f ++ rest)
each_begins f i zero lt = absurd (omega arith)
each_begins {A} f i (suc n) lt = ⊎_elim
    (λ (e : i ≡ n). ([], ap (λ k. each k f) (sym (ap suc e)) ∙ ap (λ k. each k f) (sym (add-one i)) ∙ sym (append-nil (each (i + 1) f))))
    (λ ne. let before = each_begins f i n (omega arith) in
    (before.0 ++ f n, ap (λ l. l ++ f n) before.1 ∙ append_assoc (each (i + 1) f) before.0 (f n)))
    (cases_eq i n)

-- the turns of a loop that enters f 0, f 1 and so on
pub fed_turn : {A : Type 0} {same : A → A → Bool} {limit : ℕ} {b m a : List A} {answer : Bool} (f : ℕ → List A) (i : ℕ) →
    Fed same limit b m (each i f) true → Fed same limit m a (f i) answer → Fed same limit b a (each (i + 1) f) answer
fed_turn {same = same} {limit} {b} {m} {a} {answer} f i first then =
    subst (λ l. Fed same limit b a l answer) (sym (each_more f i)) (fed_more first then)

pub fed_stop : {A : Type 0} {same : A → A → Bool} {limit : ℕ} {b m a : List A} (f : ℕ → List A) (i n : ℕ) → i < n →
    Fed same limit b m (each i f) true → Fed same limit m a (f i) false → Fed same limit b a (each n f) false
fed_stop {same = same} {limit} {b} {m} {a} f i n lt first then =
    let more = each_begins f i n lt in
    subst (λ l. Fed same limit b a l false) (sym more.1) (fed_full more.0 (fed_turn f i first then))

pub fed_as : {A : Type 0} {same : A → A → Bool} {limit : ℕ} {b a xs ys : List A} {answer : Bool} → xs ≡ ys →
    Fed same limit b a xs answer → Fed same limit b a ys answer
fed_as {same = same} {limit} {b} {a} {answer = answer} e = subst (λ l. Fed same limit b a l answer) e

pub fed_says : {A : Type 0} {same : A → A → Bool} {limit : ℕ} {b a xs : List A} {x y : Bool} → x ≡ y →
    Fed same limit b a xs x → Fed same limit b a xs y
fed_says {same = same} {limit} {b} {a} {xs} e = subst (λ v. Fed same limit b a xs v) e

-- the same within a room that is told to be the same
pub fed_room : {A : Type 0} {same : A → A → Bool} {m n : ℕ} {b a xs : List A} {answer : Bool} → m ≡ n →
    Fed same m b a xs answer → Fed same n b a xs answer
fed_room {same = same} {b = b} {a} {xs} {answer} e = subst (λ k. Fed same k b a xs answer) e

pub kept_same : {A : Type 0} (b : Book A) → Kept b b
kept_same b = record { len = refl; lent = refl }

pub kept_more : {A : Type 0} (a b c : Book A) → Kept a b → Kept b c → Kept a c
kept_more a b c x y = record { len = y.len ∙ x.len; lent = y.lent ∙ x.lent }

-- a book never holds more than it has room for
pub holds_room : {A : Type 0} (b : Book A) → length (holds b) ≤ room b
holds_room b = let e = length-take b.count b.records.now in omega arith

module _ {A : Type 0} (same : A → A → Bool) where
  pub fills_none : (b : Book A) → Fills same b b [] true
  fills_none b = record { fed = fed_none same (room b) (holds b) (holds_room b); kept = kept_same b }

  pub fills_as : (b a : Book A) (xs ys : List A) (answer : Bool) → xs ≡ ys → Fills same b a xs answer → Fills same b a ys answer
  fills_as b a xs ys answer e = subst (λ l. Fills same b a l answer) e

  pub fills_says : (b a : Book A) (xs : List A) (x y : Bool) → x ≡ y → Fills same b a xs x → Fills same b a xs y
  fills_says b a xs x y e = subst (λ v. Fills same b a xs v) e

  -- one list after another
  pub fills_more : (b m a : Book A) (xs ys : List A) (answer : Bool) → Fills same b m xs true → Fills same m a ys answer →
      Fills same b a (xs ++ ys) answer
  fills_more b m a xs ys answer first then = record {
    fed = fed_more first.fed (fed_room first.kept.len then.fed);
    kept = kept_more b m a first.kept then.kept;
  }

  pub fills_full : (b m : Book A) (xs ys : List A) → Fills same b m xs false → Fills same b m (xs ++ ys) false
  fills_full b m xs ys first = record { fed = fed_full ys first.fed; kept = first.kept }

  -- the turns of a loop that enters f 0, f 1 and so on
  pub fills_turn : (b m a : Book A) (f : ℕ → List A) (i : ℕ) → Fills same b m (each i f) true → Fills same m a (f i) true →
      Fills same b a (each (i + 1) f) true
  fills_turn b m a f i first then = record {
    fed = fed_turn f i first.fed (fed_room first.kept.len then.fed);
    kept = kept_more b m a first.kept then.kept;
  }

  pub fills_stop : (b m a : Book A) (f : ℕ → List A) (i n : ℕ) → i < n → Fills same b m (each i f) true →
      Fills same m a (f i) false → Fills same b a (each n f) false
  fills_stop b m a f i n lt first then = record {
    fed = fed_stop f i n lt first.fed (fed_room first.kept.len then.fed);
    kept = kept_more b m a first.kept then.kept;
  }

  pub fills_end : (b a : Book A) (f : ℕ → List A) (i n : ℕ) → i ≤ n → n ≤ i → Fills same b a (each i f) true →
      Fills same b a (each n f) true
  fills_end b a f i n le ge = let e : i ≡ n = omega arith in fills_as b a (each i f) (each n f) true (ap (λ k. each k f) e)
