-- Tests over lists and over the numbers below a bound.
use Rattle.std.proofs.Common.{◌≡◌, ℕ, zero, suc, ◌+◌, ◌<◌, Bool, true, false, cond, ◌||◌, ◌⊎◌, List, [], ◌∷◌, ◌++◌, map, length, get_or, sym, refl, ap, ◌∙◌, subst, ap₂, inl, inr, ⊎_elim, le_of_suc-le-suc, not-suc-le-zero, add-one, arith}
use Rattle.std.proofs.lemmas.List.{map_push}
use Rattle.std.proofs.lemmas.Bool.{or_cases, or_left, or_right, false≢true, cases_eq}
use Rattle.theory.specs.Count.{some, any, enter, entered}
use Rattle.theory.specs.Inequality.{Member, here, there}

-- a test that some element passes
pub any_of : {A : Type 0} (p : A → Bool) (xs : List A) → any p xs ≡ true →
    (x : A) × Member x xs × (p x ≡ true)
any_of p [] e = elim (false≢true e) [ ]
any_of p (x ∷ xs) e = go (any_of p xs) (or_cases (p x) (any p xs) e)
  where
    go : (any p xs ≡ true → (y : _) × Member y xs × (p y ≡ true)) →
        (p x ≡ true) ⊎ (any p xs ≡ true) → (y : _) × Member y (x ∷ xs) × (p y ≡ true)
    go later (inl now) = (x, here, now)
    go later (inr more) = let (y, m, ok) = later more in (y, there m, ok)

pub any_from : {A : Type 0} (p : A → Bool) {x : A} {xs : List A} → Member x xs → p x ≡ true →
    any p xs ≡ true
any_from p {x = x} (here {xs = xs}) e = or_left (p x) (any p xs) e
any_from p (there {y = y} {xs = xs} m) e = or_right (p y) (any p xs) (any_from p m e)

pub member_at : {A : Type 0} (xs : List A) (i : ℕ) (d : A) → i < length xs → Member (get_or xs i d) xs
member_at [] i d lt = absurd (not-suc-le-zero lt)
member_at (x ∷ xs) zero d lt = here
member_at (x ∷ xs) (suc i) d lt = there (member_at xs i d (le_of_suc-le-suc lt))

pub place_of : {A : Type 0} (d : A) {x : A} {xs : List A} → Member x xs →
    (i : ℕ) × (i < length xs) × (get_or xs i d ≡ x)
place_of d (here {xs = xs}) = (0, omega arith, refl)
place_of d (there {xs = xs} m) =
    let (i, lt, e) = place_of d m in
    let more : suc i < suc (length xs) = omega arith in
    (suc i, more, e)

-- a test that some number below n passes
pub some_of : (n : ℕ) (p : ℕ → Bool) → some n p ≡ true → (i : ℕ) × (i < n) × (p i ≡ true)
some_of zero p e = elim (false≢true e) [ ]
some_of (suc n) p e = go (some_of n p) (or_cases (some n p) (p n) e)
  where
    go : (some n p ≡ true → (i : ℕ) × (i < n) × (p i ≡ true)) →
        (some n p ≡ true) ⊎ (p n ≡ true) → (i : ℕ) × (i < suc n) × (p i ≡ true)
    go lower (inl found) = let (i, lt, ok) = lower found in
        let more : i < suc n = omega arith in (i, more, ok)
    go lower (inr now) = (n, omega arith, now)

pub some_from : (n : ℕ) (p : ℕ → Bool) (i : ℕ) → i < n → p i ≡ true → some n p ≡ true
some_from zero p i lt e = absurd (not-suc-le-zero lt)
some_from (suc n) p i lt e = ⊎_elim
    (λ (same : i ≡ n). or_right (some n p) (p n) (subst (λ k. p k ≡ true) same e))
    (λ (other : i ≡ n → ⊥). or_left (some n p) (p n) (some_from n p i (omega arith) e))
    (cases_eq i n)

-- the test after one more number
pub some_more : (n : ℕ) (p : ℕ → Bool) → some (n + 1) p ≡ (some n p || p n)
some_more n p = ap (λ k. some k p) (add-one n)

-- two tests with the same outcome
pub same_test : (a b : Bool) → (a ≡ true → b ≡ true) → (b ≡ true → a ≡ true) → a ≡ b
same_test true b f g = sym (f refl)
same_test false true f g = g refl
same_test false false f g = refl

-- a test over the places of a list is a test over its elements
pub some_any : {A : Type 0} (p : A → Bool) (xs : List A) (d : A) →
    some (length xs) (λ i. p (get_or xs i d)) ≡ any p xs
some_any p xs d = same_test _ _
    (λ e. let (i, lt, ok) = some_of (length xs) (λ i. p (get_or xs i d)) e in
    any_from p (member_at xs i d lt) ok)
    (λ e. let (x, m, ok) = any_of p xs e in
    let (i, lt, is) = place_of d m in
    some_from (length xs) (λ i. p (get_or xs i d)) i lt (subst (λ y. p y ≡ true) (sym is) ok))

pub member_left : {A : Type 0} {x : A} {xs : List A} (ys : List A) → Member x xs → Member x (xs ++ ys)
member_left ys here = here
member_left ys (there m) = there (member_left ys m)

pub member_right : {A : Type 0} {x : A} (xs : List A) {ys : List A} → Member x ys → Member x (xs ++ ys)
member_right [] m = m
member_right (y ∷ xs) m = there (member_right xs m)

pub member_either : {A : Type 0} {x : A} (xs ys : List A) → Member x (xs ++ ys) → Member x xs ⊎ Member x ys
member_either [] ys m = inr m
member_either (y ∷ xs) ys here = inl here
member_either (y ∷ xs) ys (there m) = ⊎_elim (λ l. inl (there l)) (λ r. inr r) (member_either xs ys m)

pub member_one : {A : Type 0} {x y : A} → Member x (y ∷ []) → x ≡ y
member_one here = refl
member_one (there m) = elim m [ ]

pub member_map : {A B : Type 0} (f : A → B) {x : A} {xs : List A} → Member x xs → Member (f x) (map f xs)
member_map f here = here
member_map f (there m) = there (member_map f m)

pub map_member : {A B : Type 0} (f : A → B) {y : B} (xs : List A) → Member y (map f xs) →
    (x : A) × Member x xs × (y ≡ f x)
map_member f [] m = elim m [ ]
map_member f (x ∷ xs) here = (x, here, refl)
map_member f (x ∷ xs) (there m) = let (z, in_xs, e) = map_member f xs m in (z, there in_xs, e)

-- what is in a book once records are entered was there or is one of them
pub entered_member : {A : Type 0} (same : A → A → Bool) (book xs : List A) {x : A} →
    Member x (entered same book xs) → Member x book ⊎ Member x xs
entered_member same book [] m = inl m
entered_member same book (y ∷ xs) {x} m =
    ⊎_elim (λ old. first (any (same y) book) old) (λ later. inr (there later))
    (entered_member same (enter same book y) xs m)
  where
    first : (b : Bool) → Member x (cond b book (book ++ y ∷ [])) → Member x book ⊎ Member x (y ∷ xs)
    first true old = inl old
    first false new = ⊎_elim (λ old. inl old)
        (λ one. inr (subst (λ z. Member z (y ∷ xs)) (sym (member_one one)) here))
        (member_either book (y ∷ []) new)

-- what was there stays
pub enter_old : {A : Type 0} (same : A → A → Bool) (book : List A) (y : A) {x : A} → Member x book →
    Member x (enter same book y)
enter_old same book y {x} m = go (any (same y) book)
  where
    go : (b : Bool) → Member x (cond b book (book ++ y ∷ []))
    go true = m
    go false = member_left (y ∷ []) m

pub entered_old : {A : Type 0} (same : A → A → Bool) (book xs : List A) {x : A} → Member x book →
    Member x (entered same book xs)
entered_old same book [] m = m
entered_old same book (y ∷ xs) m = entered_old same (enter same book y) xs (enter_old same book y m)

-- and each record is there, if records that are told to be the same are equal
pub enter_new : {A : Type 0} (same : A → A → Bool) → ((a b : A) → same a b ≡ true → a ≡ b) →
    (book : List A) (y : A) → Member y (enter same book y)
enter_new same tells book y = go (any (same y) book) refl
  where
    go : (b : Bool) → any (same y) book ≡ b → Member y (cond b book (book ++ y ∷ []))
    go true e = let (z, m, ok) = any_of (same y) book e in
        subst (λ w. Member w book) (sym (tells y z ok)) m
    go false e = member_right book here

pub entered_new : {A : Type 0} (same : A → A → Bool) → ((a b : A) → same a b ≡ true → a ≡ b) →
    (book xs : List A) {x : A} → Member x xs → Member x (entered same book xs)
entered_new same tells book [] m = elim m [ ]
entered_new same tells book (y ∷ xs) here =
    entered_old same (enter same book y) xs (enter_new same tells book y)
entered_new same tells book (y ∷ xs) (there m) = entered_new same tells (enter same book y) xs m

-- to enter two lists is to enter the one, then the other
pub entered_append : {A : Type 0} (same : A → A → Bool) (book xs ys : List A) →
    entered same book (xs ++ ys) ≡ entered same (entered same book xs) ys
entered_append same book [] ys = refl
entered_append same book (x ∷ xs) ys = entered_append same (enter same book x) xs ys

pub any_map : {A B : Type 0} (f : A → B) (p : A → Bool) (q : B → Bool) (xs : List A) →
    ((x : A) → Member x xs → p x ≡ q (f x)) → any p xs ≡ any q (map f xs)
any_map f p q [] same = refl
any_map f p q (x ∷ xs) same =
    ap₂ ◌||◌ (same x here) (any_map f p q xs (λ y m. same y (there m)))

-- Records that f turns into others: where f keeps apart what is to be kept apart, a book of the
-- one is turned into the book of the other. `P` says of which records this is known.
pub enter_map : {A B : Type 0} (f : A → B) (same : A → A → Bool) (alike : B → B → Bool) (P : A → Type 0) →
    ((x y : A) → P x → P y → same x y ≡ alike (f x) (f y)) →
    (book : List A) (x : A) → ((y : A) → Member y book → P y) → P x →
    map f (enter same book x) ≡ enter alike (map f book) (f x)
enter_map f same alike P told book x all px =
    go (any (same x) book) (any (alike (f x)) (map f book))
    (any_map f (same x) (alike (f x)) book (λ y m. told x y px (all y m)))
  where
    go : (a b : Bool) → a ≡ b →
        map f (cond a book (book ++ x ∷ [])) ≡ cond b (map f book) (map f book ++ f x ∷ [])
    go true true e = refl
    go true false e = elim (false≢true (sym e)) [ ]
    go false true e = elim (false≢true e) [ ]
    go false false e = map_push f book x

pub entered_map : {A B : Type 0} (f : A → B) (same : A → A → Bool) (alike : B → B → Bool) (P : A → Type 0) →
    ((x y : A) → P x → P y → same x y ≡ alike (f x) (f y)) →
    (book xs : List A) → ((y : A) → Member y book → P y) → ((y : A) → Member y xs → P y) →
    map f (entered same book xs) ≡ entered alike (map f book) (map f xs)
entered_map f same alike P told book [] all more = refl
entered_map f same alike P told book (x ∷ xs) all more =
    entered_map f same alike P told (enter same book x) xs
    (λ y m. ⊎_elim (λ old. all y old)
    (λ new. subst P (sym (member_one new)) (more x here))
    (entered_member same book (x ∷ []) m))
    (λ y m. more y (there m))
    ∙ ap (λ b. entered alike b (map f xs)) (enter_map f same alike P told book x all (more x here))
