-- Members of lists, tests over lists and numbers, books without repeats, and their lengths.
use Rattle.std.proofs.Common.{◌≡◌, ℕ, zero, suc, ◌<◌, ◌≤◌, Bool, true, false, cond, ◌⊎◌, List, [], ◌∷◌, ◌++◌, length, get_or, take, drop, sym, refl, ap, ◌∙◌, subst, inl, inr, ⊎_elim, append_assoc, append-nil, arith, take-append-drop}
use Rattle.std.proofs.lemmas.Bool.{cases_Bool, cases_eq, or_cases, or_parts, or_from, or_left, or_right, false≢true}
use Rattle.theory.specs.Count.{each, some, any, enter, entered}
use Rattle.theory.specs.Inequality.{Member, here, there}
use Rattle.inequality.specs.Lists.{Distinct}

-- what is a member of two lists in a row
pub member_left : {A : Type 0} {x : A} {xs : List A} (ys : List A) → Member x xs → Member x (xs ++ ys)
member_left ys here = here
member_left ys (there p) = there (member_left ys p)

pub member_right : {A : Type 0} {x : A} (xs : List A) {ys : List A} → Member x ys → Member x (xs ++ ys)
member_right [] p = p
member_right (x ∷ xs) p = there (member_right xs p)

pub member_either : {A : Type 0} {x : A} (xs ys : List A) → Member x (xs ++ ys) → Member x xs ⊎ Member x ys
member_either [] ys p = inr p
member_either (y ∷ xs) ys here = inl here
member_either (y ∷ xs) ys (there p) = ⊎_elim (λ a. inl (there a)) inr (member_either xs ys p)

pub member_one : {A : Type 0} {x y : A} → Member x (y ∷ []) → x ≡ y
member_one here = refl
member_one (there p) = elim p [ ]

pub member_cases : {A : Type 0} {x y : A} {xs : List A} → Member x (y ∷ xs) → (x ≡ y) ⊎ Member x xs
member_cases here = inl refl
member_cases (there p) = inr p

-- members by place
pub member_at : {A : Type 0} (xs : List A) (i : ℕ) (d : A) → i < length xs → Member (get_or xs i d) xs
member_at [] i d lt = absurd (omega arith)
member_at (x ∷ xs) zero d lt = here
member_at (x ∷ xs) (suc i) d lt = there (member_at xs i d (omega arith))

pub place_of : {A : Type 0} {x : A} {xs : List A} (d : A) → Member x xs →
    (i : ℕ) × (i < length xs) × (get_or xs i d ≡ x)
place_of d here = (0, omega arith, refl)
place_of d (there p) = let at = place_of d p in (suc at.0, omega (arith, at.1), at.2)

-- members of f 0, f 1, and so on
pub member_each : {A : Type 0} {x : A} (n : ℕ) (f : ℕ → List A) (i : ℕ) → i < n → Member x (f i) → Member x (each n f)
member_each zero f i lt p = absurd (omega arith)
member_each {x = x} (suc n) f i lt p = ⊎_elim
    (λ (e : i ≡ n). member_right (each n f) (subst (λ k. Member x (f k)) e p))
    (λ (ne : i ≡ n → ⊥). member_left (f n) (member_each n f i (omega arith) p))
    (cases_eq i n)

pub each_member : {A : Type 0} {x : A} (n : ℕ) (f : ℕ → List A) → Member x (each n f) →
    (i : ℕ) × (i < n) × Member x (f i)
each_member zero f p = elim p [ ]
each_member {x = x} (suc n) f p = ⊎_elim
    (λ (old : Member x (each n f)). let at = each_member n f old in (at.0, omega (arith, at.1), at.2))
    (λ (new : Member x (f n)). (n, omega arith, new))
    (member_either (each n f) (f n) p)

-- members of a list that is there only if a test passes
pub member_when : {A : Type 0} {x : A} (b : Bool) (xs : List A) → b ≡ true → Member x xs → Member x (cond b xs [])
member_when true xs e p = p
member_when false xs e p = elim (false≢true e) [ ]

pub when_member : {A : Type 0} {x : A} (b : Bool) (xs : List A) → Member x (cond b xs []) → (b ≡ true) × Member x xs
when_member true xs p = (refl, p)
when_member false xs p = elim p [ ]

-- `some` passes exactly when a number below the bound passes
pub some_found : (n : ℕ) (p : ℕ → Bool) → some n p ≡ true → (i : ℕ) × (i < n) × (p i ≡ true)
some_found zero p e = elim (false≢true e) [ ]
some_found (suc n) p e = ⊎_elim
    (λ old. let at = some_found n p old in (at.0, omega (arith, at.1), at.2))
    (λ new. (n, omega arith, new))
    (or_cases (some n p) (p n) e)

pub some_from : (n : ℕ) (p : ℕ → Bool) (i : ℕ) → i < n → p i ≡ true → some n p ≡ true
some_from zero p i lt e = absurd (omega arith)
some_from (suc n) p i lt e = ⊎_elim
    (λ (at : i ≡ n). or_right (some n p) (p n) (ap p (sym at) ∙ e))
    (λ (ne : i ≡ n → ⊥). or_left (some n p) (p n) (some_from n p i (omega arith) e))
    (cases_eq i n)

pub some_none : (n : ℕ) (p : ℕ → Bool) → some n p ≡ false → (i : ℕ) → i < n → p i ≡ false
some_none n p e i lt = ⊎_elim
    (λ (yes' : p i ≡ true). elim (false≢true (sym e ∙ some_from n p i lt yes')) [ ])
    (λ no'. no') (cases_Bool (p i))

pub none_some : (n : ℕ) (p : ℕ → Bool) → ((i : ℕ) → i < n → p i ≡ false) → some n p ≡ false
none_some n p none = ⊎_elim
    (λ yes'. let at = some_found n p yes' in elim (false≢true (sym (none at.0 at.1) ∙ at.2)) [ ])
    (λ no'. no') (cases_Bool (some n p))

-- `any` passes exactly when a member passes
pub any_found : {A : Type 0} (p : A → Bool) (xs : List A) → any p xs ≡ true → (x : A) × Member x xs × (p x ≡ true)
any_found p [] e = elim (false≢true e) [ ]
any_found p (x ∷ xs) e = ⊎_elim
    (λ now'. (x, here, now'))
    (λ later. let at = any_found p xs later in (at.0, there at.1, at.2))
    (or_cases (p x) (any p xs) e)

pub any_from : {A : Type 0} (p : A → Bool) {x : A} {xs : List A} → Member x xs → p x ≡ true → any p xs ≡ true
any_from p here e = or_left _ _ e
any_from p (there {y = y} q) e = or_right (p y) _ (any_from p q e)

pub any_none : {A : Type 0} (p : A → Bool) {x : A} {xs : List A} → any p xs ≡ false → Member x xs → p x ≡ false
any_none p {x = x} e q = ⊎_elim
    (λ (yes' : p x ≡ true). elim (false≢true (sym e ∙ any_from p q yes')) [ ])
    (λ no'. no') (cases_Bool (p x))

pub none_any : {A : Type 0} (p : A → Bool) (xs : List A) → ((x : A) → Member x xs → p x ≡ false) → any p xs ≡ false
none_any p xs none = ⊎_elim
    (λ yes'. let at = any_found p xs yes' in elim (false≢true (sym (none at.0 at.1) ∙ at.2)) [ ])
    (λ no'. no') (cases_Bool (any p xs))

-- a test that tells whether two elements are equal
pub record Tells {A : Type 0} (same : A → A → Bool) : Type 0 where
  pub equal : (a b : A) → same a b ≡ true → a ≡ b
  pub itself : (a : A) → same a a ≡ true

pub apart : {A : Type 0} {same : A → A → Bool} → Tells same → (a b : A) → same a b ≡ false → same b a ≡ false
apart {same = same} tells a b e = ⊎_elim
    (λ (yes' : same b a ≡ true). elim (false≢true (sym e ∙ ap (λ c. same c b) (sym (tells.equal b a yes')) ∙ tells.itself b)) [ ])
    (λ no'. no') (cases_Bool (same b a))

-- the old book begins the new one
pub entered_more : {A : Type 0} (same : A → A → Bool) (book xs : List A) →
    (more : List A) × (entered same book xs ≡ book ++ more)
entered_more same book [] = ([], sym (append-nil book))
entered_more same book (x ∷ xs) = go (any (same x) book) (entered_more same (enter same book x) xs)
  where
    go : (b : Bool) → (more : _) × (entered same (cond b book (book ++ x ∷ [])) xs ≡ cond b book (book ++ x ∷ []) ++ more) →
        (more : _) × (entered same (cond b book (book ++ x ∷ [])) xs ≡ book ++ more)
    go true known = known
    go false known = (x ∷ known.0, known.1 ∙ append_assoc book (x ∷ []) known.0)

pub entered_old : {A : Type 0} (same : A → A → Bool) (book xs : List A) {x : A} → Member x book → Member x (entered same book xs)
entered_old same book xs {x} p =
    let more = entered_more same book xs in
    subst (Member x) (sym more.1) (member_left more.0 p)

module _ {A : Type 0} (same : A → A → Bool) (tells : Tells same) where
  enter_new : (book : List A) (x : A) → Member x (enter same book x)
  enter_new book x = go (any (same x) book) refl
    where
      go : (b : Bool) → any (same x) book ≡ b → Member x (cond b book (book ++ x ∷ []))
      go true e =
          let at = any_found (same x) book e in
          subst (λ y. Member y book) (sym (tells.equal x at.0 at.2)) at.1
      go false e = member_right book here

  enter_from : (book : List A) (x y : A) → Member y (enter same book x) → Member y book ⊎ (y ≡ x)
  enter_from book x y = go (any (same x) book)
    where
      go : (b : Bool) → Member y (cond b book (book ++ x ∷ [])) → Member y book ⊎ (y ≡ x)
      go true p = inl p
      go false p = ⊎_elim inl (λ last. inr (member_one last)) (member_either book (x ∷ []) p)

  -- every record that was entered is in the book
  pub entered_new : (book xs : List A) {x : A} → Member x xs → Member x (entered same book xs)
  entered_new book (y ∷ xs) here = entered_old same (enter same book y) xs (enter_new book y)
  entered_new book (y ∷ xs) (there p) = entered_new (enter same book y) xs p
  entered_new book [] p = elim p [ ]

  -- what is in the book was there before or was entered
  pub entered_from : (book xs : List A) (y : A) → Member y (entered same book xs) → Member y book ⊎ Member y xs
  entered_from book [] y p = inl p
  entered_from book (x ∷ xs) y p = ⊎_elim
      (λ (old : Member y (enter same book x)). ⊎_elim inl
      (λ (e : y ≡ x). inr (subst (λ z. Member y (z ∷ xs)) e here))
      (enter_from book x y old))
      (λ (new : Member y xs). inr (there new))
      (entered_from (enter same book x) xs y p)

  any_append : (p : A → Bool) (xs ys : List A) → any p xs ≡ false → any p ys ≡ false → any p (xs ++ ys) ≡ false
  any_append p [] ys a b = b
  any_append p (x ∷ xs) ys a b =
      let parts = or_parts (p x) (any p xs) a in
      or_from (p x) _ parts.0 (any_append p xs ys parts.1 b)

  distinct_push : (xs : List A) (x : A) → Distinct same xs → any (same x) xs ≡ false → Distinct same (xs ++ x ∷ [])
  distinct_push [] x d e = (refl, tt)
  distinct_push (y ∷ xs) x d e =
      let parts = or_parts (same x y) (any (same x) xs) e in (
        any_append (same y) xs (x ∷ []) d.0 (or_from _ false (apart tells x y parts.0) refl),
        distinct_push xs x d.1 parts.1,
      )

  -- a book has no repeats
  pub entered_distinct : (book xs : List A) → Distinct same book → Distinct same (entered same book xs)
  entered_distinct book [] d = d
  entered_distinct book (x ∷ xs) d = entered_distinct (enter same book x) xs (go (any (same x) book) refl)
    where
      go : (b : Bool) → any (same x) book ≡ b → Distinct same (cond b book (book ++ x ∷ []))
      go true e = d
      go false e = distinct_push book x d e

-- the list without one of its members
abbrev without : {A : Type 0} {x : A} {xs : List A} → Member x xs → List A
without (here {xs = xs}) = xs
without (there {y = y} p) = y ∷ without p

without_length : {A : Type 0} {x : A} {xs : List A} (p : Member x xs) → suc (length (without p)) ≡ length xs
without_length here = refl
without_length (there p) = ap suc (without_length p)

without_others : {A : Type 0} {x : A} {xs : List A} (p : Member x xs) (z : A) → Member z xs → (z ≡ x → ⊥) → Member z (without p)
without_others here z q ne = ⊎_elim (λ e. elim (ne e) [ ]) (λ later. later) (member_cases q)
without_others (there {y = y} p) z q ne = ⊎_elim
    (λ (e : z ≡ y). subst (λ w. Member z (w ∷ without p)) e here)
    (λ later. there (without_others p z later ne))
    (member_cases q)

-- a list without repeats whose members are all in another is not longer than that one
pub no_longer : {A : Type 0} (same : A → A → Bool) → Tells same → (xs ys : List A) → Distinct same xs →
    ((x : A) → Member x xs → Member x ys) → length xs ≤ length ys
no_longer same tells [] ys d sub = omega arith
no_longer {A} same tells (x ∷ xs) ys d sub =
    let p : Member x ys = sub x here in
    let shorter = no_longer same tells xs (without p) d.1 (λ z q. without_others p z (sub z (there q)) (λ e. other z q e)) in
    omega (arith, shorter, without_length p)
  where
    other : (z : A) → Member z xs → z ≡ x → ⊥
    other z q e = false≢true (sym (any_none (same x) d.0 q) ∙ ap (same x) e ∙ tells.itself x)

pub member_take : {A : Type 0} (n : ℕ) (xs : List A) {x : A} → Member x (take n xs) → Member x xs
member_take n xs {x} p = subst (Member x) (take-append-drop n xs) (member_left (drop n xs) p)

-- the beginning of a list without repeats has none
pub distinct_take : {A : Type 0} (same : A → A → Bool) (n : ℕ) (xs : List A) → Distinct same xs → Distinct same (take n xs)
distinct_take same zero xs d = tt
distinct_take same (suc n) [] d = tt
distinct_take same (suc n) (x ∷ xs) d =
    (none_any (same x) (take n xs) (λ y p. any_none (same x) d.0 (member_take n xs p)), distinct_take same n xs d.1)
