-- What one entry more keeps, place by place.
use Rattle.std.proofs.Common.{◌≡◌, ℕ, ◌<◌, Bool, true, false, cond, ltb, ◌⊎◌, List, [], ◌∷◌, ◌++◌, length, get_or, Some, None, Ok, Err, sym, refl, ap, ◌∙◌, inl, inr, ⊎_elim, arith}
use Rattle.std.specs.List.{AllByRecursion}
use Rattle.std.specs.Str.{bytes_eq}
use Rattle.std.proofs.lemmas.List.Folds.{list_any_at}
use Rattle.std.proofs.lemmas.Slice.Eq.{bytes_eq-Decides}
use Rattle.std.proofs.lemmas.List.{length_push, length-set, get_or_push, get_or_append_left, get_or-set_same, get_or-set_other}
use Rattle.std.proofs.lemmas.Bool.{cases_eq, ltb-true, and_parts, true≢false}
use Rattle.model.specs.declared.names.Kind.{Kind}
use Rattle.model.specs.declared.names.Kind.TheVariants as kinds
use Rattle.model.specs.declared.names.Name.{Name}
use Rattle.model.specs.declared.nodes.Node.{Node}
use Rattle.model.specs.declared.nodes.Node.TheVariants.{Nothing}
use Rattle.text.specs.declared.fault.TableFault.TheVariants.{Place}
use Rattle.tables.specs.declared.draft.Mention.{Mention}
use Rattle.tables.specs.Checks.{has, same_kind, no_name, kind_at, may_head, may_stand}
use Rattle.tables.specs.Read.{headed, present}
use Rattle.tables_law.specs.Lawful.{Apart, Headed, Standing}
use Rattle.std.proofs.lemmas.Option.{none-some, same_Some}

-- an index of a longer list is an old one or the new one
pub push_cases : {X : Type 0} (xs : List X) (x : X) (i : ℕ) → i < length (xs ++ x ∷ []) → (i < length xs) ⊎ (i ≡ length xs)
push_cases xs x i h = ⊎_elim (λ e. inr e) (λ n. inl (omega (arith, length_push xs x))) (cases_eq i (length xs))

-- what is not among the spellings stands at no place of them
not_has : (s : List ℕ) (xs : List (List ℕ)) (i : ℕ) → has s xs ≡ false → i < length xs → get_or xs i [] ≡ s → ⊥
not_has s xs i h l e = true≢false (sym (list_any_at (λ x. bytes_eq x s) xs i [] l ((bytes_eq-Decides _ s).1 e)) ∙ h)

pub apart_more : (xs : List (List ℕ)) (s : List ℕ) → Apart xs → has s xs ≡ false → Apart (xs ++ s ∷ [])
apart_more xs s a h i j l k e =
    ⊎_elim
    (λ (o : j < length xs). a i j l o (sym (get_or_append_left xs (s ∷ []) [] i (omega arith)) ∙ e ∙ get_or_append_left xs (s ∷ []) [] j o))
    (λ (o : j ≡ length xs). not_has s xs i h (omega arith) (sym (get_or_append_left xs (s ∷ []) [] i (omega arith)) ∙ e ∙ get_or_push xs s [] j (sym o)))
    (push_cases xs s j k)

-- a name more has no head
pub headed_more : (xs : List Name) (k : Kind) → Headed xs → Headed (xs ++ record { kind = k; head = None } ∷ [])
headed_more xs k a t h l e =
    let x : Name = record { kind = k; head = None } in
    ⊎_elim
    (λ (o : t < length xs).
    let f = get_or_append_left xs (x ∷ []) no_name t o in
    let b = a t h o (sym (ap (λ (n : Name). n.head) f) ∙ e) in
    let g : h < length xs = omega (arith, b.0) in
    (b.0, ap (λ (n : Name). n.kind) f ∙ b.1 ∙ sym (ap (λ (n : Name). n.kind) (get_or_append_left xs (x ∷ []) no_name h g))))
    (λ (o : t ≡ length xs). absurd (none-some _ (sym (ap (λ (n : Name). n.head) (get_or_push xs x no_name t (sym o))) ∙ e)))
    (push_cases xs x t l)

same_kind_is : (a b : Kind) → same_kind a b ≡ true → a ≡ b
same_kind_is kinds.Simple kinds.Simple h = refl
same_kind_is kinds.Simple kinds.Element h = absurd (true≢false (sym h))
same_kind_is kinds.Element kinds.Simple h = absurd (true≢false (sym h))
same_kind_is kinds.Element kinds.Element h = refl

-- a head that may be given
pub may_parts : (xs : List Name) (t h : ℕ) → may_head xs t h ≡ true → (t < length xs) × (h < t) × (kind_at xs t ≡ kind_at xs h)
may_parts xs t h e =
    let p = and_parts _ _ e in
    let q = and_parts _ _ p.0 in
    let r = and_parts _ _ q.0 in
    (ltb-true _ _ r.0, ltb-true _ _ r.1, same_kind_is _ _ q.1)

-- a head changes no kind
kind_headed : (xs : List Name) (t h i : ℕ) → t < length xs → kind_at (headed xs t h) i ≡ kind_at xs i
kind_headed xs t h i l =
    let x : Name = record { kind = kind_at xs t; head = Some h } in
    ⊎_elim
    (λ (e : i ≡ t). ap (λ j. kind_at (headed xs t h) j) e ∙ ap (λ (n : Name). n.kind) (get_or-set_same xs t x no_name l) ∙ sym (ap (kind_at xs) e))
    (λ (e : i ≡ t → ⊥). ap (λ (n : Name). n.kind) (get_or-set_other xs t i x no_name e))
    (cases_eq i t)

pub headed_set : (xs : List Name) (t h : ℕ) → Headed xs → may_head xs t h ≡ true → Headed (headed xs t h)
headed_set xs t h a m i j l e =
    let p = may_parts xs t h m in
    let x : Name = record { kind = kind_at xs t; head = Some h } in
    let at : i < length xs = omega (arith, length-set xs t x) in
    let ki = kind_headed xs t h i p.0 in
    let kj = kind_headed xs t h j p.0 in
    ⊎_elim
    (λ (o : i ≡ t).
    let s : h ≡ j = same_Some _ _ (sym (ap (λ (n : Name). n.head) (get_or-set_same xs t x no_name p.0)) ∙ sym (ap (λ k. (get_or (headed xs t h) k no_name).head) o) ∙ e) in
    (omega (arith, p.1), ki ∙ ap (kind_at xs) o ∙ p.2 ∙ ap (kind_at xs) s ∙ sym kj))
    (λ (o : i ≡ t → ⊥).
    let b = a i j at (sym (ap (λ (n : Name). n.head) (get_or-set_other xs t i x no_name o)) ∙ e) in
    (b.0, ki ∙ b.1 ∙ sym kj))
    (cases_eq i t)

-- one node more
pub standing_more : (ns : List Name) (xs : List Node) (x : Node) → Standing ns xs → may_stand ns (length xs) x ≡ true → Standing ns (xs ++ x ∷ [])
standing_more ns xs x a h i l =
    ⊎_elim
    (λ (o : i < length xs). ap (may_stand ns i) (get_or_append_left xs (x ∷ []) Nothing i o) ∙ a i o)
    (λ (o : i ≡ length xs). ap (may_stand ns i) (get_or_push xs x Nothing i (sym o)) ∙ ap (λ j. may_stand ns j x) o ∙ h)
    (push_cases xs x i l)

-- mentions that are present
present_by : (n : ℕ) (m : Mention) (ms : List Mention) (u : Unit {0}) (b : Bool) → ltb m.rule n ≡ b → cond b (present n ms) (Err (Place m.line)) ≡ Ok u → (present n ms ≡ Ok u → AllByRecursion (λ (k : Mention). k.rule < n) ms) → (m.rule < n) × AllByRecursion (λ (k : Mention). k.rule < n) ms
present_by n m ms u true e h g = (ltb-true _ _ e, g h)
present_by n m ms u false e h g = absurd cc

pub present_all : (n : ℕ) (ms : List Mention) (u : Unit {0}) → present n ms ≡ Ok u → AllByRecursion (λ (m : Mention). m.rule < n) ms
present_all n [] u h = tt
present_all n (m ∷ ms) u h = present_by n m ms u (ltb m.rule n) refl h (present_all n ms u)
