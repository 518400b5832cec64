-- The steps of nullability.
use Rattle.std.proofs.Common.{◌≡◌, ℕ, ◌+◌, ◌*◌, ◌<◌, Bool, true, false, cond, ltb, ◌&&◌, ◌||◌, List, length, get_or, set, Some, None, vec_items, sym, refl, ap, ◌∙◌, subst, ap₂, ◌⊎◌, inl, inr, ⊎_elim, arith}
use Rattle.std.proofs.lemmas.List.{get_or_default, get_or_past}
use Rattle.std.specs.List.{slice_get}
use Rattle.std.proofs.lemmas.Option.{get_or_from_slice_get, slice_get_cases}
use Rattle.model.specs.declared.nodes.Node.{Node}
use Rattle.model.specs.declared.nodes.Node.TheVariants.{Nothing, Rule}
use Rattle.expressions.specs.Numbers.{null_at, null_node, earlier, body_at}
use Rattle.std.proofs.lemmas.Bool.{cond-true, cond-false, lt-ltb, ltb-true}
use Rattle.expressions.specs.Fine.{PartsBelow, Founded}
use Rattle.expressions.proofs.Nulls.{null_past, null_step}
use Rattle.states.specs.Memo.{notes, Says, Sound}
use Rattle.states.proofs.Memos.{notes_set}
use Rattle.states.specs.declared.grammar.Rules.{Rules}
use Rattle.states.specs.declared.nullable.Expressions.{Expressions}

-- nullability in a book
abbrev pub null_in : Expressions → ℕ → ℕ → Bool
null_in e r i = null_at (vec_items e.nodes) (vec_items e.rules.bodies) r i

-- it is the same where book and rules are
pub same_null : (old new : Expressions) (r i : ℕ) → new.nodes ≡ old.nodes → new.rules ≡ old.rules → null_in new r i ≡ null_in old r i
same_null old new r i p q = ap₂ (λ n (u : Rules). null_at (vec_items n) (vec_items u.bodies) r i) p q

pub or_then : (l a b : Bool) → l ≡ a → l ≡ true → l ≡ (a || b)
or_then l a b e is = is ∙ ap (λ x. x || b) (sym is ∙ e)

pub or_else : (l r a b : Bool) → l ≡ a → l ≡ false → r ≡ b → r ≡ (a || b)
or_else l r a b e is same = same ∙ ap (λ x. x || b) (sym is ∙ e)

pub and_then : (l r a b : Bool) → l ≡ a → l ≡ true → r ≡ b → r ≡ (a && b)
and_then l r a b e is same = same ∙ ap (λ x. x && b) (sym is ∙ e)

pub and_else : (l a b : Bool) → l ≡ a → l ≡ false → l ≡ (a && b)
and_else l a b e is = is ∙ ap (λ x. x && b) (sym is ∙ e)

-- the answer to a node is right, and book and rules are as they were
pub record Told (old new : Expressions) (r i : ℕ) (b : Bool) : Type 0 where
  pub nodes : new.nodes ≡ old.nodes
  pub rules : new.rules ≡ old.rules
  pub value : b ≡ null_in old r i

-- the node at a number
pub read_at : (e : Expressions) (i : ℕ) (x n : Node) → i < length (vec_items e.nodes) → x ≡ get_or (vec_items e.nodes) i x → x ≡ n →
    get_or (vec_items e.nodes) i Nothing ≡ n
read_at e i x n lt at is = get_or_default (vec_items e.nodes) i Nothing x lt ∙ sym at ∙ is

-- its parts are earlier
pub parts_at : (e : Expressions) (i : ℕ) (n : Node) → i < length (vec_items e.nodes) → get_or (vec_items e.nodes) i Nothing ≡ n → PartsBelow i n
unfolding Founded
parts_at e i n lt is = subst (PartsBelow i) is (e.fine.1 i lt)

pub here : (i c : ℕ) → c < i → c ≡ earlier i c
here i c lt = sym (cond-true _ _ _ (lt-ltb c i lt))

-- by what the node is
pub by_node : (old v v' : Expressions) (r i : ℕ) (b b' : Bool) (x n : Node) → v ≡ v' → b ≡ b' → v'.nodes ≡ old.nodes → v'.rules ≡ old.rules →
    i < length (vec_items old.nodes) → x ≡ get_or (vec_items old.nodes) i x → x ≡ n →
    b' ≡ null_node (vec_items old.nodes) (vec_items old.rules.bodies) r i n → Told old v r i b
by_node old v v' r i b b' x n p q nodes rules lt at is e =
    let read = read_at old i x n lt at is in
    record {
      nodes = ap (λ (w : Expressions). w.nodes) p ∙ nodes;
      rules = ap (λ (w : Expressions). w.rules) p ∙ rules;
      value = q ∙ e ∙ sym (null_step (vec_items old.nodes) (vec_items old.rules.bodies) r i lt old.fine.0
          ∙ ap (null_node (vec_items old.nodes) (vec_items old.rules.bodies) r i) read);
    }

-- the body of a rule below r
pub body_is : (bodies : List ℕ) (k r b : ℕ) → Some b ≡ cond (ltb k r) (slice_get bodies k) None → (k < r) × (b ≡ body_at bodies k)
body_is bodies k r b = go (ltb k r) refl
  where
    go : (t : Bool) → ltb k r ≡ t → Some b ≡ cond t (slice_get bodies k) None → (k < r) × (b ≡ body_at bodies k)
    go true e at = (ltb-true k r e, sym (get_or_from_slice_get bodies k b 512 (sym at)))
    go false e at = absurd cc

-- a rule that has none is unknown, or has a missing body
pub body_none : (bodies : List ℕ) (k r : ℕ) → None ≡ cond (ltb k r) (slice_get bodies k) None → (ltb k r ≡ false) ⊎ (body_at bodies k ≡ 512)
body_none bodies k r = go (ltb k r) refl
  where
    go : (t : Bool) → ltb k r ≡ t → None ≡ cond t (slice_get bodies k) None → (ltb k r ≡ false) ⊎ (body_at bodies k ≡ 512)
    go false e at = inl e
    go true e at = inr (⊎_elim (λ p. absurd (let own = p.2 in cc)) (λ p. get_or_past bodies k 512 p.0) (slice_get_cases bodies k).1)

pub null_missing : (e : Expressions) (r i k : ℕ) → None ≡ cond (ltb k r) (slice_get (vec_items e.rules.bodies) k) None →
    false ≡ null_node (vec_items e.nodes) (vec_items e.rules.bodies) r i (Rule k)
null_missing e r i k at = ⊎_elim
    (λ (unknown : ltb k r ≡ false). sym (cond-false _ _ _ unknown))
    (λ (missing : body_at (vec_items e.rules.bodies) k ≡ 512).
    sym (ap (λ b. cond (ltb k r) (null_in e k b) false) missing
    ∙ ap (λ x. cond (ltb k r) x false) (null_past (vec_items e.nodes) (vec_items e.rules.bodies) k 512 e.fine.0) ∙ same (ltb k r)))
    (body_none (vec_items e.rules.bodies) k r at)
  where
    same : (t : Bool) → cond t false false ≡ false
    same true = refl
    same false = refl

-- nullability of an earlier part
pub at_part : (old new : Expressions) (r i m : ℕ) (b : Bool) → new.nodes ≡ old.nodes → new.rules ≡ old.rules →
    b ≡ null_in new r m → m < i → b ≡ null_in old r (earlier i m)
at_part old new r i m b p q e lt = e ∙ same_null old new r m p q ∙ ap (null_in old r) (here i m lt)

-- the notes with the answer
pub told_noted : (old new : Expressions) (r i : ℕ) (b : Bool) → i < length (vec_items old.nodes) → Told old new r i b →
    Sound (vec_items new.nodes) (vec_items new.rules.bodies) (set (notes new.nulls) (r * 512 + i) (Some b))
told_noted old new r i b lt t =
    let few = old.fine.0 in
    notes_set (Says (vec_items new.nodes) (vec_items new.rules.bodies)) (notes new.nulls) r i b (omega arith)
    (subst (λ (l : List Node). i < length l) (ap (λ v. vec_items v) (sym t.nodes)) lt, same_null old new r i t.nodes t.rules ∙ sym t.value) new.sound
