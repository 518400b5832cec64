-- What an accepted line says, by its key.
use Rattle.std.proofs.Common.{◌≡◌, ℕ, ◌<◌, Bool, true, false, cond, eqb, ltb, List, [], ◌∷◌, length, Some, None, Ok, codes, decimal, Option, Result, sym, refl, ap, ◌∙◌}
use Rattle.std.specs.Str.{bytes_eq}
use Rattle.std.proofs.lemmas.Slice.Eq.{bytes_eq-Decides}
use Rattle.std.proofs.lemmas.Bool.{ltb-true, eqb-true}
use Rattle.model.specs.declared.names.Kind.{Kind}
use Rattle.model.specs.declared.names.Kind.TheVariants as kinds
use Rattle.model.specs.declared.nodes.Node.{Node}
use Rattle.model.specs.declared.nodes.Node.TheVariants as nodes
use Rattle.text.specs.declared.fault.LineFault.{LineFault}
use Rattle.text.specs.Fields.{View, key, number, spelling, value_in, or_number, spelling_in}
use Rattle.text.specs.Forms.{number_of, is_spelling}
use Rattle.tables.specs.declared.words.Key.{Key}
use Rattle.tables.specs.declared.words.Key.TheVariants as keys
use Rattle.tables.specs.Words.{key_in, kind_in, version_in, allowed, kind_word, key_word}
use Rattle.tables.specs.Shapes.{with_none, with_one, with_two, node_in}
use Rattle.text.specs.Cursors.{line_parts}
use Rattle.tables.specs.Checks.{form, has, may_head, may_stand, room, place, fresh}
use Rattle.tables.specs.Plain.{Plain, Sketch, Fact, begin, name, under, node, rule, end}
use Rattle.tables.specs.Judge.{begin_line, name_line, under_line, node_line, rule_line, end_line, keyed_line, judged}
use Rattle.tables_law.specs.Source.{node_fields}
use Rattle.text_law.proofs.Number.{decimal_said}
use Rattle.text_law.proofs.Cases.{same_ok}
use Rattle.tables_law.proofs.Chains.{then_ok, lifted, holds_ok, fails_ok}

-- a number field that has a value
value_by : (n : ℕ) (o : Option ℕ) (v : ℕ) → or_number n o ≡ Ok v → o ≡ Some v
value_by n None v h = absurd cc
value_by n (Some x) v h = ap Some (same_ok h)

pub value_ok : (n : ℕ) (bs : List ℕ) (v : ℕ) → value_in (number n bs) ≡ Ok v → number_of bs ≡ Some v
value_ok n bs v h = value_by n (number_of bs) v h

-- a field that is the word goes on with it, and another with the next words
by_word : {X : Type 0} (a w : List ℕ) (p q y : X) (P : Type 0) → cond (bytes_eq a w) p q ≡ y → (a ≡ w → p ≡ y → P) → (q ≡ y → P) → P
by_word a w p q y P h here on = go (bytes_eq a w) refl h
  where
    go : (b : Bool) → bytes_eq a w ≡ b → cond b p q ≡ y → P
    go true e k = here ((bytes_eq-Decides a w).0 e) k
    go false e k = on k

-- one of several words
step : {X E : Type 0} (W : X → List ℕ) (a : List ℕ) (x : X) (r : Result X E) (y : X) → cond (bytes_eq a (W x)) (Ok x) r ≡ Ok y → (r ≡ Ok y → a ≡ W y) → a ≡ W y
step W a x r y h on = by_word a (W x) (Ok x) r (Ok y) (a ≡ W y) h (λ i k. i ∙ ap W (same_ok k)) on

pub kind_said : (n : ℕ) (a : List ℕ) (k : Kind) → kind_in (key n a) ≡ Ok k → a ≡ kind_word k
kind_said n a k h = step kind_word a kinds.Simple _ k h (λ h₁. step kind_word a kinds.Element _ k h₁ (λ h₂. absurd cc))

pub key_said : (n : ℕ) (a : List ℕ) (k : Key) → key_in (key n a) ≡ Ok k → a ≡ key_word k
key_said n a k h =
    step key_word a keys.Grammar _ k h (λ h₁. step key_word a keys.Name _ k h₁ (λ h₂. step key_word a keys.Under _ k h₂ (λ h₃.
    step key_word a keys.Node _ k h₃ (λ h₄. step key_word a keys.Rule _ k h₄ (λ h₅. step key_word a keys.End _ k h₅ (λ h₆. absurd cc))))))

-- a number field that has a value is the writing of it
number_said : (n : ℕ) (p : List ℕ) (v : ℕ) → value_in (number n p) ≡ Ok v → p ≡ decimal v
number_said n p v h = (decimal_said p v (value_ok n p v h)).0

-- a node's line after its word: nothing, one number, or two
none_said : (x : Node) (n : ℕ) (fs : List (List ℕ)) (r : Result Node LineFault) (y : Node) → with_none x n fs ≡ Ok r → r ≡ Ok y → (fs ≡ []) × (x ≡ y)
none_said x n [] r y h e = (refl, same_ok (same_ok h ∙ e))
none_said x n (p ∷ fs) r y h e = absurd cc

one_said : (g : ℕ → Node) (n : ℕ) (fs : List (List ℕ)) (r : Result Node LineFault) (y : Node) → with_one g n fs ≡ Ok r → r ≡ Ok y → (a : ℕ) × (fs ≡ decimal a ∷ []) × (g a ≡ y)
one_said g n [] r y h e = absurd cc
one_said g n (p ∷ []) r y h e =
    let v = then_ok (value_in (number n p)) _ y (same_ok h ∙ e) in
    (v.0, ap (λ w. w ∷ []) (number_said n p v.0 v.1), same_ok v.2)
one_said g n (p ∷ q ∷ fs) r y h e = absurd cc

two_said : (g : ℕ → ℕ → Node) (n : ℕ) (fs : List (List ℕ)) (r : Result Node LineFault) (y : Node) → with_two g n fs ≡ Ok r → r ≡ Ok y → (a : ℕ) × (b : ℕ) × (fs ≡ decimal a ∷ decimal b ∷ []) × (g a b ≡ y)
two_said g n [] r y h e = absurd cc
two_said g n (p ∷ []) r y h e = absurd cc
two_said g n (p ∷ q ∷ []) r y h e =
    let v = then_ok (value_in (number n p)) _ y (same_ok h ∙ e) in
    let w = then_ok (value_in (number n q)) _ y v.2 in
    (v.0, w.0, ap (λ l. l ∷ q ∷ []) (number_said n p v.0 v.1) ∙ ap (λ l. decimal v.0 ∷ l ∷ []) (number_said n q w.0 w.1), same_ok w.2)
two_said g n (p ∷ q ∷ t ∷ fs) r y h e = absurd cc

-- the fields of a node's line are the node's
node_in_said : (n : ℕ) (a : List ℕ) (fs : List (List ℕ)) (r : Result Node LineFault) (x : Node) → node_in (key n a) n fs ≡ Ok r → r ≡ Ok x → a ∷ fs ≡ node_fields x
node_in_said n a fs r x h e =
    let P : Type 0 = a ∷ fs ≡ node_fields x in
    let none : (y : Node) (w : List ℕ) → node_fields y ≡ w ∷ [] → a ≡ w → with_none y n fs ≡ Ok r → P =
    λ y w form i k. let o = none_said y n fs r x k e in ap (λ l. l ∷ fs) i ∙ ap (λ l. w ∷ l) o.0 ∙ sym form ∙ ap node_fields o.1 in
    let one : (g : ℕ → Node) (w : List ℕ) → ((u : ℕ) → node_fields (g u) ≡ w ∷ decimal u ∷ []) → a ≡ w → with_one g n fs ≡ Ok r → P =
    λ g w form i k. let o = one_said g n fs r x k e in ap (λ l. l ∷ fs) i ∙ ap (λ l. w ∷ l) o.1 ∙ sym (form o.0) ∙ ap node_fields o.2 in
    let two : (g : ℕ → ℕ → Node) (w : List ℕ) → ((u v : ℕ) → node_fields (g u v) ≡ w ∷ decimal u ∷ decimal v ∷ []) → a ≡ w → with_two g n fs ≡ Ok r → P =
    λ g w form i k. let o = two_said g n fs r x k e in ap (λ l. l ∷ fs) i ∙ ap (λ l. w ∷ l) o.2 ∙ sym (form o.0 o.1) ∙ ap node_fields o.3 in
    by_word a (codes "none") _ _ _ P h (none nodes.Nothing _ refl) (λ h.
    by_word a (codes "empty") _ _ _ P h (none nodes.Empty _ refl) (λ h.
    by_word a (codes "simple") _ _ _ P h (one nodes.Simple _ (λ u. refl)) (λ h.
    by_word a (codes "rule") _ _ _ P h (one nodes.Rule _ (λ u. refl)) (λ h.
    by_word a (codes "element") _ _ _ P h (two nodes.Element _ (λ u v. refl)) (λ h.
    by_word a (codes "union") _ _ _ P h (two nodes.Union _ (λ u v. refl)) (λ h.
    by_word a (codes "seq") _ _ _ P h (two nodes.Seq _ (λ u v. refl)) (λ h.
    by_word a (codes "star") _ _ _ P h (one nodes.Star _ (λ u. refl)) (λ h. absurd cc))))))))

-- a spelling field that has a spelling
spelling_ok : (n : ℕ) (b s : List ℕ) → spelling_in (spelling n b) ≡ Ok s → (is_spelling s ≡ true) × (b ≡ s)
spelling_ok n b s h = let e = holds_ok (is_spelling b) b s _ h in (sym (ap is_spelling e.1) ∙ e.0, e.1)

pub begin_said : (n : ℕ) (fs : List (List ℕ)) (f : Fact) → begin_line n fs ≡ Ok f → (fs ≡ codes "1" ∷ []) × (f ≡ begin)
begin_said n [] f h = absurd cc
begin_said n (a ∷ []) f h =
    let e = lifted (version_in (key n a)) _ f h in
    (ap (λ w. w ∷ []) ((bytes_eq-Decides a (codes "1")).0 (holds_ok (bytes_eq a (codes "1")) _ _ _ e.1).0), sym (same_ok e.2))
begin_said n (a ∷ b ∷ fs) f h = absurd cc

pub name_said : (t : Plain) (n : ℕ) (fs : List (List ℕ)) (f : Fact) → name_line t n fs ≡ Ok f → (k : Kind) × (s : List ℕ) × (fs ≡ kind_word k ∷ s ∷ []) × (f ≡ name k s) × (length t.names < 64) × (is_spelling s ≡ true) × (has s t.spellings ≡ false)
name_said t n [] f h = absurd cc
name_said t n (a ∷ []) f h = absurd cc
name_said t n (a ∷ b ∷ []) f h =
    let k = lifted (kind_in (key n a)) _ f h in
    let r = then_ok (room 64 (length t.names) n) _ f k.2 in
    let s = lifted (spelling_in (spelling n b)) _ f r.2 in
    let u = lifted (fresh n s.0 t.spellings) _ f s.2 in
    let sp = spelling_ok n b s.0 s.1 in
    let word = kind_said n a k.0 k.1 in
    (k.0, s.0, ap (λ w. w ∷ b ∷ []) word ∙ ap (λ w. kind_word k.0 ∷ w ∷ []) sp.1, sym (same_ok u.2), ltb-true _ _ (holds_ok _ _ _ _ r.1).0, sp.0, (fails_ok _ _ _ _ u.1).0)
name_said t n (a ∷ b ∷ c ∷ fs) f h = absurd cc

pub under_said : (t : Plain) (n : ℕ) (fs : List (List ℕ)) (f : Fact) → under_line t n fs ≡ Ok f → (a : ℕ) × (b : ℕ) × (fs ≡ decimal a ∷ decimal b ∷ []) × (f ≡ under a b) × (may_head t.names a b ≡ true)
under_said t n [] f h = absurd cc
under_said t n (p ∷ []) f h = absurd cc
under_said t n (p ∷ q ∷ []) f h =
    let a = lifted (value_in (number n p)) _ f h in
    let b = lifted (value_in (number n q)) _ f a.2 in
    let m = then_ok (place (may_head t.names a.0 b.0) n) _ f b.2 in
    (a.0, b.0, ap (λ w. w ∷ q ∷ []) (number_said n p a.0 a.1) ∙ ap (λ w. decimal a.0 ∷ w ∷ []) (number_said n q b.0 b.1), sym (same_ok m.2), (holds_ok _ _ _ _ m.1).0)
under_said t n (p ∷ q ∷ r ∷ fs) f h = absurd cc

pub node_said : (t : Plain) (n : ℕ) (fs : List (List ℕ)) (f : Fact) → node_line t n fs ≡ Ok f → (x : Node) × (fs ≡ node_fields x) × (f ≡ node x n) × (length t.nodes < 256) × (may_stand t.names (length t.nodes) x ≡ true)
node_said t n [] f h = absurd cc
node_said t n (w ∷ fs) f h =
    let r = lifted (node_in (key n w) n fs) _ f h in
    let few = then_ok (room 256 (length t.nodes) n) _ f r.2 in
    let x = lifted r.0 _ f few.2 in
    let m = then_ok (place (may_stand t.names (length t.nodes) x.0) n) _ f x.2 in
    (x.0, node_in_said n w fs r.0 x.0 r.1 x.1, sym (same_ok m.2), ltb-true _ _ (holds_ok _ _ _ _ few.1).0, (holds_ok _ _ _ _ m.1).0)

pub rule_said : (t : Plain) (n : ℕ) (fs : List (List ℕ)) (f : Fact) → rule_line t n fs ≡ Ok f → (s : List ℕ) × (b : ℕ) × (fs ≡ s ∷ decimal b ∷ []) × (f ≡ rule s b n) × (length t.bodies < 32) × (is_spelling s ≡ true) × (has s t.rules ≡ false) × (b < length t.nodes)
rule_said t n [] f h = absurd cc
rule_said t n (a ∷ []) f h = absurd cc
rule_said t n (a ∷ p ∷ []) f h =
    let r = then_ok (room 32 (length t.bodies) n) _ f h in
    let v = lifted (value_in (number n p)) _ f r.2 in
    let s = lifted (spelling_in (spelling n a)) _ f v.2 in
    let u = lifted (fresh n s.0 t.rules) _ f s.2 in
    let q = then_ok (place (ltb v.0 (length t.nodes)) n) _ f u.2 in
    let sp = spelling_ok n a s.0 s.1 in
    (s.0, v.0, ap (λ w. w ∷ p ∷ []) sp.1 ∙ ap (λ w. s.0 ∷ w ∷ []) (number_said n p v.0 v.1), sym (same_ok q.2), ltb-true _ _ (holds_ok _ _ _ _ r.1).0, sp.0, (fails_ok _ _ _ _ u.1).0, ltb-true _ _ (holds_ok _ _ _ _ q.1).0)
rule_said t n (a ∷ b ∷ c ∷ fs) f h = absurd cc

pub end_said : (t : Plain) (n : ℕ) (fs : List (List ℕ)) (f : Fact) → end_line t n fs ≡ Ok f → (a : ℕ) × (fs ≡ decimal a ∷ []) × (f ≡ end) × (a ≡ length t.bodies)
end_said t n [] f h = absurd cc
end_said t n (p ∷ []) f h =
    let a = lifted (value_in (number n p)) _ f h in
    let m = then_ok (place (eqb a.0 (length t.bodies)) n) _ f a.2 in
    (a.0, ap (λ w. w ∷ []) (number_said n p a.0 a.1), sym (same_ok m.2), eqb-true _ _ (holds_ok _ _ _ _ m.1).0)
end_said t n (p ∷ q ∷ fs) f h = absurd cc

-- a line has a key that may stand there
pub judged_said : (d : Sketch) (n : ℕ) (bs : List ℕ) (f : Fact) → judged d n bs ≡ Ok f → (v : View) × (fs : List (List ℕ)) × (k : Key) × (line_parts n bs ≡ Ok (v, fs)) × (key_in v ≡ Ok k) × (allowed d.stage k ≡ true) × (keyed_line k d.tables n fs ≡ Ok f)
judged_said d n bs f h =
    let p = lifted (line_parts n bs) _ f h in
    let k = lifted (key_in p.0.0) _ f p.2 in
    let a = lifted (form (allowed d.stage k.0) n) _ f k.2 in
    (p.0.0, p.0.1, k.0, p.1, k.1, (holds_ok _ _ _ _ a.1).0, a.2)
