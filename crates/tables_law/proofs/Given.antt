-- A line that is written of a lawful entry is accepted and gives that entry.
use Rattle.std.proofs.Common.{◌≡◌, ℕ, ◌<◌, true, false, cond, ltb, List, [], ◌∷◌, ◌++◌, length, Ok, Err, codes, decimal, Result, refl, ap, ◌∙◌}
use Rattle.std.specs.List.{AllByRecursion}
use Rattle.std.proofs.lemmas.List.Folds.{list_all-append}
use Rattle.std.proofs.lemmas.Bool.{and_parts, and_from, lt-ltb, eq-eqb}
use Rattle.model.specs.declared.names.Kind.{Kind}
use Rattle.model.specs.declared.names.Kind.TheVariants as kinds
use Rattle.model.specs.declared.nodes.Node.{Node}
use Rattle.model.specs.declared.nodes.Node.TheVariants.{Nothing, Empty, Simple, Rule, Element, Union, Seq, Star}
use Rattle.text.specs.declared.fault.LineFault.{LineFault}
use Rattle.text.specs.declared.fault.LineFault.TheVariants.{Spelling as BadSpelling}
use Rattle.text.specs.declared.fault.TableFault.{TableFault}
use Rattle.text.specs.declared.fault.TableFault.TheVariants.{Full}
use Rattle.text.specs.Fields.{key, number, spelling, value_in, or_number, spelling_in}
use Rattle.text.specs.Forms.{further, is_spelling}
use Rattle.text.specs.Cursors.{line_parts}
use Rattle.text_law.specs.Writing.{commas, keyed, lacks}
use Rattle.text_law.proofs.Cut.{parts_keyed, lacks_all}
use Rattle.text_law.proofs.Number.{number_decimal, lacks_decimal}
use Rattle.tables.specs.declared.words.Key.{Key}
use Rattle.tables.specs.declared.words.Key.TheVariants as keys
use Rattle.tables.specs.Chain.{then, lift}
use Rattle.tables.specs.Words.{key_in, kind_in, allowed, kind_word, key_word}
use Rattle.tables.specs.Shapes.{of_one, of_two}
use Rattle.tables.specs.Checks.{form, room, place, has, may_head, may_stand}
use Rattle.tables.specs.Plain.{Sketch, Fact, begin, name, under, node, rule, end}
use Rattle.tables.specs.Judge.{judged, keyed_line}
use Rattle.tables_law.specs.Source.{Named, Under, Ruled, name_text, under_text, node_text, rule_text, end_text}

-- a field has no comma and no LF
abbrev pub Clean : List ℕ → Type 0
Clean l = (lacks 44 l ≡ true) × (lacks 10 l ≡ true)

clean_kind : (k : Kind) → Clean (kind_word k)
clean_kind kinds.Simple = (refl, refl)
clean_kind kinds.Element = (refl, refl)

clean_spelling : (s : List ℕ) → is_spelling s ≡ true → Clean s
clean_spelling s h = let p = and_parts _ _ h in (lacks_all further 44 s refl p.1, lacks_all further 10 s refl p.1)

clean_decimal : (v : ℕ) → v < 1000000000 → Clean (decimal v)
clean_decimal v h = (lacks_decimal 44 v h refl, lacks_decimal 10 v h refl)

-- a test of a chain that succeeds
then_at : {X Y E : Type 0} (r : Result X E) (x : X) (f : X → Result Y E) → r ≡ Ok x → then r f ≡ f x
then_at r x f e = ap (λ z. then z f) e

lift_at : {X Y : Type 0} (r : Result X LineFault) (x : X) (f : X → Result Y TableFault) → r ≡ Ok x → then (lift r) f ≡ f x
lift_at r x f e = ap (λ z. then (lift z) f) e

-- keys are found again
key_given : (n : ℕ) (k : Key) → key_in (key n (key_word k)) ≡ Ok k
key_given n keys.Grammar = refl
key_given n keys.Name = refl
key_given n keys.Under = refl
key_given n keys.Node = refl
key_given n keys.Rule = refl
key_given n keys.End = refl

kind_given : (n : ℕ) (k : Kind) → kind_in (key n (kind_word k)) ≡ Ok k
kind_given n kinds.Simple = refl
kind_given n kinds.Element = refl

word_lacks : (k : Key) → (lacks 61 (key_word k) ≡ true) × (lacks 10 (key_word k) ≡ true)
word_lacks keys.Grammar = (refl, refl)
word_lacks keys.Name = (refl, refl)
word_lacks keys.Under = (refl, refl)
word_lacks keys.Node = (refl, refl)
word_lacks keys.Rule = (refl, refl)
word_lacks keys.End = (refl, refl)

lacks_append : (m : ℕ) (xs ys : List ℕ) → lacks m xs ≡ true → lacks m ys ≡ true → lacks m (xs ++ ys) ≡ true
lacks_append m xs ys h g = list_all-append _ xs ys ∙ and_from _ _ h g

lacks_commas : (fs : List (List ℕ)) → AllByRecursion Clean fs → lacks 10 (commas fs) ≡ true
lacks_commas [] h = refl
lacks_commas (p ∷ []) h = h.0.1
lacks_commas (p ∷ q ∷ ps) h = lacks_append 10 p (44 ∷ commas (q ∷ ps)) h.0.1 (lacks_commas (q ∷ ps) h.1)

all_commas : (fs : List (List ℕ)) → AllByRecursion Clean fs → AllByRecursion (λ l. lacks 44 l ≡ true) fs
all_commas [] h = tt
all_commas (p ∷ ps) h = (h.0.0, all_commas ps h.1)

-- a line by its key
pub line_given : (k : Key) (d : Sketch) (n : ℕ) (p : List ℕ) (ps : List (List ℕ)) (f : Fact) → AllByRecursion Clean (p ∷ ps) → allowed d.stage k ≡ true → keyed_line k d.tables n (p ∷ ps) ≡ Ok f
    → (judged d n (keyed (key_word k) (p ∷ ps)) ≡ Ok f) × (lacks 10 (keyed (key_word k) (p ∷ ps)) ≡ true)
line_given k d n p ps f c a h = (
  lift_at (line_parts n (keyed (key_word k) (p ∷ ps))) (key n (key_word k), p ∷ ps) _ (parts_keyed n (key_word k) p ps (word_lacks k).0 (all_commas (p ∷ ps) c))
      ∙ lift_at (key_in (key n (key_word k))) k (λ j. then (lift (form (allowed d.stage j) n)) (λ _. keyed_line j d.tables n (p ∷ ps))) (key_given n k)
      ∙ ap (λ b. then (lift (form b n)) (λ _. keyed_line k d.tables n (p ∷ ps))) a
      ∙ h,
  lacks_append 10 (key_word k) (61 ∷ commas (p ∷ ps)) (word_lacks k).1 (lacks_commas (p ∷ ps) c),
)

-- a number field that was written
value_given : (n v : ℕ) → v < 1000000000 → value_in (number n (decimal v)) ≡ Ok v
value_given n v h = ap (or_number n) (number_decimal v h)

two_given : (n a b : ℕ) (g : ℕ → ℕ → Node) → a < 1000000000 → b < 1000000000 → of_two g (number n (decimal a)) (number n (decimal b)) ≡ Ok (g a b)
two_given n a b g h k = then_at (value_in (number n (decimal a))) a _ (value_given n a h) ∙ then_at (value_in (number n (decimal b))) b (λ y. Ok (g a y)) (value_given n b k)

one_given : (n a : ℕ) (g : ℕ → Node) → a < 1000000000 → of_one g (number n (decimal a)) ≡ Ok (g a)
one_given n a g h = then_at (value_in (number n (decimal a))) a (λ x. Ok (g x)) (value_given n a h)

pub begin_given : (d : Sketch) (n : ℕ) → allowed d.stage keys.Grammar ≡ true → (judged d n (keyed (codes "grammar") (codes "1" ∷ [])) ≡ Ok begin) × (lacks 10 (keyed (codes "grammar") (codes "1" ∷ [])) ≡ true)
begin_given d n a = line_given keys.Grammar d n (codes "1") [] begin ((refl, refl), tt) a refl

pub name_given : (d : Sketch) (n : ℕ) (x : Named) → allowed d.stage keys.Name ≡ true → length d.tables.names < 64 → is_spelling x.1 ≡ true → has x.1 d.tables.spellings ≡ false
    → (judged d n (name_text x) ≡ Ok (name x.0 x.1)) × (lacks 10 (name_text x) ≡ true)
name_given d n x a few formed new =
    line_given keys.Name d n (kind_word x.0) (x.1 ∷ []) (name x.0 x.1) (clean_kind x.0, (clean_spelling x.1 formed, tt)) a
    (lift_at (kind_in (key n (kind_word x.0))) x.0 _ (kind_given n x.0)
    ∙ then_at (room 64 (length d.tables.names) n) tt _ (ap (λ b. cond b (Ok tt) (Err (Full n))) (lt-ltb _ _ few))
    ∙ lift_at (spelling_in (spelling n x.1)) x.1 _ (ap (λ b. cond b (Ok x.1) (Err (BadSpelling n))) formed)
    ∙ ap (λ b. then (lift (cond b (Err (BadSpelling n)) (Ok tt))) (λ _. Ok (name x.0 x.1))) new)

pub under_given : (d : Sketch) (n : ℕ) (u : Under) → allowed d.stage keys.Under ≡ true → u.0 < 1000000000 → u.1 < 1000000000 → may_head d.tables.names u.0 u.1 ≡ true
    → (judged d n (under_text u) ≡ Ok (under u.0 u.1)) × (lacks 10 (under_text u) ≡ true)
under_given d n u a st sh may =
    line_given keys.Under d n (decimal u.0) (decimal u.1 ∷ []) (under u.0 u.1) (clean_decimal u.0 st, (clean_decimal u.1 sh, tt)) a
    (lift_at (value_in (number n (decimal u.0))) u.0 _ (value_given n u.0 st)
    ∙ lift_at (value_in (number n (decimal u.1))) u.1 _ (value_given n u.1 sh)
    ∙ ap (λ b. then (place b n) (λ _. Ok (under u.0 u.1))) may)

pub rule_given : (d : Sketch) (n : ℕ) (r : Ruled) → allowed d.stage keys.Rule ≡ true → length d.tables.bodies < 32 → r.1 < 1000000000 → is_spelling r.0 ≡ true → has r.0 d.tables.rules ≡ false → r.1 < length d.tables.nodes
    → (judged d n (rule_text r) ≡ Ok (rule r.0 r.1 n)) × (lacks 10 (rule_text r) ≡ true)
rule_given d n r a few small formed new body =
    line_given keys.Rule d n r.0 (decimal r.1 ∷ []) (rule r.0 r.1 n) (clean_spelling r.0 formed, (clean_decimal r.1 small, tt)) a
    (then_at (room 32 (length d.tables.bodies) n) tt _ (ap (λ b. cond b (Ok tt) (Err (Full n))) (lt-ltb _ _ few))
    ∙ lift_at (value_in (number n (decimal r.1))) r.1 _ (value_given n r.1 small)
    ∙ lift_at (spelling_in (spelling n r.0)) r.0 _ (ap (λ b. cond b (Ok r.0) (Err (BadSpelling n))) formed)
    ∙ ap (λ b. then (lift (cond b (Err (BadSpelling n)) (Ok tt))) (λ _. then (place (ltb r.1 (length d.tables.nodes)) n) (λ _. Ok (rule r.0 r.1 n)))) new
    ∙ ap (λ b. then (place b n) (λ _. Ok (rule r.0 r.1 n))) (lt-ltb _ _ body))

pub end_given : (d : Sketch) (n c : ℕ) → allowed d.stage keys.End ≡ true → c < 1000000000 → c ≡ length d.tables.bodies → (judged d n (end_text c) ≡ Ok end) × (lacks 10 (end_text c) ≡ true)
end_given d n c a small same =
    line_given keys.End d n (decimal c) [] end (clean_decimal c small, tt) a
    (lift_at (value_in (number n (decimal c))) c _ (value_given n c small)
    ∙ ap (λ b. then (place b n) (λ _. Ok end)) (eq-eqb _ _ same))

-- the numbers of a node are small
abbrev pub Small : Node → Type 0
Small Nothing = Unit {0}
Small Empty = Unit {0}
Small (Simple n) = n < 1000000000
Small (Rule k) = k < 1000000000
Small (Element n c) = (n < 1000000000) × (c < 1000000000)
Small (Union a b) = (a < 1000000000) × (b < 1000000000)
Small (Seq a b) = (a < 1000000000) × (b < 1000000000)
Small (Star a) = a < 1000000000

-- a node's line, once its fields are taken
node_ends : (d : Sketch) (n : ℕ) (r : Result Node LineFault) (x : Node) → r ≡ Ok x → length d.tables.nodes < 256 → may_stand d.tables.names (length d.tables.nodes) x ≡ true
    → then (room 256 (length d.tables.nodes) n) (λ _. then (lift r) (λ y. then (place (may_stand d.tables.names (length d.tables.nodes) y) n) (λ _. Ok (node y n)))) ≡ Ok (node x n)
node_ends d n r x e few may =
    then_at (room 256 (length d.tables.nodes) n) tt _ (ap (λ b. cond b (Ok tt) (Err (Full n))) (lt-ltb _ _ few))
    ∙ lift_at r x _ e
    ∙ ap (λ b. then (place b n) (λ _. Ok (node x n))) may

pub node_given : (d : Sketch) (n : ℕ) (x : Node) → allowed d.stage keys.Node ≡ true → Small x → length d.tables.nodes < 256 → may_stand d.tables.names (length d.tables.nodes) x ≡ true
    → (judged d n (node_text x) ≡ Ok (node x n)) × (lacks 10 (node_text x) ≡ true)
node_given d n x a small few may = go x small may
  where
    none : (y : Node) (w : List ℕ) → keyed_line keys.Node d.tables n (w ∷ []) ≡ Ok (node y n) → Clean w → (judged d n (keyed (codes "node") (w ∷ [])) ≡ Ok (node y n)) × (lacks 10 (keyed (codes "node") (w ∷ [])) ≡ true)
    none y w h c = line_given keys.Node d n w [] (node y n) (c, tt) a h

    one : (y : Node) (w : List ℕ) (p : ℕ) → keyed_line keys.Node d.tables n (w ∷ decimal p ∷ []) ≡ Ok (node y n) → Clean w → p < 1000000000
        → (judged d n (keyed (codes "node") (w ∷ decimal p ∷ [])) ≡ Ok (node y n)) × (lacks 10 (keyed (codes "node") (w ∷ decimal p ∷ [])) ≡ true)
    one y w p h c l = line_given keys.Node d n w (decimal p ∷ []) (node y n) (c, (clean_decimal p l, tt)) a h

    two : (y : Node) (w : List ℕ) (p q : ℕ) → keyed_line keys.Node d.tables n (w ∷ decimal p ∷ decimal q ∷ []) ≡ Ok (node y n) → Clean w → p < 1000000000 → q < 1000000000
        → (judged d n (keyed (codes "node") (w ∷ decimal p ∷ decimal q ∷ [])) ≡ Ok (node y n)) × (lacks 10 (keyed (codes "node") (w ∷ decimal p ∷ decimal q ∷ [])) ≡ true)
    two y w p q h c l m = line_given keys.Node d n w (decimal p ∷ decimal q ∷ []) (node y n) (c, (clean_decimal p l, (clean_decimal q m, tt))) a h

    go : (y : Node) → Small y → may_stand d.tables.names (length d.tables.nodes) y ≡ true → (judged d n (node_text y) ≡ Ok (node y n)) × (lacks 10 (node_text y) ≡ true)
    go Nothing s m = none Nothing (codes "none") (node_ends d n (Ok Nothing) Nothing refl few m) (refl, refl)
    go Empty s m = none Empty (codes "empty") (node_ends d n (Ok Empty) Empty refl few m) (refl, refl)
    go (Simple p) s m = one (Simple p) (codes "simple") p (node_ends d n _ (Simple p) (one_given n p Simple s) few m) (refl, refl) s
    go (Rule p) s m = one (Rule p) (codes "rule") p (node_ends d n _ (Rule p) (one_given n p Rule s) few m) (refl, refl) s
    go (Star p) s m = one (Star p) (codes "star") p (node_ends d n _ (Star p) (one_given n p Star s) few m) (refl, refl) s
    go (Element p q) s m = two (Element p q) (codes "element") p q (node_ends d n _ (Element p q) (two_given n p q Element s.0 s.1) few m) (refl, refl) s.0 s.1
    go (Union p q) s m = two (Union p q) (codes "union") p q (node_ends d n _ (Union p q) (two_given n p q Union s.0 s.1) few m) (refl, refl) s.0 s.1
    go (Seq p q) s m = two (Seq p q) (codes "seq") p q (node_ends d n _ (Seq p q) (two_given n p q Seq s.0 s.1) few m) (refl, refl) s.0 s.1
