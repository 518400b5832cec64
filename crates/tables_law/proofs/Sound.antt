-- A text that is read is the writing of what is read.
use Rattle.std.proofs.Common.{◌≡◌, ℕ, ◌+◌, ◌<◌, ◌≤◌, true, ◌&&◌, eqb, ltb, leb, List, [], ◌∷◌, ◌++◌, map, length, Ok, codes, decimal, sym, refl, ap, ◌∙◌, subst, append_assoc, append-nil, arith}
use Rattle.std.proofs.lemmas.List.{length_push}
use Rattle.std.proofs.lemmas.Bool.{and_parts, leb-true, ltb-true, eqb-true, true≢false}
use Rattle.model.specs.declared.names.Name.{Name}
use Rattle.model.specs.declared.nodes.Node.{Node}
use Rattle.text.specs.Pieces.{lines, whole_text, before}
use Rattle.text.specs.Fields.{View}
use Rattle.text.specs.Cursors.{line_parts}
use Rattle.text_law.specs.Writing.{written, keyed}
use Rattle.text_law.proofs.Cut.{parts_said, written_lines, whole_said}
use Rattle.tables.specs.declared.words.Key.{Key}
use Rattle.tables.specs.declared.words.Key.TheVariants as keys
use Rattle.tables.specs.declared.words.Stage.{Stage}
use Rattle.tables.specs.declared.words.Stage.TheVariants as stages
use Rattle.tables.specs.Words.{order, allowed, key_in, key_word}
use Rattle.tables.specs.Checks.{form, may_head}
use Rattle.tables.specs.Plain.{Plain, Sketch, Fact, begin, name, under, node, rule, end}
use Rattle.tables.specs.Judge.{judged, keyed_line}
use Rattle.tables.specs.Read.{headed, entered, present, closed, read_lines, blank, read}
use Rattle.tables_law.specs.Source.{Named, Under, Ruled, Source, name_text, under_text, node_text, rule_text, end_text, sections, headless, spelling_of, rule_spelling, body_of, with_heads, GivenHeads, lines_from, grown, no_tables, tables_of, Writes}
use Rattle.text_law.proofs.Cases.{same_ok}
use Rattle.tables_law.proofs.Chains.{then_ok, lifted, holds_ok}
use Rattle.tables_law.proofs.Said.{key_said, begin_said, name_said, under_said, node_said, rule_said, end_said, judged_said}
use Rattle.tables_law.proofs.Good.{read_lawful}

-- a line that has a key is the key and its fields
line_said : (n : ℕ) (bs : List ℕ) (v : View) (fs : List (List ℕ)) (k : Key) → line_parts n bs ≡ Ok (v, fs) → key_in v ≡ Ok k → bs ≡ keyed (key_word k) fs
line_said n bs v fs k h e =
    let p = parts_said n bs v fs h in
    p.1 ∙ ap (λ w. keyed w fs) (key_said n (before 61 bs) k (sym (ap key_in p.0) ∙ e))

-- what is still to come: sections that are past are empty
pub record Rest (d : Sketch) (n : ℕ) (ls : List (List ℕ)) (t : Plain) : Type 0 where
  pub ns : List Named
  pub us : List Under
  pub xs : List Node
  pub rs : List Ruled
  pub wrote : ls ≡ sections (length d.tables.bodies) ns us xs rs
  pub gives : t ≡ grown d.tables (n + 1) ns us xs rs
  pub heads : GivenHeads (d.tables.names ++ map headless ns) us
  pub no_names : 2 ≤ order d.stage → ns ≡ []
  pub no_unders : 3 ≤ order d.stage → us ≡ []
  pub no_nodes : 4 ≤ order d.stage → xs ≡ []

-- tables with equal parts are equal
pub same_plain : {a a' : List Name} {b b' e e' : List (List ℕ)} {c c' : List Node} {d d' f f' : List ℕ} → a ≡ a' → b ≡ b' → c ≡ c' → d ≡ d' → e ≡ e' → f ≡ f'
    → ◌≡◌ {A = Plain} record { names = a; spellings = b; nodes = c; bodies = d; rules = e; rule_lines = f } record { names = a'; spellings = b'; nodes = c'; bodies = d'; rules = e'; rule_lines = f' }
same_plain p q r s t u = λ i. record { names = p i; spellings = q i; nodes = r i; bodies = s i; rules = t i; rule_lines = u i }

-- the tables after one entry more
abbrev pub after : Plain → Fact → Plain
after p f = (entered record { tables = p; mentions = []; stage = stages.Start } f).tables

pub grown_name : (p : Plain) (n : ℕ) (x : Named) (ns : List Named) (us : List Under) (xs : List Node) (rs : List Ruled) → grown (after p (name x.0 x.1)) (n + 1) ns us xs rs ≡ grown p n (x ∷ ns) us xs rs
grown_name p n x ns us xs rs =
    let e : n + 1 + length ns + length us + length xs ≡ n + length (x ∷ ns) + length us + length xs = omega arith in
    same_plain (ap (λ l. with_heads l us) (append_assoc p.names (headless x ∷ []) (map headless ns))) (append_assoc p.spellings (x.1 ∷ []) (map spelling_of ns)) refl refl refl (ap (λ m. p.rule_lines ++ lines_from m (length rs)) e)

pub grown_under : (p : Plain) (n : ℕ) (u : Under) (us : List Under) (xs : List Node) (rs : List Ruled) → grown (after p (under u.0 u.1)) (n + 1) [] us xs rs ≡ grown p n [] (u ∷ us) xs rs
grown_under p n u us xs rs =
    let e : n + 1 + 0 + length us + length xs ≡ n + 0 + length (u ∷ us) + length xs = omega arith in
    same_plain (ap (λ l. with_heads l us) (append-nil (headed p.names u.0 u.1) ∙ ap (λ l. headed l u.0 u.1) (sym (append-nil p.names)))) refl refl refl refl (ap (λ m. p.rule_lines ++ lines_from m (length rs)) e)

pub grown_node : (p : Plain) (n : ℕ) (x : Node) (l : ℕ) (xs : List Node) (rs : List Ruled) → grown (after p (node x l)) (n + 1) [] [] xs rs ≡ grown p n [] [] (x ∷ xs) rs
grown_node p n x l xs rs =
    let e : n + 1 + 0 + 0 + length xs ≡ n + 0 + 0 + length (x ∷ xs) = omega arith in
    same_plain refl refl (append_assoc p.nodes (x ∷ []) xs) refl refl (ap (λ m. p.rule_lines ++ lines_from m (length rs)) e)

pub grown_rule : (p : Plain) (n : ℕ) (r : Ruled) (rs : List Ruled) → grown (after p (rule r.0 r.1 n)) (n + 1) [] [] [] rs ≡ grown p n [] [] [] (r ∷ rs)
grown_rule p n r rs =
    let e : n ≡ n + 0 + 0 + 0 = omega arith in
    let f : n + 1 + 0 + 0 + 0 ≡ n + 0 + 0 + 0 + 1 = omega arith in
    same_plain refl refl refl (append_assoc p.bodies (r.1 ∷ []) (map body_of rs)) (append_assoc p.rules (r.0 ∷ []) (map rule_spelling rs))
    (append_assoc p.rule_lines (n ∷ []) (lines_from (n + 1 + 0 + 0 + 0) (length rs)) ∙ ap (λ m. p.rule_lines ++ (n ∷ lines_from m (length rs))) f ∙ ap (λ m. p.rule_lines ++ (m ∷ lines_from (n + 0 + 0 + 0 + 1) (length rs))) e)

pub grown_none : (p : Plain) (n : ℕ) → grown p n [] [] [] [] ≡ p
grown_none p n = same_plain (append-nil p.names) (append-nil p.spellings) (append-nil p.nodes) (append-nil p.bodies) (append-nil p.rules) (append-nil p.rule_lines)

-- the order of sections
later_parts : (o m : ℕ) → (leb 1 o && ltb o 5 && leb o m) ≡ true → (1 ≤ o) × (o < 5) × (o ≤ m)
later_parts o m h = let p = and_parts _ _ h in let q = and_parts _ _ p.0 in (leb-true _ _ q.0, ltb-true _ _ q.1, leb-true _ _ p.1)

-- nothing follows the end
never : (s : Stage) (k : Key) → order s ≡ 5 → allowed s k ≡ true → ⊥
never s keys.Grammar e h = omega (arith, eqb-true _ _ h)
never s keys.Name e h = omega (arith, later_parts (order s) 1 h)
never s keys.Under e h = omega (arith, later_parts (order s) 2 h)
never s keys.Node e h = omega (arith, later_parts (order s) 3 h)
never s keys.Rule e h = omega (arith, later_parts (order s) 4 h)
never s keys.End e h = omega (arith, (later_parts (order s) 5 h).1)

closed_said : (d : Sketch) (n : ℕ) (t : Plain) → closed d n ≡ Ok t → (order d.stage ≡ 5) × (d.tables ≡ t)
closed_said d n t h =
    let e = lifted (form (eqb (order d.stage) 5) n) _ t h in
    let p = then_ok (present (length d.tables.bodies) d.mentions) _ t e.2 in
    (eqb-true _ _ (holds_ok _ _ _ _ e.1).0, same_ok p.2)

ended_said : (ls : List (List ℕ)) (d : Sketch) (n : ℕ) (t : Plain) → order d.stage ≡ 5 → read_lines d n ls ≡ Ok t → (ls ≡ []) × (d.tables ≡ t)
ended_said [] d n t o h = (refl, (closed_said d (n + 1) t h).1)
ended_said (l ∷ ls) d n t o h =
    let s = then_ok (judged d (n + 1) l) _ t h in
    let j = judged_said d (n + 1) l s.0 s.1 in
    absurd (never d.stage j.2 o j.5)

-- what is to come after a line
abbrev Onward : Sketch → Fact → ℕ → List (List ℕ) → Plain → Type 0
Onward d f n ls t = 1 ≤ order (entered d f).stage → order (entered d f).stage ≤ 4 → Rest (entered d f) (n + 1) ls t

-- one line by its key, and then the rest
sound_keyed : (k : Key) (d : Sketch) (n : ℕ) (l : List ℕ) (fs : List (List ℕ)) (f : Fact) (ls : List (List ℕ)) (t : Plain)
    → 1 ≤ order d.stage → l ≡ keyed (key_word k) fs → allowed d.stage k ≡ true → keyed_line k d.tables (n + 1) fs ≡ Ok f
    → read_lines (entered d f) (n + 1) ls ≡ Ok t → Onward d f n ls t → Rest d n (l ∷ ls) t
sound_keyed keys.Grammar d n l fs f ls t o w a h r rec = absurd (omega (arith, eqb-true _ _ a))
sound_keyed keys.Name d n l fs f ls t o w a h r rec =
    let s = name_said d.tables (n + 1) fs f h in
    let b = later_parts (order d.stage) 1 a in
    let low : order d.stage ≤ 1 = b.2 in
    let x : Named = (s.0, s.1) in
    let q = subst (λ (g : Fact). Onward d g n ls t) s.3 rec (omega arith) (omega arith) in
    record {
      ns = x ∷ q.ns;
      us = q.us;
      xs = q.xs;
      rs = q.rs;
      wrote = ap (λ y. y ∷ ls) (w ∙ ap (keyed (codes "name")) s.2) ∙ ap (λ z. name_text x ∷ z) q.wrote;
      gives = q.gives ∙ grown_name d.tables (n + 1) x q.ns q.us q.xs q.rs;
      heads = subst (λ (z : List Name). GivenHeads z q.us) (append_assoc d.tables.names (headless x ∷ []) (map headless q.ns)) q.heads;
      no_names = λ i. absurd (omega arith);
      no_unders = λ i. absurd (omega arith);
      no_nodes = λ i. absurd (omega arith);
    }
sound_keyed keys.Under d n l fs f ls t o w a h r rec =
    let s = under_said d.tables (n + 1) fs f h in
    let b = later_parts (order d.stage) 2 a in
    let low : order d.stage ≤ 2 = b.2 in
    let u : Under = (s.0, s.1) in
    let q = subst (λ (g : Fact). Onward d g n ls t) s.3 rec (omega arith) (omega arith) in
    let no : q.ns ≡ [] = q.no_names (omega arith) in
    let m = length d.tables.bodies in
    record {
      ns = [];
      us = u ∷ q.us;
      xs = q.xs;
      rs = q.rs;
      wrote = ap (λ y. y ∷ ls) (w ∙ ap (keyed (codes "under")) s.2) ∙ ap (λ z. under_text u ∷ z) (q.wrote ∙ ap (λ z. sections m z q.us q.xs q.rs) no);
      gives = q.gives ∙ ap (λ z. grown (after d.tables (under s.0 s.1)) (n + 1 + 1) z q.us q.xs q.rs) no ∙ grown_under d.tables (n + 1) u q.us q.xs q.rs;
      heads = subst (λ (z : List Name). (may_head z s.0 s.1 ≡ true) × GivenHeads (headed z s.0 s.1) q.us) (sym (append-nil d.tables.names))
          (s.4, subst (λ (z : List Name). GivenHeads z q.us) (ap (λ z. headed d.tables.names s.0 s.1 ++ map headless z) no ∙ append-nil (headed d.tables.names s.0 s.1)) q.heads);
      no_names = λ i. refl;
      no_unders = λ i. absurd (omega arith);
      no_nodes = λ i. absurd (omega arith);
    }
sound_keyed keys.Node d n l fs f ls t o w a h r rec =
    let s = node_said d.tables (n + 1) fs f h in
    let b = later_parts (order d.stage) 3 a in
    let low : order d.stage ≤ 3 = b.2 in
    let x : Node = s.0 in
    let q = subst (λ (g : Fact). Onward d g n ls t) s.2 rec (omega arith) (omega arith) in
    let no : q.ns ≡ [] = q.no_names (omega arith) in
    let nu : q.us ≡ [] = q.no_unders (omega arith) in
    let m = length d.tables.bodies in
    record {
      ns = [];
      us = [];
      xs = x ∷ q.xs;
      rs = q.rs;
      wrote = ap (λ y. y ∷ ls) (w ∙ ap (keyed (codes "node")) s.1) ∙ ap (λ z. node_text x ∷ z) (q.wrote ∙ ap (λ z. sections m z q.us q.xs q.rs) no ∙ ap (λ z. sections m [] z q.xs q.rs) nu);
      gives = q.gives ∙ ap (λ z. grown (after d.tables (node x (n + 1))) (n + 1 + 1) z q.us q.xs q.rs) no ∙ ap (λ z. grown (after d.tables (node x (n + 1))) (n + 1 + 1) [] z q.xs q.rs) nu ∙ grown_node d.tables (n + 1) x (n + 1) q.xs q.rs;
      heads = tt;
      no_names = λ i. refl;
      no_unders = λ i. refl;
      no_nodes = λ i. absurd (omega arith);
    }
sound_keyed keys.Rule d n l fs f ls t o w a h r rec =
    let s = rule_said d.tables (n + 1) fs f h in
    let y : Ruled = (s.0, s.1) in
    let q = subst (λ (g : Fact). Onward d g n ls t) s.3 rec (omega arith) (omega arith) in
    let no : q.ns ≡ [] = q.no_names (omega arith) in
    let nu : q.us ≡ [] = q.no_unders (omega arith) in
    let nx : q.xs ≡ [] = q.no_nodes (omega arith) in
    let p = after d.tables (rule s.0 s.1 (n + 1)) in
    let m = length p.bodies in
    let one = length_push d.tables.bodies s.1 in
    let e : m + length q.rs ≡ length d.tables.bodies + length (y ∷ q.rs) = omega arith in
    record {
      ns = [];
      us = [];
      xs = [];
      rs = y ∷ q.rs;
      wrote = ap (λ z. z ∷ ls) (w ∙ ap (keyed (codes "rule")) s.2) ∙ ap (λ z. rule_text y ∷ z)
          (q.wrote ∙ ap (λ z. sections m z q.us q.xs q.rs) no ∙ ap (λ z. sections m [] z q.xs q.rs) nu ∙ ap (λ z. sections m [] [] z q.rs) nx ∙ ap (λ z. map rule_text q.rs ++ end_text z ∷ []) e);
      gives = q.gives ∙ ap (λ z. grown p (n + 1 + 1) z q.us q.xs q.rs) no ∙ ap (λ z. grown p (n + 1 + 1) [] z q.xs q.rs) nu ∙ ap (λ z. grown p (n + 1 + 1) [] [] z q.rs) nx ∙ grown_rule d.tables (n + 1) y q.rs;
      heads = tt;
      no_names = λ i. refl;
      no_unders = λ i. refl;
      no_nodes = λ i. refl;
    }
sound_keyed keys.End d n l fs f ls t o w a h r rec =
    let s = end_said d.tables (n + 1) fs f h in
    let e = ended_said ls (entered d end) (n + 1) t refl (subst (λ (g : Fact). read_lines (entered d g) (n + 1) ls ≡ Ok t) s.2 r) in
    let c : s.0 ≡ length d.tables.bodies + 0 = omega (arith, s.3) in
    record {
      ns = [];
      us = [];
      xs = [];
      rs = [];
      wrote = ap (λ y. y ∷ ls) (w ∙ ap (keyed (codes "end")) (s.1 ∙ ap (λ z. decimal z ∷ []) c)) ∙ ap (λ z. end_text (length d.tables.bodies + 0) ∷ z) e.0;
      gives = sym e.1 ∙ sym (grown_none d.tables (n + 1));
      heads = tt;
      no_names = λ i. refl;
      no_unders = λ i. refl;
      no_nodes = λ i. refl;
    }

sound_lines : (ls : List (List ℕ)) (d : Sketch) (n : ℕ) (t : Plain) → 1 ≤ order d.stage → order d.stage ≤ 4 → read_lines d n ls ≡ Ok t → Rest d n ls t
sound_lines [] d n t o u h = absurd (omega (arith, (closed_said d (n + 1) t h).0))
sound_lines (l ∷ ls) d n t o u h =
    let s = then_ok (judged d (n + 1) l) _ t h in
    let j = judged_said d (n + 1) l s.0 s.1 in
    sound_keyed j.2 d n l j.1 s.0 ls t o (line_said (n + 1) l j.0 j.1 j.2 j.3 j.4) j.5 j.6 s.2 (λ a b. sound_lines ls (entered d s.0) (n + 1) t a b s.2)

-- the first line
sound_first : (k : Key) (l : List ℕ) (fs : List (List ℕ)) (f : Fact) (ls : List (List ℕ)) (t : Plain) → l ≡ keyed (key_word k) fs → allowed stages.Start k ≡ true → keyed_line k no_tables 1 fs ≡ Ok f → read_lines (entered blank f) 1 ls ≡ Ok t
    → (l ≡ keyed (codes "grammar") (codes "1" ∷ [])) × Rest (entered blank begin) 1 ls t
sound_first keys.Grammar l fs f ls t w a h r =
    let s = begin_said 1 fs f h in
    (w ∙ ap (keyed (codes "grammar")) s.0, sound_lines ls (entered blank begin) 1 t (omega arith) (omega arith) (subst (λ (g : Fact). read_lines (entered blank g) 1 ls ≡ Ok t) s.1 r))
sound_first keys.Name l fs f ls t w a h r = absurd (true≢false (sym a))
sound_first keys.Under l fs f ls t w a h r = absurd (true≢false (sym a))
sound_first keys.Node l fs f ls t w a h r = absurd (true≢false (sym a))
sound_first keys.Rule l fs f ls t w a h r = absurd (true≢false (sym a))
sound_first keys.End l fs f ls t w a h r = absurd (true≢false (sym a))

sound_all : (ls : List (List ℕ)) (t : Plain) → read_lines blank 0 ls ≡ Ok t → (s : Source) × (keyed (codes "grammar") (codes "1" ∷ []) ∷ sections 0 s.names s.unders s.nodes s.rules ≡ ls) × (tables_of s ≡ t) × GivenHeads (map headless s.names) s.unders
sound_all [] t h = absurd cc
sound_all (l ∷ ls) t h =
    let s = then_ok (judged blank 1 l) _ t h in
    let j = judged_said blank 1 l s.0 s.1 in
    let p = sound_first j.2 l j.1 s.0 ls t (line_said 1 l j.0 j.1 j.2 j.3 j.4) j.5 j.6 s.2 in
    let q = p.1 in
    (record { names = q.ns; unders = q.us; nodes = q.xs; rules = q.rs }, ap (λ z. keyed (codes "grammar") (codes "1" ∷ []) ∷ z) (sym q.wrote) ∙ ap (λ z. z ∷ ls) (sym p.0), sym q.gives, q.heads)

-- a text that is read writes lawful tables, and those are read
pub read_writes : (text : List ℕ) (t : Plain) → read text ≡ Ok t → Writes text t
read_writes text t h =
    let w = lifted (whole_text 65536 text) _ t h in
    let whole = whole_said text 65536 w.0 w.1 in
    let s = sound_all (lines text) t w.2 in
    (s.0, ap written s.1 ∙ written_lines text whole.0 whole.2, whole.1, s.2, s.3, read_lawful text t h)
