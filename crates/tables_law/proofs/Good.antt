-- What the tables keep while they are read, and so what read tables are.
use Rattle.std.proofs.Common.{◌≡◌, ℕ, ◌+◌, ◌<◌, ◌≤◌, true, false, ◌&&◌, eqb, ltb, leb, List, [], ◌∷◌, ◌++◌, map, length, get_or, IfOk, Some, None, Ok, Err, Result, sym, refl, ap, ◌∙◌, subst, ⊎_elim, arith}
use Rattle.std.specs.List.{ContainsAt as Has, AllByRecursion}
use Rattle.std.proofs.ByRecursion.{All-push, All-weaker, all-has, All-map, has_append_left, has_push}
use Rattle.std.proofs.lemmas.List.{length_push, length-set, get_or_push, get_or_append_left, map_push, map-append}
use Rattle.std.proofs.lemmas.Bool.{and_parts, leb-true, eqb-true}
use Rattle.model.specs.declared.names.Kind.{Kind}
use Rattle.model.specs.declared.names.Name.{Name}
use Rattle.model.specs.declared.nodes.Node.{Node}
use Rattle.model.specs.declared.nodes.Node.TheVariants.{Nothing, Rule}
use Rattle.text.specs.Forms.{is_spelling}
use Rattle.text.specs.Pieces.{lines, whole_text}
use Rattle.tables.specs.declared.table.Tables.{Tables}
use Rattle.tables.specs.declared.fault.ReadError.{ReadError}
use Rattle.tables.specs.declared.draft.Mention.{Mention}
use Rattle.tables.specs.declared.words.Key.{Key}
use Rattle.tables.specs.declared.words.Key.TheVariants as keys
use Rattle.tables.specs.Words.{order, allowed}
use Rattle.tables.specs.Checks.{form, has, kind_at, may_head, may_stand}
use Rattle.tables.specs.Plain.{Plain, Sketch, Fact, begin, name, under, node, rule, end, plain}
use Rattle.tables.specs.Judge.{judged, keyed_line}
use Rattle.tables.specs.Read.{mentioned, entered, present, closed, read_lines, blank, read, answers}
use Rattle.tables_law.specs.Lawful.{Apart, Headed, Standing, Lawful}
use Rattle.text_law.proofs.Cases.{same_ok}
use Rattle.tables_law.proofs.Chains.{then_ok, lifted}
use Rattle.tables_law.proofs.Said.{begin_said, name_said, under_said, node_said, rule_said, end_said, judged_said}
use Rattle.tables_law.proofs.Places.{push_cases, apart_more, headed_more, headed_set, standing_more, present_all}

abbrev rule_of : Mention → ℕ
rule_of m = m.rule

-- each rule that a node mentions is noted
abbrev Noted : List Node → List Mention → Type 0
Noted xs ms = (i k : ℕ) → i < length xs → get_or xs i Nothing ≡ Rule k → Has (map rule_of ms) k

-- what the names keep
record NamesGood (ns : List Name) (spellings : List (List ℕ)) : Type 0 where
  few : length ns ≤ 64
  spelled : length spellings ≡ length ns
  formed : AllByRecursion (λ s. is_spelling s ≡ true) spellings
  apart : Apart spellings
  heads : Headed ns

-- what the nodes keep
record NodesGood (ns : List Name) (xs : List Node) (ms : List Mention) : Type 0 where
  few : length xs ≤ 256
  standing : Standing ns xs
  noted : Noted xs ms

-- what the rules keep
record RulesGood (count : ℕ) (bodies : List ℕ) (rules : List (List ℕ)) (lined : List ℕ) : Type 0 where
  few : length bodies ≤ 32
  spelled : length rules ≡ length bodies
  numbered : length lined ≡ length bodies
  formed : AllByRecursion (λ s. is_spelling s ≡ true) rules
  apart : Apart rules
  inside : AllByRecursion (λ b. b < count) bodies

-- what the tables keep: no node comes before the names and their heads are there
record Good (d : Sketch) : Type 0 where
  names : NamesGood d.tables.names d.tables.spellings
  nodes : NodesGood d.tables.names d.tables.nodes d.mentions
  rules : RulesGood (length d.tables.nodes) d.tables.bodies d.tables.rules d.tables.rule_lines
  early : order d.stage ≤ 2 → d.tables.nodes ≡ []

-- without nodes any names will do
no_nodes : (ns ns' : List Name) (xs : List Node) (ms : List Mention) → xs ≡ [] → NodesGood ns xs ms → NodesGood ns' xs ms
no_nodes ns ns' xs ms e g = record { few = g.few; standing = λ i l. absurd (omega (arith, ap length e)); noted = g.noted }

has_mentioned : (ms : List Mention) (x : Node) (n k : ℕ) → x ≡ Rule k → Has (map rule_of (ms ++ mentioned x n)) k
has_mentioned ms x n k e = subst (λ (y : Node). Has (map rule_of (ms ++ mentioned y n)) k) (sym e) (subst (λ (l : List ℕ). Has l k) (sym (map_push rule_of ms record { rule = k; line = n })) (has_push (map rule_of ms) k))

noted_more : (xs : List Node) (ms : List Mention) (x : Node) (n : ℕ) → Noted xs ms → Noted (xs ++ x ∷ []) (ms ++ mentioned x n)
noted_more xs ms x n a i k l e =
    ⊎_elim
    (λ (o : i < length xs). subst (λ (ys : List ℕ). Has ys k) (sym (map-append rule_of ms (mentioned x n))) (has_append_left (map rule_of ms) (map rule_of (mentioned x n)) k (a i k o (sym (get_or_append_left xs (x ∷ []) Nothing i o) ∙ e))))
    (λ (o : i ≡ length xs). has_mentioned ms x n k (sym (get_or_push xs x Nothing i (sym o)) ∙ e))
    (push_cases xs x i l)

-- the sections before the nodes
later_by : (o m : ℕ) → (leb 1 o && ltb o 5 && leb o m) ≡ true → o ≤ m
later_by o m h = leb-true _ _ (and_parts _ _ h).1

good_begin : (d : Sketch) → Good d → order d.stage ≤ 2 → Good (entered d begin)
good_begin d g o = record { names = g.names; nodes = g.nodes; rules = g.rules; early = λ _. g.early o }

good_end : (d : Sketch) → Good d → Good (entered d end)
good_end d g = record { names = g.names; nodes = g.nodes; rules = g.rules; early = λ h. absurd (omega arith) }

good_name : (d : Sketch) (k : Kind) (s : List ℕ) → Good d → order d.stage ≤ 2 → length d.tables.names < 64 → is_spelling s ≡ true → has s d.tables.spellings ≡ false → Good (entered d (name k s))
good_name d k s g o few formed new =
    let x : Name = record { kind = k; head = None } in
    let one = length_push d.tables.names x in
    let spelled = length_push d.tables.spellings s in
    let same = g.names.spelled in
    record {
      names = record {
        few = omega arith;
        spelled = omega arith;
        formed = All-push (λ (w : List ℕ). is_spelling w ≡ true) d.tables.spellings s g.names.formed formed;
        apart = apart_more d.tables.spellings s g.names.apart new;
        heads = headed_more d.tables.names k g.names.heads;
      };
      nodes = no_nodes _ _ _ _ (g.early o) g.nodes;
      rules = g.rules;
      early = λ _. g.early o;
    }

good_under : (d : Sketch) (t h : ℕ) → Good d → order d.stage ≤ 2 → may_head d.tables.names t h ≡ true → Good (entered d (under t h))
good_under d t h g o m =
    let x : Name = record { kind = kind_at d.tables.names t; head = Some h } in
    let same = length-set d.tables.names t x in
    let few = g.names.few in
    let spelled = g.names.spelled in
    record {
      names = record { few = omega arith; spelled = omega arith; formed = g.names.formed; apart = g.names.apart; heads = headed_set d.tables.names t h g.names.heads m };
      nodes = no_nodes _ _ _ _ (g.early o) g.nodes;
      rules = g.rules;
      early = λ _. g.early o;
    }

good_node : (d : Sketch) (x : Node) (n : ℕ) → Good d → length d.tables.nodes < 256 → may_stand d.tables.names (length d.tables.nodes) x ≡ true → Good (entered d (node x n))
good_node d x n g few stand =
    let one = length_push d.tables.nodes x in
    let r = g.rules in
    record {
      names = g.names;
      nodes = record {
        few = omega arith;
        standing = standing_more d.tables.names d.tables.nodes x g.nodes.standing stand;
        noted = noted_more d.tables.nodes d.mentions x n g.nodes.noted;
      };
      rules = record {
        few = r.few;
        spelled = r.spelled;
        numbered = r.numbered;
        formed = r.formed;
        apart = r.apart;
        inside = All-weaker (λ b. b < length d.tables.nodes) (λ b. b < length (d.tables.nodes ++ x ∷ [])) (λ b h. omega arith) d.tables.bodies r.inside;
      };
      early = λ h. absurd (omega arith);
    }

good_rule : (d : Sketch) (s : List ℕ) (b n : ℕ) → Good d → length d.tables.bodies < 32 → is_spelling s ≡ true → has s d.tables.rules ≡ false → b < length d.tables.nodes → Good (entered d (rule s b n))
good_rule d s b n g few formed new body =
    let one = length_push d.tables.bodies b in
    let spelled = length_push d.tables.rules s in
    let lined = length_push d.tables.rule_lines n in
    let r = g.rules in
    let same_spelled = r.spelled in
    let same_lined = r.numbered in
    record {
      names = g.names;
      nodes = g.nodes;
      rules = record {
        few = omega arith;
        spelled = omega arith;
        numbered = omega arith;
        formed = All-push (λ (w : List ℕ). is_spelling w ≡ true) d.tables.rules s r.formed formed;
        apart = apart_more d.tables.rules s r.apart new;
        inside = All-push (λ c. c < length d.tables.nodes) d.tables.bodies b r.inside body;
      };
      early = λ h. absurd (omega arith);
    }

-- a line that is accepted
good_keyed : (k : Key) (d : Sketch) (n : ℕ) (fs : List (List ℕ)) (f : Fact) → Good d → allowed d.stage k ≡ true → keyed_line k d.tables n fs ≡ Ok f → Good (entered d f)
good_keyed keys.Grammar d n fs f g a h =
    let s = begin_said n fs f h in
    subst (λ (x : Fact). Good (entered d x)) (sym s.1) (good_begin d g (omega (arith, eqb-true _ _ a)))
good_keyed keys.Name d n fs f g a h =
    let s = name_said d.tables n fs f h in
    subst (λ (x : Fact). Good (entered d x)) (sym s.3) (good_name d s.0 s.1 g (omega (arith, later_by (order d.stage) 1 a)) s.4 s.5 s.6)
good_keyed keys.Under d n fs f g a h =
    let s = under_said d.tables n fs f h in
    subst (λ (x : Fact). Good (entered d x)) (sym s.3) (good_under d s.0 s.1 g (later_by (order d.stage) 2 a) s.4)
good_keyed keys.Node d n fs f g a h =
    let s = node_said d.tables n fs f h in
    subst (λ (x : Fact). Good (entered d x)) (sym s.2) (good_node d s.0 n g s.3 s.4)
good_keyed keys.Rule d n fs f g a h =
    let s = rule_said d.tables n fs f h in
    subst (λ (x : Fact). Good (entered d x)) (sym s.3) (good_rule d s.0 s.1 n g s.4 s.5 s.6 s.7)
good_keyed keys.End d n fs f g a h =
    let s = end_said d.tables n fs f h in
    subst (λ (x : Fact). Good (entered d x)) (sym s.2) (good_end d g)

good_step : (d : Sketch) (n : ℕ) (bs : List ℕ) (f : Fact) → Good d → judged d n bs ≡ Ok f → Good (entered d f)
good_step d n bs f g h = let s = judged_said d n bs f h in good_keyed s.2 d n s.1 f g s.5 s.6

good_blank : Good blank
good_blank = record {
  names = record { few = omega arith; spelled = refl; formed = tt; apart = λ i j l k e. omega arith; heads = λ t h l e. absurd (omega arith) };
  nodes = record { few = omega arith; standing = λ i l. absurd (omega arith); noted = λ i k l e. absurd (omega arith) };
  rules = record { few = omega arith; spelled = refl; numbered = refl; formed = tt; apart = λ i j l k e. omega arith; inside = tt };
  early = λ _. refl;
}

good_closed : (d : Sketch) (n : ℕ) (t : Plain) → Good d → closed d n ≡ Ok t → Lawful t
good_closed d n t g h =
    let e = lifted (form (eqb (order d.stage) 5) n) _ t h in
    let p = then_ok (present (length d.tables.bodies) d.mentions) _ t e.2 in
    let ms = All-map (λ k. k < length d.tables.bodies) rule_of d.mentions (present_all (length d.tables.bodies) d.mentions p.0 p.1) in
    subst Lawful (same_ok p.2) record {
      few_names = g.names.few;
      few_nodes = g.nodes.few;
      few_rules = g.rules.few;
      names_spelled = g.names.spelled;
      rules_spelled = g.rules.spelled;
      rules_lined = g.rules.numbered;
      names_formed = g.names.formed;
      rules_formed = g.rules.formed;
      names_apart = g.names.apart;
      rules_apart = g.rules.apart;
      heads = g.names.heads;
      standing = g.nodes.standing;
      bodies_in = g.rules.inside;
      mentions_in = λ i k l x. all-has (λ j. j < length d.tables.bodies) (map rule_of d.mentions) k ms (g.nodes.noted i k l x);
    }

good_lines : (ls : List (List ℕ)) (d : Sketch) (n : ℕ) (t : Plain) → Good d → read_lines d n ls ≡ Ok t → Lawful t
good_lines [] d n t g h = good_closed d (n + 1) t g h
good_lines (l ∷ ls) d n t g h = let s = then_ok (judged d (n + 1) l) _ t h in good_lines ls (entered d s.0) (n + 1) t (good_step d (n + 1) l s.0 g s.1) s.2

-- tables that are read are lawful
pub read_lawful : (text : List ℕ) (t : Plain) → read text ≡ Ok t → Lawful t
read_lawful text t h = good_lines (lines text) blank 0 t good_blank (lifted (whole_text 65536 text) _ t h).2

-- so the tables that a call gives are lawful
pub answer_lawful : (r : Result Tables ReadError) (text : List ℕ) → answers r (read text) → IfOk r (λ t. Lawful (plain t))
answer_lawful (Ok t) text h = read_lawful text (plain t) (sym h)
answer_lawful (Err e) text h = tt
