-- The steps of numbering states.
use Rattle.std.proofs.Common.{◌≡◌, ℕ, ◌+◌, ◌<◌, ◌≤◌, Bool, List, [], ◌∷◌, ◌++◌, map, length, get_or, take, Some, None, Ok, vec_items, vec_len, Option, sym, ap, ◌∙◌, subst, ap₂, ⊎_elim, arith}
use Rattle.model.specs.declared.machine.Machine.{Machine}
use Rattle.theory.specs.Tree.{body_of}
use Rattle.theory.specs.Recursion.{LawfulRule, LawfulRules}
use Rattle.theory.specs.Stands.{Stands}
use Rattle.states.specs.declared.grammar.Grammar.{Grammar}
use Rattle.states.specs.Test.{FirstUnlawful}
use Rattle.states.specs.Read.{Read}
use Rattle.std.proofs.lemmas.List.{get_or_default, map_push, take_more}
use Rattle.std.proofs.lemmas.Bool.{cases_lt}
use Rattle.model.specs.declared.nodes.Node.{Node}
use Rattle.model.specs.Machine.{Derivative, Plain, states_of}
use Rattle.theory.specs.Count.{enter}
use Rattle.theory.specs.Inequality.{here}
use Rattle.meaning.proofs.Members.{member_left, member_right}
use Rattle.expressions.specs.Numbers.{tree, null_at}
use Rattle.book.specs.Place.{place}
use Rattle.expressions.specs.Records.{same_number}
use Rattle.expressions.specs.Fine.{Below, Grows, shown}
use Rattle.expressions.specs.Derived.{part, as_trees, AllIn, ders_at}
use Rattle.expressions.specs.States.{named, Separate, Stated, AllStated, total}
use Rattle.expressions.proofs.Books.{enter_old, enter_new}
use Rattle.expressions.proofs.Fine.{grows_same, grows_on, grows_long, grows_at, grows_tree, below_more}
use Rattle.expressions.proofs.Shown.{below_push, below_at}
use Rattle.expressions.proofs.Ders.{all_none, all_append, all_one, bodies_grow}
use Rattle.expressions.proofs.Standing.{enter_has, named_stay, all_extends, all_stated_stays, all_stated_none, all_stated_more, total_more, map_map, mention_count, mention_at, stands}
use Rattle.states.specs.declared.derive.Span.{Span}
use Rattle.states.specs.declared.grammar.Rules.{Rules}
use Rattle.states.specs.declared.nullable.Expressions.{Expressions}
use Rattle.states.specs.Book.{Entered}
use Rattle.states.specs.declared.derive.Work.{Work}
use Rattle.states.specs.Derive.{nodes_of, bodies_of, found_of, Goes, Went}
use Rattle.states.proofs.Going.{goes_same, goes_on, told_goes, ders_goes, null_goes, long_goes, part_in}
use Rattle.states.specs.Build.{Named, Numbering, SoFar, Built}

-- entering a number

below_enter : (n : ℕ) (numbers after : List ℕ) (x : ℕ) → after ≡ enter same_number numbers x → Below n numbers → x < n → Below n after
below_enter n numbers after x e ok lt = ⊎_elim
    (λ (old : place same_number numbers x < length numbers). subst (Below n) (sym (e ∙ enter_old same_number numbers x old)) ok)
    (λ (new : length numbers ≤ place same_number numbers x). subst (Below n) (sym (e ∙ enter_new same_number numbers x new)) (below_push n numbers x ok lt))
    (cases_lt (place same_number numbers x) (length numbers))

-- one derivative more

pub named_none : (numbers : List ℕ) (v : List Derivative) → Separate numbers → v ≡ [] → Named numbers numbers [] v
named_none numbers v ok e = record {
  separate = ok;
  extends = grows_same numbers;
  few = λ h. h;
  below = λ n p q. p;
  within = subst (AllIn (length numbers)) (sym e) (all_none (length numbers));
  value = ap (map (named numbers)) e;
}

pub named_more : (start old mid new : List ℕ) (found v v' : List Derivative) (k a b : ℕ) → k < length found →
    Named start old (take k found) v →
    Entered same_number 128 old (get_or found k (0, 0, 0)).1 (Ok a) mid → Entered same_number 128 mid (get_or found k (0, 0, 0)).2 (Ok b) new →
    v' ≡ v ++ ((get_or found k (0, 0, 0)).0, a, b) ∷ [] →
    Named start new (take (k + 1) found) v'
unfolding AllIn
named_more start old mid new found v v' k a b lt s p q pushed =
    let d = get_or found k (0, 0, 0) in
    let first = enter_has old d.1 a mid s.separate p.0 p.1 p.2 in
    let second = enter_has mid d.2 b new first.0 q.0 q.1 q.2 in
    let on = grows_on old mid new first.1 second.1 in
    let long = grows_long mid new second.1 in
    let a_in = first.2 in
    let step : take (k + 1) found ≡ take k found ++ d ∷ [] = take_more found k (0, 0, 0) lt in
    let own : named new (d.0, a, b) ≡ d =
    ap₂ (λ x y. (d.0, x, y)) (grows_at mid new a 512 second.1 first.2 ∙ first.3) second.3 in
    record {
      separate = second.0;
      extends = grows_on start old new s.extends on;
      few = λ small. q.3 (p.3 (s.few small));
      below = λ n ok all.
          let all' = subst (AllIn n) step all in
          let d_in = all' d (member_right (take k found) here) in
          below_enter n mid new d.2 q.1
          (below_enter n old mid d.1 p.1 (s.below n ok (λ e m. all' e (member_left (d ∷ []) m))) d_in.0) d_in.1;
      within = subst (AllIn (length new)) (sym pushed)
          (all_append (length new) v ((d.0, a, b) ∷ []) (all_extends old new v on s.within) (all_one (length new) (d.0, a, b) (omega arith, second.2)));
      value = ap (map (named new)) pushed ∙ map_push (named new) v (d.0, a, b)
          ∙ ap₂ (λ l x. l ++ x ∷ []) (named_stay old new v on s.within ∙ s.value) own ∙ sym step;
    }

-- the state of an expression
pub state_made : (w a b : Work) (old new : List ℕ) (ds v : List Derivative) (span : Span) (i n : ℕ) (t : Bool) → i < length (nodes_of w) →
    n ≡ length (bodies_of w) → Went w a n i span → Goes a b → t ≡ null_at (nodes_of a) (bodies_of a) (length (bodies_of a)) i →
    ds ≡ part (found_of b) span.from span.to →
    Named old new ds v → Stated (nodes_of b) (bodies_of b) new i (record { nullable = t; derivatives = v })
state_made w a b old new ds v span i n t lt count went on null is s =
    let long = long_goes w a went.goes in
    let whole = goes_on w a b went.goes on in
    let counts : length (bodies_of w) ≡ length (bodies_of b) = ap (λ (u : Rules). length (vec_items u.bodies)) (sym whole.rules) in
    record {
      null = null ∙ sym (null_goes a b i on (omega arith));
      within = s.within;
      ders = sym (map_map (as_trees (nodes_of b)) (named new) v) ∙ ap (map (as_trees (nodes_of b))) (s.value ∙ is)
          ∙ told_goes a b span on went.inside ∙ went.value ∙ sym (ders_goes w b n i whole lt)
          ∙ ap (λ k. ders_at (nodes_of b) (bodies_of b) k i) (count ∙ counts);
    }

pub numbering_made : (w b : Work) (old new : List ℕ) (ds v : List Derivative) (span : Span) → Goes w b →
    Numbering (nodes_of w) old → ds ≡ part (found_of b) span.from span.to → Named old new ds v → Numbering (nodes_of b) new
numbering_made w b old new ds v span g p is s = (
  s.separate,
  s.few p.1,
  s.below (length (nodes_of b)) (below_more (nodes_of w) (nodes_of b) old g.nodes p.2)
      (subst (AllIn (length (nodes_of b))) (sym is) (part_in b span)),
)

-- one state more
pub so_far_more : (w old new : Work) (start before after : List ℕ) (states : List Plain) (p : Plain) (i : ℕ) →
    SoFar w old start before states → Goes old new → Numbering (nodes_of new) after → Grows before after →
    length states < length before → i ≡ get_or before (length states) i →
    Stated (nodes_of new) (bodies_of new) after i p → total states + length p.derivatives ≤ 512 →
    SoFar w new start after (states ++ p ∷ [])
so_far_more w old new start before after states p i s g numbers e lt is stated few =
    let read : i ≡ get_or after (length states) 512 =
    is ∙ get_or_default before (length states) i 512 lt ∙ sym (grows_at before after (length states) 512 e lt) in
    record {
      goes = goes_on w old new s.goes g;
      numbers = numbers;
      extends = grows_on start before after s.extends e;
      stated = all_stated_more (nodes_of new) (bodies_of new) after states p
          (subst (λ (u : Rules). AllStated (nodes_of new) (vec_items u.bodies) after states) (sym g.rules)
          (all_stated_stays (nodes_of old) (nodes_of new) (bodies_of old) before after states g.nodes e old.expressions.within s.numbers.2 (omega arith) s.stated))
          (subst (λ k. Stated (nodes_of new) (bodies_of new) after k p) read stated);
      few = (let t = total_more states p in omega arith);
    }

pub so_far_none : (w : Work) (numbers : List ℕ) (states : List Plain) → Numbering (nodes_of w) numbers → states ≡ [] →
    SoFar w w numbers numbers states
so_far_none w numbers states ok e = subst (SoFar w w numbers numbers) (sym e) (record {
  goes = goes_same w;
  numbers = ok;
  extends = grows_same numbers;
  stated = all_stated_none (nodes_of w) (bodies_of w) numbers;
  few = omega arith;
})

-- what was told of expressions that were read
pub first_read : (g : Grammar) (e : Expressions) (o : Option ℕ) → e.nodes ≡ g.nodes → e.rules ≡ g.rules →
    FirstUnlawful (body_of (vec_items e.nodes) (vec_items e.rules.bodies)) (vec_len e.rules.bodies) o →
    FirstUnlawful (body_of (vec_items g.nodes) (vec_items g.rules.bodies)) (vec_len g.rules.bodies) o
first_read g e o p q =
    subst (λ z. z) (ap₂ (λ n (u : Rules). FirstUnlawful (body_of (vec_items n) (vec_items u.bodies)) (vec_len u.bodies) o) p q)

-- the first unlawful rule
pub told_first : (file : List Node) (rules bodies : List ℕ) (n k : ℕ) (nodes : List Node) → n ≡ length rules →
    body_of nodes bodies ≡ body_of file rules → FirstUnlawful (body_of nodes bodies) n (Some k) →
    (k < length rules) × LawfulRules (body_of file rules) k × (LawfulRule (body_of file rules) k → ⊥)
told_first file rules bodies n k nodes count same p =
    let q = subst (λ b. FirstUnlawful b n (Some k)) same p in
    let lt = q.0 in
    (omega arith, q.1, q.2)

pub told_all : (file : List Node) (rules bodies : List ℕ) (n : ℕ) (nodes : List Node) (o : Option ℕ) → n ≡ length rules →
    body_of nodes bodies ≡ body_of file rules → o ≡ None → FirstUnlawful (body_of nodes bodies) n o → LawfulRules (body_of file rules) (length rules)
told_all file rules bodies n nodes o count same is p =
    subst (λ m. LawfulRules (body_of file rules) m) count
    (subst (λ b. LawfulRules b n) same (subst (FirstUnlawful (body_of nodes bodies) n) is p))

-- at last: the machine
pub built : (file : List Node) (rules : List ℕ) (g : Grammar) (w new : Work) (numbers : List ℕ) (m : Machine) →
    Read file rules g → LawfulRules (body_of file rules) (length rules) → w.expressions.nodes ≡ g.nodes → w.expressions.rules ≡ g.rules →
    SoFar w new (vec_items g.mentions) numbers (states_of m) → length (states_of m) ≡ length numbers → Built file rules (Ok m)
built file rules g w new numbers m read lawful same_nodes same_rules s count =
    let bodies = bodies_of new in
    let nodes = vec_items g.nodes in
    let first = vec_items g.mentions in
    let few = s.numbers.1 in
    let mentioned_count = mention_count nodes first (length rules) read.mentions_are in
    let long = grows_long first numbers s.extends in
    let grown : Grows nodes (nodes_of new) = subst (λ l. Grows l (nodes_of new)) (ap (λ v. vec_items v) same_nodes) s.goes.nodes in
    let same_bodies : bodies_of new ≡ vec_items g.rules.bodies = ap (λ (u : Rules). vec_items u.bodies) (s.goes.rules ∙ same_rules) in
    let same : body_of (nodes_of new) bodies ≡ body_of file rules =
    ap (body_of (nodes_of new)) same_bodies ∙ bodies_grow nodes (nodes_of new) (vec_items g.rules.bodies) grown read.within ∙ read.bodies in
    let all_rules : length rules ≡ length bodies = sym read.count ∙ g.rules.bodies.ok.0 ∙ ap length (sym same_bodies) in (
      lawful,
      omega arith,
      omega arith,
      s.few,
      (
        shown (nodes_of new) numbers,
        subst (λ b. Stands b (length rules) (states_of m) (shown (nodes_of new) numbers)) same
            (stands (nodes_of new) bodies numbers (states_of m) (length rules) new.expressions.fine s.numbers.2 s.numbers.0 count s.stated all_rules
            (subst (λ b. LawfulRules b (length rules)) (sym same) lawful)
            (λ k lt.
            let inside : k < length first = omega arith in
            let there_in = below_at (length nodes) first k 512 read.mentions_in inside in (
              omega arith,
              ap (tree (nodes_of new)) (grows_at first numbers k 512 s.extends inside)
                  ∙ grows_tree nodes (nodes_of new) (get_or first k 512) grown there_in
                  ∙ mention_at nodes first (length rules) k read.mentions_are lt,
            ))),
      ),
    )
