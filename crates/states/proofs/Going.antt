-- The work on derivatives as it goes on.
use Rattle.std.proofs.Common.{◌≡◌, ℕ, ◌+◌, ◌*◌, ◌<◌, ◌≤◌, Bool, true, false, cond, ltb, List, [], ◌∷◌, ◌++◌, map, length, get_or, drop, set, Some, None, vec_items, sym, refl, ap, ◌∙◌, subst, ap₂, append-nil, ⊎_elim, arith}
use Rattle.std.specs.List.{slice_get}
use Rattle.std.proofs.lemmas.List.{length-append, map-append}
use Rattle.std.proofs.lemmas.Bool.{cond-true, cond-false, lt-ltb}
use Rattle.model.specs.declared.nodes.Node.{Node}
use Rattle.model.specs.declared.nodes.Node.TheVariants.{Nothing, Simple, Rule, Element, Union, Seq, Star}
use Rattle.model.specs.Machine.{Derivative}
use Rattle.theory.specs.Language.{empty}
use Rattle.theory.specs.Count.{entered}
use Rattle.meaning.specs.Functions.{Derived, once, same_derived}
use Rattle.meaning.specs.Functions as functions
use Rattle.expressions.specs.Numbers.{earlier, body_at, tree, null_at}
use Rattle.expressions.specs.Records.{same_derivative}
use Rattle.expressions.specs.Fine.{Fine, Grows}
use Rattle.expressions.specs.Derived.{part, as_trees, AllIn, ders_at, ders_node}
use Rattle.expressions.proofs.Fine.{grows_same, grows_by, grows_on, grows_tree, grows_long}
use Rattle.expressions.proofs.Ders.{part_none, part_old, part_new, all_none, all_one, all_part, all_append, all_entered, all_grows, trees_grow, entered_trees, ders_step, ders_past, ders_grow, nulls_grow}
use Rattle.states.specs.declared.derive.Span.{Span}
use Rattle.states.specs.declared.derive.Work.{Work}
use Rattle.states.specs.declared.grammar.Rules.{Rules}
use Rattle.states.specs.declared.nullable.Expressions.{Expressions}
use Rattle.states.specs.Memo.{notes}
use Rattle.states.specs.Spans.{Inside, told, Finds, Spans}
use Rattle.states.specs.Derive.{nodes_of, bodies_of, found_of, Goes, Gives, Went, both, in_turn, JoinedTo}
use Rattle.states.proofs.Nullables.{parts_at, here, body_none}
use Rattle.states.proofs.Memos.{notes_all, notes_at, notes_set}

-- a span of what was there before
inside_longer : (a b : List Derivative) (s : Span) → Grows a b → Inside a s → Inside b s
inside_longer a b s e inside = let l = grows_long a b e in let q = inside.1 in (inside.0, omega arith)

told_longer : (old new : List Node) (a b : List Derivative) (s : Span) → Grows old new → Grows a b → AllIn (length old) a → Inside a s →
    told new b s ≡ told old a s
unfolding Grows
told_longer old new a b s g e ok inside =
    ap (map (as_trees new)) (ap (λ l. part l s.from s.to) e ∙ part_old a (drop (length a) b) s.from s.to inside.0 inside.1)
    ∙ trees_grow old new (part a s.from s.to) g (all_part (length old) a s.from s.to ok)

-- going on

pub goes_same : (w : Work) → Goes w w
goes_same w = record { rules = refl; nodes = grows_same (nodes_of w); found = grows_same (found_of w) }

pub goes_on : (a b c : Work) → Goes a b → Goes b c → Goes a c
goes_on a b c p q = record {
  rules = q.rules ∙ p.rules;
  nodes = grows_on (nodes_of a) (nodes_of b) (nodes_of c) p.nodes q.nodes;
  found = grows_on (found_of a) (found_of b) (found_of c) p.found q.found;
}

pub gives_on : (a b c : Work) (ds : List Derived) (s : Span) → Goes a b → Gives b c ds s → Gives a c ds s
gives_on a b c ds s p q = record { goes = goes_on a b c p q.goes; inside = q.inside; value = q.value }

pub gives_as : (a b : Work) (ds ds' : List Derived) (s : Span) → ds ≡ ds' → Gives a b ds s → Gives a b ds' s
gives_as a b ds ds' s e p = record { goes = p.goes; inside = p.inside; value = p.value ∙ e }

-- what was given stays

pub inside_goes : (a b : Work) (s : Span) → Goes a b → Inside (found_of a) s → Inside (found_of b) s
inside_goes a b s p = inside_longer (found_of a) (found_of b) s p.found

pub told_goes : (a b : Work) (s : Span) → Goes a b → Inside (found_of a) s →
    told (nodes_of b) (found_of b) s ≡ told (nodes_of a) (found_of a) s
told_goes a b s p = told_longer (nodes_of a) (nodes_of b) (found_of a) (found_of b) s p.nodes p.found a.listed

pub ders_goes : (a b : Work) (r i : ℕ) → Goes a b → i < length (nodes_of a) →
    ders_at (nodes_of b) (bodies_of b) r i ≡ ders_at (nodes_of a) (bodies_of a) r i
ders_goes a b r i p lt =
    ap (λ (u : Rules). ders_at (nodes_of b) (vec_items u.bodies) r i) p.rules
    ∙ ders_grow (nodes_of a) (nodes_of b) (bodies_of a) r i p.nodes a.expressions.within lt

pub null_goes : (a b : Work) (i : ℕ) → Goes a b → i < length (nodes_of a) →
    null_at (nodes_of b) (bodies_of b) (length (bodies_of b)) i ≡ null_at (nodes_of a) (bodies_of a) (length (bodies_of a)) i
null_goes a b i p lt =
    ap (λ (u : Rules). null_at (nodes_of b) (vec_items u.bodies) (length (vec_items u.bodies)) i) p.rules
    ∙ nulls_grow (nodes_of a) (nodes_of b) (bodies_of a) (length (bodies_of a)) i p.nodes a.expressions.within lt

pub long_goes : (a b : Work) → Goes a b → length (nodes_of a) ≤ length (nodes_of b)
long_goes a b p = grows_long (nodes_of a) (nodes_of b) p.nodes

-- the facts of the work as book and list grow

pub known_stays : (w : Work) (e : Expressions) (found : List Derivative) → e.rules ≡ w.expressions.rules →
    Grows (nodes_of w) (vec_items e.nodes) → Grows (found_of w) found →
    Spans (vec_items e.nodes) (vec_items e.rules.bodies) found (notes w.spans)
known_stays w e found same g l =
    let old = nodes_of w in
    let new = vec_items e.nodes in
    let long = grows_long old new g in
    subst (λ (u : Rules). Spans new (vec_items u.bodies) found (notes w.spans)) (sym same)
    (notes_all (Finds old (bodies_of w) (found_of w)) (Finds new (bodies_of w) found) (notes w.spans)
    (λ r i s p. (
      let q = p.0 in omega arith,
      (
        inside_longer (found_of w) found s l p.1.0,
        told_longer old new (found_of w) found s g l w.listed p.1.0 ∙ p.1.1
            ∙ sym (ders_grow old new (bodies_of w) r i g w.expressions.within p.0),
      ),
    )) w.known)

pub listed_stays : (w : Work) (e : Expressions) → Grows (nodes_of w) (vec_items e.nodes) → AllIn (length (vec_items e.nodes)) (found_of w)
listed_stays w e g = all_grows (nodes_of w) (vec_items e.nodes) (found_of w) g w.listed

-- keeping a list or not
pub kept_or_not : (n : ℕ) (found list after : List Derivative) (b : Bool) → after ≡ cond b (found ++ list) found →
    AllIn n found → AllIn n list → AllIn n after × Grows found after
kept_or_not n found list after true e p q = (subst (AllIn n) (sym e) (all_append n found list p q), grows_by found list after e)
kept_or_not n found list after false e p q = (subst (AllIn n) (sym e) p, subst (Grows found) (sym e) (grows_same found))

pub kept_gives : (old new : Work) (list : List Derivative) (s : Span) → new.expressions ≡ old.expressions →
    found_of new ≡ found_of old ++ list → s.from ≡ length (found_of old) → s.to ≡ length (found_of new) →
    Gives old new (map (as_trees (nodes_of old)) list) s
kept_gives old new list s same all from to =
    let found = found_of old in
    let after = found_of new in
    let long : length after ≡ length found + length list = ap length all ∙ length-append found list in
    let nodes : nodes_of new ≡ nodes_of old = ap (λ (e : Expressions). vec_items e.nodes) same in
    record {
      goes = record {
        rules = ap (λ (e : Expressions). e.rules) same;
        nodes = subst (Grows (nodes_of old)) (sym nodes) (grows_same (nodes_of old));
        found = grows_by found list after all;
      };
      inside = (omega arith, omega arith);
      value = ap₂ (λ n l. map (as_trees n) l) nodes
          (ap₂ (λ a b. part after a b) from (to ∙ ap length all) ∙ ap (λ l. part l (length found) (length (found ++ list))) all ∙ part_new found list);
    }

-- the derivatives of two lists, each once

both_in : (n : ℕ) (xs ys : List Derivative) → AllIn n xs → AllIn n ys → AllIn n (entered same_derivative [] (xs ++ ys))
both_in n xs ys p q = all_entered n [] (xs ++ ys) (all_none n) (all_append n xs ys p q)

both_told : (nodes : List Node) (xs ys : List Derivative) → Fine nodes → AllIn (length nodes) xs → AllIn (length nodes) ys →
    map (as_trees nodes) (entered same_derivative [] (xs ++ ys)) ≡ once (map (as_trees nodes) xs ++ map (as_trees nodes) ys)
both_told nodes xs ys fine p q =
    entered_trees nodes fine [] (xs ++ ys) (all_none (length nodes)) (all_append (length nodes) xs ys p q)
    ∙ ap once (map-append (as_trees nodes) xs ys)

pub part_in : (w : Work) (s : Span) → AllIn (length (nodes_of w)) (part (found_of w) s.from s.to)
part_in w s = all_part (length (nodes_of w)) (found_of w) s.from s.to w.listed

pub union_in : (w : Work) (left right : Span) (list : List Derivative) →
    list ≡ entered same_derivative [] (part (found_of w) left.from left.to ++ part (found_of w) right.from right.to) →
    AllIn (length (nodes_of w)) list
union_in w left right list e =
    subst (AllIn (length (nodes_of w))) (sym e) (both_in (length (nodes_of w)) _ _ (part_in w left) (part_in w right))

pub union_told : (w : Work) (left right : Span) (list : List Derivative) →
    list ≡ entered same_derivative [] (part (found_of w) left.from left.to ++ part (found_of w) right.from right.to) →
    map (as_trees (nodes_of w)) list ≡ both w left right
union_told w left right list e =
    ap (map (as_trees (nodes_of w))) e ∙ both_told (nodes_of w) _ _ w.expressions.fine (part_in w left) (part_in w right)

pub turn_in : (old w : Work) (first then : Span) (s : ℕ) (v list : List Derivative) →
    JoinedTo (nodes_of old) (nodes_of w) (part (found_of old) first.from first.to) s v →
    list ≡ entered same_derivative [] (v ++ part (found_of w) then.from then.to) → AllIn (length (nodes_of w)) list
turn_in old w first then s v list j e =
    subst (AllIn (length (nodes_of w))) (sym e) (both_in (length (nodes_of w)) v _ j.0 (part_in w then))

pub turn_told : (old w : Work) (first then : Span) (s : ℕ) (v list : List Derivative) → Goes old w → Inside (found_of old) then →
    JoinedTo (nodes_of old) (nodes_of w) (part (found_of old) first.from first.to) s v →
    list ≡ entered same_derivative [] (v ++ part (found_of w) then.from then.to) →
    map (as_trees (nodes_of w)) list ≡ in_turn old first s then
turn_told old w first then s v list g inside j e =
    ap (map (as_trees (nodes_of w))) e ∙ both_told (nodes_of w) v _ w.expressions.fine j.0 (part_in w then)
    ∙ ap₂ (λ a b. once (a ++ b)) j.1 (told_goes old w then g inside)

-- the cases of a node

step : (w : Work) (r i : ℕ) (n : Node) → i < length (nodes_of w) → get_or (nodes_of w) i Nothing ≡ n →
    ders_at (nodes_of w) (bodies_of w) r i ≡ ders_node (nodes_of w) (bodies_of w) r i n
step w r i n lt is = ders_step (nodes_of w) (bodies_of w) r i lt w.expressions.fine.0 ∙ ap (ders_node (nodes_of w) (bodies_of w) r i) is

told_none : (w : Work) (s : Span) → (s.from ≡ 0) × (s.to ≡ 0) → told (nodes_of w) (found_of w) s ≡ []
told_none w s at = ap (map (as_trees (nodes_of w))) (ap₂ (λ a b. part (found_of w) a b) at.0 at.1 ∙ part_none (found_of w) 0)

pub inside_none : (w : Work) (s : Span) → (s.from ≡ 0) × (s.to ≡ 0) → Inside (found_of w) s
inside_none w s at = let p : s.from ≡ 0 = at.0 in let q : s.to ≡ 0 = at.1 in (omega arith, omega arith)

gives_none : (w : Work) (ds : List Derived) (s : Span) → (s.from ≡ 0) × (s.to ≡ 0) → ds ≡ [] → Gives w w ds s
gives_none w ds s at e = record { goes = goes_same w; inside = inside_none w s at; value = told_none w s at ∙ sym e }

pub went_past : (w : Work) (r i : ℕ) (s : Span) → length (nodes_of w) ≤ i → (s.from ≡ 0) × (s.to ≡ 0) → Went w w r i s
went_past w r i s past at = gives_none w _ s at (ders_past (nodes_of w) (bodies_of w) r i past)

pub went_known : (w : Work) (r i : ℕ) (s : Span) → i < 512 → Some s ≡ get_or (notes w.spans) (r * 512 + i) None → Went w w r i s
went_known w r i s small is =
    let p = notes_at (Finds (nodes_of w) (bodies_of w) (found_of w)) (notes w.spans) r i s w.known small is in
    record { goes = goes_same w; inside = p.1.0; value = p.1.1 }

pub went_none : (w : Work) (r i : ℕ) (s : Span) (n : Node) → i < length (nodes_of w) → get_or (nodes_of w) i Nothing ≡ n →
    ders_node (nodes_of w) (bodies_of w) r i n ≡ [] → (s.from ≡ 0) × (s.to ≡ 0) → Went w w r i s
went_none w r i s n lt is e at = gives_none w _ s at (step w r i n lt is ∙ e)

pub went_leaf : (w new : Work) (r i label content : ℕ) (s : Span) (n : Node) → i < length (nodes_of w) → get_or (nodes_of w) i Nothing ≡ n →
    ders_node (nodes_of w) (bodies_of w) r i n ≡ (label, tree (nodes_of w) content, empty) ∷ [] →
    Gives w new (map (as_trees (nodes_of w)) ((label, content, w.expressions.rules.empty) ∷ [])) s → Went w new r i s
went_leaf w new r i label content s n lt is e =
    gives_as w new _ _ s
    (ap (λ x. (label, tree (nodes_of w) content, x) ∷ []) w.expressions.blank.1 ∙ sym (step w r i n lt is ∙ e))

pub went_simple : (w new : Work) (r i b : ℕ) (s : Span) → i < length (nodes_of w) → get_or (nodes_of w) i Nothing ≡ Simple b →
    Gives w new (map (as_trees (nodes_of w)) ((b, w.expressions.rules.empty, w.expressions.rules.empty) ∷ [])) s → Went w new r i s
went_simple w new r i b s lt is =
    went_leaf w new r i b w.expressions.rules.empty s (Simple b) lt is (ap (λ x. (b, x, empty) ∷ []) (sym w.expressions.blank.1))

pub went_element : (w new : Work) (r i b c : ℕ) (s : Span) → i < length (nodes_of w) → get_or (nodes_of w) i Nothing ≡ Element b c →
    Gives w new (map (as_trees (nodes_of w)) ((b, c, w.expressions.rules.empty) ∷ [])) s → Went w new r i s
went_element w new r i b c s lt is =
    went_leaf w new r i b c s (Element b c) lt is
    (ap (λ m. (b, tree (nodes_of w) m, empty) ∷ []) (sym (here i c (parts_at w.expressions i (Element b c) lt is))))

-- a single derivative of numbers in the book
pub leaf_in : (w : Work) (label content : ℕ) → content < length (nodes_of w) →
    AllIn (length (nodes_of w)) ((label, content, w.expressions.rules.empty) ∷ [])
leaf_in w label content lt = all_one (length (nodes_of w)) (label, content, w.expressions.rules.empty) (lt, w.expressions.blank.0)

pub went_rule : (w new : Work) (r i k m : ℕ) (s : Span) → i < length (nodes_of w) → get_or (nodes_of w) i Nothing ≡ Rule k → k < r →
    m ≡ body_at (bodies_of w) k → Went w new k m s → Went w new r i s
went_rule w new r i k m s lt is less at =
    gives_as w new _ _ s
    (ap (ders_at (nodes_of w) (bodies_of w) k) at ∙ sym (step w r i (Rule k) lt is ∙ cond-true _ _ _ (lt-ltb k r less)))

pub went_missing : (w : Work) (r i k : ℕ) (s : Span) → i < length (nodes_of w) → get_or (nodes_of w) i Nothing ≡ Rule k →
    None ≡ cond (ltb k r) (slice_get (bodies_of w) k) None → (s.from ≡ 0) × (s.to ≡ 0) → Went w w r i s
went_missing w r i k s lt is none = went_none w r i s (Rule k) lt is (⊎_elim
    (λ (unknown : ltb k r ≡ false). cond-false _ _ _ unknown)
    (λ (missing : body_at (bodies_of w) k ≡ 512).
    ap (λ b. cond (ltb k r) (ders_at (nodes_of w) (bodies_of w) k b) []) missing
    ∙ ap (λ x. cond (ltb k r) x []) (ders_past (nodes_of w) (bodies_of w) k 512 w.expressions.fine.0) ∙ same (ltb k r))
    (body_none (bodies_of w) k r none))
  where
    same : (t : Bool) → Path (List Derived) (cond t [] []) []
    same true = refl
    same false = refl

pub went_union : (w a b c : Work) (r i n k : ℕ) (x y s : Span) → i < length (nodes_of w) → get_or (nodes_of w) i Nothing ≡ Union n k →
    Went w a r n x → Went a b r k y → Gives b c (both b x y) s → Went w c r i s
went_union w a b c r i n k x y s lt is p q u =
    let below = parts_at w.expressions i (Union n k) lt is in
    let kb = below.1 in
    gives_as w c _ _ s
    (ap₂ (λ u v. once (u ++ v))
    (told_goes a b x q.goes p.inside ∙ p.value ∙ ap (ders_at (nodes_of w) (bodies_of w) r) (here i n below.0))
    (q.value ∙ ders_goes w a r k p.goes (omega arith) ∙ ap (ders_at (nodes_of w) (bodies_of w) r) (here i k below.1))
    ∙ sym (step w r i (Union n k) lt is))
    (gives_on w b c (both b x y) s (goes_on w a b p.goes q.goes) u)

went_first : (w a b c : Work) (r i m t : ℕ) (n : Node) (x y s : Span) (more : List Derived) → i < length (nodes_of w) →
    get_or (nodes_of w) i Nothing ≡ n → t < length (nodes_of w) → Went w a r m x → Goes a b → told (nodes_of b) (found_of b) y ≡ more →
    ders_node (nodes_of w) (bodies_of w) r i n ≡ once (map (functions.joined (tree (nodes_of w) t)) (ders_at (nodes_of w) (bodies_of w) r m) ++ more) →
    Gives b c (in_turn b x t y) s → Went w c r i s
went_first w a b c r i m t n x y s more lt is small p on then e u =
    let whole = goes_on w a b p.goes on in
    gives_as w c _ _ s
    (ap (λ z. once (map (functions.joined z) (told (nodes_of b) (found_of b) x) ++ told (nodes_of b) (found_of b) y))
    (grows_tree (nodes_of w) (nodes_of b) t whole.nodes small)
    ∙ ap₂ (λ u v. once (map (functions.joined (tree (nodes_of w) t)) u ++ v)) (told_goes a b x on p.inside ∙ p.value) then
    ∙ sym (step w r i n lt is ∙ e))
    (gives_on w b c (in_turn b x t y) s whole u)

-- what comes after the first part of a sequence: the derivatives of the second part if the first is nullable
pub record Then (w a b : Work) (r i n : ℕ) (t : Bool) (s : Span) : Type 0 where
  pub goes : Goes a b
  pub inside : Inside (found_of b) s
  pub value : told (nodes_of b) (found_of b) s ≡ cond t (ders_at (nodes_of w) (bodies_of w) r (earlier i n)) []

pub then_some : (w a mid new v : Work) (r i n : ℕ) (t : Bool) (s u : Span) → v ≡ new → s ≡ u → t ≡ true →
    n < i → i < length (nodes_of w) → Goes w a → Goes a mid → Went mid new r n u → Then w a v r i n t s
then_some w a mid new v r i n t s u p q is below lt first on went =
    subst (λ x. Then w a x r i n t s) (sym p) (subst (λ x. Then w a new r i n t x) (sym q) (record {
      goes = goes_on a mid new on went.goes;
      inside = went.inside;
      value = went.value ∙ ders_goes w mid r n (goes_on w a mid first on) (omega arith)
          ∙ ap (ders_at (nodes_of w) (bodies_of w) r) (here i n below) ∙ sym (cond-true _ _ _ is);
    }))

pub then_none : (w a mid v : Work) (r i n : ℕ) (t : Bool) (s u : Span) → v ≡ mid → s ≡ u → t ≡ false →
    Goes a mid → (u.from ≡ 0) × (u.to ≡ 0) → Then w a v r i n t s
then_none w a mid v r i n t s u p q is on at =
    subst (λ x. Then w a x r i n t s) (sym p) (subst (λ x. Then w a mid r i n t x) (sym q)
    (record { goes = on; inside = inside_none mid u at; value = told_none mid u at ∙ sym (cond-false _ _ _ is) }))

pub went_seq : (w a b c : Work) (r i n k : ℕ) (t : Bool) (x y s : Span) → i < length (nodes_of w) → get_or (nodes_of w) i Nothing ≡ Seq n k →
    Went w a r n x → t ≡ null_at (nodes_of a) (bodies_of a) (length (bodies_of a)) n → Then w a b r i k t y →
    Gives b c (in_turn b x k y) s → Went w c r i s
went_seq w a b c r i n k t x y s lt is p null then =
    let below = parts_at w.expressions i (Seq n k) lt is in
    let nb = below.0 in
    let kb = below.1 in
    let own : t ≡ null_at (nodes_of w) (bodies_of w) (length (bodies_of w)) n = null ∙ null_goes w a n p.goes (omega arith) in
    went_first w a b c r i n k (Seq n k) x y s _ lt is (omega arith) p then.goes then.value
    (ap₂ (λ x y. once (map (functions.joined (tree (nodes_of w) x)) (ders_at (nodes_of w) (bodies_of w) r y) ++
    cond (null_at (nodes_of w) (bodies_of w) (length (bodies_of w)) y) (ders_at (nodes_of w) (bodies_of w) r (earlier i k)) []))
    (sym (here i k below.1)) (sym (here i n below.0))
    ∙ ap (λ x. once (map (functions.joined (tree (nodes_of w) k)) (ders_at (nodes_of w) (bodies_of w) r n) ++ cond x (ders_at (nodes_of w) (bodies_of w) r (earlier i k)) [])) (sym own))

pub went_star : (w a c : Work) (r i n : ℕ) (x y s : Span) → i < length (nodes_of w) → get_or (nodes_of w) i Nothing ≡ Star n →
    Went w a r n x → (y.from ≡ 0) × (y.to ≡ 0) → Gives a c (in_turn a x i y) s → Went w c r i s
went_star w a c r i n x y s lt is p none_at =
    went_first w a a c r i n i (Star n) x y s [] lt is lt p (goes_same a) (told_none a y none_at)
    (ap (λ y. once (map (functions.joined (tree (nodes_of w) i)) (ders_at (nodes_of w) (bodies_of w) r y)))
    (sym (here i n (parts_at w.expressions i (Star n) lt is)))
    ∙ ap once (sym (append-nil (map (functions.joined (tree (nodes_of w) i)) (ders_at (nodes_of w) (bodies_of w) r n)))))

-- the work and the span that a case leaves
pub into : (w v v' : Work) (r i : ℕ) (s s' : Span) → v ≡ v' → s ≡ s' → Went w v' r i s' → Went w v r i s
into w v v' r i s s' p q done = subst (λ u. Went w u r i s) (sym p) (subst (λ u. Went w v' r i u) (sym q) done)

-- the notes with the span
pub went_noted : (w now : Work) (r i : ℕ) (s : Span) → i < length (nodes_of w) → Went w now r i s →
    Spans (nodes_of now) (bodies_of now) (found_of now) (set (notes now.spans) (r * 512 + i) (Some s))
went_noted w now r i s lt p =
    let few = w.expressions.fine.0 in
    let long = long_goes w now p.goes in
    notes_set (Finds (nodes_of now) (bodies_of now) (found_of now)) (notes now.spans) r i s (omega arith)
    (omega arith, (p.inside, p.value ∙ sym (ders_goes w now r i p.goes lt))) now.known
