-- The writing of lawful tables is read, and gives them.
use Rattle.std.proofs.Common.{◌≡◌, ℕ, ◌+◌, ◌-◌, ◌<◌, ◌≤◌, true, false, cond, ◌&&◌, ltb, leb, List, [], ◌∷◌, ◌++◌, map, length, get_or, IfOk, Ok, Err, codes, Result, sym, refl, ap, ◌∙◌, subst, ⊎_elim, append_assoc, append-nil, arith}
use Rattle.std.specs.List.{AllByRecursion}
use Rattle.std.specs.Str.{bytes_eq}
use Rattle.std.proofs.ByRecursion.{All-append, All-get_or}
use Rattle.std.proofs.lemmas.Slice.Eq.{bytes_eq-Decides}
use Rattle.std.proofs.lemmas.List.Folds.{Any-from_list_any}
use Rattle.std.proofs.lemmas.List.{get_or_default, length_push, length-append, length-map, length-set, get_or_append_left, get_or-append_right, get_or_at}
use Rattle.std.proofs.lemmas.Bool.{and_parts, and_from, or_from, le-leb, lt-ltb, le-ltb, ltb-true, eq-eqb, ne_eqb, cases_Bool, not_from_true}
use Rattle.model.specs.declared.names.Name.{Name}
use Rattle.model.specs.declared.nodes.Node.{Node}
use Rattle.model.specs.declared.nodes.Node.TheVariants.{Nothing, Empty, Simple, Rule, Element, Union, Seq, Star}
use Rattle.text.specs.declared.fault.LineFault.TheVariants.{Form}
use Rattle.text.specs.declared.fault.TableFault.{TableFault}
use Rattle.text.specs.declared.fault.TableFault.TheVariants.{Place}
use Rattle.text.specs.Pieces.{lines, last_byte, whole_text}
use Rattle.text.specs.Forms.{is_spelling}
use Rattle.text_law.specs.Writing.{written, keyed, lacks}
use Rattle.text_law.proofs.Cut.{lines_written}
use Rattle.tables.specs.declared.draft.Mention.{Mention}
use Rattle.tables.specs.declared.table.Tables.{Tables}
use Rattle.tables.specs.declared.fault.ReadError.{ReadError}
use Rattle.tables.specs.declared.fault.ReadError.TheVariants.{Fault, Memory}
use Rattle.tables.specs.Chain.{then, lift}
use Rattle.tables.specs.Words.{order}
use Rattle.tables.specs.Checks.{has, may_stand}
use Rattle.tables.specs.Plain.{Plain, Sketch, Fact, begin, name, under, node, rule, end, plain}
use Rattle.tables.specs.Judge.{judged}
use Rattle.tables.specs.Read.{headed, mentioned, entered, present, read_lines, blank, read, answers}
use Rattle.tables_law.specs.Lawful.{Apart, Lawful}
use Rattle.tables_law.specs.Source.{Named, Under, Ruled, Source, name_text, under_text, node_text, rule_text, end_text, sections, text_of, headless, spelling_of, rule_spelling, body_of, with_heads, GivenHeads, grown, tables_of, Writes, Gives, Accepts}
use Rattle.text_law.proofs.Cases.{same_ok}
use Rattle.tables_law.proofs.Places.{may_parts}
use Rattle.tables_law.proofs.Sound.{grown_name, grown_under, grown_node, grown_rule, grown_none, read_writes}
use Rattle.tables_law.proofs.Given.{Small, begin_given, name_given, under_given, node_given, rule_given, end_given}

-- what holds of all holds of one in the middle
all_at : {X : Type 0} (P : X → Type 0) (xs : List X) (y : X) (ys : List X) → AllByRecursion P (xs ++ y ∷ ys) → P y
all_at P xs y ys h = subst P (get_or_at xs y ys y (length xs) refl) (All-get_or P (xs ++ y ∷ ys) (length xs) y (omega (arith, length-append xs (y ∷ ys))) h)

-- a spelling of spellings apart is new where it stands
apart_not : (xs ys : List (List ℕ)) (s : List ℕ) → Apart (xs ++ s ∷ ys) → has s xs ≡ false
apart_not xs ys s a =
    ⊎_elim
    (λ (t : has s xs ≡ true).
    let r = Any-from_list_any (λ x. bytes_eq x s) xs t in
    let e : get_or xs r.0 [] ≡ s = get_or_default xs r.0 [] r.1 r.2 ∙ r.3 ∙ (bytes_eq-Decides r.1 s).0 r.4 in
    let l : length xs < length (xs ++ s ∷ ys) = omega (arith, length-append xs (s ∷ ys)) in
    absurd (a r.0 (length xs) r.2 l (get_or_append_left xs (s ∷ ys) [] r.0 r.2 ∙ e ∙ sym (get_or_at xs s ys [] (length xs) refl))))
    (λ (f : has s xs ≡ false). f)
    (cases_Bool (has s xs))

length_heads : (us : List Under) (ns : List Name) → length (with_heads ns us) ≡ length ns
length_heads [] ns = refl
length_heads (u ∷ us) ns = length_heads us (headed ns u.0 u.1) ∙ length-set ns u.0 _

-- a key may stand where its section is not past
later_given : (o m : ℕ) → 1 ≤ o → o < 5 → o ≤ m → (leb 1 o && ltb o 5 && leb o m) ≡ true
later_given o m a b c = and_from _ _ (and_from _ _ (le-leb _ _ a) (lt-ltb _ _ b)) (le-leb _ _ c)

-- lines that are read and have no LF in them
abbrev Done : Sketch → ℕ → List (List ℕ) → Plain → Type 0
Done d n ls t = (read_lines d n ls ≡ Ok t) × AllByRecursion (λ l. lacks 10 l ≡ true) ls

done_more : (d : Sketch) (n : ℕ) (l : List ℕ) (ls : List (List ℕ)) (f : Fact) (t : Plain) → (judged d (n + 1) l ≡ Ok f) × (lacks 10 l ≡ true) → Done (entered d f) (n + 1) ls t → Done d n (l ∷ ls) t
done_more d n l ls f t j r = (ap (λ z. then z (λ g. read_lines (entered d g) (n + 1) ls)) j.0 ∙ r.0, (j.1, r.1))

-- every mentioned rule is among n
abbrev Within : ℕ → List Mention → Type 0
Within n ms = AllByRecursion (λ (m : Mention). m.rule < n) ms

present_given : (n : ℕ) (ms : List Mention) → Within n ms → present n ms ≡ Ok tt
present_given n [] h = refl
present_given n (m ∷ ms) h = ap (λ b. cond b (present n ms) (Err (Place m.line))) (lt-ltb _ _ h.0) ∙ present_given n ms h.1

within_at : (m n : ℕ) (ms : List Mention) → m ≡ n → Within m ms → Within n ms
within_at m n ms e h = subst (λ k. Within k ms) e h

mentioned_within : (x : Node) (n c : ℕ) → ((k : ℕ) → x ≡ Rule k → k < c) → Within c (mentioned x n)
mentioned_within Nothing n c h = tt
mentioned_within Empty n c h = tt
mentioned_within (Simple a) n c h = tt
mentioned_within (Rule k) n c h = (h k refl, tt)
mentioned_within (Element a b) n c h = tt
mentioned_within (Union a b) n c h = tt
mentioned_within (Seq a b) n c h = tt
mentioned_within (Star a) n c h = tt

below : (a n : ℕ) → ltb a n ≡ true → n ≤ 256 → a < 1000000000
below a n h l = omega (arith, ltb-true a n h)

small_node : (ns : List Name) (c : ℕ) (x : Node) → may_stand ns c x ≡ true → length ns ≤ 256 → c ≤ 256 → ((k : ℕ) → x ≡ Rule k → k < 1000000000) → Small x
small_node ns c Nothing h l m k = tt
small_node ns c Empty h l m k = tt
small_node ns c (Simple a) h l m k = below a (length ns) (and_parts _ _ h).0 l
small_node ns c (Rule a) h l m k = k a refl
small_node ns c (Element a b) h l m k = let p = and_parts _ _ h in (below a (length ns) (and_parts _ _ p.0).0 l, below b c p.1 m)
small_node ns c (Union a b) h l m k = let p = and_parts _ _ h in (below a c p.0 m, below b c p.1 m)
small_node ns c (Seq a b) h l m k = let p = and_parts _ _ h in (below a c p.0 m, below b c p.1 m)
small_node ns c (Star a) h l m k = below a c h m

-- the rules and the end
rules_done : (rs : List Ruled) (d : Sketch) (n : ℕ) → 1 ≤ order d.stage → order d.stage ≤ 4 → Within (length d.tables.bodies + length rs) d.mentions → Lawful (grown d.tables (n + 1) [] [] [] rs)
    → Done d n (map rule_text rs ++ end_text (length d.tables.bodies + length rs) ∷ []) (grown d.tables (n + 1) [] [] [] rs)
rules_done [] d n o u m w =
    let p = d.tables in
    let c = length p.bodies + 0 in
    let same : c ≡ length p.bodies = omega arith in
    let few : length (p.bodies ++ []) ≤ 32 = w.few_rules in
    let len = length-append p.bodies [] in
    let small : c < 1000000000 = omega arith in
    done_more d n (end_text c) [] end (grown p (n + 1) [] [] [] [])
    (end_given d (n + 1) c (later_given (order d.stage) 5 o (omega arith) (omega arith)) small same)
    (ap (λ z. then z (λ _. Ok p)) (present_given (length p.bodies) d.mentions (within_at c (length p.bodies) d.mentions same m)) ∙ ap Ok (sym (grown_none p (n + 1))), tt)
rules_done (r ∷ rs) d n o u m w =
    let p = d.tables in
    let f : Fact = rule r.0 r.1 (n + 1) in
    let few : length (p.bodies ++ (r.1 ∷ map body_of rs)) ≤ 32 = w.few_rules in
    let len = length-append p.bodies (r.1 ∷ map body_of rs) in
    let nodes : length (p.nodes ++ []) ≤ 256 = w.few_nodes in
    let count = length-append p.nodes [] in
    let inside : r.1 < length (p.nodes ++ []) = all_at (λ b. b < length (p.nodes ++ [])) p.bodies r.1 (map body_of rs) w.bodies_in in
    let one = length_push p.bodies r.1 in
    let e : length (p.bodies ++ r.1 ∷ []) + length rs ≡ length p.bodies + length (r ∷ rs) = omega arith in
    let j = rule_given d (n + 1) r (later_given (order d.stage) 4 o (omega arith) u) (omega arith) (omega arith) (all_at (λ s. is_spelling s ≡ true) p.rules r.0 (map rule_spelling rs) w.rules_formed) (apart_not p.rules (map rule_spelling rs) r.0 w.rules_apart) (omega arith) in
    let q = rules_done rs (entered d f) (n + 1) (omega arith) (omega arith) (within_at _ _ d.mentions (sym e) m) (subst Lawful (sym (grown_rule p (n + 1) r rs)) w) in
    done_more d n (rule_text r) (map rule_text rs ++ end_text (length p.bodies + length (r ∷ rs)) ∷ []) f (grown p (n + 1) [] [] [] (r ∷ rs)) j
    (subst (λ (t : Plain). Done (entered d f) (n + 1) (map rule_text rs ++ end_text (length p.bodies + length (r ∷ rs)) ∷ []) t) (grown_rule p (n + 1) r rs)
    (subst (λ c. Done (entered d f) (n + 1) (map rule_text rs ++ end_text c ∷ []) (grown (entered d f).tables (n + 1 + 1) [] [] [] rs)) e q))

-- the nodes, and then the rules
nodes_done : (xs : List Node) (rs : List Ruled) (d : Sketch) (n : ℕ) → 1 ≤ order d.stage → order d.stage ≤ 3 → Within (length d.tables.bodies + length rs) d.mentions → Lawful (grown d.tables (n + 1) [] [] xs rs)
    → Done d n (map node_text xs ++ (map rule_text rs ++ end_text (length d.tables.bodies + length rs) ∷ [])) (grown d.tables (n + 1) [] [] xs rs)
nodes_done [] rs d n o u m w = rules_done rs d n o (omega arith) m w
nodes_done (x ∷ xs) rs d n o u m w =
    let p = d.tables in
    let c = length p.nodes in
    let f : Fact = node x (n + 1) in
    let few : length (p.nodes ++ x ∷ xs) ≤ 256 = w.few_nodes in
    let len = length-append p.nodes (x ∷ xs) in
    let at : c < length (p.nodes ++ x ∷ xs) = omega arith in
    let got = get_or_at p.nodes x xs Nothing c refl in
    let may : may_stand p.names c x ≡ true = ap (λ ns. may_stand ns c x) (sym (append-nil p.names)) ∙ ap (may_stand (p.names ++ []) c) (sym got) ∙ w.standing c at in
    let names : length (p.names ++ []) ≤ 64 = w.few_names in
    let named = length-append p.names [] in
    let rules : length (p.bodies ++ map body_of rs) ≤ 32 = w.few_rules in
    let counted : length (p.bodies ++ map body_of rs) ≡ length p.bodies + length rs = length-append p.bodies (map body_of rs) ∙ ap (λ k. length p.bodies + k) (length-map rs body_of) in
    let said : (k : ℕ) → x ≡ Rule k → k < length (p.bodies ++ map body_of rs) = λ k e. w.mentions_in c k at (got ∙ e) in
    let small = small_node p.names c x may (omega arith) (omega arith) (λ k e. omega (arith, said k e)) in
    let j = node_given d (n + 1) x (later_given (order d.stage) 3 o (omega arith) u) small (omega arith) may in
    let q = nodes_done xs rs (entered d f) (n + 1) (omega arith) (omega arith) (All-append (λ (k : Mention). k.rule < length p.bodies + length rs) d.mentions (mentioned x (n + 1)) m (mentioned_within x (n + 1) (length p.bodies + length rs) (λ k e. omega (arith, said k e)))) (subst Lawful (sym (grown_node p (n + 1) x (n + 1) xs rs)) w) in
    done_more d n (node_text x) (map node_text xs ++ (map rule_text rs ++ end_text (length p.bodies + length rs) ∷ [])) f (grown p (n + 1) [] [] (x ∷ xs) rs) j
    (subst (λ (t : Plain). Done (entered d f) (n + 1) (map node_text xs ++ (map rule_text rs ++ end_text (length p.bodies + length rs) ∷ [])) t) (grown_node p (n + 1) x (n + 1) xs rs) q)

-- the names' heads, and then the nodes
unders_done : (us : List Under) (xs : List Node) (rs : List Ruled) (d : Sketch) (n : ℕ) → 1 ≤ order d.stage → order d.stage ≤ 2 → Within (length d.tables.bodies + length rs) d.mentions → GivenHeads d.tables.names us → Lawful (grown d.tables (n + 1) [] us xs rs)
    → Done d n (sections (length d.tables.bodies) [] us xs rs) (grown d.tables (n + 1) [] us xs rs)
unders_done [] xs rs d n o u m g w = nodes_done xs rs d n o (omega arith) m w
unders_done (v ∷ us) xs rs d n o u m g w =
    let p = d.tables in
    let f : Fact = under v.0 v.1 in
    let names : length (with_heads (p.names ++ []) (v ∷ us)) ≤ 64 = w.few_names in
    let len = length_heads (v ∷ us) (p.names ++ []) in
    let named = length-append p.names [] in
    let b = may_parts p.names v.0 v.1 g.0 in
    let low : v.0 < length p.names = b.0 in
    let lower : v.1 < v.0 = b.1 in
    let j = under_given d (n + 1) v (later_given (order d.stage) 2 o (omega arith) u) (omega arith) (omega arith) g.0 in
    let q = unders_done us xs rs (entered d f) (n + 1) (omega arith) (omega arith) m g.1 (subst Lawful (sym (grown_under p (n + 1) v us xs rs)) w) in
    done_more d n (under_text v) (sections (length p.bodies) [] us xs rs) f (grown p (n + 1) [] (v ∷ us) xs rs) j
    (subst (λ (t : Plain). Done (entered d f) (n + 1) (sections (length p.bodies) [] us xs rs) t) (grown_under p (n + 1) v us xs rs) q)

-- the names, and then the rest
names_done : (ns : List Named) (us : List Under) (xs : List Node) (rs : List Ruled) (d : Sketch) (n : ℕ) → 1 ≤ order d.stage → order d.stage ≤ 1 → Within (length d.tables.bodies + length rs) d.mentions → GivenHeads (d.tables.names ++ map headless ns) us → Lawful (grown d.tables (n + 1) ns us xs rs)
    → Done d n (sections (length d.tables.bodies) ns us xs rs) (grown d.tables (n + 1) ns us xs rs)
names_done [] us xs rs d n o u m g w = unders_done us xs rs d n o (omega arith) m (subst (λ (l : List Name). GivenHeads l us) (append-nil d.tables.names) g) w
names_done (x ∷ ns) us xs rs d n o u m g w =
    let p = d.tables in
    let f : Fact = name x.0 x.1 in
    let names : length (with_heads (p.names ++ (headless x ∷ map headless ns)) us) ≤ 64 = w.few_names in
    let len = length_heads us (p.names ++ (headless x ∷ map headless ns)) in
    let named = length-append p.names (headless x ∷ map headless ns) in
    let j = name_given d (n + 1) x (later_given (order d.stage) 1 o (omega arith) u) (omega arith) (all_at (λ s. is_spelling s ≡ true) p.spellings x.1 (map spelling_of ns) w.names_formed) (apart_not p.spellings (map spelling_of ns) x.1 w.names_apart) in
    let q = names_done ns us xs rs (entered d f) (n + 1) (omega arith) (omega arith) m (subst (λ (l : List Name). GivenHeads l us) (sym (append_assoc p.names (headless x ∷ []) (map headless ns))) g) (subst Lawful (sym (grown_name p (n + 1) x ns us xs rs)) w) in
    done_more d n (name_text x) (sections (length p.bodies) ns us xs rs) f (grown p (n + 1) (x ∷ ns) us xs rs) j
    (subst (λ (t : Plain). Done (entered d f) (n + 1) (sections (length p.bodies) ns us xs rs) t) (grown_name p (n + 1) x ns us xs rs) q)

-- a text of lines is whole
last_append : (xs ys : List ℕ) → 0 < length ys → last_byte (xs ++ ys) ≡ last_byte ys
last_append xs ys h =
    let len = length-append xs ys in
    let e : length (xs ++ ys) - 1 - length xs ≡ length ys - 1 = omega arith in
    get_or-append_right xs ys (length xs) (length (xs ++ ys) - 1) 0 refl (omega arith) ∙ ap (λ i. get_or ys i 0) e

some_written : (l : List ℕ) (ls : List (List ℕ)) → 0 < length (written (l ∷ ls))
some_written l ls = omega (arith, length-append l (10 ∷ written ls))

last_written : (l : List ℕ) (ls : List (List ℕ)) → last_byte (written (l ∷ ls)) ≡ 10
last_written l [] = last_append l (10 ∷ []) (omega arith)
last_written l (k ∷ ls) = last_append l (10 ∷ written (k ∷ ls)) (omega arith) ∙ last_append (10 ∷ []) (written (k ∷ ls)) (some_written k ls) ∙ last_written k ls

whole_given : (xs : List ℕ) (limit : ℕ) → 0 < length xs → length xs ≤ limit → last_byte xs ≡ 10 → whole_text limit xs ≡ Ok tt
whole_given xs limit a b c =
    ap (λ t. cond t (Err (Form 1)) (Ok tt)) (or_from _ _ (or_from _ _ (ne_eqb (length xs) 0 (λ (e : length xs ≡ 0). omega arith)) (le-ltb _ _ b)) (not_from_true _ (eq-eqb _ _ c)))

pub complete : (s : Source) → length (text_of s) ≤ 65536 → GivenHeads (map headless s.names) s.unders → Lawful (tables_of s) → read (text_of s) ≡ Ok (tables_of s)
complete s few g w =
    let first = keyed (codes "grammar") (codes "1" ∷ []) in
    let ls = sections 0 s.names s.unders s.nodes s.rules in
    let q = names_done s.names s.unders s.nodes s.rules (entered blank begin) 1 (omega arith) (omega arith) tt g w in
    let d : Done blank 0 (first ∷ ls) (tables_of s) = done_more blank 0 first ls begin (tables_of s) (begin_given blank 1 refl) q in
    ap (λ z. then (lift z) (λ _. read_lines blank 0 (lines (text_of s)))) (whole_given (text_of s) 65536 (some_written first ls) few (last_written first ls))
    ∙ ap (read_lines blank 0) (lines_written (first ∷ ls) d.1)
    ∙ d.0

-- what writes lawful tables is read, and gives them
pub writes_read : (text : List ℕ) (t : Plain) → Writes text t → read text ≡ Ok t
writes_read text t w =
    sym (ap read w.1) ∙ complete w.0 (subst (λ (l : List ℕ). length l ≤ 65536) (sym w.1) w.2) w.4 (subst Lawful (sym w.3) w.5) ∙ ap Ok w.3

gives_by : (r : Result Tables ReadError) (t : Plain) → answers r (Ok t) → Gives r t
gives_by (Ok u) t h = same_ok h
gives_by (Err (Fault f)) t h = cc
gives_by (Err Memory) t h = tt

-- so a call answers
pub answer_gives : (r : Result Tables ReadError) (text : List ℕ) → answers r (read text) → Accepts r text
answer_gives r text h t w = gives_by r t (subst (λ (d : Result Plain TableFault). answers r d) (writes_read text t w) h)

pub answer_writes : (r : Result Tables ReadError) (text : List ℕ) → answers r (read text) → IfOk r (λ t. Writes text (plain t))
answer_writes (Ok t) text h = read_writes text (plain t) (sym h)
answer_writes (Err e) text h = tt
