-- What comes of a sheet once it was read.
use Rattle.std.proofs.Common.{◌≡◌, ℕ, ◌<◌, true, false, cond, ltb, List, [], ◌++◌, length, take, replicate, IfOk, Some, None, Ok, Err, Option, Result, sym, refl, ap, ◌∙◌, subst, arith}
use native.Mathlib.Nat.{sub-zero}
use mathlib.Core.Logic.{∥∥₁_elim, ∥∥₁_map, ∥∥₁_prop}
use mathlib.Core.HLevel.{×_prop, ¬_prop}
use Rattle.std.proofs.lemmas.List.{take_all}
use Rattle.std.proofs.lemmas.Bool.{cond-true, lt-ltb, false≢true}
use Rattle.model.specs.declared.names.Name.{Name}
use Rattle.model.specs.declared.rows.Row.{Row}
use Rattle.model.specs.declared.rows.Item.{Item}
use Rattle.model.specs.Blank.{blank_row, blank_item}
use Rattle.theory.specs.Machine.{Machine}
use Rattle.ledger.specs.Settled.{Settled, enters}
use Rattle.records.specs.declared.fault.CallFault.{CallFault}
use Rattle.records.specs.declared.sheet.Sheet.{Sheet}
use Rattle.model.specs.declared.verdict.Verdict.{Verdict}
use Rattle.model.specs.declared.verdict.Verdict.TheVariants.{Included, Excluded}
use Rattle.records.specs.Reading.{Found, ReadInto, sheet_read, sheet_of, answer, padded, rows_in, items_in}
use Rattle.records_law.proofs.Rewritten.{is_written}
use Rattle.judge.specs.declared.fault.SheetFault.{SheetFault}
use Rattle.judge.specs.Judgement.{included_fault, excluded_fault, refusal}
use Rattle.judge.specs.Faults.{no_memory}
use Rattle.writing.specs.Texts.{sheet_text, all_texts, row_text, item_text, verdict_line, pair_text, end_text, records_text}
use Rattle.tables.specs.Plain.{Plain}
use Rattle.load.specs.Loaded.{bodies_of, rules_of}
use Rattle.law.specs.Claims.{AllTrue}
use Rattle.law.specs.Grounded.{Grounded}
use Rattle.law.specs.Sheets.{kind_fault, judged, sheet_outcome, sheet_answer, rows_left, items_left, KindTrue, OutcomeTrue}
use Rattle.law.proofs.Reading.{WellRead, OfKind, sheet_well, sheet_pair, take_padded}
use Rattle.law.proofs.Judged.{kind_true}
use Rattle.law.proofs.Settling.{includes_prop, enters_true, kind_settles}
use Rattle.register.specs.Calls.{sheet_judged, settles}

-- a sheet that was read came of its text
pub read_found : (R : Result Found CallFault) (s : Sheet) → Ok s ≡ answer sheet_of R → (f : Found) × (R ≡ Ok f) × (sheet_of f.at ≡ s)
read_found (Ok f) s e = (f, refl, cc)
read_found (Err x) s e = let z : false ≡ true = cc in elim (false≢true z) [ ]

-- the judgement of its rows or items is that of what was read
pub judged_as : (m : Machine) (settled : ℕ → ℕ → Settled) (rules sets n k : ℕ) (f : Found) (rows : List Row) (items : List Item) (v : Verdict) →
    sets ≡ 513 → WellRead n f → OfKind f v → rows ≡ padded blank_row n f.rows → items ≡ padded blank_item k f.items →
    sheet_judged m settled rules sets (record { verdict = v; left = f.at.left; right = f.at.right; records = f.at.count }) rows items
    ≡ refusal (kind_fault m settled rules f v)
judged_as m settled rules sets n k f rows items Included es w is er ei =
    ap (λ l. refusal (included_fault m settled rules f.at.left f.at.right l)) (ap (take f.at.count) er ∙ take_padded blank_row n f.at.count f.rows is.0)
judged_as m settled rules sets n k f rows items Excluded es w is er ei =
    let front : take f.at.count items ≡ f.items = ap (take f.at.count) ei ∙ take_padded blank_item k f.at.count f.items is.0 in
    let small : length f.items < sets = omega (arith, w.few, w.most, is.0) in
    ap (λ l. cond (ltb (length l) sets) (refusal (excluded_fault m f.at.left f.at.right l)) (Err no_memory)) front
    ∙ cond-true _ _ _ (lt-ltb (length f.items) sets small)

-- the outcome of a sheet that was read, by its judgement
outcome : (m : Machine) (settled : ℕ → ℕ → Settled) (rules : ℕ) (R : Result Found CallFault) (f : Found) (j : Result (Unit {0}) SheetFault) → R ≡ Ok f →
    refusal (kind_fault m settled rules f f.at.verdict) ≡ j →
    judged m settled rules R ≡ elim j [ Ok u ↦ Ok f | Err e ↦ Err e ]
outcome m settled rules R f j er ej =
    ap (judged m settled rules) er ∙ ap (λ (x : Result (Unit {0}) SheetFault). elim x as (λ _. Result Found SheetFault) [ Ok u ↦ Ok f | Err e ↦ Err e ]) ej

-- no fault
no_fault : (o : Option SheetFault) (u : Unit {0}) → refusal o ≡ Ok u → o ≡ None
no_fault None u e = refl
no_fault (Some f) u e = let z : false ≡ true = cc in elim (false≢true z) [ ]

-- what a sheet's outcome O says of the answer and of what is left
pub record Leaves (t : Plain) (m : Machine) (O : Result Found SheetFault) (n k : ℕ) (text : List ℕ) (r : Result Sheet SheetFault) (rows : List Row) (items : List Item) : Type 0 where
  pub result : r ≡ sheet_answer O
  pub rows_are : rows ≡ padded blank_row n (rows_left O)
  pub items_are : items ≡ padded blank_item k (items_left O)
  pub truth : OutcomeTrue t m O
  pub written : IfOk r (λ s. text ≡ sheet_text s rows items)

blank_padded : {X : Type 0} (x : X) (n : ℕ) → replicate n x ≡ padded x n []
blank_padded x n = ap (λ k. replicate k x) (sym (sub-zero n))

-- a sheet that was read and shows nothing
pub refused : (t : Plain) (m : Machine) (settled : ℕ → ℕ → Settled) (n k : ℕ) (text : List ℕ) (f : Found) (e : SheetFault) (rows : List Row) (items : List Item) →
    sheet_read (rules_of t) (length m.states) t.names n k text ≡ Ok f → refusal (kind_fault m settled (rules_of t) f f.at.verdict) ≡ Err e →
    rows ≡ replicate n blank_row → items ≡ replicate k blank_item →
    Leaves t m (sheet_outcome t m settled n k text) n k text (Err e) rows items
refused t m settled n k text f e rows items er ej es ei =
    let is : sheet_outcome t m settled n k text ≡ Err e = outcome m settled (rules_of t) _ f (Err e) er ej in
    subst (λ O. Leaves t m O n k text (Err e) rows items) (sym is) (record {
      result = refl;
      rows_are = es ∙ blank_padded blank_row n;
      items_are = ei ∙ blank_padded blank_item k;
      truth = tt;
      written = tt;
    })

-- the text of a sheet is that of its first records
text_padded : (v : Verdict) (f : Found) (n k : ℕ) → OfKind f v →
    sheet_text (record { verdict = v; left = f.at.left; right = f.at.right; records = f.at.count }) f.rows f.items
    ≡ sheet_text (record { verdict = v; left = f.at.left; right = f.at.right; records = f.at.count }) (padded blank_row n f.rows) (padded blank_item k f.items)
text_padded v f n k is = ap (λ l. verdict_line v ++ (pair_text f.at.left f.at.right ++ (l ++ end_text f.at.count))) (same v is)
  where
    same : (v : Verdict) → OfKind f v →
        records_text v f.at.count f.rows f.items ≡ records_text v f.at.count (padded blank_row n f.rows) (padded blank_item k f.items)
    same Included is = ap (all_texts row_text) (take_all f.at.count f.rows (omega (arith, is.0)) ∙ sym (take_padded blank_row n f.at.count f.rows is.0))
    same Excluded is = ap (all_texts item_text) (take_all f.at.count f.items (omega (arith, is.0)) ∙ sym (take_padded blank_item k f.at.count f.items is.0))

kind_prop : (t : Plain) (m : Machine) (f : Found) (v : Verdict) (p q : KindTrue t m f v) → p ≡ q
kind_prop t m f Included = includes_prop (bodies_of t) m.covers f.at.left f.at.right
kind_prop t m f Excluded = ×_prop ∥∥₁_prop ¬_prop

-- the claim of a sheet that shows it is true
pub claim : (t : Plain) (m : Machine) → ∥ Grounded t m ∥₁ → (settled : ℕ → ℕ → Settled) → ∥ AllTrue (bodies_of t) (rules_of t) m.covers settled ∥₁ →
    (n k : ℕ) (text : List ℕ) (f : Found) (u : Unit {0}) → sheet_read (rules_of t) (length m.states) t.names n k text ≡ Ok f →
    refusal (kind_fault m settled (rules_of t) f f.at.verdict) ≡ Ok u → KindTrue t m f f.at.verdict
claim t m g settled all n k text f u er ej =
    let pair = sheet_pair (rules_of t) (length m.states) t.names n k text f er in
    ∥∥₁_elim all (kind_prop t m f f.at.verdict) (λ every. kind_true t m g settled every f pair.0 pair.1 f.at.verdict (no_fault _ u ej))

-- a sheet that was read and shows its claim
pub accepted : (t : Plain) (m : Machine) → ∥ Grounded t m ∥₁ → (settled : ℕ → ℕ → Settled) → ∥ AllTrue (bodies_of t) (rules_of t) m.covers settled ∥₁ →
    (n k : ℕ) (text : List ℕ) (f : Found) (u : Unit {0}) (rows : List Row) (items : List Item) →
    sheet_read (rules_of t) (length m.states) t.names n k text ≡ Ok f → refusal (kind_fault m settled (rules_of t) f f.at.verdict) ≡ Ok u →
    rows ≡ padded blank_row n f.rows → items ≡ padded blank_item k f.items →
    Leaves t m (sheet_outcome t m settled n k text) n k text (Ok (sheet_of f.at)) rows items
accepted t m g settled all n k text f u rows items er ej es ei =
    let is : sheet_outcome t m settled n k text ≡ Ok f = outcome m settled (rules_of t) _ f (Ok u) er ej in
    subst (λ O. Leaves t m O n k text (Ok (sheet_of f.at)) rows items) (sym is) (record {
      result = refl;
      rows_are = es;
      items_are = ei;
      truth = claim t m g settled all n k text f u er ej;
      written = is_written (rules_of t) (length m.states) t.names n k text f er
          ∙ text_padded f.at.verdict f n k (sheet_well (rules_of t) (length m.states) t.names n k text f er).of_kind
          ∙ ap (λ l. sheet_text (sheet_of f.at) l (padded blank_item k f.items)) (sym es)
          ∙ ap (λ l. sheet_text (sheet_of f.at) rows l) (sym ei);
    })

-- a sheet that was read within bounds that are the grammar's
pub read_within : (t : Plain) (m : Machine) (rules states : ℕ) (names : List Name) (n k : ℕ) (text : List ℕ) (r : Result Sheet CallFault) (rows : List Row) (items : List Item) →
    rules ≡ rules_of t → states ≡ length m.states → names ≡ t.names →
    ReadInto sheet_of (sheet_read rules states names n k text) n k r rows items →
    ReadInto sheet_of (sheet_read (rules_of t) (length m.states) t.names n k text) n k r rows items
read_within t m rules states names n k text r rows items er es en is =
    let P : Result Found CallFault → Type 0 = λ q. ReadInto sheet_of q n k r rows items in
    subst P (ap (λ x. sheet_read x states names n k text) er
    ∙ ap (λ x. sheet_read (rules_of t) x names n k text) es
    ∙ ap (λ x. sheet_read (rules_of t) (length m.states) x n k text) en) is

-- A sheet was read as s into rows and items, and judged: what it is, and its judgement as the definition has it.
pub record Judging (t : Plain) (m : Machine) (settled : ℕ → ℕ → Settled) (n k : ℕ) (text : List ℕ) (s : Sheet) (j : Result (Unit {0}) SheetFault) (rows : List Row) (items : List Item) : Type 0 where
  pub f : Found
  pub is_read : sheet_read (rules_of t) (length m.states) t.names n k text ≡ Ok f
  pub sheet : sheet_of f.at ≡ s
  pub rows_are : rows ≡ padded blank_row n f.rows
  pub items_are : items ≡ padded blank_item k f.items
  pub judged_so : refusal (kind_fault m settled (rules_of t) f f.at.verdict) ≡ j

pub judging : (t : Plain) (m : Machine) (settled : ℕ → ℕ → Settled) (sets n k : ℕ) (text : List ℕ) (s : Sheet) (j : Result (Unit {0}) SheetFault) (rows : List Row) (items : List Item) →
    sets ≡ 513 →
    ReadInto sheet_of (sheet_read (rules_of t) (length m.states) t.names n k text) n k (Ok s) rows items →
    j ≡ sheet_judged m settled (rules_of t) sets s rows items →
    Judging t m settled n k text s j rows items
judging t m settled sets n k text s j rows items es is ej =
    let R = sheet_read (rules_of t) (length m.states) t.names n k text in
    let a = read_found R s is.answered in
    let w = sheet_well (rules_of t) (length m.states) t.names n k text a.0 a.1 in
    let er' : rows ≡ padded blank_row n a.0.rows = is.rows_left ∙ ap (λ q. padded blank_row n (rows_in q)) a.1 in
    let ei' : items ≡ padded blank_item k a.0.items = is.items_left ∙ ap (λ q. padded blank_item k (items_in q)) a.1 in
    record {
      f = a.0;
      is_read = a.1;
      sheet = a.2;
      rows_are = er';
      items_are = ei';
      judged_so = sym (judged_as m settled (rules_of t) sets n k a.0 rows items a.0.at.verdict es w w.of_kind er' ei')
          ∙ ap (λ x. sheet_judged m settled (rules_of t) sets x rows items) a.2 ∙ sym ej;
    }

-- all that is settled is true once an accepted sheet is entered
pub entered : (t : Plain) (m : Machine) → ∥ Grounded t m ∥₁ → (settled : ℕ → ℕ → Settled) → ∥ AllTrue (bodies_of t) (rules_of t) m.covers settled ∥₁ →
    (n k : ℕ) (text : List ℕ) (s : Sheet) (u : Unit {0}) (rows : List Row) (items : List Item) → Judging t m settled n k text s (Ok u) rows items →
    (after : ℕ → ℕ → Settled) (v : Settled) → ((c d : ℕ) → after c d ≡ enters settled s.left s.right v c d) → v ≡ settles s.verdict →
    ∥ AllTrue (bodies_of t) (rules_of t) m.covers after ∥₁
entered t m g settled all n k text s u rows items j after v told is =
    let pair = sheet_pair (rules_of t) (length m.states) t.names n k text j.f j.is_read in
    let true_claim = claim t m g settled all n k text j.f u j.is_read j.judged_so in
    let e : v ≡ settles j.f.at.verdict = is ∙ ap (λ x. settles x.verdict) (sym j.sheet) in
    let told' : (c d : ℕ) → after c d ≡ enters settled j.f.at.left j.f.at.right v c d = λ c d. told c d ∙ ap (λ x. enters settled x.left x.right v c d) (sym j.sheet) in
    ∥∥₁_map all (λ (every : AllTrue (bodies_of t) (rules_of t) m.covers settled).
    enters_true (bodies_of t) (rules_of t) m.covers settled after j.f.at.left j.f.at.right v every
    (kind_settles t m j.f j.f.at.verdict v pair.0 pair.1 e true_claim) told')
