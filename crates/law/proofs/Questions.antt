-- The answer to a question is true, and its counts are exact.
use Rattle.std.proofs.Common.{◌≡◌, ℕ, ◌-◌, ◌<◌, ◌≤◌, true, false, ◌⊎◌, ◌↔◌, List, take, replicate, sym, refl, ap, ◌∙◌, subst, inl, inr, arith}
use Rattle.std.proofs.lemmas.Bool.{false≢true}
use Rattle.std.proofs.lemmas.List.{take_at}
use Rattle.model.specs.declared.rows.Row.{Row}
use Rattle.model.specs.declared.rows.Item.{Item}
use Rattle.model.specs.Blank.{blank_row}
use Rattle.theory.specs.Machine.{Machine}
use Rattle.theory.specs.Inequality.{Refuted}
use Rattle.theory.specs.Meeting.{meet, all}
use Rattle.inequality.specs.Reached.{Numbered, Outnumber, SomeWide}
use Rattle.inequality.specs.Verdicts.{Shows, excluded, table}
use Rattle.inequality.proofs.Truth.{unrefuted_holds}
use Rattle.inequality.proofs.Meets.{meet_begun, meet_all, meet_number, numbered_most, meet_wide, meet_out}
use Rattle.inequality.proofs.Marking.{marks_right}
use Rattle.inequality.proofs.Verdict.{unmarked_shows, excluded_refuted}
use Rattle.search.specs.declared.answer.Answer.{Answer}
use Rattle.search.specs.declared.answer.Answer.TheVariants.{Included, Excluded, Wide, OutOfRows}
use Rattle.search.specs.Answered.{root_of, Answered, Shown}
use Rattle.tables.specs.Plain.{Plain}
use Rattle.load.specs.Loaded.{rules_of}
use Rattle.law.specs.Grounded.{Grounded}
use Rattle.law.specs.Question.{VerdictTrue, Exactly}
use Rattle.law.proofs.Machines.{fits, named, holds_includes, witness_offends}

-- all rows were met, and the root is not refuted
pub unrefuted : (m : Machine) (limit : ℕ) (root : Row) → 1 ≤ limit → (meet m limit root).end ≡ all →
    excluded m (meet m limit root).rows ≡ false → Refuted m root → ⊥
unrefuted m limit root pos e unset ref =
    let rows : List Row = (meet m limit root).rows in
    false≢true (sym unset ∙ (excluded_refuted m root rows (meet_begun m limit root pos).0 (meet_all m limit root pos e).2).1 ref)

-- then the table of unrefuted rows shows the root
pub table_shows : (m : Machine) (limit : ℕ) (root : Row) → 1 ≤ limit → (meet m limit root).end ≡ all →
    excluded m (meet m limit root).rows ≡ false → Shows m root (table m (meet m limit root).rows)
unfolding table
table_shows m limit root pos e unset =
    let rows : List Row = (meet m limit root).rows in
    let met = meet_all m limit root pos e in
    unmarked_shows m root rows _ (meet_begun m limit root pos).0 met (marks_right m rows met.2) (unrefuted m limit root pos e unset)

-- the first rows of an included answer are the table
pub first_rows : (m : Machine) (met : List Row) (limit room n : ℕ) (rows : List Row) (items : List Item) →
    Shown m met limit room n rows items → take n rows ≡ table m met
first_rows m met limit room n rows items s =
    ap (take n) s.first_rows ∙ take_at (table m met) (replicate (limit - n) blank_row) n (sym s.count)

pub verdict_true : (t : Plain) (m : Machine) → ∥ Grounded t m ∥₁ → (a b limit room : ℕ) → a < rules_of t → b < rules_of t → 1 ≤ limit →
    (answer : Answer) (rows : List Row) (items : List Item) → Answered m (root_of a b) limit room answer rows items →
    VerdictTrue t m a b answer rows items
verdict_true t m g a b limit room la lb pos (Included met n) rows items ans = (
  holds_includes t m g a b la lb
      (unrefuted_holds m (fits t m g) (named t m g) (root_of a b) (unrefuted m limit (root_of a b) pos ans.0 ans.2.verdict)),
  subst (Shows m (root_of a b)) (sym (first_rows m _ limit room n rows items ans.2))
      (table_shows m limit (root_of a b) pos ans.0 ans.2.verdict),
)
verdict_true t m g a b limit room la lb pos (Excluded met n) rows items ans = (
  witness_offends t m g a b la lb _ (ans.2.spells (fits t m g)),
  ans.2.earlier,
  omega (arith, ans.2.few, ans.1),
)
verdict_true t m g a b limit room la lb pos (Wide met) rows items ans = tt
verdict_true t m g a b limit room la lb pos (OutOfRows met) rows items ans = tt

-- a meeting that met all has a number of inequalities within the rows, none of them wide
all_stops : (m : Machine) (limit : ℕ) (root : Row) → 1 ≤ limit → (meet m limit root).end ≡ all →
    Outnumber m root limit ⊎ SomeWide m root → ⊥
all_stops m limit root pos e (inl over) =
    numbered_most m root _ limit (meet_number m limit root pos e) (meet_begun m limit root pos).3 over
all_stops m limit root pos e (inr wide) = false≢true (sym ((meet_all m limit root pos e).1 wide.0 wide.1) ∙ wide.2)

verdict_stops : (m : Machine) (limit : ℕ) (root : Row) → 1 ≤ limit → (meet m limit root).end ≡ all →
    (false ≡ true) ↔ (Outnumber m root limit ⊎ SomeWide m root)
verdict_stops m limit root pos e = ((λ lie. absurd (false≢true lie)), (λ stop. absurd (all_stops m limit root pos e stop)))

pub exactly : (m : Machine) (a b limit room : ℕ) → 1 ≤ limit → (answer : Answer) (rows : List Row) (items : List Item) →
    Answered m (root_of a b) limit room answer rows items → Exactly m a b limit answer
exactly m a b limit room pos (Included met n) rows items ans = (
  verdict_stops m limit (root_of a b) pos ans.0,
  subst (Numbered m (root_of a b)) (sym ans.1) (meet_number m limit (root_of a b) pos ans.0),
)
exactly m a b limit room pos (Excluded met n) rows items ans = (
  verdict_stops m limit (root_of a b) pos ans.0,
  subst (Numbered m (root_of a b)) (sym ans.1) (meet_number m limit (root_of a b) pos ans.0),
)
exactly m a b limit room pos (Wide met) rows items ans =
    (((λ _. inr (meet_wide m limit (root_of a b) pos ans.0)), (λ _. refl)), tt)
exactly m a b limit room pos (OutOfRows met) rows items ans =
    (((λ _. inl (meet_out m limit (root_of a b) pos ans.0)), (λ _. refl)), tt)
