-- A small machine worked through: one name, the state 0 of one item, the state 1 of the empty hedge
-- and the state 2 of any number of items. Each item is empty inside.
use Rattle.std.proofs.Common.{◌≡◌, ℕ, zero, suc, ◌<◌, true, false, ◌&&◌, eqb, [], ◌∷◌, refl, arith}
use Rattle.std.proofs.lemmas.Bool.{and_parts, eqb-true}
use Rattle.theory.specs.Hedge.{Hedge}
use Rattle.theory.specs.Machine.{Machine}
use Rattle.theory.specs.Inequality.{row, Holds, derivative, derivative_count, some_nullable, inconsistent, pairs_of, all_pairs, pairs, wide, either_or, of_derivative, of_name, either_ors}
use Rattle.theory.specs.Meeting.{Met, all, out_of_rows, meet, widened, sides}
use Rattle.inequality.specs.Fits.{Fits, Named, Witness}
use Rattle.inequality.specs.Marks.{marks}
use Rattle.inequality.specs.Verdicts.{excluded, table}
use Rattle.inequality.proofs.Verdict.{verdict_true}

abbrev small : Machine
small = record {
  states =
      record { nullable = false; derivatives = (0, 1, 1) ∷ [] }
      ∷ record { nullable = true; derivatives = [] }
      ∷ record { nullable = true; derivatives = (0, 1, 2) ∷ [] }
      ∷ [];
  names = 1;
  covers = λ h t. eqb h 0 && eqb t 0;
}

-- one item against any number of items: four rows are met and it holds
abbrev one_in_many : Met
one_in_many = meet small 8 (row 0 4)

included_end : one_in_many.end ≡ all
unfolding meet widened sides some_nullable inconsistent pairs_of all_pairs pairs wide either_or of_derivative of_name either_ors
included_end = refl

included_not : excluded small one_in_many.rows ≡ false
unfolding meet widened sides some_nullable inconsistent pairs_of all_pairs pairs wide either_or of_derivative of_name either_ors excluded marks
included_not = refl

-- any number of items against one item: it is refuted
excluded_end : (meet small 8 (row 2 1)).end ≡ all
unfolding meet widened sides some_nullable inconsistent pairs_of all_pairs pairs wide either_or of_derivative of_name either_ors
excluded_end = refl

excluded_so : excluded small (meet small 8 (row 2 1)).rows ≡ true
unfolding meet widened sides some_nullable inconsistent pairs_of all_pairs pairs wide either_or of_derivative of_name either_ors excluded marks
excluded_so = refl

-- two rows are too few
too_few : (meet small 2 (row 0 4)).end ≡ out_of_rows
unfolding meet widened sides some_nullable inconsistent pairs_of all_pairs pairs wide either_or of_derivative of_name either_ors
too_few = refl

-- the rows met, and the table of those that are not refuted
rows_met : one_in_many.rows ≡ row 0 4 ∷ row 1 0 ∷ row 1 4 ∷ row 1 2 ∷ []
unfolding meet widened sides some_nullable inconsistent pairs_of all_pairs pairs wide either_or of_derivative of_name either_ors
rows_met = refl

rows_shown : table small one_in_many.rows ≡ row 0 4 ∷ row 1 4 ∷ row 1 2 ∷ []
unfolding meet widened sides some_nullable inconsistent pairs_of all_pairs pairs wide either_or of_derivative of_name either_ors table marks
rows_shown = refl

-- the machine fits and covers only its name, so the verdicts on it are true
small_fits : Fits small
small_fits = (omega arith, states)
  where
    states : (q i : ℕ) → i < derivative_count small q → ((derivative small q i).1 < 3) × ((derivative small q i).2 < 3)
    states zero zero lt = (omega arith, omega arith)
    states zero (suc i) lt = absurd (omega arith)
    states (suc zero) i lt = absurd (omega arith)
    states (suc (suc zero)) zero lt = (omega arith, omega arith)
    states (suc (suc zero)) (suc i) lt = absurd (omega arith)
    states (suc (suc (suc q))) i lt = absurd (omega arith)

small_named : Named small
small_named h t e =
    let zeroth : t ≡ 0 = eqb-true t 0 (and_parts (eqb h 0) (eqb t 0) e).1 in
    omega arith

one_holds : Holds small (row 0 4)
one_holds = ((verdict_true small small_fits small_named 8 (row 0 4) (omega arith) included_end).1 included_not).0

many_fails : (h : Hedge) × Witness small (row 2 1) h
many_fails = (verdict_true small small_fits small_named 8 (row 2 1) (omega arith) excluded_end).0 excluded_so
