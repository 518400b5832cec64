-- What comes of a membership test whose text was read.
use Rattle.std.proofs.Common.{◌≡◌, ℕ, ◌<◌, Bool, true, false, ltb, ◌↔◌, List, length, take, Ok, Err, Result, sym, refl, ap, ◌∙◌, subst, arith}
use Rattle.std.proofs.lemmas.Bool.{ltb-true, false≢true}
use Rattle.model.specs.declared.names.Name.{Name}
use Rattle.model.specs.declared.rows.Item.{Item}
use Rattle.model.specs.Blank.{blank_item}
use Rattle.theory.specs.Machine.{Machine}
use Rattle.theory.specs.Items.{spelled}
use Rattle.meaning.specs.Tables.{has_spelled}
use Rattle.meaning.proofs.Tables.{membership_law}
use Rattle.records.specs.declared.fault.CallFault.{CallFault}
use Rattle.records.specs.Chains.{then}
use Rattle.records.specs.Reading.{Found, hedge_read, answer, count_of, items_in, padded}
use Rattle.records.proofs.Chained.{cond_ok}
use Rattle.tables.specs.Plain.{Plain}
use Rattle.load.specs.Loaded.{bodies_of, rules_of}
use Rattle.law.specs.Grounded.{Grounded}
use Rattle.law.specs.Claims.{Has}
use Rattle.law.proofs.Machines.{states_few, has_of, of_has}
use Rattle.law.proofs.Reading.{hedge_well, hedge_items, take_padded}
use Rattle.register.specs.declared.membership.Membership.{Membership}
use Rattle.register.specs.Calls.{rule_checked}
use Rattle.register.specs.Member.{member_outcome, member_answer, items_tested, MemberTrue}

-- a hedge that was read came of its text
hedge_found : (R : Result Found CallFault) (n : ℕ) → Ok n ≡ answer count_of R → (f : Found) × (R ≡ Ok f) × (f.at.count ≡ n)
hedge_found (Ok f) n e = (f, refl, cc)
hedge_found (Err x) n e = let z : false ≡ true = cc in elim (false≢true z) [ ]

pub record Tested (t : Plain) (m : Machine) (rule n k : ℕ) (text : List ℕ) (x : Membership) (items : List Item) : Type 0 where
  pub result : Ok x ≡ member_answer m rule (member_outcome t rule n k text)
  pub items_are : items ≡ padded blank_item k (items_tested (member_outcome t rule n k text))
  pub truth : MemberTrue t m rule (Ok x) items

pub tested : (t : Plain) (m : Machine) → ∥ Grounded t m ∥₁ → (rule n k : ℕ) (text : List ℕ) (u : Unit {0}) (names : List Name) (records : ℕ) (items front : List Item) (yes' : Bool) →
    Ok u ≡ rule_checked (rules_of t) rule → names ≡ t.names → Ok records ≡ answer count_of (hedge_read names n k text) →
    items ≡ padded blank_item k (items_in (hedge_read names n k text)) → front ≡ take records items →
    (length front < 513 → yes' ≡ has_spelled m front rule) →
    Tested t m rule n k text (record { yes = yes'; records = records }) items
tested t m g rule n k text u names records items front yes' eu en er ei ef has =
    let R : Result Found CallFault = hedge_read names n k text in
    let a = hedge_found R records er in
    let f : Found = a.0 in
    let same : hedge_read t.names n k text ≡ Ok f = ap (λ x. hedge_read x n k text) (sym en) ∙ a.1 in
    let O : member_outcome t rule n k text ≡ Ok f = ap (λ r. then r (λ _. hedge_read t.names n k text)) (sym eu) ∙ same in
    let count : length f.items ≡ records = hedge_items t.names n k text f same ∙ a.2 in
    let w = hedge_well t.names n k text f same in
    let is : items ≡ padded blank_item k f.items = ei ∙ ap (λ q. padded blank_item k (items_in q)) a.1 in
    let front_is : take records items ≡ f.items = ap (take records) is ∙ take_padded blank_item k records f.items count in
    let ff : front ≡ f.items = ef ∙ front_is in
    let small : length front < 513 = omega (arith, ap length ff, count, a.2, w.few, w.most) in
    let says : yes' ≡ has_spelled m f.items rule = has small ∙ ap (λ l. has_spelled m l rule) ff in
    let lt : rule < rules_of t = ltb-true rule (rules_of t) (cond_ok (ltb rule (rules_of t)) tt _ _ (sym eu)).0 in
    let law = membership_law m f.items (states_few t m g) rule in
    record {
      result = ap (λ y. Ok (record { yes = y; records = records })) says
          ∙ ap (λ r. Ok (record { yes = has_spelled m f.items rule; records = r })) (sym a.2)
          ∙ ap (member_answer m rule) (sym O);
      items_are = is ∙ ap (λ q. padded blank_item k (items_tested q)) (sym O);
      truth = subst (λ l. (yes' ≡ true) ↔ Has (bodies_of t) m.covers rule (spelled l)) (sym front_is) (
        (λ e. has_of t m g rule lt (spelled f.items) (sym law ∙ sym says ∙ e)),
        (λ p. says ∙ law ∙ of_has t m g rule lt (spelled f.items) p),
      );
    }
