-- What comes of a membership test.
use Rattle.std.specs.Prelude.{◌≡◌, ℕ, true, ◌↔◌, List, [], take, Ok, Err, Result}
use Rattle.model.specs.declared.rows.Item.{Item}
use Rattle.theory.specs.Machine.{Machine}
use Rattle.theory.specs.Items.{spelled}
use Rattle.meaning.specs.Tables.{has_spelled}
use Rattle.records.specs.declared.fault.CallFault.{CallFault}
use Rattle.records.specs.Chains.{then}
use Rattle.records.specs.Reading.{Found, hedge_read}
use Rattle.tables.specs.Plain.{Plain}
use Rattle.load.specs.Loaded.{bodies_of, rules_of}
use Rattle.law.specs.Claims.{Has}
use Rattle.register.specs.declared.membership.Membership.{Membership}
use Rattle.register.specs.Calls.{rule_checked}

-- The rule is tested first, then the text is read.
abbrev pub member_outcome : Plain → ℕ → ℕ → ℕ → List ℕ → Result Found CallFault
member_outcome t rule rows items text =
    then (rule_checked (rules_of t) rule) λ _. hedge_read t.names rows items text

-- what the call answers of it: whether the rule's state has the hedge, and the number of items
abbrev pub member_answer : Machine → ℕ → Result Found CallFault → Result Membership CallFault
member_answer m rule (Ok f) = Ok (record { yes = has_spelled m f.items rule; records = f.at.count })
member_answer m rule (Err e) = Err e

-- the items that it leaves, before the blank ones
abbrev pub items_tested : Result Found CallFault → List Item
items_tested (Ok f) = f.items
items_tested (Err e) = []

-- the answer is yes exactly when the rule has the hedge that the first items spell
abbrev pub MemberTrue : Plain → Machine → ℕ → Result Membership CallFault → List Item → Type 0
MemberTrue t m rule (Ok x) items = (x.yes ≡ true) ↔ Has (bodies_of t) m.covers rule (spelled (take x.records items))
MemberTrue t m rule (Err e) items = Unit {0}
