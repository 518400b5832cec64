use Rattle.std.proofs.Common.{◌≡◌, [], ◌++◌, vec_items, ◌∙◌, ap, ap₂}
use Rattle.std.proofs.lemmas.Result.{IfOk-weaker}
use Rattle.theory.specs.Count.{entered}
use Rattle.expressions.specs.Records.{same_derivative}
use Rattle.expressions.specs.Derived.{part}
use Rattle.states.specs.declared.derive.Span.{Span}
use Rattle.states.specs.Derive.{found_of, Gives, in_turn}
use Rattle.states.proofs.Going.{turn_in, turn_told, gives_as, gives_on}
use Rattle.states.proofs.derive.Work.of_first.Goals as goal

pub keep-requires : goal.keep-requires
keep-requires c =
    let mid = c.joined_to.new.self in
    let then = c.args.then in
    let v = vec_items c.in_ok-joined.joined in
    let list : c.as_slice-3.result.now ≡ entered same_derivative [] (v ++ part (found_of mid) then.from then.to) =
    c.as_slice-3.ensures.value ∙ c.in_ok-list.ensures
    ∙ ap₂ (λ a b. entered same_derivative [] (a ++ b)) c.as_slice-2.ensures.value
    (c.of-others.ensures ∙ ap (λ l. part l then.from then.to) c.as_slice.ensures.value) in
    turn_in c.args.self.now mid c.args.first then c.args.s v c.as_slice-3.result.now c.in_ok-joined.ensures.value list

pub returns : goal.returns
returns c =
    let w = c.args.self.now in
    let mid = c.joined_to.new.self in
    let first = c.args.first in
    let then = c.args.then in
    let v = vec_items c.in_ok-joined.joined in
    let list : c.as_slice-3.result.now ≡ entered same_derivative [] (v ++ part (found_of mid) then.from then.to) =
    c.as_slice-3.ensures.value ∙ c.in_ok-list.ensures
    ∙ ap₂ (λ a b. entered same_derivative [] (a ++ b)) c.as_slice-2.ensures.value
    (c.of-others.ensures ∙ ap (λ l. part l then.from then.to) c.as_slice.ensures.value) in
    IfOk-weaker c.keep.result _ (λ p. Gives w c.keep.new.self (in_turn w first c.args.s then) p)
    (λ (p : Span) g. gives_on w mid c.keep.new.self _ p c.joined_to.ensures.goes
    (gives_as mid c.keep.new.self _ (in_turn w first c.args.s then) p
    (turn_told w mid first then c.args.s v c.as_slice-3.result.now c.joined_to.ensures.goes c.requires.then c.in_ok-joined.ensures.value list) g))
    c.keep.ensures
