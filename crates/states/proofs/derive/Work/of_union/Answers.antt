use Rattle.std.proofs.Common.{◌≡◌, [], ◌++◌, ◌∙◌, ap, ap₂}
use Rattle.std.proofs.lemmas.Result.{IfOk-weaker}
use Rattle.theory.specs.Count.{entered}
use Rattle.expressions.specs.Records.{same_derivative}
use Rattle.expressions.specs.Derived.{part}
use Rattle.states.specs.declared.derive.Span.{Span}
use Rattle.states.specs.Derive.{found_of, Gives, both}
use Rattle.states.proofs.Going.{union_in, union_told, gives_as}
use Rattle.states.proofs.derive.Work.of_union.Goals as goal

pub keep-requires : goal.keep-requires
keep-requires c =
    let w = c.args.self.now in
    let left = c.args.left in
    let right = c.args.right in
    let list : c.as_slice.result.now ≡ entered same_derivative [] (part (found_of w) left.from left.to ++ part (found_of w) right.from right.to) =
    c.as_slice.ensures.value ∙ c.in_ok-list.ensures
    ∙ ap₂ (λ a b. entered same_derivative [] (a ++ b))
    (c.of.ensures ∙ ap (λ l. part l left.from left.to) c.as_slice-found.ensures.value)
    (c.of-2.ensures ∙ ap (λ l. part l right.from right.to) c.as_slice-found.ensures.value) in
    union_in w left right c.as_slice.result.now list

pub returns : goal.returns
returns c =
    let w = c.args.self.now in
    let left = c.args.left in
    let right = c.args.right in
    let list : c.as_slice.result.now ≡ entered same_derivative [] (part (found_of w) left.from left.to ++ part (found_of w) right.from right.to) =
    c.as_slice.ensures.value ∙ c.in_ok-list.ensures
    ∙ ap₂ (λ a b. entered same_derivative [] (a ++ b))
    (c.of.ensures ∙ ap (λ l. part l left.from left.to) c.as_slice-found.ensures.value)
    (c.of-2.ensures ∙ ap (λ l. part l right.from right.to) c.as_slice-found.ensures.value) in
    IfOk-weaker c.keep.result _ (λ s. Gives w c.keep.new.self (both w left right) s)
    (λ (s : Span) p. gives_as w c.keep.new.self _ (both w left right) s (union_told w left right c.as_slice.result.now list) p)
    c.keep.ensures
