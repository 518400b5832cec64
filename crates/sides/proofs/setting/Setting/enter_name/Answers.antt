use Rattle.std.proofs.Common.{true, false, [], ◌∷◌, ◌++◌, sym, ap, ◌∙◌, append-nil, append_assoc}
use Rattle.theory.specs.Inequality.{same_row}
use Rattle.book.proofs.Feeding.{fills_none, fills_as, fills_more, fills_full}
use Rattle.sides.specs.View.{seen}
use Rattle.sides.specs.Ors.{rows_of}
use Rattle.sides.specs.Left.{left_of}
use Rattle.sides.proofs.Failing.{fills_err}
use Rattle.sides.proofs.Sided.{name_none}
use Rattle.sides.proofs.Walking.{rows-append, turn_rows, name_rows}
use Rattle.sides.proofs.setting.Setting.enter_name.Goals as goal

pub returns-in_default : goal.returns-in_default
returns-in_default c =
    fills_as same_row c.args.book.now c.args.book.now [] _ true
    (sym (name_none (seen c.args.self.now) c.args.row.now c.args.t (sym (c.in_default.ensures.some c.requires.narrow c.requires.name)))) (fills_none same_row c.args.book.now)

pub loop-sides-preserved : goal.loop-sides-preserved
loop-sides-preserved c =
    let e = c.in-Some-sides.sides in
    let ys = c.loop-sides.yielded in
    record {
      fills = fills_as same_row c.args.book.now c.put-in-loop-sides.new.self _ _ true (sym (rows-append ys (e ∷ [])))
          (fills_more same_row c.args.book.now c.loop-sides.book c.put-in-loop-sides.new.self (rows_of ys) (e.content ∷ (e.rest ∷ [])) true c.loop-sides.invariant.fills
          (fills_more same_row c.loop-sides.book c.put.new.self c.put-in-loop-sides.new.self (e.content ∷ []) (e.rest ∷ []) true c.in_ok-put.ensures c.in_ok-put-2.ensures));
      rest = append_assoc ys (e ∷ []) (left_of c.next.new.self) ∙ ap (λ l. ys ++ l) (sym c.in-Some-sides.ensures.steps) ∙ c.loop-sides.invariant.rest;
    }

pub returns-in_err-put : goal.returns-in_err-put
returns-in_err-put c =
    let e = c.in-Some-sides.sides in
    let ys = c.loop-sides.yielded in
    let left = left_of c.next.new.self in
    let a = c.put.new.self in
    let all = ap (λ l. ys ++ l) (sym c.in-Some-sides.ensures.steps) ∙ c.loop-sides.invariant.rest in
    let is = ap left_of c.into_iter-sides-iterator.ensures.into_iter_gives ∙ c.either_ors-sides-items.ensures in
    fills_err c.args.book.now a _ c.from_residual.result c.from_residual.ensures.0
    (fills_as same_row c.args.book.now a _ _ false
    (turn_rows ys e left (left_of c.into_iter-sides-iterator.result) all ∙ name_rows c.args.self.now c.args.row.now c.args.t c.into_iter-sides-iterator.result c.in-Some.pairs.items is c.in-Some.ensures.all)
    (fills_full same_row c.args.book.now a (rows_of ys ++ e.content ∷ []) (e.rest ∷ rows_of left)
    (fills_more same_row c.args.book.now c.loop-sides.book a (rows_of ys) (e.content ∷ []) false c.loop-sides.invariant.fills c.in_err-put.ensures)))

pub returns-in_err-put-2 : goal.returns-in_err-put-2
returns-in_err-put-2 c =
    let e = c.in-Some-sides.sides in
    let ys = c.loop-sides.yielded in
    let left = left_of c.next.new.self in
    let m = c.put.new.self in
    let a = c.put-in-loop-sides.new.self in
    let all = ap (λ l. ys ++ l) (sym c.in-Some-sides.ensures.steps) ∙ c.loop-sides.invariant.rest in
    let is = ap left_of c.into_iter-sides-iterator.ensures.into_iter_gives ∙ c.either_ors-sides-items.ensures in
    fills_err c.args.book.now a _ c.from_residual-in_err-put-2.result c.from_residual-in_err-put-2.ensures.0
    (fills_as same_row c.args.book.now a _ _ false
    (append_assoc (rows_of ys ++ e.content ∷ []) (e.rest ∷ []) (rows_of left)
    ∙ turn_rows ys e left (left_of c.into_iter-sides-iterator.result) all ∙ name_rows c.args.self.now c.args.row.now c.args.t c.into_iter-sides-iterator.result c.in-Some.pairs.items is c.in-Some.ensures.all)
    (fills_full same_row c.args.book.now a ((rows_of ys ++ e.content ∷ []) ++ e.rest ∷ []) (rows_of left)
    (fills_more same_row c.args.book.now m a (rows_of ys ++ e.content ∷ []) (e.rest ∷ []) false
    (fills_more same_row c.args.book.now c.loop-sides.book m (rows_of ys) (e.content ∷ []) true c.loop-sides.invariant.fills c.in_ok-put.ensures)
    c.in_err-put-2.ensures)))

pub returns : goal.returns
returns c =
    let ys = c.loop-sides.yielded in
    let all = sym (append-nil ys) ∙ ap (λ l. ys ++ l) (sym c.in-None.ensures.steps.0) ∙ c.loop-sides.invariant.rest in
    let is = ap left_of c.into_iter-sides-iterator.ensures.into_iter_gives ∙ c.either_ors-sides-items.ensures in
    fills_as same_row c.args.book.now c.loop-sides.book _ _ true
    (ap rows_of all ∙ name_rows c.args.self.now c.args.row.now c.args.t c.into_iter-sides-iterator.result c.in-Some.pairs.items is c.in-Some.ensures.all)
    c.loop-sides.invariant.fills
