use Rattle.std.proofs.Common.{◌^◌, [], ◌∷◌, ◌++◌, length, sym, ap, ◌∙◌, append-nil, append_assoc}
use Rattle.theory.specs.Inequality.{pairs, derivative, derivative_count}
use Rattle.sides.specs.View.{seen}
use Rattle.marking.specs.Refutes.{first, of_subset}
use Rattle.marking.proofs.First.{first_unless}
use Rattle.sides.specs.Left.{left_of}
use Rattle.search.proofs.Finding.{item_at, found, found_more, found_at, name_found}
use Rattle.search.proofs.met.MetRows.of_name.Goals as goal

pub returns-in_err-pairs : goal.returns-in_err-pairs
returns-in_err-pairs c =
    let m = seen c.args.self.now.setting.now in
    let ps = pairs m c.args.t c.args.row.now.right.bits in
    c.from_residual.ensures
    ∙ sym (first_unless (derivative_count m c.args.row.now.left) (λ i. m.covers (derivative m c.args.row.now.left i).0 c.args.t)
    (λ i. first (2 ^ length ps) (of_subset c.args.self.now.rows.now c.args.marks.now c.args.t (derivative m c.args.row.now.left i) ps))
    (sym (c.in_err-pairs.ensures.some c.requires.narrow c.requires.name)))

pub loop-sides-preserved : goal.loop-sides-preserved
loop-sides-preserved c =
    let ys = c.loop-sides.yielded in
    let e = c.in-Some.sides in
    record {
      none = found_more (item_at c.args.self.now.rows.now c.args.marks.now c.args.t) ys e c.loop-sides.invariant.none (sym c.item_of.ensures ∙ c.in_default.is);
      rest = append_assoc ys (e ∷ []) (left_of c.next.new.self) ∙ ap (λ l. ys ++ l) (sym c.in-Some.ensures.steps) ∙ c.loop-sides.invariant.rest;
    }

pub returns-in-Some-item_of : goal.returns-in-Some-item_of
returns-in-Some-item_of c =
    let ys = c.loop-sides.yielded in
    let w = c.into_iter-sides-iterator.result in
    let f = item_at c.args.self.now.rows.now c.args.marks.now c.args.t in
    let all = ap (λ l. ys ++ l) (sym c.in-Some.ensures.steps) ∙ c.loop-sides.invariant.rest in
    let is = ap left_of c.into_iter-sides-iterator.ensures.into_iter_gives ∙ c.either_ors-sides-items.ensures in
    sym (found_at f ys c.in-Some.sides (left_of c.next.new.self) c.in-Some-item_of.item c.loop-sides.invariant.none (sym c.item_of.ensures ∙ c.in-Some-item_of.is))
    ∙ ap (found f) all
    ∙ name_found c.args.self.now.setting.now c.args.self.now.rows.now c.args.marks.now c.args.row.now c.args.t w c.in_ok-pairs.pairs.items is c.in_ok-pairs.ensures.all

pub returns : goal.returns
returns c =
    let ys = c.loop-sides.yielded in
    let w = c.into_iter-sides-iterator.result in
    let f = item_at c.args.self.now.rows.now c.args.marks.now c.args.t in
    let all = sym (append-nil ys) ∙ ap (λ l. ys ++ l) (sym c.in-None.ensures.steps.0) ∙ c.loop-sides.invariant.rest in
    let is = ap left_of c.into_iter-sides-iterator.ensures.into_iter_gives ∙ c.either_ors-sides-items.ensures in
    sym c.loop-sides.invariant.none ∙ ap (found f) all
    ∙ name_found c.args.self.now.setting.now c.args.self.now.rows.now c.args.marks.now c.args.row.now c.args.t w c.in_ok-pairs.pairs.items is c.in_ok-pairs.ensures.all
