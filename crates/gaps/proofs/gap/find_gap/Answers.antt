use Rattle.std.proofs.Common.{◌≡◌, ◌<◌, Bool, length, is_some, sym, refl, ap, ◌∙◌, arith}
use Rattle.model.specs.declared.rows.Row.{Row}
use Rattle.theory.specs.Machine.{Machine}
use Rattle.theory.specs.Inequality.{derivative_count}
use Rattle.sides.specs.View.{seen}
use Rattle.gaps.specs.Grounds.{shown_on}
use Rattle.gaps.specs.Gaps.{subset_count, subset_gap, derivative_gap, name_gap}
use Rattle.gaps.proofs.First.{first_more}
use Rattle.gaps.proofs.Gaps.{known_pairs, subset_none, subset_some, counted, derivative_none, name_none, name_unlabelled, gap_none, gap_found}
use Rattle.gaps.proofs.Exact.{gap_exact}
use Rattle.gaps.proofs.gap.find_gap.Goals as goal

pub loop-subset-preserved : goal.loop-subset-preserved
loop-subset-preserved c =
    let m : Machine = seen c.args.setting.now in
    let S : Row → Bool = shown_on c.args.grounds.now in
    let r : Row = c.args.row.now in
    let looked = known_pairs m c.loop-name.name r.right.bits c.first_pairs-pairs.ensures c.deref.ensures.0 in
    first_more (subset_gap m S r c.loop-name.name c.loop-i.i) c.loop-subset.subset c.loop-subset.invariant
    (subset_none m S r c.loop-name.name c.loop-i.i c.loop-subset.subset _ _ _ c.derivatives-derivatives.ensures looked c.is_unshown.ensures c.if-is_unshown.false)

pub loop-i-preserved : goal.loop-i-preserved
loop-i-preserved c =
    let m : Machine = seen c.args.setting.now in
    let S : Row → Bool = shown_on c.args.grounds.now in
    let r : Row = c.args.row.now in
    let looked = known_pairs m c.loop-name.name r.right.bits c.first_pairs-pairs.ensures refl in
    let number = counted m r c.loop-name.name c.loop-i.i _ _ _ c.derivatives-derivatives.ensures (c.len.ensures.value ∙ ap length looked) c.subsets-subset-end.ensures in
    let all : c.loop-subset.subset ≡ c.subsets-subset-end.result = omega arith in
    first_more (derivative_gap m S r c.loop-name.name) c.loop-i.i c.loop-i.invariant
    (derivative_none m S r c.loop-name.name c.loop-i.i c.loop-subset.subset (all ∙ number) c.loop-subset.invariant)

pub loop-name-preserved : goal.loop-name-preserved
loop-name-preserved c =
    let m : Machine = seen c.args.setting.now in
    let S : Row → Bool = shown_on c.args.grounds.now in
    let r : Row = c.args.row.now in
    let all : c.loop-i.i ≡ length c.derivatives-derivatives.result.now = omega arith in
    first_more (name_gap m S r) c.loop-name.name c.loop-name.invariant
    (name_none m S r c.loop-name.name c.loop-i.i (all ∙ ap length c.derivatives-derivatives.ensures) c.loop-i.invariant)

pub loop-name-preserved-then-not-is_labelled : goal.loop-name-preserved-then-not-is_labelled
loop-name-preserved-then-not-is_labelled c =
    let m : Machine = seen c.args.setting.now in
    let S : Row → Bool = shown_on c.args.grounds.now in
    let r : Row = c.args.row.now in
    first_more (name_gap m S r) c.loop-name.name c.loop-name.invariant
    (name_unlabelled m S r c.loop-name.name (sym c.is_labelled.ensures ∙ c.if-not-is_labelled.true))

pub returns-then-is_unshown : goal.returns-then-is_unshown
returns-then-is_unshown c =
    let m : Machine = seen c.args.setting.now in
    let S : Row → Bool = shown_on c.args.grounds.now in
    let r : Row = c.args.row.now in
    let looked = known_pairs m c.loop-name.name r.right.bits c.first_pairs-pairs.ensures c.deref.ensures.0 in
    let number = counted m r c.loop-name.name c.loop-i.i _ _ _ c.derivatives-derivatives.ensures
    (c.len.ensures.value ∙ ap length (known_pairs m c.loop-name.name r.right.bits c.first_pairs-pairs.ensures refl)) c.subsets-subset-end.ensures in
    let lt_t : c.loop-name.name < m.names = omega (arith, c.names-name-end.ensures) in
    let lt_i : c.loop-i.i < derivative_count m r.left = omega (arith, ap length c.derivatives-derivatives.ensures) in
    let lt_k : c.loop-subset.subset < subset_count m r c.loop-name.name c.loop-i.i = omega (arith, number) in
    let found = sym (gap_found m S r c.loop-name.name c.loop-i.i c.loop-subset.subset lt_t c.loop-name.invariant lt_i c.loop-i.invariant lt_k c.loop-subset.invariant
    (subset_some m S r c.loop-name.name c.loop-i.i c.loop-subset.subset _ _ _ c.derivatives-derivatives.ensures looked c.is_unshown.ensures c.if-is_unshown.true)) in
    record { first = found; exact = λ narrow. ap is_some found ∙ gap_exact m S r narrow }

pub returns-after-loop-name : goal.returns-after-loop-name
returns-after-loop-name c =
    let m : Machine = seen c.args.setting.now in
    let S : Row → Bool = shown_on c.args.grounds.now in
    let r : Row = c.args.row.now in
    let all : c.loop-name.name ≡ c.names-name-end.result = omega arith in
    let found = sym (gap_none m S r c.loop-name.name (all ∙ c.names-name-end.ensures) c.loop-name.invariant) in
    record { first = found; exact = λ narrow. ap is_some found ∙ gap_exact m S r narrow }
