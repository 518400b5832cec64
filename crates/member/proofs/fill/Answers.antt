use Rattle.std.proofs.Common.{◌+◌, ◌<◌, List, length, get_or, take, ◌∙◌, ap₂, arith}
use Rattle.std.proofs.lemmas.List.{length-set}
use Rattle.model.specs.declared.rows.Item.{Item}
use Rattle.model.specs.Blank.{blank_item}
use Rattle.theory.specs.Machine.{Machine}
use Rattle.meaning.specs.Tables.{gather, takes, item_set}
use Rattle.sides.specs.View.{seen}
use Rattle.member.proofs.Filling.{filled_at, filling_more}
use Rattle.member.proofs.fill.Goals as goal

pub loop-k-preserved : goal.loop-k-preserved
unfolding item_set
loop-k-preserved c =
    let m : Machine = seen c.args.setting.now in
    let i : Item = get_or c.args.items.now c.loop-k.k blank_item in
    let done : List Item = take c.loop-k.k c.args.items.now in
    let inside = filled_at m c.loop-k.sets done (c.loop-k.k + 1) i.child c.set_of-inside.result.bits c.loop-k.invariant c.set_of-inside.ensures in
    let following = filled_at m c.loop-k.sets done (c.loop-k.k + 1) i.next c.set_of-following.result.bits c.loop-k.invariant c.set_of-following.ensures in
    let room : length c.args.items.now < length c.loop-k.sets = omega (arith, length-set c.args.sets.now 0 c.empty_set.result) in
    filling_more m c.loop-k.sets c.args.items.now c.loop-k.k c.item_set.result c.loop-k-test.true room c.loop-k.invariant
    (c.item_set.ensures ∙ ap₂ (λ a b. gather (length m.states) (takes m i.name a b)) inside following)
