use Rattle.std.proofs.Common.{◌≤◌, length, sym, ◌∙◌, arith}
use Rattle.gaps.proofs.Linked.{chain_head, chain_link, link_falls}
use Rattle.gaps.proofs.grounds.Grounds.has_row.Goals as goal

pub loop-next-init : goal.loop-next-init
loop-next-init c =
    let few : length c.args.self.now.rows.now ≤ 512 = omega arith in
    chain_head c.args.side.now c.args.self.now.rows.now c.args.self.now.heads c.slot.result
    c.slot.ensures.value c.slot.ensures.below (c.args.self.now.headed few)

pub loop-next-smaller : goal.loop-next-smaller
loop-next-smaller c =
    let few : length c.args.self.now.rows.now ≤ 512 = omega arith in
    link_falls c.args.side.now c.args.self.now.rows.now c.args.self.now.links c.loop-next.next c.in-Some.number c.in-Some.is
    c.loop-next.invariant (c.args.self.now.linked few)

pub loop-next-preserved : goal.loop-next-preserved
loop-next-preserved c =
    let few : length c.args.self.now.rows.now ≤ 512 = omega arith in
    chain_link c.args.side.now c.args.self.now.rows.now c.args.self.now.links c.loop-next.next c.in-Some.number c.in-Some.is
    c.loop-next.invariant (c.args.self.now.linked few) (sym c.eq.ensures ∙ c.if-eq.false)
