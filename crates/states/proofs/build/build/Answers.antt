use Rattle.std.proofs.Common.{length, Some, vec_items, vec_len, sym, ap, ◌∙◌, subst, arith}
use Rattle.theory.specs.Tree.{body_of}
use Rattle.expressions.specs.Fine.{Below}
use Rattle.expressions.proofs.Standing.{mention_count, mentions_separate}
use Rattle.states.specs.declared.nullable.Expressions.{Expressions}
use Rattle.states.specs.Test.{FirstUnlawful}
use Rattle.states.proofs.Building.{first_read, told_first, told_all, built}
use Rattle.states.proofs.build.build.Goals as goal

pub returns-in-Some : goal.returns-in-Some
returns-in-Some c =
    let g = c.in_ok-nodes.field-0 in
    let e = c.in_ok-expressions.expressions in
    let read = c.in_ok-nodes.ensures in
    let same = c.in_ok-expressions.ensures in
    told_first c.args.nodes.now c.args.bodies.now (vec_items g.rules.bodies) (vec_len g.rules.bodies) c.in-Some.k (vec_items g.nodes) read.count read.bodies
    (first_read g e (Some c.in-Some.k) same.0 same.1
    (subst (FirstUnlawful (body_of (vec_items e.nodes) (vec_items e.rules.bodies)) (vec_len e.rules.bodies)) c.in-Some.is c.in_ok-k.ensures.value))

pub states_of-requires : goal.states_of-requires
states_of-requires c =
    let g = c.in_ok-nodes.field-0 in
    let read = c.in_ok-nodes.ensures in
    let nodes = vec_items g.nodes in
    let first = vec_items g.mentions in
    let named = mention_count nodes first (length c.args.bodies.now) read.mentions_are in
    let same = ap (λ (e : Expressions). vec_items e.nodes) c.in_ok-work.ensures
    ∙ ap (λ v. vec_items v) (c.first_unlawful.ensures.kept.nodes ∙ c.in_ok-expressions.ensures.0) in (
      mentions_separate nodes first (length c.args.bodies.now) read.mentions_are,
      omega arith,
      subst (λ l. Below (length l) first) (sym same) read.mentions_in,
    )

pub returns : goal.returns
returns c =
    let g = c.in_ok-nodes.field-0 in
    let e = c.in_ok-expressions.expressions in
    let w = c.in_ok-work.work in
    let read = c.in_ok-nodes.ensures in
    let same = c.in_ok-expressions.ensures in
    let lawful = told_all c.args.nodes.now c.args.bodies.now (vec_items g.rules.bodies) (vec_len g.rules.bodies) (vec_items g.nodes) c.in_ok-k.field-0 read.count read.bodies c.in_default.is
    (first_read g e c.in_ok-k.field-0 same.0 same.1 c.in_ok-k.ensures.value) in
    let done = c.in_ok-machine.ensures in
    built c.args.nodes.now c.args.bodies.now g w _ _ c.in_ok-machine.machine read lawful
    (ap (λ (x : Expressions). x.nodes) c.in_ok-work.ensures ∙ c.first_unlawful.ensures.kept.nodes ∙ same.0)
    (ap (λ (x : Expressions). x.rules) c.in_ok-work.ensures ∙ c.first_unlawful.ensures.kept.rules ∙ same.1)
    done.so_far done.count
