use Rattle.std.proofs.Common.{◌≡◌, ◌<◌, ◌≤◌, not, length, get_or, vec_items, sym, ap, ◌∙◌, refl, subst, arith}
use Rattle.std.proofs.lemmas.List.{get_or_default}
use Rattle.expressions.specs.Numbers.{body_at}
use Rattle.states.specs.declared.grammar.Rules.{Rules}
use Rattle.states.specs.declared.recursion.Ways.{Ways}
use Rattle.states.specs.Test.{no_ways, ways_from, Filled}
use Rattle.states.proofs.Tests.{filled_none, filled_more, filled_same, same_ways, table_tells}
use Rattle.states.proofs.nullable.Expressions.is_lawful.Goals as goal

pub loop-init : goal.loop-init
loop-init c =
    let nodes = vec_items c.args.self.now.nodes in
    let bodies = vec_items c.args.self.now.rules.bodies in
    record {
      count = c.new-table.ensures.len;
      nodes = refl;
      rules = refl;
      filled = subst (Filled nodes bodies c.args.k) (sym c.new-table.ensures.items) (filled_none nodes bodies c.args.k);
    }

pub next_ways-ways-requires : goal.next_ways-ways-requires
next_ways-ways-requires c =
    let old = c.args.self.now in
    let inv = c.loop.invariant in
    let same = c.as_slice.ensures.value in
    let few : c.loop.counter < length (vec_items c.args.self.now.nodes) = (let ok = c.args.self.now.nodes.ok.0 in omega arith) in
    let long : length c.as_slice.result.now ≡ c.loop.counter = (let ok = c.loop.table.ok.0 in let count = inv.count in omega (arith, ap length same)) in
    record {
      next = subst (λ l. length c.as_slice.result.now < length l) (ap (λ v. vec_items v) (sym inv.nodes)) (omega arith);
      filled = filled_same old c.loop.self c.args.k c.as_slice.result.now inv.nodes inv.rules
          (subst (Filled (vec_items old.nodes) (vec_items old.rules.bodies) c.args.k) (sym same) inv.filled);
    }

pub loop-preserved : goal.loop-preserved
loop-preserved c =
    let old = c.args.self.now in
    let nodes = vec_items old.nodes in
    let bodies = vec_items old.rules.bodies in
    let inv = c.loop.invariant in
    let w = c.next_ways-ways.result in
    let table = vec_items c.loop.table in
    let next : w ≡ ways_from nodes bodies c.args.k (length table) =
    c.next_ways-ways.ensures.value ∙ same_ways old c.loop.self c.args.k (length c.as_slice.result.now) inv.nodes inv.rules
    ∙ ap (λ l. ways_from nodes bodies c.args.k (length l)) c.as_slice.ensures.value in
    let longer = c.in_ok-push.ensures.len in
    let count = inv.count in
    record {
      count = omega arith;
      nodes = c.next_ways-ways.ensures.kept.nodes ∙ inv.nodes;
      rules = c.next_ways-ways.ensures.kept.rules ∙ inv.rules;
      filled = subst (Filled nodes bodies c.args.k) (sym c.in_ok-push.ensures.items) (filled_more nodes bodies c.args.k table w inv.filled next);
    }

pub returns-clause-value : goal.returns-clause-value
returns-clause-value c =
    let old = c.args.self.now in
    let bodies = vec_items old.rules.bodies in
    let inv = c.loop.invariant in
    let table = vec_items c.loop.table in
    let whole : length (vec_items c.args.self.now.nodes) ≤ length table =
    (let count = inv.count in let ok = c.loop.table.ok.0 in let own = c.args.self.now.nodes.ok.0 in omega arith) in
    let ok_bodies = old.rules.bodies.ok.0 in
    let within : c.args.k < length (vec_items c.args.self.now.rules.bodies) = omega arith in
    let at : c.index-body.result.now ≡ body_at bodies c.args.k =
    c.index-body.ensures ∙ ap (λ (u : Rules). get_or (vec_items u.bodies) c.args.k c.index-body.result.now) inv.rules
    ∙ get_or_default bodies c.args.k c.index-body.result.now 512 within in
    let read : c.at.result ≡ get_or table (body_at bodies c.args.k) no_ways =
    c.at.ensures ∙ ap (λ l. get_or l c.index-body.result.now no_ways) c.as_slice-2.ensures.value ∙ ap (λ i. get_or table i no_ways) at in
    ap (λ (w : Ways). not w.free) read
    ∙ table_tells (vec_items old.nodes) bodies c.args.k table old.fine.0 whole inv.filled
