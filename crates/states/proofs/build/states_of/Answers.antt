use Rattle.std.proofs.Common.{◌≡◌, ◌+◌, ◌<◌, ◌≤◌, [], ◌∷◌, ◌++◌, map, length, get_or, vec_items, vec_len, sym, ap, ◌∙◌, subst, arith}
use Rattle.std.proofs.lemmas.List.{map_push, length-map}
use Rattle.model.specs.Machine.{plain, Plain}
use Rattle.expressions.specs.States.{total}
use Rattle.expressions.proofs.Shown.{below_at}
use Rattle.expressions.proofs.Fine.{grows_long}
use Rattle.expressions.proofs.Standing.{total_more}
use Rattle.states.specs.Derive.{nodes_of}
use Rattle.states.specs.Build.{SoFar}
use Rattle.std.specs.Option.{unwrap_or}
use Rattle.states.proofs.Gets.{within, past}
use Rattle.states.proofs.Building.{so_far_more, so_far_none}
use Rattle.states.proofs.build.states_of.Goals as goal

pub loop-node-init : goal.loop-node-init
loop-node-init c =
    let none_yet = ap (map plain) c.new-states.ensures.items in
    let len = c.new-states.ensures.len in
    record {
      total = sym (ap total none_yet);
      within = omega arith;
      so_far = so_far_none c.args.work.now (vec_items c.args.numbers.now) (map plain (vec_items c.new-states.result)) c.requires none_yet;
    }

pub state_of-requires : goal.state_of-requires
state_of-requires c =
    let numbers = vec_items c.loop-node.numbers in
    let own = c.loop-node.invariant.so_far.numbers in
    let n = c.in-Some.node in
    let same = c.deref.ensures.value in
    let e = sym c.in-Some.is ∙ c.copied.ensures in
    let inside = within c.get.result (length c.deref.result.now) c.len.result n _ c.get.ensures.lookup.3 e in
    let lt : c.len.result < length (vec_items c.loop-node.numbers) = omega (arith, ap length same) in
    let read : c.in-Some.node ≡ get_or numbers c.len.result n =
    ap (λ o. unwrap_or o n) e ∙ c.get.ensures.lookup.4 (omega arith) n ∙ ap (λ l. get_or l c.len.result n) same in
    record {
      numbers = own;
      node = subst (λ m. m < length (nodes_of c.loop-node.work)) (sym read) (below_at (length (nodes_of c.loop-node.work)) numbers c.len.result n own.2 lt);
    }

pub loop-node-preserved : goal.loop-node-preserved
loop-node-preserved c =
    let before = vec_items c.loop-node.numbers in
    let after = vec_items c.state_of.new.numbers in
    let states = map plain (vec_items c.loop-node.states) in
    let p : Plain = plain c.in_ok-state.state in
    let MadeSo = c.in_ok-state.ensures in
    let so_far = c.loop-node.invariant.so_far in
    let pushed : map plain (vec_items c.push.new.self) ≡ states ++ p ∷ [] =
    ap (map plain) c.in_ok-push.ensures.items ∙ map_push plain (vec_items c.loop-node.states) c.in_ok-state.state in
    let ok_states = c.loop-node.states.ok.0 in
    let ok_numbers = c.loop-node.numbers.ok.0 in
    let ok_after = c.state_of.new.numbers.ok.0 in
    let ok_ders = c.in_ok-state.state.derivatives.ok.0 in
    let count = length-map (vec_items c.loop-node.states) plain in
    let same = c.deref.ensures.value in
    let n = c.in-Some.node in
    let e = sym c.in-Some.is ∙ c.copied.ensures in
    let inside = within c.get.result (length c.deref.result.now) c.len.result n _ c.get.ensures.lookup.3 e in
    let lt : length (map plain (vec_items c.loop-node.states)) < length (vec_items c.loop-node.numbers) = omega (arith, ap length same) in
    let sum = c.loop-node.invariant.total in
    let few = so_far.few in
    let enough : total states + length p.derivatives ≤ 512 = omega arith in
    let long = grows_long before after MadeSo.extends in
    let longer = c.in_ok-push.ensures.len in
    let read : c.in-Some.node ≡ get_or before (length states) c.in-Some.node =
    ap (λ o. unwrap_or o n) e ∙ c.get.ensures.lookup.4 (omega arith) n ∙ ap (λ l. get_or l c.len.result n) same
    ∙ ap (λ k. get_or before k n) (omega arith) in
    record {
      total = (let t = total_more states p in let u = ap total pushed in omega arith);
      within = omega arith;
      so_far = subst (SoFar c.args.work.now c.state_of.new.work (vec_items c.args.numbers.now) after) (sym pushed)
          (so_far_more c.args.work.now c.loop-node.work c.state_of.new.work (vec_items c.args.numbers.now) before after states p
          c.in-Some.node so_far MadeSo.goes MadeSo.numbers MadeSo.extends lt read MadeSo.stated enough);
    }

pub returns : goal.returns
returns c =
    let inv = c.loop-node.invariant in
    let ok_states = c.loop-node.states.ok.0 in
    let ok_numbers = c.loop-node.numbers.ok.0 in
    let count = length-map (vec_items c.loop-node.states) plain in
    let few = inv.so_far.numbers.1 in
    let le = inv.within in
    let same = c.deref.ensures.value in
    let short = past c.get.result (length c.deref.result.now) c.len.result _ c.get.ensures.lookup.3 (sym c.in_default.is ∙ c.copied.ensures) in
    let whole : length (vec_items c.loop-node.numbers) ≤ vec_len c.loop-node.states = omega (arith, ap length same) in
    record { so_far = inv.so_far; count = omega arith }
