use Rattle.std.proofs.Common.{◌+◌, ◌≤◌, [], map, length, get_or, take, vec_items, sym, refl, ap, ◌∙◌, subst, arith}
use Rattle.std.proofs.lemmas.List.{take_all}
use Rattle.theory.specs.Language.{none}
use Rattle.expressions.specs.Fine.{shown}
use Rattle.expressions.proofs.Fine.{grows_same}
use Rattle.states.specs.Read.{StandFor}
use Rattle.states.proofs.Reading.{stand_none, next_body, same_places}
use Rattle.states.proofs.places.Places.bodies.Goals as goal

pub loop-body-init : goal.loop-body-init
loop-body-init c =
    let nodes = vec_items c.args.self.now.nodes in
    record {
      count = c.new-bodies.ensures.len;
      places = refl;
      nodes = grows_same nodes;
      value = subst (λ l. StandFor nodes l []) (sym c.new-bodies.ensures.items) (stand_none nodes c.args.self.now.fine);
    }

pub loop-body-preserved : goal.loop-body-preserved
loop-body-preserved c =
    let p = c.args.self.now in
    let old = c.loop-body.self in
    let new = c.placed.new.self in
    let file = c.args.file.now in
    let k = c.loop-body.body-index in
    let inv = c.loop-body.invariant in
    let count = inv.count in
    let longer = c.in_ok-push.ensures.len in
    let next = next_body (vec_items p.nodes) (vec_items old.nodes) (vec_items new.nodes) (vec_items p.places) (vec_items c.loop-body.bodies) file k c.in_ok-number.number
    c.loop-body-test.true p.below inv.nodes inv.value
    (same_places p old new (get_or file k 0) c.in_ok-number.number inv.places c.in_ok-number.ensures.number) in
    record {
      count = omega arith;
      places = c.placed.ensures.places ∙ inv.places;
      nodes = next.0;
      value = subst (λ l. StandFor (vec_items new.nodes) l (map (λ n. get_or (shown (vec_items p.nodes) (vec_items p.places)) n none) (take (k + 1) file)))
          (sym c.in_ok-push.ensures.items) next.1;
    }

pub returns : goal.returns
returns c =
    let p = c.args.self.now in
    let past : length c.args.file.now ≤ c.loop-body.body-index = omega arith in
    let all = take_all c.loop-body.body-index c.args.file.now past in
    let count = c.loop-body.invariant.count in
    record {
      count = omega arith;
      nodes = c.loop-body.invariant.nodes;
      value = subst (StandFor (vec_items c.loop-body.self.nodes) (vec_items c.loop-body.bodies))
          (ap (map (λ n. get_or (shown (vec_items p.nodes) (vec_items p.places)) n none)) all) c.loop-body.invariant.value;
    }
