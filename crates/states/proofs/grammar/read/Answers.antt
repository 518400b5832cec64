use Rattle.std.proofs.Common.{◌≡◌, map, get_or, vec_items, ap, ◌∙◌, arith}
use Rattle.theory.specs.Language.{none}
use Rattle.theory.specs.Tree.{trees}
use Rattle.expressions.specs.Fine.{shown}
use Rattle.expressions.proofs.Fine.{grows_on, grows_tree, grows_long, below_more}
use Rattle.expressions.proofs.Shown.{shown_grows, same_bodies}
use Rattle.states.proofs.grammar.read.Goals as goal

pub returns : goal.returns
returns c =
    let second = vec_items c.bodies.new.self.nodes in
    let third = vec_items c.enter.new.self.nodes in
    let nodes = vec_items c.mentions.new.self.nodes in
    let file = c.args.file.now in
    let rules = c.args.rules.now in
    let bodies = vec_items c.in_ok-bodies.bodies in
    let found = c.in_ok-bodies.ensures.value in
    let entered = c.in_ok-empty.ensures.number in
    let more = c.in_ok-mentions.ensures.nodes in
    let named = c.in_ok-mentions.ensures.value in
    let grown = grows_on second third nodes entered.1 more in
    let trees_of : shown nodes bodies ≡ map (λ n. get_or (trees file) n none) rules =
    shown_grows second nodes bodies grown found.1 ∙ found.2
    ∙ ap (λ l. map (λ n. get_or l n none) rules) c.in_ok-places.ensures in
    let long = grows_long third nodes more in
    let small = entered.2 in
    record {
      fine = named.0;
      within = below_more second nodes bodies grown found.1;
      count = c.in_ok-bodies.ensures.count;
      bodies = same_bodies file nodes rules bodies trees_of;
      empty_in = omega arith;
      empty_is = grows_tree third nodes c.in_ok-empty.empty more entered.2 ∙ entered.3;
      mentions_in = named.1;
      mentions_are = named.2;
    }
