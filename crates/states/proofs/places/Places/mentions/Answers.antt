use Rattle.std.proofs.Common.{◌+◌, [], vec_items, sym, subst}
use Rattle.expressions.proofs.Fine.{grows_same}
use Rattle.states.specs.Read.{StandFor, mentions}
use Rattle.states.proofs.Reading.{stand_none, next_mention}
use Rattle.states.proofs.places.Places.mentions.Goals as goal

pub loop-k-init : goal.loop-k-init
loop-k-init c =
    let nodes = vec_items c.args.self.now.nodes in
    record {
      nodes = grows_same nodes;
      value = subst (λ l. StandFor nodes l []) (sym c.new-mentions.ensures.items) (stand_none nodes c.args.self.now.fine);
    }

pub loop-k-preserved : goal.loop-k-preserved
loop-k-preserved c =
    let next = next_mention (vec_items c.args.self.now.nodes) (vec_items c.loop-k.self.nodes) (vec_items c.enter.new.self.nodes)
    (vec_items c.loop-k.mentions) c.loop-k.k c.in_ok-number.number
    c.loop-k.invariant.nodes c.loop-k.invariant.value c.in_ok-number.ensures.number in
    record {
      nodes = next.0;
      value = subst (λ l. StandFor (vec_items c.enter.new.self.nodes) l (mentions (c.loop-k.k + 1)))
          (sym c.in_ok-push.ensures.items) next.1;
    }
