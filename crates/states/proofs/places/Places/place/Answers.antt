use Rattle.std.proofs.Common.{length, vec_items}
use Rattle.states.proofs.Reading.{next_node, below_or_not}
use Rattle.states.proofs.places.Places.place.Goals as goal

pub enter-requires : goal.enter-requires
enter-requires c = c.in_ok-here.ensures.node.2

pub invariant_of-self : goal.invariant_of-self
invariant_of-self c =
    let new = c.enter.new.self in
    record {
      fine = new.fine;
      below = below_or_not (length (vec_items new.nodes)) (vec_items new.places) (vec_items c.push.new.self) c.in_ok-number.number _
          c.push.ensures.items new.below c.in_ok-number.ensures.number.2;
    }

pub returns : goal.returns
returns c =
    next_node c.args.self.now c.moved.new.self c.enter.new.self c.in_ok-here.here c.args.node c.in_ok-number.number (vec_items c.push.new.self)
    c.moved.ensures.places c.enter.ensures.places c.in_ok-here.ensures.node c.in_ok-number.ensures.number c.in_ok-push.ensures.items
