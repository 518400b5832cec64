use Rattle.std.proofs.Common.{vec_items}
use Rattle.states.proofs.Reading.{entered_fine, enter_made, places_stay}
use Rattle.states.proofs.places.Places.enter.Goals as goal

pub invariant_of-self : goal.invariant_of-self
invariant_of-self c =
    let p = c.args.self.now in
    let after = vec_items c.enter.new.records in
    let held = entered_fine (vec_items p.nodes) after c.args.node c.enter.result p.fine c.requires c.enter.ensures in
    record { fine = held.0; below = places_stay p after held.1 }

pub returns-clause-number : goal.returns-clause-number
returns-clause-number c =
    let p = c.args.self.now in
    enter_made (vec_items p.nodes) (vec_items c.enter.new.records) c.args.node c.enter.result p.fine c.requires c.enter.ensures
