use Rattle.std.proofs.Common.{vec_items}
use Rattle.model.specs.declared.nodes.Node.TheVariants.{Seq}
use Rattle.expressions.proofs.Fine.{grows_same}
use Rattle.states.proofs.Reading.{entered_fine}
use Rattle.states.proofs.Joins.{within_stays, blank_stays, sound_stays, joined_same, joined_new}
use Rattle.states.proofs.nullable.Expressions.joined.Goals as goal

pub returns-then-rest-self-clause-nodes : goal.returns-then-rest-self-clause-nodes
returns-then-rest-self-clause-nodes c = grows_same (vec_items c.args.self.now.nodes)

pub returns-then-rest-self-clause-value : goal.returns-then-rest-self-clause-value
returns-then-rest-self-clause-value c =
    let e = c.args.self.now in
    joined_same (vec_items e.nodes) e.rules.empty c.args.rest c.args.s e.fine e.blank c.requires.s c.if-rest-self.true

pub invariant_of-self : goal.invariant_of-self
invariant_of-self c =
    let e = c.args.self.now in
    let after = vec_items c.enter.new.records in
    let held = entered_fine (vec_items e.nodes) after (Seq c.args.rest c.args.s) c.enter.result e.fine (c.requires.rest, c.requires.s) c.enter.ensures in
    record { fine = held.0; within = within_stays e after held.1; blank = blank_stays e after held.1; sound = sound_stays e after held.1 }

pub returns-clause-nodes : goal.returns-clause-nodes
returns-clause-nodes c =
    let e = c.args.self.now in
    (entered_fine (vec_items e.nodes) (vec_items c.enter.new.records) (Seq c.args.rest c.args.s) c.enter.result e.fine (c.requires.rest, c.requires.s) c.enter.ensures).1

pub returns-clause-value : goal.returns-clause-value
returns-clause-value c =
    let e = c.args.self.now in
    joined_new (vec_items e.nodes) (vec_items c.enter.new.records) e.rules.empty c.args.rest c.args.s c.enter.result
    e.fine e.blank c.requires.rest c.requires.s c.if-rest-self.false c.enter.ensures
