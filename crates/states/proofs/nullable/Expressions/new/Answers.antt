use Rattle.std.proofs.Common.{vec_items}
use Rattle.states.specs.Memo.{Says}
use Rattle.states.proofs.Memos.{notes_none}
use Rattle.states.proofs.nullable.Expressions.new.Goals as goal

pub invariant_of-result : goal.invariant_of-result
invariant_of-result c = record {
  fine = c.requires.fine;
  within = c.requires.within;
  blank = c.requires.blank;
  sound = notes_none (Says (vec_items c.args.nodes) (vec_items c.args.rules.bodies)) 16896 _ c.in_ok-nulls.ensures;
}
