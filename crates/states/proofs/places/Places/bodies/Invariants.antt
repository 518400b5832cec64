use Rattle.std.proofs.Common.{◌≡◌, map, get_or, take, vec_items, vec_len}
use Rattle.theory.specs.Language.{none}
use Rattle.expressions.specs.Fine.{Grows, shown}
use Rattle.states.specs.Read.{StandFor}
use Rattle.states.proofs.places.Places.bodies.Given as goal

abbrev pub invariant-loop-body : goal.invariant-loop-body
invariant-loop-body l = record {
  count : vec_len l.bodies ≡ l.body-index;
  places : l.self.places ≡ l.initial.self.places;
  nodes : Grows (vec_items l.initial.self.nodes) (vec_items l.self.nodes);
  value : StandFor (vec_items l.self.nodes) (vec_items l.bodies)
      (map (λ c. get_or (shown (vec_items l.initial.self.nodes) (vec_items l.initial.self.places)) c none) (take l.body-index l.file));
}
