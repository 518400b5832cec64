-- What does not change while questions are asked of expressions.
use Rattle.std.specs.Prelude.{◌≡◌}
use Rattle.states.specs.declared.nullable.Expressions.{Expressions}

-- book and rules are as they were
pub record SameBook (before after : Expressions) : Type 0 where
  pub nodes : after.nodes ≡ before.nodes
  pub rules : after.rules ≡ before.rules
