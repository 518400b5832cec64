use Rattle.std.proofs.Common.{rules}
use Rattle.expressions.specs.Derived.{part}
use Rattle.states.proofs.derive.Span.of.Goals as goal

pub returns : goal.returns
unfolding part
returns c = search rules
