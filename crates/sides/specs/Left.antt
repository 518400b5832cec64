-- What a walk over either-ors has left.
use Rattle.std.specs.Prelude.{List}
use Rattle.sides.specs.declared.either.EitherOr.{EitherOr}
use Rattle.sides.specs.declared.ors.EitherOrs.{EitherOrs}
use Rattle.sides.specs.View.{covers_of}
use Rattle.sides.specs.Ors.{ors}

abbrev pub left_of : EitherOrs → List EitherOr
left_of w = ors (covers_of w.covers.now) w.t w.pairs.now w.derivatives.now w.subset
