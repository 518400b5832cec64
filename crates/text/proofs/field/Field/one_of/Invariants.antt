use Rattle.std.proofs.Common.{◌≡◌, map, drop}
use Rattle.text.specs.Fields.{view, one_of}
use Rattle.text.proofs.field.Field.one_of.Given as goal

abbrev pub invariant-loop-word : goal.invariant-loop-word
invariant-loop-word g l =
    one_of (view l.self) (map (λ w. (w.0.now, w.1)) (drop l.word-index l.words)) ≡ one_of (view l.self) (map (λ w. (w.0.now, w.1)) l.words)
