use Rattle.std.proofs.Common.{◌≡◌, ◌+◌, min, ◌∷◌, length, drop, sym, ap, ◌∙◌}
use Rattle.std.proofs.lemmas.List.{take_rest}
use Rattle.text.specs.Pieces.{before, lines}
use Rattle.text.proofs.Cuts.{lines_step}
use Rattle.text.proofs.reader.Reader.next_line.Goals as goal

pub returns-clause-given : goal.returns-clause-given
returns-clause-given c =
    let xs = c.args.self.now.text.now in
    let i = c.args.self.now.at in
    let front : c.cut.result.0.now ≡ before 10 (drop i xs) = c.cut.ensures.front ∙ ap (before 10) (take_rest xs i) in
    let next : c.min-self.result ≡ min (i + length (before 10 (drop i xs)) + 1) (length xs) =
    c.min-self.ensures ∙ ap (λ p. min (i + length p + 1) (length xs)) front in
    lines_step xs i c.if-self.false
    ∙ ap (λ p. p ∷ lines (drop (min (i + length (before 10 (drop i xs)) + 1) (length xs)) xs)) (sym (c.new.ensures.bytes ∙ front))
    ∙ ap (λ n. c.new.result.bytes.now ∷ lines (drop n xs)) (sym next)
