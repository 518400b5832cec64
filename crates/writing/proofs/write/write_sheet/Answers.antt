use Rattle.std.proofs.Common.{◌≡◌, ◌≤◌, ◌++◌, length, drop, sym, ap, ◌∙◌, arith}
use Rattle.writing.specs.Texts.{sheet_text}
use Rattle.writing.proofs.Laid.{laid_front}
use Rattle.writing.proofs.Bounded.{sheet_short}
use Rattle.writing.proofs.write.write_sheet.Goals as goal

pub returns-clause-out : goal.returns-clause-out
returns-clause-out c =
    let text = sheet_text c.args.sheet c.args.rows.now c.args.items.now in
    let out = c.args.out.now in
    let small = sheet_short c.args.bounds.rules c.args.bounds.states c.args.bounds.names.now c.args.sheet c.args.rows.now c.args.items.now (sym c.in_ok-check.ensures) in
    let n : c.put-length.result ≡ length text = omega (arith, c.put-length.ensures.length, small) in
    let le : length text ≤ length out = omega (arith, c.if-length-out.false) in
    c.put.ensures.bytes ∙ laid_front text out le ∙ ap (λ k. text ++ drop k out) (sym n)
