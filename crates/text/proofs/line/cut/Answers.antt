use Rattle.std.proofs.Common.{◌+◌, Some, sym, ap, ◌∙◌}
use Rattle.std.proofs.lemmas.List.{take_rest}
use Rattle.text.proofs.Cuts.{cut_found, cut_nowhere}
use Rattle.text.proofs.line.cut.Goals as goal

pub returns-in-Some-clause-front : goal.returns-in-Some-clause-front
returns-in-Some-clause-front c = (cut_found c.args.mark c.args.bytes.now c.in-Some.at (sym c.mark_at.ensures ∙ c.in-Some.is)).0

pub returns-in-Some-clause-back : goal.returns-in-Some-clause-back
returns-in-Some-clause-back c =
    ap Some (take_rest c.args.bytes.now (c.in-Some.at + 1)) ∙ sym (cut_found c.args.mark c.args.bytes.now c.in-Some.at (sym c.mark_at.ensures ∙ c.in-Some.is)).1

pub returns-in-None-clause-front : goal.returns-in-None-clause-front
returns-in-None-clause-front c = sym (cut_nowhere c.args.mark c.args.bytes.now (sym c.mark_at.ensures ∙ c.in-None.is)).0

pub returns-in-None-clause-back : goal.returns-in-None-clause-back
returns-in-None-clause-back c = sym (cut_nowhere c.args.mark c.args.bytes.now (sym c.mark_at.ensures ∙ c.in-None.is)).1
