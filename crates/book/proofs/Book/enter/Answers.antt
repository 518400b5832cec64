use Rattle.std.proofs.Common.{sym, ap, ◌∙◌, arith}
use Rattle.std.specs.List.{position}
use Rattle.std.proofs.lemmas.List.{length-take-le}
use Rattle.book.specs.Feeding.{holds, room}
use Rattle.book.proofs.Enter.{old_number, old_held, full_number, new_number, new_held}
use Rattle.book.proofs.Book.enter.Goals as goal

pub returns-in-Some-clause-number : goal.returns-in-Some-clause-number
returns-in-Some-clause-number g c = old_number g.T.PartialEq.eq (room c.args.self.now) (holds c.args.self.now) c.args.x c.in-Some.place
    (omega (arith, length-take-le c.args.self.now.count c.args.self.now.records.now c.args.self.now.within, c.args.self.now.within))
    (sym c.in-Some.is ∙ c.find.ensures ∙ ap (position (g.T.PartialEq.eq c.args.x)) c.records.ensures)

pub returns-in-Some-clause-held : goal.returns-in-Some-clause-held
returns-in-Some-clause-held g c = old_held g.T.PartialEq.eq (room c.args.self.now) (holds c.args.self.now) c.args.x c.in-Some.place
    (omega (arith, length-take-le c.args.self.now.count c.args.self.now.records.now c.args.self.now.within, c.args.self.now.within))
    (sym c.in-Some.is ∙ c.find.ensures ∙ ap (position (g.T.PartialEq.eq c.args.x)) c.records.ensures)

pub returns-then-self-clause-number : goal.returns-then-self-clause-number
returns-then-self-clause-number g c = full_number g.T.PartialEq.eq (room c.args.self.now) (holds c.args.self.now) c.args.x
    (omega (arith, length-take-le c.args.self.now.count c.args.self.now.records.now c.args.self.now.within))
    (sym c.in_default.is ∙ c.find.ensures ∙ ap (position (g.T.PartialEq.eq c.args.x)) c.records.ensures)

pub returns-clause-number : goal.returns-clause-number
returns-clause-number g c = new_number g.T.PartialEq.eq (room c.args.self.now) (holds c.args.self.now) c.args.x c.args.self.now.count
    (sym (length-take-le c.args.self.now.count c.args.self.now.records.now c.args.self.now.within))
    (omega (arith, c.args.self.now.within))
    (sym c.in_default.is ∙ c.find.ensures ∙ ap (position (g.T.PartialEq.eq c.args.x)) c.records.ensures)

pub returns-clause-held : goal.returns-clause-held
returns-clause-held g c = new_held g.T.PartialEq.eq c.args.self.now.records.now c.args.self.now.count c.args.x
    (omega (arith, c.args.self.now.within))
    (sym c.in_default.is ∙ c.find.ensures ∙ ap (position (g.T.PartialEq.eq c.args.x)) c.records.ensures)
