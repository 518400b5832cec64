use Rattle.std.proofs.Common.{sym, ap, ◌∙◌}
use Rattle.std.specs.List.{position}
use Rattle.theory.specs.Inequality.{same_pair}
use Rattle.sides.proofs.Gathering.{gather_old, gather_push, gather_unless, gather_when}
use Rattle.sides.proofs.setting.Setting.enter_pair.Goals as goal

pub returns-then-not-get : goal.returns-then-not-get
returns-then-not-get g c = gather_unless _ _ _ (sym c.get.ensures ∙ c.if-not-get.true)

pub returns-in-Some : goal.returns-in-Some
returns-in-Some g c = gather_when _ _ _ _ _ (sym c.get.ensures ∙ c.if-not-get.false)
    (gather_old c.args.pairs.now.items (c.args.derivative.1, c.args.derivative.2) c.in-Some.field-0
    (sym c.in-Some.is ∙ c.find.ensures ∙ ap (position (same_pair (c.args.derivative.1, c.args.derivative.2))) c.deref.ensures.0))

pub returns-in-None : goal.returns-in-None
returns-in-None g c = gather_when _ _ _ _ _ (sym c.get.ensures ∙ c.if-not-get.false)
    (gather_push c.args.pairs.now c.try_push.new.self (c.args.derivative.1, c.args.derivative.2) c.try_push.result
    (sym c.in-None.is ∙ c.find.ensures ∙ ap (position (same_pair (c.args.derivative.1, c.args.derivative.2))) c.deref.ensures.0)
    c.try_push.ensures.ok c.try_push.ensures.err c.try_push.ensures.variant c.try_push.ensures.full)
