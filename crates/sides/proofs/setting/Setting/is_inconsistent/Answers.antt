use Rattle.std.proofs.Common.{not, ◌&&◌, ap, ap₂, sym, ◌∙◌}
use Rattle.theory.specs.Inequality.{inconsistent, some_nullable}
use Rattle.sides.specs.View.{seen}
use Rattle.sides.proofs.setting.Setting.is_inconsistent.Goals as goal

pub returns-then-is_nullable : goal.returns-then-is_nullable
unfolding inconsistent
returns-then-is_nullable c = ap₂ ◌&&◌ (sym c.if-is_nullable.true ∙ c.is_nullable.ensures) (ap not c.has_nullable.ensures)

pub returns-else-is_nullable : goal.returns-else-is_nullable
unfolding inconsistent
returns-else-is_nullable c = c.if-is_nullable.false ∙ ap (λ b. b && not (some_nullable (seen c.args.self.now) c.args.row.now.right.bits)) (sym c.if-is_nullable.false ∙ c.is_nullable.ensures)
