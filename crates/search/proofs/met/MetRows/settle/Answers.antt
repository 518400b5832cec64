use Rattle.sides.specs.View.{seen}
use Rattle.marking.proofs.Turns.{settle_start}
use Rattle.search.proofs.met.MetRows.settle.Goals as goal

pub loop-marks-init : goal.loop-marks-init
loop-marks-init c =
    settle_start (seen c.args.self.now.setting.now) c.args.self.now.rows.now c.args.marks.now c.begin.new.marks c.args.items.now
    c.requires.some c.requires.roomy c.begin.auto.marks c.begin.ensures
