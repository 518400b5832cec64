use Rattle.std.proofs.Common.{◌<◌, ◌≤◌, true, false, sym, arith}
use Rattle.theory.specs.Inequality.{same_row, of_name}
use Rattle.theory.specs.Meeting.{sides_of}
use Rattle.book.proofs.Feeding.{fills_as, fills_turn, fills_stop, fills_end}
use Rattle.sides.specs.View.{seen, names_of}
use Rattle.sides.proofs.Failing.{fills_err}
use Rattle.sides.proofs.Sided.{sides_are}
use Rattle.sides.proofs.setting.Setting.enter_sides.Goals as goal

pub loop-t-preserved : goal.loop-t-preserved
loop-t-preserved c =
    let m = seen c.args.self.now in
    fills_turn same_row c.args.book.now c.loop-t.book c.enter_name.new.book (λ t. sides_of (of_name m c.args.row.now t)) c.loop-t.t
    c.loop-t.invariant c.in_ok-enter_name.ensures

pub returns-in_err-enter_name : goal.returns-in_err-enter_name
returns-in_err-enter_name c =
    let m = seen c.args.self.now in
    let lt : c.loop-t.t < names_of c.args.self.now.covers.now = omega (arith, c.names-t-end.ensures) in
    fills_err c.args.book.now c.enter_name.new.book _ c.from_residual.result c.from_residual.ensures.0
    (fills_as same_row c.args.book.now c.enter_name.new.book _ _ false (sym (sides_are m c.args.row.now))
    (fills_stop same_row c.args.book.now c.loop-t.book c.enter_name.new.book (λ t. sides_of (of_name m c.args.row.now t)) c.loop-t.t m.names lt
    c.loop-t.invariant c.in_err-enter_name.ensures))

pub returns : goal.returns
returns c =
    let m = seen c.args.self.now in
    let le : c.loop-t.t ≤ m.names = omega (arith, c.names-t-end.ensures) in
    let ge : m.names ≤ c.loop-t.t = omega (arith, c.names-t-end.ensures) in
    fills_as same_row c.args.book.now c.loop-t.book _ _ true (sym (sides_are m c.args.row.now))
    (fills_end same_row c.args.book.now c.loop-t.book (λ t. sides_of (of_name m c.args.row.now t)) c.loop-t.t m.names le ge c.loop-t.invariant)
