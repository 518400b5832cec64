use Rattle.std.proofs.Common.{◌+◌, ◌*◌}
use Rattle.compare.proofs.hedge.+show_hedge_show_rest.Given as goal

abbrev pub decreases-show_hedge : goal.decreases-show_hedge
decreases-show_hedge l = 2 * l.number + 1

abbrev pub decreases-show_rest : goal.decreases-show_rest
decreases-show_rest l = 2 * l.number
