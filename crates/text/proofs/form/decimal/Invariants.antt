use Rattle.std.proofs.Common.{◌≡◌, ◌^◌, ◌<◌, true, drop}
use Rattle.std.specs.List.{list_all}
use Rattle.text.specs.Forms.{digit, decimal_after}
use Rattle.text.proofs.form.decimal.Given as goal

abbrev pub invariant-loop-b : goal.invariant-loop-b
invariant-loop-b l =
    (decimal_after l.n (drop l.b-index l.bytes) ≡ decimal_after 0 l.bytes)
    × (l.n < 10 ^ l.b-index)
    × (list_all digit (drop l.b-index l.bytes) ≡ true)
