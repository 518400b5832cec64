use Rattle.std.proofs.Common.{◌≡◌, ◌+◌, length, vec_items, sym, refl, ap, ◌∙◌, arith}
use Rattle.std.specs.List.{position}
use Rattle.std.proofs.lemmas.List.{length_push}
use Rattle.std.proofs.lemmas.Bool.{lt-ltb}
use Rattle.theory.specs.Count.{enter}
use Rattle.book.proofs.Enter.{found, missing}
use Rattle.states.proofs.entering.enter.Goals as goal

pub returns-in-Some : goal.returns-in-Some
returns-in-Some g c =
    let book = vec_items c.args.records.now in
    let h = found g.T.PartialEq.eq book c.args.x c.in-Some.number
    (sym c.in-Some.is ∙ c.find.ensures ∙ ap (position (g.T.PartialEq.eq c.args.x)) c.as_slice.ensures.value) in
    (h.0, sym h.1, h.2, λ small. small)

pub returns-then-number-limit : goal.returns-then-number-limit
returns-then-number-limit g c =
    let book = vec_items c.args.records.now in
    let h = missing g.T.PartialEq.eq book c.args.x
    (sym c.in_default.is ∙ c.find.ensures ∙ ap (position (g.T.PartialEq.eq c.args.x)) c.as_slice.ensures.value) in
    let ok = c.args.records.now.ok.0 in (
      refl,
      lt-ltb c.args.limit (length (enter g.T.PartialEq.eq book c.args.x))
          (omega (arith, ap length h.1, length_push book c.args.x)),
    )

pub returns : goal.returns
returns g c =
    let book = vec_items c.args.records.now in
    let h = missing g.T.PartialEq.eq book c.args.x
    (sym c.in_default.is ∙ c.find.ensures ∙ ap (position (g.T.PartialEq.eq c.args.x)) c.as_slice.ensures.value) in
    let ok = c.args.records.now.ok.0 in
    let pushed = c.in_ok-push.ensures.items in
    let long : length (vec_items c.push.new.self) ≡ length book + 1 = ap length pushed ∙ length_push book c.args.x in
    let at : c.len-number.result ≡ length book = omega arith in
    (at ∙ h.0, pushed ∙ sym h.1, omega arith, λ small. omega arith)
