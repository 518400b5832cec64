use Rattle.std.proofs.Common.{length, get_or, vec_items, sym, ap, ◌∙◌, arith}
use Rattle.std.specs.Option.{unwrap_or}
use Rattle.states.proofs.Gets.{within, past}
use Rattle.states.proofs.Reading.{placed_old, placed_new}
use Rattle.states.proofs.places.Places.placed.Goals as goal

pub returns-in-Some-clause-number : goal.returns-in-Some-clause-number
returns-in-Some-clause-number c =
    let p = c.args.self.now in
    let places = vec_items p.places in
    let i = c.in-Some.place in
    let same = c.deref.ensures.value in
    let e = sym c.in-Some.is ∙ c.copied.ensures in
    let inside = within c.get.result (length c.deref.result.now) c.args.c i _ c.get.ensures.lookup.3 e in
    placed_old (vec_items p.nodes) places c.args.c i p.fine p.below (omega (arith, ap length same))
    (ap (λ o. unwrap_or o i) e ∙ c.get.ensures.lookup.4 (omega arith) i ∙ ap (λ l. get_or l c.args.c i) same)

pub returns-in-None-clause-number : goal.returns-in-None-clause-number
returns-in-None-clause-number c =
    let p = c.args.self.now in
    let same = c.deref.ensures.value in
    let short = past c.get.result (length c.deref.result.now) c.args.c _ c.get.ensures.lookup.3 (sym c.in-None.is ∙ c.copied.ensures) in
    placed_new (vec_items p.nodes) (vec_items c.enter.new.self.nodes) (vec_items p.places) c.args.c c.enter.result
    (omega (arith, ap length same)) c.enter.ensures.number
