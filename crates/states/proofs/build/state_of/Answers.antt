use Rattle.std.proofs.Common.{◌≡◌, vec_items, sym, ap, ◌∙◌, subst}
use Rattle.expressions.specs.Derived.{part}
use Rattle.states.specs.Spans.{Inside}
use Rattle.states.specs.Derive.{found_of}
use Rattle.states.proofs.Going.{goes_on, inside_goes}
use Rattle.states.proofs.Building.{state_made, numbering_made}
use Rattle.states.proofs.build.state_of.Goals as goal

pub of-requires : goal.of-requires
of-requires c =
    let span = c.in_ok-span.span in
    subst (λ l. Inside l span) (sym c.as_slice.ensures.value)
    (inside_goes c.derive.new.self c.nullable-nullable.new.self span c.nullable-nullable.ensures.goes c.in_ok-span.ensures.inside)

pub by_states-requires : goal.by_states-requires
by_states-requires c = c.requires.numbers.0

pub returns : goal.returns
returns c =
    let w = c.args.work.now in
    let a = c.derive.new.self in
    let b = c.nullable-nullable.new.self in
    let span = c.in_ok-span.span in
    let went = c.in_ok-span.ensures in
    let on = c.nullable-nullable.ensures.goes in
    let old = vec_items c.args.numbers.now in
    let new = vec_items c.by_states.new.numbers in
    let v = vec_items c.in_ok-derivatives.derivatives in
    let ds = c.of.result.now in
    let is : c.of.result.now ≡ part (found_of b) span.from span.to =
    c.of.ensures ∙ ap (λ l. part l span.from span.to) c.as_slice.ensures.value in
    let named = c.in_ok-derivatives.ensures in
    record {
      goes = goes_on w a b went.goes on;
      numbers = numbering_made w b old new ds v span (goes_on w a b went.goes on) c.requires.numbers is named;
      extends = named.extends;
      stated = state_made w a b old new ds v span c.args.node c.len-count.result c.nullable-nullable.result c.requires.node
          (c.len-count.ensures ∙ w.expressions.rules.bodies.ok.0) went on c.nullable-nullable.ensures.value is named;
    }
