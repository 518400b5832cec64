use Rattle.std.proofs.Common.{ℕ, ◌<◌, length, sym, refl, subst, ⊎_elim, arith}
use Rattle.model.specs.declared.nodes.Node.TheVariants.{Nothing, Empty, Simple, Rule, Element, Union, Seq, Star}
use Rattle.expressions.proofs.Ranks.{part_falls, rule_falls}
use Rattle.states.specs.Spans.{Spans}
use Rattle.states.specs.Derive.{nodes_of, bodies_of, found_of, Went}
use Rattle.states.proofs.Nullables.{read_at, parts_at, here, body_is}
use Rattle.states.proofs.Going.{Then, into, inside_goes, inside_none, long_goes, leaf_in, went_none, went_simple, went_element, went_rule, went_missing, went_union, then_some, then_none, went_seq, went_star, went_noted, goes_on}
use Rattle.states.proofs.derive.Work.+derive.Goals as goal
use Rattle.states.proofs.derive.Work.+derive.Goals.{in-Nothing, in-Simple+in_ok-span-in-Simple, in-Element+in_ok-span-in-Element, in-Rule+in-Some-body_below+in_ok-span-in-Some-body_below, in-Rule+in-None, in-Union+in_ok-left-in-Union+in_ok-right-in-Union+in_ok-span-in-Union, in-Seq+in_ok-first-in-Seq+in_ok-span-in-Seq, then-nullable+in_ok-then-in-Seq, else-nullable, in-Star+in_ok-first-in-Star+in_ok-span-in-Star}

pub returns-in-Some : goal.returns-in-Some
returns-in-Some t c = c.in-Some.ensures.known

pub keep-requires : goal.keep-requires
keep-requires t c =
    let w = c.args.self.now in
    leaf_in w c.in-Simple.n w.expressions.rules.empty w.expressions.blank.0

pub keep-requires-in-Element : goal.keep-requires-in-Element
keep-requires-in-Element t c =
    let w = c.args.self.now in
    let lt : c.args.node < length (nodes_of c.args.self.now) = c.found_before.ensures.new c.in_default.is in
    let below = parts_at w.expressions c.args.node (Element c.in-Element.n c.in-Element.c) lt
    (read_at w.expressions c.args.node c.index.result.now (Element c.in-Element.n c.in-Element.c) lt c.index.ensures c.in-Element.is) in
    leaf_in w c.in-Element.n c.in-Element.c (omega arith)

pub derive-requires : goal.derive-requires
derive-requires t c =
    let at = body_is (bodies_of c.args.self.now) c.in-Rule.k c.args.rule c.in-Some-body_below.body c.in-Some-body_below.ensures in
    (rule_falls t c.args.rule c.in-Rule.k c.args.node c.in-Some-body_below.body c.decreases at.0, tt)

pub derive-requires-in-Union : goal.derive-requires-in-Union
derive-requires-in-Union t c =
    let e = c.args.self.now.expressions in
    let few = c.args.self.now.expressions.fine.0 in
    let lt : c.args.node < length (nodes_of c.args.self.now) = c.found_before.ensures.new c.in_default.is in
    let below = parts_at e c.args.node (Union c.in-Union.a c.in-Union.b) lt (read_at e c.args.node c.index.result.now (Union c.in-Union.a c.in-Union.b) lt c.index.ensures c.in-Union.is) in
    (part_falls t c.args.rule c.args.node c.in-Union.a c.in-Union.a c.decreases (omega arith) (here c.args.node c.in-Union.a below.0), tt)

pub derive-requires-in-Union-2 : goal.derive-requires-in-Union-2
derive-requires-in-Union-2 t c =
    let e = c.args.self.now.expressions in
    let few = c.args.self.now.expressions.fine.0 in
    let lt : c.args.node < length (nodes_of c.args.self.now) = c.found_before.ensures.new c.in_default.is in
    let below = parts_at e c.args.node (Union c.in-Union.a c.in-Union.b) lt (read_at e c.args.node c.index.result.now (Union c.in-Union.a c.in-Union.b) lt c.index.ensures c.in-Union.is) in
    (part_falls t c.args.rule c.args.node c.in-Union.b c.in-Union.b c.decreases (omega arith) (here c.args.node c.in-Union.b below.1), tt)

pub derive-requires-in-Seq : goal.derive-requires-in-Seq
derive-requires-in-Seq t c =
    let e = c.args.self.now.expressions in
    let few = c.args.self.now.expressions.fine.0 in
    let lt : c.args.node < length (nodes_of c.args.self.now) = c.found_before.ensures.new c.in_default.is in
    let below = parts_at e c.args.node (Seq c.in-Seq.a c.in-Seq.b) lt (read_at e c.args.node c.index.result.now (Seq c.in-Seq.a c.in-Seq.b) lt c.index.ensures c.in-Seq.is) in
    (part_falls t c.args.rule c.args.node c.in-Seq.a c.in-Seq.a c.decreases (omega arith) (here c.args.node c.in-Seq.a below.0), tt)

pub derive-requires-then-nullable : goal.derive-requires-then-nullable
derive-requires-then-nullable t c =
    let e = c.args.self.now.expressions in
    let few = c.args.self.now.expressions.fine.0 in
    let lt : c.args.node < length (nodes_of c.args.self.now) = c.found_before.ensures.new c.in_default.is in
    let below = parts_at e c.args.node (Seq c.in-Seq.a c.in-Seq.b) lt (read_at e c.args.node c.index.result.now (Seq c.in-Seq.a c.in-Seq.b) lt c.index.ensures c.in-Seq.is) in
    (part_falls t c.args.rule c.args.node c.in-Seq.b c.in-Seq.b c.decreases (omega arith) (here c.args.node c.in-Seq.b below.1), tt)

pub derive-requires-in-Star : goal.derive-requires-in-Star
derive-requires-in-Star t c =
    let e = c.args.self.now.expressions in
    let few = c.args.self.now.expressions.fine.0 in
    let lt : c.args.node < length (nodes_of c.args.self.now) = c.found_before.ensures.new c.in_default.is in
    let below = parts_at e c.args.node (Star c.in-Star.a) lt (read_at e c.args.node c.index.result.now (Star c.in-Star.a) lt c.index.ensures c.in-Star.is) in
    (part_falls t c.args.rule c.args.node c.in-Star.a c.in-Star.a c.decreases (omega arith) (here c.args.node c.in-Star.a below), tt)

pub of_union-requires : goal.of_union-requires
of_union-requires t c =
    let q = c.in_ok-right-in-Union.ensures in
    record {
      left = inside_goes c.derive-in-Union.new.self c.derive-in-Union-2.new.self c.in_ok-left-in-Union.left q.goes c.in_ok-left-in-Union.ensures.inside;
      right = q.inside;
    }

pub of_first-requires : goal.of_first-requires
of_first-requires t c =
    let w = c.args.self.now in
    let i = c.args.node in
    let lt : c.args.node < length (nodes_of c.args.self.now) = c.found_before.ensures.new c.in_default.is in
    let a = c.derive-in-Seq.new.self in
    let is = read_at w.expressions i c.index.result.now (Seq c.in-Seq.a c.in-Seq.b) lt c.index.ensures c.in-Seq.is in
    let below = parts_at w.expressions i (Seq c.in-Seq.a c.in-Seq.b) lt is in
    let first = c.in_ok-first-in-Seq.ensures in
    let then : Then w a c.if-nullable.self c.args.rule i c.in-Seq.b c.nullable.result c.if-nullable.then =
    elim c.if-nullable.branch [
      | then-nullable+in_ok-then-in-Seq v ↦
          then_some w a c.nullable.new.self v.derive-then-nullable.new.self c.if-nullable.self c.args.rule i c.in-Seq.b
          c.nullable.result c.if-nullable.then v.in_ok-then-in-Seq.then v.self-is v.then-is v.if-nullable.true
          below.1 lt first.goes c.nullable.ensures.goes v.in_ok-then-in-Seq.ensures
      | else-nullable v ↦
          then_none w a c.nullable.new.self c.if-nullable.self c.args.rule i c.in-Seq.b c.nullable.result c.if-nullable.then v.default-then.result
          v.self-is v.then-is v.if-nullable.false c.nullable.ensures.goes v.default-then.ensures
    ] in
    let long = long_goes w c.if-nullable.self (goes_on w a c.if-nullable.self first.goes then.goes) in
    let kb = below.1 in
    record {
      first = inside_goes a c.if-nullable.self c.in_ok-first-in-Seq.first then.goes first.inside;
      then = then.inside;
      s = omega arith;
    }

pub of_first-requires-in-Star : goal.of_first-requires-in-Star
of_first-requires-in-Star t c =
    let lt : c.args.node < length (nodes_of c.args.self.now) = c.found_before.ensures.new c.in_default.is in
    let a = c.derive-in-Star.new.self in
    let long = long_goes c.args.self.now a c.in_ok-first-in-Star.ensures.goes in
    record {
      first = c.in_ok-first-in-Star.ensures.inside;
      then = inside_none a c.default-in-Star.result c.default-in-Star.ensures;
      s = omega arith;
    }

-- what the match makes of the node goes on rightly
went_in : (t : ℕ) (c : goal.After-set t) → Went c.args.self.now c.match-index.self c.args.rule c.args.node c.match-index.span
went_in t c =
    let w = c.args.self.now in
    let r = c.args.rule in
    let i = c.args.node in
    let lt : c.args.node < length (nodes_of c.args.self.now) = c.found_before.ensures.new c.in_default.is in
    let x = c.index.result.now in
    let now = c.match-index.self in
    let span = c.match-index.span in
    elim c.match-index.branch [
      | in-Nothing u ↦ into w now w r i span u.default-span.result u.self-is u.span-is
          (⊎_elim
          (λ q. went_none w r i u.default-span.result Nothing lt (read_at w.expressions i x Nothing lt c.index.ensures q) refl u.default-span.ensures)
          (λ q. went_none w r i u.default-span.result Empty lt (read_at w.expressions i x Empty lt c.index.ensures q) refl u.default-span.ensures)
          u.in-Nothing.is)
      | in-Simple+in_ok-span-in-Simple u ↦ into w now u.keep.new.self r i span u.in_ok-span-in-Simple.span u.self-is u.span-is
          (went_simple w u.keep.new.self r i u.in-Simple.n u.in_ok-span-in-Simple.span lt
          (read_at w.expressions i x (Simple u.in-Simple.n) lt c.index.ensures u.in-Simple.is) u.in_ok-span-in-Simple.ensures)
      | in-Element+in_ok-span-in-Element u ↦ into w now u.keep-in-Element.new.self r i span u.in_ok-span-in-Element.span u.self-is u.span-is
          (went_element w u.keep-in-Element.new.self r i u.in-Element.n u.in-Element.c u.in_ok-span-in-Element.span lt
          (read_at w.expressions i x (Element u.in-Element.n u.in-Element.c) lt c.index.ensures u.in-Element.is) u.in_ok-span-in-Element.ensures)
      | in-Rule+in-Some-body_below+in_ok-span-in-Some-body_below u ↦
          let at = body_is (bodies_of w) u.in-Rule.k r u.in-Some-body_below.body u.in-Some-body_below.ensures in
          into w now u.derive.new.self r i span u.in_ok-span-in-Some-body_below.span u.self-is u.span-is
          (went_rule w u.derive.new.self r i u.in-Rule.k u.in-Some-body_below.body u.in_ok-span-in-Some-body_below.span lt
          (read_at w.expressions i x (Rule u.in-Rule.k) lt c.index.ensures u.in-Rule.is) at.0 at.1 u.in_ok-span-in-Some-body_below.ensures)
      | in-Rule+in-None u ↦ into w now w r i span u.default.result u.self-is u.span-is
          (went_missing w r i u.in-Rule.k u.default.result lt (read_at w.expressions i x (Rule u.in-Rule.k) lt c.index.ensures u.in-Rule.is)
          u.in-None.ensures u.default.ensures)
      | in-Union+in_ok-left-in-Union+in_ok-right-in-Union+in_ok-span-in-Union u ↦
          into w now u.of_union.new.self r i span u.in_ok-span-in-Union.span u.self-is u.span-is
          (went_union w u.derive-in-Union.new.self u.derive-in-Union-2.new.self u.of_union.new.self r i u.in-Union.a u.in-Union.b u.in_ok-left-in-Union.left u.in_ok-right-in-Union.right u.in_ok-span-in-Union.span lt
          (read_at w.expressions i x (Union u.in-Union.a u.in-Union.b) lt c.index.ensures u.in-Union.is)
          u.in_ok-left-in-Union.ensures u.in_ok-right-in-Union.ensures u.in_ok-span-in-Union.ensures)
      | in-Seq+in_ok-first-in-Seq+in_ok-span-in-Seq u ↦
          let a = u.derive-in-Seq.new.self in
          let is = read_at w.expressions i x (Seq u.in-Seq.a u.in-Seq.b) lt c.index.ensures u.in-Seq.is in
          let below = parts_at w.expressions i (Seq u.in-Seq.a u.in-Seq.b) lt is in
          let first = u.in_ok-first-in-Seq.ensures in
          let null = u.nullable.ensures.value in
          let then : Then w a u.if-nullable.self r i u.in-Seq.b u.nullable.result u.if-nullable.then =
          elim u.if-nullable.branch [
            | then-nullable+in_ok-then-in-Seq v ↦
                then_some w a u.nullable.new.self v.derive-then-nullable.new.self u.if-nullable.self r i u.in-Seq.b
                u.nullable.result u.if-nullable.then v.in_ok-then-in-Seq.then v.self-is v.then-is v.if-nullable.true
                below.1 lt first.goes u.nullable.ensures.goes v.in_ok-then-in-Seq.ensures
            | else-nullable v ↦
                then_none w a u.nullable.new.self u.if-nullable.self r i u.in-Seq.b u.nullable.result u.if-nullable.then v.default-then.result
                v.self-is v.then-is v.if-nullable.false u.nullable.ensures.goes v.default-then.ensures
          ] in
          into w now u.of_first.new.self r i span u.in_ok-span-in-Seq.span u.self-is u.span-is
          (went_seq w a u.if-nullable.self u.of_first.new.self r i u.in-Seq.a u.in-Seq.b u.nullable.result
          u.in_ok-first-in-Seq.first u.if-nullable.then u.in_ok-span-in-Seq.span lt is first null then u.in_ok-span-in-Seq.ensures)
      | in-Star+in_ok-first-in-Star+in_ok-span-in-Star u ↦
          into w now u.of_first-in-Star.new.self r i span u.in_ok-span-in-Star.span u.self-is u.span-is
          (went_star w u.derive-in-Star.new.self u.of_first-in-Star.new.self r i u.in-Star.a u.in_ok-first-in-Star.first
          u.default-in-Star.result u.in_ok-span-in-Star.span lt (read_at w.expressions i x (Star u.in-Star.a) lt c.index.ensures u.in-Star.is)
          u.in_ok-first-in-Star.ensures u.default-in-Star.ensures u.in_ok-span-in-Star.ensures)
    ]

pub invariant_of-self : goal.invariant_of-self
invariant_of-self t c =
    let now = c.match-index.self in
    let lt : c.args.node < length (nodes_of c.args.self.now) = c.found_before.ensures.new c.in_default.is in
    record {
      listed = now.listed;
      known = subst (Spans (nodes_of now) (bodies_of now) (found_of now)) (sym c.set.ensures)
          (went_noted c.args.self.now now c.args.rule c.args.node c.match-index.span lt (went_in t c));
    }

pub returns : goal.returns
returns t c =
    let went = went_in t c.before in
    record {
      goes = record { rules = went.goes.rules; nodes = went.goes.nodes; found = went.goes.found };
      inside = went.inside;
      value = went.value;
    }
