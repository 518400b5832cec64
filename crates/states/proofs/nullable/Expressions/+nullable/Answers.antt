use Rattle.std.proofs.Common.{◌≡◌, ℕ, ◌<◌, ◌≤◌, Bool, true, false, length, vec_items, sym, refl, ap, ◌∙◌, subst, ⊎_elim, arith}
use Rattle.std.proofs.lemmas.Bool.{cond-true, lt-ltb}
use Rattle.model.specs.declared.nodes.Node.{Node}
use Rattle.model.specs.declared.nodes.Node.TheVariants.{Nothing, Empty, Simple, Rule, Element, Union, Seq, Star}
use Rattle.expressions.specs.Numbers.{null_node, earlier}
use Rattle.expressions.specs.Fine.{PartsBelow}
use Rattle.expressions.proofs.Ranks.{part_falls, rule_falls}
use Rattle.expressions.proofs.Nulls.{null_past}
use Rattle.states.specs.declared.nullable.Expressions.{Expressions}
use Rattle.states.specs.Memo.{notes, Says, Sound}
use Rattle.states.proofs.Memos.{notes_at}
use Rattle.states.proofs.Nullables.{null_in, Told, by_node, read_at, parts_at, here, body_is, null_missing, at_part, told_noted, or_then, or_else, and_then, and_else}
use Rattle.states.proofs.nullable.Expressions.+nullable.Goals as goal
use Rattle.states.proofs.nullable.Expressions.+nullable.Goals.{in-Nothing, in-Empty, in-Rule+in-Some-body_below, in-Rule+in-None, in-Union+then-left, in-Union+else-left, in-Seq+then-left-2, in-Seq+else-left-2}

pub returns-then-node-len-clause-value : goal.returns-then-node-len-clause-value
returns-then-node-len-clause-value t c =
    let old = c.args.self.now in
    let ok = old.nodes.ok.0 in
    let past : length (vec_items c.args.self.now.nodes) ≤ c.args.node = omega arith in
    sym (null_past (vec_items old.nodes) (vec_items old.rules.bodies) c.args.rule c.args.node past)

pub returns-in-Some-clause-value : goal.returns-in-Some-clause-value
returns-in-Some-clause-value t c =
    let old = c.args.self.now in
    let ok = old.nodes.ok.0 in
    let few = old.fine.0 in
    sym (notes_at (Says (vec_items old.nodes) (vec_items old.rules.bodies)) (notes old.nulls) c.args.rule c.args.node c.in-Some.answer
    old.sound (omega arith) c.in-Some.ensures).1

pub nullable-left-requires : goal.nullable-left-requires
nullable-left-requires t c =
    let old = c.args.self.now in
    let ok = c.args.self.now.nodes.ok.0 in
    let few = c.args.self.now.fine.0 in
    let lt : c.args.node < length (vec_items c.args.self.now.nodes) = omega arith in
    let below = parts_at old c.args.node (Union c.in-Union.a c.in-Union.b) lt (read_at old c.args.node c.index.result.now (Union c.in-Union.a c.in-Union.b) lt c.index.ensures c.in-Union.is) in
    (part_falls t c.args.rule c.args.node c.in-Union.a c.in-Union.a c.decreases (omega arith) (here c.args.node c.in-Union.a below.0), tt)

pub nullable-right-requires : goal.nullable-right-requires
nullable-right-requires t c =
    let old = c.args.self.now in
    let ok = c.args.self.now.nodes.ok.0 in
    let few = c.args.self.now.fine.0 in
    let lt : c.args.node < length (vec_items c.args.self.now.nodes) = omega arith in
    let below = parts_at old c.args.node (Union c.in-Union.a c.in-Union.b) lt (read_at old c.args.node c.index.result.now (Union c.in-Union.a c.in-Union.b) lt c.index.ensures c.in-Union.is) in
    (part_falls t c.args.rule c.args.node c.in-Union.b c.in-Union.b c.decreases (omega arith) (here c.args.node c.in-Union.b below.1), tt)

pub nullable-left-requires-in-Seq : goal.nullable-left-requires-in-Seq
nullable-left-requires-in-Seq t c =
    let old = c.args.self.now in
    let ok = c.args.self.now.nodes.ok.0 in
    let few = c.args.self.now.fine.0 in
    let lt : c.args.node < length (vec_items c.args.self.now.nodes) = omega arith in
    let below = parts_at old c.args.node (Seq c.in-Seq.a c.in-Seq.b) lt (read_at old c.args.node c.index.result.now (Seq c.in-Seq.a c.in-Seq.b) lt c.index.ensures c.in-Seq.is) in
    (part_falls t c.args.rule c.args.node c.in-Seq.a c.in-Seq.a c.decreases (omega arith) (here c.args.node c.in-Seq.a below.0), tt)

pub nullable-right-requires-in-Seq : goal.nullable-right-requires-in-Seq
nullable-right-requires-in-Seq t c =
    let old = c.args.self.now in
    let ok = c.args.self.now.nodes.ok.0 in
    let few = c.args.self.now.fine.0 in
    let lt : c.args.node < length (vec_items c.args.self.now.nodes) = omega arith in
    let below = parts_at old c.args.node (Seq c.in-Seq.a c.in-Seq.b) lt (read_at old c.args.node c.index.result.now (Seq c.in-Seq.a c.in-Seq.b) lt c.index.ensures c.in-Seq.is) in
    (part_falls t c.args.rule c.args.node c.in-Seq.b c.in-Seq.b c.decreases (omega arith) (here c.args.node c.in-Seq.b below.1), tt)

pub nullable-requires : goal.nullable-requires
nullable-requires t c =
    let at = body_is (vec_items c.args.self.now.rules.bodies) c.in-Rule.k c.args.rule c.in-Some-body_below.body c.in-Some-body_below.ensures in
    (rule_falls t c.args.rule c.in-Rule.k c.args.node c.in-Some-body_below.body c.decreases at.0, tt)

-- what the match answers of the node is right
told_in : (t : ℕ) (c : goal.After-set t) → Told c.args.self.now c.match-index.self c.args.rule c.args.node c.match-index.answer
told_in t c =
    let old : Expressions = c.args.self.now in
    let r = c.args.rule in
    let i = c.args.node in
    let ok = old.nodes.ok.0 in
    let lt : c.args.node < length (vec_items c.args.self.now.nodes) = omega arith in
    let by : (v' : Expressions) (b' : Bool) (n : Node) → c.match-index.self ≡ v' → c.match-index.answer ≡ b' →
    v'.nodes ≡ old.nodes → v'.rules ≡ old.rules → c.index.result.now ≡ n →
    b' ≡ null_node (vec_items old.nodes) (vec_items old.rules.bodies) r i n → Told old c.match-index.self r i c.match-index.answer =
    λ v' b' n p q nodes rules is e.
    by_node old c.match-index.self v' r i c.match-index.answer b' c.index.result.now n p q nodes rules lt c.index.ensures is e in
    let below : (n : Node) → c.index.result.now ≡ n → PartsBelow i n =
    λ n is. parts_at old i n lt (read_at old i c.index.result.now n lt c.index.ensures is) in
    elim c.match-index.branch [
      | in-Nothing w ↦ ⊎_elim (λ e. by old false Nothing w.self-is w.answer-is refl refl e refl)
          (⊎_elim (λ e. by old false (Simple e.0) w.self-is w.answer-is refl refl e.1 refl)
          (λ e. by old false (Element e.0 e.1) w.self-is w.answer-is refl refl e.2 refl))
          w.in-Nothing.is
      | in-Empty w ↦ ⊎_elim (λ e. by old true Empty w.self-is w.answer-is refl refl e refl)
          (λ e. by old true (Star e.0) w.self-is w.answer-is refl refl e.1 refl)
          w.in-Empty.is
      | in-Rule+in-Some-body_below w ↦
          let at = body_is (vec_items old.rules.bodies) w.in-Rule.k r w.in-Some-body_below.body w.in-Some-body_below.ensures in
          by w.nullable.new.self w.nullable.result (Rule w.in-Rule.k) w.self-is w.answer-is
          w.nullable.ensures.kept.nodes w.nullable.ensures.kept.rules w.in-Rule.is
          (w.nullable.ensures.value ∙ ap (null_in old w.in-Rule.k) at.1 ∙ sym (cond-true _ _ _ (lt-ltb w.in-Rule.k r at.0)))
      | in-Rule+in-None w ↦ by old false (Rule w.in-Rule.k) w.self-is w.answer-is refl refl w.in-Rule.is
          (null_missing old r i w.in-Rule.k w.in-None.ensures)
      | in-Union+then-left w ↦ by w.nullable-right.new.self w.nullable-left.result (Union w.in-Union.a w.in-Union.b) w.self-is w.answer-is
          (w.nullable-right.ensures.kept.nodes ∙ w.nullable-left.ensures.kept.nodes) (w.nullable-right.ensures.kept.rules ∙ w.nullable-left.ensures.kept.rules) w.in-Union.is
          (or_then w.nullable-left.result _ (null_in old r (earlier i w.in-Union.b))
          (at_part old old r i w.in-Union.a w.nullable-left.result refl refl w.nullable-left.ensures.value (below (Union w.in-Union.a w.in-Union.b) w.in-Union.is).0)
          w.if-left.true)
      | in-Union+else-left w ↦ by w.nullable-right.new.self w.nullable-right.result (Union w.in-Union.a w.in-Union.b) w.self-is w.answer-is
          (w.nullable-right.ensures.kept.nodes ∙ w.nullable-left.ensures.kept.nodes) (w.nullable-right.ensures.kept.rules ∙ w.nullable-left.ensures.kept.rules) w.in-Union.is
          (or_else w.nullable-left.result w.nullable-right.result _ _
          (at_part old old r i w.in-Union.a w.nullable-left.result refl refl w.nullable-left.ensures.value (below (Union w.in-Union.a w.in-Union.b) w.in-Union.is).0)
          w.if-left.false
          (at_part old w.nullable-left.new.self r i w.in-Union.b w.nullable-right.result w.nullable-left.ensures.kept.nodes w.nullable-left.ensures.kept.rules w.nullable-right.ensures.value (below (Union w.in-Union.a w.in-Union.b) w.in-Union.is).1))
      | in-Seq+then-left-2 w ↦ by w.nullable-right-in-Seq.new.self w.nullable-right-in-Seq.result (Seq w.in-Seq.a w.in-Seq.b) w.self-is w.answer-is
          (w.nullable-right-in-Seq.ensures.kept.nodes ∙ w.nullable-left-in-Seq.ensures.kept.nodes) (w.nullable-right-in-Seq.ensures.kept.rules ∙ w.nullable-left-in-Seq.ensures.kept.rules) w.in-Seq.is
          (and_then w.nullable-left-in-Seq.result w.nullable-right-in-Seq.result _ _
          (at_part old old r i w.in-Seq.a w.nullable-left-in-Seq.result refl refl w.nullable-left-in-Seq.ensures.value (below (Seq w.in-Seq.a w.in-Seq.b) w.in-Seq.is).0)
          w.if-left-2.true
          (at_part old w.nullable-left-in-Seq.new.self r i w.in-Seq.b w.nullable-right-in-Seq.result w.nullable-left-in-Seq.ensures.kept.nodes w.nullable-left-in-Seq.ensures.kept.rules w.nullable-right-in-Seq.ensures.value (below (Seq w.in-Seq.a w.in-Seq.b) w.in-Seq.is).1))
      | in-Seq+else-left-2 w ↦ by w.nullable-right-in-Seq.new.self w.nullable-left-in-Seq.result (Seq w.in-Seq.a w.in-Seq.b) w.self-is w.answer-is
          (w.nullable-right-in-Seq.ensures.kept.nodes ∙ w.nullable-left-in-Seq.ensures.kept.nodes) (w.nullable-right-in-Seq.ensures.kept.rules ∙ w.nullable-left-in-Seq.ensures.kept.rules) w.in-Seq.is
          (and_else w.nullable-left-in-Seq.result _ (null_in old r (earlier i w.in-Seq.b))
          (at_part old old r i w.in-Seq.a w.nullable-left-in-Seq.result refl refl w.nullable-left-in-Seq.ensures.value (below (Seq w.in-Seq.a w.in-Seq.b) w.in-Seq.is).0)
          w.if-left-2.false)
    ]

pub invariant_of-self : goal.invariant_of-self
invariant_of-self t c =
    let new : Expressions = c.match-index.self in
    let ok = c.args.self.now.nodes.ok.0 in
    let lt : c.args.node < length (vec_items c.args.self.now.nodes) = omega arith in
    record {
      fine = new.fine;
      within = new.within;
      blank = new.blank;
      sound = subst (Sound (vec_items new.nodes) (vec_items new.rules.bodies)) (sym c.set.ensures)
          (told_noted c.args.self.now new c.args.rule c.args.node c.match-index.answer lt (told_in t c));
    }

pub returns-clause-value : goal.returns-clause-value
returns-clause-value t c = (told_in t c.before).value
