use Rattle.std.proofs.Common.{◌≡◌, length, vec_items, refl, ⊎_elim}
use Rattle.model.specs.declared.nodes.Node.TheVariants.{Nothing, Empty, Simple, Rule, Element, Union, Seq, Star}
use Rattle.states.specs.Test.{no_ways}
use Rattle.states.proofs.Nullables.{read_at, parts_at, here}
use Rattle.states.proofs.Tests.{next_ways, union_ways, seq_ways, star_ways}
use Rattle.states.proofs.nullable.Expressions.next_ways.Goals as goal

pub returns-in-Nothing-clause-value : goal.returns-in-Nothing-clause-value
returns-in-Nothing-clause-value c =
    let at = next_ways c.args.self.now c.args.k c.args.table.now c.index.result.now in
    let d = c.default.ensures in
    let none : c.default.result ≡ no_ways = λ j. record { free = d.0 j; guarded = d.1.0 j; bent = d.1.1 j } in
    ⊎_elim (λ e. at Nothing c.default.result c.requires.next c.index.ensures e none)
    (⊎_elim (λ e. at Empty c.default.result c.requires.next c.index.ensures e none)
    (⊎_elim (λ e. at (Simple e.0) c.default.result c.requires.next c.index.ensures e.1 none)
    (λ e. at (Element e.0 e.1) c.default.result c.requires.next c.index.ensures e.2 none)))
    c.in-Nothing.is

pub returns-in-Rule-clause-value : goal.returns-in-Rule-clause-value
returns-in-Rule-clause-value c =
    next_ways c.args.self.now c.args.k c.args.table.now c.index.result.now (Rule c.in-Rule.j) _
    c.requires.next c.index.ensures c.in-Rule.is refl

pub returns-in-Union-clause-value : goal.returns-in-Union-clause-value
returns-in-Union-clause-value c =
    let e = c.args.self.now in
    next_ways e c.args.k c.args.table.now c.index.result.now (Union c.in-Union.a c.in-Union.b) c.or.result
    c.requires.next c.index.ensures c.in-Union.is
    (union_ways (vec_items e.nodes) (vec_items e.rules.bodies) c.args.k c.args.table.now
    c.in-Union.a c.in-Union.b c.at.result c.at-in-Union.result c.or.result
    e.fine.0 c.requires.filled c.at.ensures c.at-in-Union.ensures c.or.ensures)

pub returns-in-Seq-clause-value : goal.returns-in-Seq-clause-value
returns-in-Seq-clause-value c =
    let e = c.args.self.now in
    let k = length c.args.table.now in
    let below = parts_at e k (Seq c.in-Seq.a c.in-Seq.b) c.requires.next
    (read_at e k c.index.result.now (Seq c.in-Seq.a c.in-Seq.b) c.requires.next c.index.ensures c.in-Seq.is) in
    next_ways e c.args.k c.args.table.now c.index.result.now (Seq c.in-Seq.a c.in-Seq.b) c.then.result
    c.requires.next c.index.ensures c.in-Seq.is
    (seq_ways (vec_items e.nodes) (vec_items e.rules.bodies) c.args.k c.args.table.now
    c.in-Seq.a c.in-Seq.b c.in-Seq.a c.at-in-Seq.result c.at-in-Seq-2.result c.then.result
    c.nullable-left_nullable.result e.fine.0 c.requires.filled c.at-in-Seq.ensures c.at-in-Seq-2.ensures
    (here k c.in-Seq.a below.0) c.nullable-left_nullable.ensures.value c.then.ensures)

pub returns-in-Star-clause-value : goal.returns-in-Star-clause-value
returns-in-Star-clause-value c =
    let e = c.args.self.now in
    next_ways e c.args.k c.args.table.now c.index.result.now (Star c.in-Star.a) c.bend.result
    c.requires.next c.index.ensures c.in-Star.is
    (star_ways (vec_items e.nodes) (vec_items e.rules.bodies) c.args.k c.args.table.now
    c.in-Star.a c.at-in-Star.result c.bend.result e.fine.0 c.requires.filled c.at-in-Star.ensures c.bend.ensures)
