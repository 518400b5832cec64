-- The nodes of a text: the form of a node's line, and then the values of its numbers.
use Rattle.std.specs.Prelude.{ℕ, cond, List, Ok, Err, codes, Result}
use Rattle.model.specs.declared.nodes.Node.{Node}
use Rattle.model.specs.declared.nodes.Node.TheVariants as node
use Rattle.text.specs.declared.fault.LineFault.{LineFault}
use Rattle.text.specs.declared.fault.LineFault.TheVariants.{Form}
use Rattle.text.specs.Fields.{View, view, number, line_of, is_word, value_in}
use Rattle.text.specs.Cursors.{taken, last_number, others, ended}
use Rattle.tables.specs.declared.shape.Shape.{Shape}
use Rattle.tables.specs.declared.shape.Shape.TheVariants as shape
use Rattle.tables.specs.Chain.{then}

-- a node of the values of one field, and of two
abbrev pub of_one : (ℕ → Node) → View → Result Node LineFault
of_one g a = then (value_in a) (λ x. Ok (g x))

abbrev pub of_two : (ℕ → ℕ → Node) → View → View → Result Node LineFault
of_two g a b = then (value_in a) (λ x. then (value_in b) (λ y. Ok (g x y)))

-- the node that the code's shape gives with the values of its fields
abbrev pub node_of : Shape → Result Node LineFault
node_of shape.Nothing = Ok node.Nothing
node_of shape.Empty = Ok node.Empty
node_of (shape.Simple a) = of_one node.Simple (view a)
node_of (shape.Rule a) = of_one node.Rule (view a)
node_of (shape.Element a b) = of_two node.Element (view a) (view b)
node_of (shape.Union a b) = of_two node.Union (view a) (view b)
node_of (shape.Seq a b) = of_two node.Seq (view a) (view b)
node_of (shape.Star a) = of_one node.Star (view a)

-- a line that ends here, or has one number field more, or two; then the values give the node
abbrev pub with_none : Node → ℕ → List (List ℕ) → Result (Result Node LineFault) LineFault
with_none x n fs = then (ended n fs) (λ _. Ok (Ok x))

abbrev pub with_one : (ℕ → Node) → ℕ → List (List ℕ) → Result (Result Node LineFault) LineFault
with_one g n fs = then (last_number n fs) (λ a. Ok (of_one g a))

abbrev pub with_two : (ℕ → ℕ → Node) → ℕ → List (List ℕ) → Result (Result Node LineFault) LineFault
with_two g n fs = then (taken number n fs) (λ a. then (last_number n (others fs)) (λ b. Ok (of_two g a b)))

-- the shape that the word names, with as many number fields as it has and no more; then the values give the node
abbrev pub node_in : View → ℕ → List (List ℕ) → Result (Result Node LineFault) LineFault
node_in w n fs =
    cond (is_word (codes "none") w) (with_none node.Nothing n fs)
    (cond (is_word (codes "empty") w) (with_none node.Empty n fs)
    (cond (is_word (codes "simple") w) (with_one node.Simple n fs)
    (cond (is_word (codes "rule") w) (with_one node.Rule n fs)
    (cond (is_word (codes "element") w) (with_two node.Element n fs)
    (cond (is_word (codes "union") w) (with_two node.Union n fs)
    (cond (is_word (codes "seq") w) (with_two node.Seq n fs)
    (cond (is_word (codes "star") w) (with_one node.Star n fs) (Err (Form (line_of w))))))))))
