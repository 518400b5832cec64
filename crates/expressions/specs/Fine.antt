-- Books of expressions: each is built of earlier ones and stands once.
use Rattle.std.specs.Prelude.{◌≡◌, ℕ, ◌<◌, ◌≤◌, List, ◌++◌, map, length, drop, slice_index_or}
use Rattle.model.specs.declared.nodes.Node.{Node}
use Rattle.model.specs.declared.nodes.Node.TheVariants.{Nothing, Empty, Simple, Rule, Element, Union, Seq, Star}
use Rattle.theory.specs.Language.{Expr, none, empty, simple, rule, element, union, seq, star}
use Rattle.expressions.specs.Numbers.{tree}
use Rattle.book.specs.Place.{place}
use Rattle.expressions.specs.Records.{same_node}

-- the parts of a node have numbers below n
abbrev pub PartsBelow : ℕ → Node → Type 0
PartsBelow n Nothing = Unit {0}
PartsBelow n Empty = Unit {0}
PartsBelow n (Simple b) = Unit {0}
PartsBelow n (Rule k) = Unit {0}
PartsBelow n (Element b c) = c < n
PartsBelow n (Union a b) = (a < n) × (b < n)
PartsBelow n (Seq a b) = (a < n) × (b < n)
PartsBelow n (Star a) = a < n

-- the expression of a node, given those of its parts
abbrev pub make : (ℕ → Expr) → Node → Expr
make f Nothing = none
make f Empty = empty
make f (Simple n) = simple n
make f (Rule k) = rule k
make f (Element n c) = element n (f c)
make f (Union a b) = union (f a) (f b)
make f (Seq a b) = seq (f a) (f b)
make f (Star a) = star (f a)

-- each expression is built of earlier ones
unfoldable pub Founded : List Node → Type 0
Founded nodes = (i : ℕ) → i < length nodes → PartsBelow i (slice_index_or nodes i Nothing)

-- each node is found at its own number, so none stands twice
unfoldable pub Distinct : List Node → Type 0
Distinct nodes = (i : ℕ) → i < length nodes → place same_node nodes (slice_index_or nodes i Nothing) ≡ i

-- a book of at most 512 expressions
abbrev pub Fine : List Node → Type 0
Fine nodes = (length nodes ≤ 512) × Founded nodes × Distinct nodes

-- numbers below n
unfoldable pub Below : ℕ → List ℕ → Type 0
Below n numbers = (k : ℕ) → k < length numbers → slice_index_or numbers k 512 < n

-- a list that was added to
unfoldable pub Grows : {A : Type 0} → List A → List A → Type 0
Grows old new = new ≡ old ++ drop (length old) new

-- the expressions of numbers
unfoldable pub shown : List Node → List ℕ → List Expr
shown nodes numbers = map (tree nodes) numbers
