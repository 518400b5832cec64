-- The tests that an entry of a table is put to.
use Rattle.std.specs.Prelude.{ℕ, Bool, true, false, cond, not, ◌&&◌, List, length, is_some, None, Ok, Err, Result, nat_lt, slice_index_or}
use Rattle.std.specs.List.{list_any}
use Rattle.std.specs.Str.{bytes_eq}
use Rattle.model.specs.declared.names.Kind.{Kind}
use Rattle.model.specs.declared.names.Kind.TheVariants as kind
use Rattle.model.specs.declared.names.Name.{Name}
use Rattle.model.specs.declared.nodes.Node.{Node}
use Rattle.model.specs.declared.nodes.Node.TheVariants as node
use Rattle.text.specs.declared.fault.LineFault.{LineFault}
use Rattle.text.specs.declared.fault.LineFault.TheVariants.{Form, Spelling}
use Rattle.text.specs.declared.fault.TableFault.{TableFault}
use Rattle.text.specs.declared.fault.TableFault.TheVariants.{Full, Place}

-- a test of form, else a fault at line n
abbrev pub form : Bool → ℕ → Result (Unit {0}) LineFault
form ok n = cond ok (Ok tt) (Err (Form n))

-- the table has fewer entries than its limit, else a fault at line n
abbrev pub room : ℕ → ℕ → ℕ → Result (Unit {0}) TableFault
room limit count n = cond (nat_lt count limit) (Ok tt) (Err (Full n))

-- a test of place, else a fault at line n
abbrev pub place : Bool → ℕ → Result (Unit {0}) TableFault
place ok n = cond ok (Ok tt) (Err (Place n))

-- whether the spelling is among those
abbrev pub has : List ℕ → List (List ℕ) → Bool
has s xs = list_any (λ x. bytes_eq x s) xs

-- the spelling is new, else a fault at line n
abbrev pub fresh : ℕ → List ℕ → List (List ℕ) → Result (Unit {0}) LineFault
fresh n s xs = cond (has s xs) (Err (Spelling n)) (Ok tt)

-- two kinds are the same
abbrev pub same_kind : Kind → Kind → Bool
same_kind kind.Simple kind.Simple = true
same_kind kind.Simple kind.Element = false
same_kind kind.Element kind.Simple = false
same_kind kind.Element kind.Element = true

-- what stands where there is no name
abbrev pub no_name : Name
no_name = record { kind = kind.Simple; head = None }

-- the kind of the name i
abbrev pub kind_at : List Name → ℕ → Kind
kind_at names i = (slice_index_or names i no_name).kind

-- i is a name of the kind
abbrev pub is_kind : Kind → List Name → ℕ → Bool
is_kind k names i = nat_lt i (length names) && same_kind (kind_at names i) k

-- the name t may get the head h: both are names, h is lower and of the same kind, and t has no head
abbrev pub may_head : List Name → ℕ → ℕ → Bool
may_head names t h = nat_lt t (length names) && nat_lt h t && same_kind (kind_at names t) (kind_at names h) && not (is_some (slice_index_or names t no_name).head)

-- the node refers to names of its kind and to earlier nodes, of which there are `count`; a rule is judged later
abbrev pub may_stand : List Name → ℕ → Node → Bool
may_stand names count node.Nothing = true
may_stand names count node.Empty = true
may_stand names count (node.Simple n) = is_kind kind.Simple names n
may_stand names count (node.Rule k) = true
may_stand names count (node.Element n c) = is_kind kind.Element names n && nat_lt c count
may_stand names count (node.Union a b) = nat_lt a count && nat_lt b count
may_stand names count (node.Seq a b) = nat_lt a count && nat_lt b count
may_stand names count (node.Star a) = nat_lt a count
