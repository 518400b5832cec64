-- The test of lawful recursion of a rule: whether an unlawful mention is met from an expression on,
-- by the way taken to that expression.
use Rattle.std.specs.Prelude.{ℕ, Bool, false, cond, ◌||◌, nat_le, nat_lt}
use Rattle.theory.specs.Language.{Expr, none, empty, simple, rule, element, union, seq, star}

-- after a way with a left side or a star: every mention of rule k or a later one is unlawful
abbrev pub bent : ℕ → Expr → Bool
bent k none = false
bent k empty = false
bent k (simple b) = false
bent k (rule j) = nat_le k j
bent k (element e c) = false
bent k (union a b) = bent k a || bent k b
bent k (seq a b) = bent k a || bent k b
bent k (star a) = bent k a

-- after a way of unions and right sides, one of these after a left side that is not nullable
abbrev pub guarded : ℕ → Expr → Bool
guarded k none = false
guarded k empty = false
guarded k (simple b) = false
guarded k (rule j) = nat_lt k j
guarded k (element e c) = false
guarded k (union a b) = guarded k a || guarded k b
guarded k (seq a b) = bent k a || guarded k b
guarded k (star a) = bent k a

-- after a way of unions and right sides, none of these after a left side that is not nullable
abbrev pub open? : ℕ → (Expr → Bool) → Expr → Bool
open? k null none = false
open? k null empty = false
open? k null (simple b) = false
open? k null (rule j) = nat_le k j
open? k null (element e c) = false
open? k null (union a b) = open? k null a || open? k null b
open? k null (seq a b) = bent k a || cond (null a) (open? k null b) (guarded k b)
open? k null (star a) = bent k a
