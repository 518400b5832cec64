-- What a name relation may be, and the two that are shipped.
use Rattle.std.specs.Prelude.{◌≡◌, ℕ, zero, suc, ◌<◌, Bool, true, false, ◌&&◌, ◌||◌, List, length, Some, None, ◌==◌, nat_lt, slice_index_or}
use Rattle.model.specs.declared.names.Kind.{Kind}
use Rattle.model.specs.declared.names.Kind.TheVariants.{Simple, Element}
use Rattle.model.specs.declared.names.Name.{Name}

-- a name that stands where a list has none
abbrev pub no_name : Name
no_name = record { kind = Simple; head = None }

-- the kind of the name t
abbrev pub kind_of : List Name → ℕ → Kind
kind_of names t = (slice_index_or names t no_name).kind

-- whether two kinds are the same
abbrev pub same_kind : Kind → Kind → Bool
same_kind Simple Simple = true
same_kind Simple Element = false
same_kind Element Simple = false
same_kind Element Element = true

-- `Headed names`: each head has a lower number than its name, and the same kind.
abbrev pub Headed : List Name → Type 0
Headed names = (t h : ℕ) → t < length names → (slice_index_or names t no_name).head ≡ Some h →
    (h < t) × (kind_of names h ≡ kind_of names t)

-- A set of pairs over the names of a grammar is lawful when each name covers itself, and a name
-- covers only names of its own kind.
pub record Lawful (names : List Name) (covers : ℕ → ℕ → Bool) : Type 0 where
  pub itself : (t : ℕ) → t < length names → covers t t ≡ true
  pub named : (h t : ℕ) → covers h t ≡ true → (h < length names) × (t < length names)
  pub own_kind : (h t : ℕ) → covers h t ≡ true → kind_of names h ≡ kind_of names t

-- Under "exact" a name covers itself alone.
abbrev pub exact : List Name → ℕ → ℕ → Bool
exact names h t = nat_lt t (length names) && h == t

-- whether h is t, or is met within n steps from a name to its head, beginning at t
abbrev pub above : ℕ → List Name → ℕ → ℕ → Bool
above zero names h t = h == t
above (suc n) names h t =
    (h == t) || elim (slice_index_or names t no_name).head [ None ↦ false | Some u ↦ above n names h u ]

-- Under "heads" h covers t when h is t, the head of t, that one's head, and so on. No way up has
-- more steps than there are names.
abbrev pub heads : List Name → ℕ → ℕ → Bool
heads names h t = nat_lt t (length names) && above (length names) names h t
