-- What is noted of expressions while a machine is built.
use Rattle.std.specs.Prelude.{◌≡◌, ℕ, suc, ◌+◌, ◌*◌, ◌<◌, Bool, List, length, Some, None, vec_items, Option, slice_index_or}
use Rattle.std.specs.Coded.{×_prop, le_prop}
use Rattle.std.proofs.Math.Bool.{Bool-set}
use Rattle.model.specs.declared.nodes.Node.{Node}
use Rattle.expressions.specs.Numbers.{null_at}
use Rattle.states.specs.declared.memo.Memo.{Memo}

-- the entries of all expressions below the first rule, then below the next one, and so on
abbrev pub notes : {T : Type 0} → Memo T → List (Option T)
notes m = vec_items m.entries

-- P holds of every note of a node i below a rule r
unfoldable pub AllNotes : {T : Type 0} → (ℕ → ℕ → T → Type 0) → List (Option T) → Type 0
AllNotes {T} P entries = (r i : ℕ) (x : T) → i < 512 → slice_index_or entries (r * 512 + i) None ≡ Some x → P r i x

pub AllNotes-prop : {T : Type 0} (P : ℕ → ℕ → T → Type 0) (entries : List (Option T)) →
    ((r i : ℕ) (x : T) → IsProp (P r i x)) → IsProp (AllNotes P entries)
unfolding AllNotes
AllNotes-prop P entries one f g = λ j r i x lt e. one r i x (f r i x lt e) (g r i x lt e) j

-- a note of the node i below the rule r tells whether it is nullable
abbrev pub Says : List Node → List ℕ → ℕ → ℕ → Bool → Type 0
Says nodes bodies r i b = (i < length nodes) × (null_at nodes bodies r i ≡ b)

-- every note tells the truth
abbrev pub Sound : List Node → List ℕ → List (Option Bool) → Type 0
Sound nodes bodies entries = AllNotes (Says nodes bodies) entries

pub Sound-prop : (nodes : List Node) (bodies : List ℕ) (entries : List (Option Bool)) → IsProp (Sound nodes bodies entries)
Sound-prop nodes bodies entries = AllNotes-prop (Says nodes bodies) entries (λ r i b. ×_prop (le_prop {n = suc i} {m = length nodes}) (Bool-set _ _))
