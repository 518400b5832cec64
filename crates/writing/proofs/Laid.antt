-- Bytes written one after the other.
use Rattle.std.proofs.Common.{◌≡◌, ℕ, ◌+◌, ◌-◌, ◌^◌, ◌<◌, ◌≤◌, min, List, [], ◌∷◌, ◌++◌, length, drop, set, sym, refl, ap, ◌∙◌, subst, ⊎_elim, add-one, arith}
use Rattle.std.proofs.lemmas.Bool.{cases_lt}
use Rattle.std.proofs.lemmas.List.{length-append, length-set, set_past}
use Rattle.std.proofs.lemmas.List.Edits.{sets, sets-eq}
use Rattle.writing.specs.declared.put.Writer.{Writer}
use Rattle.writing.specs.Wrote.{laid, Wrote}

-- bytes after bytes
pub laid_append : (xs ys out : List ℕ) (at : ℕ) → laid out at (xs ++ ys) ≡ laid (laid out at xs) (at + length xs) ys
laid_append [] ys out at = ap (λ k. laid out k ys) (omega arith)
laid_append (x ∷ xs) ys out at = laid_append xs ys (set out at x) (at + 1) ∙ ap (λ k. laid (laid (set out at x) (at + 1) xs) k ys) (omega arith)

-- it is the library's writing of several bytes
pub laid_is_sets : (bs out : List ℕ) (at : ℕ) → laid out at bs ≡ sets out at bs
laid_is_sets [] out at = refl
laid_is_sets (b ∷ bs) out at = laid_is_sets bs (set out at b) (at + 1) ∙ ap (λ k. sets (set out at b) k bs) (add-one at)

-- from the first place on: the text in front, and the rest as it was
pub laid_front : (bs out : List ℕ) → length bs ≤ length out → laid out 0 bs ≡ bs ++ drop (length bs) out
laid_front bs out le =
    laid_is_sets bs out 0 ∙ sets-eq bs out 0 (omega arith) ∙ ap (λ k. bs ++ drop k out) (omega arith)

-- the output keeps its length
pub laid_length : (bs out : List ℕ) (at : ℕ) → length (laid out at bs) ≡ length out
laid_length [] out at = refl
laid_length (b ∷ bs) out at = laid_length bs (set out at b) (at + 1) ∙ length-set out at b

-- past the end nothing is altered
pub laid_past : (bs out : List ℕ) (at : ℕ) → length out ≤ at → laid out at bs ≡ out
laid_past [] out at le = refl
laid_past (b ∷ bs) out at le =
    let e : set out at b ≡ out = set_past out at b le in
    ap (λ o. laid o (at + 1) bs) e ∙ laid_past bs out (at + 1) (omega arith)

-- a place that is stopped at m is as good as the true one, where m is no place of the output
pub laid_stopped : (bs out : List ℕ) (at m : ℕ) → length out ≤ m → laid out (min at m) bs ≡ laid out at bs
laid_stopped bs out at m le =
    ⊎_elim (λ (l : at < m). let e : min at m ≡ at = omega arith in ap (λ k. laid out k bs) e)
    (λ (l : m ≤ at). laid_past bs out (min at m) (omega arith) ∙ sym (laid_past bs out at (omega arith)))
    (cases_lt at m)

-- one writing after another
pub wrote_then : {w v u : Writer} {xs ys : List ℕ} → Wrote w xs v → Wrote v ys u → Wrote w (xs ++ ys) u
wrote_then {w} {v} {u} {xs} {ys} h k =
    let n = length-append xs ys in
    record {
      same = k.same ∙ h.same;
      bytes = λ small.
          let e : v.out.now ≡ laid w.out.now w.at xs = h.bytes small in
          let l : length v.out.now ≡ length w.out.now = ap length e ∙ laid_length xs w.out.now w.at in
          let m : length (laid w.out.now w.at xs) ≤ 2 ^ 64 - 1 = omega (arith, laid_length xs w.out.now w.at) in
          k.bytes (omega arith)
          ∙ ap (λ o. laid o v.at ys) e
          ∙ ap (λ a. laid (laid w.out.now w.at xs) a ys) h.next
          ∙ laid_stopped ys (laid w.out.now w.at xs) (w.at + length xs) (2 ^ 64 - 1) m
          ∙ sym (laid_append xs ys w.out.now w.at);
      next = omega (arith, k.next, h.next, n);
    }

-- nothing was put
pub wrote_none : (w : Writer) → w.at < 2 ^ 64 → Wrote w [] w
wrote_none w lt = record { same = refl; bytes = λ small. refl; next = omega arith }

-- the same bytes under another name
pub wrote_as : {w v : Writer} {xs ys : List ℕ} → xs ≡ ys → Wrote w xs v → Wrote w ys v
wrote_as {w} {v} e h = subst (λ bs. Wrote w bs v) e h
