-- What a sheet or a hedge that was read is known to be.
use Rattle.std.proofs.Common.{◌≡◌, ℕ, ◌+◌, ◌-◌, ◌<◌, ◌≤◌, ◌&&◌, eqb, leb, List, [], length, take, replicate, Ok, sym, refl, ap, subst, arith}
use Rattle.std.proofs.lemmas.List.{take_at}
use Rattle.std.proofs.lemmas.Bool.{and_parts, leb-true, eqb-true}
use Rattle.model.specs.declared.names.Name.{Name}
use Rattle.text.specs.Pieces.{lines}
use Rattle.records.specs.declared.sheet.Limits.{Limits}
use Rattle.model.specs.declared.verdict.Verdict.{Verdict}
use Rattle.model.specs.declared.verdict.Verdict.TheVariants.{Included, Excluded}
use Rattle.records.specs.declared.sheet.Stage.{Stage}
use Rattle.records.specs.declared.sheet.Stage.TheVariants.{Sheet, Hedge, Ended}
use Rattle.records.specs.Reading.{Found, text_read, sheet_read, hedge_read, begun, counted, answer, itself, Opening, padded}
use Rattle.records.proofs.Chained.{then_ok, cond_ok, made_is}
use Rattle.records.proofs.Kept.{Kept, Placed, kept_step, kept_begun, run_keeps}
use Rattle.records.proofs.Sound.{text_keeps, pair_sound, hedge_excluded}

-- the records of a verdict: as many as are counted, of its kind alone
abbrev pub OfKind : Found → Verdict → Type 0
OfKind f Included = (length f.rows ≡ f.at.count) × (f.items ≡ [])
OfKind f Excluded = (length f.items ≡ f.at.count) × (f.rows ≡ [])

-- what was read within m rows
pub record WellRead (m : ℕ) (f : Found) : Type 0 where
  pub one : 1 ≤ m
  pub most : m ≤ 512
  pub few : f.at.count ≤ m
  pub of_kind : OfKind f f.at.verdict

kind_of_placed : (f : Found) (v : Verdict) → f.at.count ≡ length f.rows + length f.items → Placed Ended v f.rows f.items → OfKind f v
kind_of_placed f Included count none = (omega (arith, ap length none), none)
kind_of_placed f Excluded count none = (omega (arith, ap length none), none)

pub counts : (m n : ℕ) → counted m n ≡ Ok tt → (1 ≤ m) × (m ≤ 512) × (m ≡ n)
counts m n e =
    let all = (cond_ok (leb 1 m && leb m 512 && eqb m n) tt tt _ e).0 in
    let p = and_parts (leb 1 m && leb m 512) (eqb m n) all in
    let q = and_parts (leb 1 m) (leb m 512) p.0 in
    (leb-true 1 m q.0, leb-true m 512 q.1, eqb-true m n p.1)

well_read : (L : Limits) (names : List Name) (s : Stage) (m n : ℕ) (bs : List ℕ) (f : Found) → Opening s → L.room ≡ m →
    text_read L names s m n bs ≡ Ok f → WellRead m f
well_read L names s m n bs f o room e =
    let k : (Kept L names f × (f.at.stage ≡ Ended)) × (m ≡ n) =
    made_is _ (text_read L names s m n bs) f e (text_keeps L names s m n bs (λ g. Kept L names g × (g.at.stage ≡ Ended))
    (run_keeps L names (Kept L names) (kept_step L names) (lines bs) (begun s) 0 (kept_begun L names s o))) in
    let c = counts m n (then_ok (counted m n) _ f e).1 in
    let K = k.0.0 in
    record {
      one = c.0;
      most = c.1;
      few = omega (arith, K.within);
      of_kind = kind_of_placed f f.at.verdict K.counted
          (subst (λ t. Placed t f.at.verdict f.rows f.items) k.0.1 K.placed);
    }

pub sheet_well : (rules states : ℕ) (names : List Name) (m n : ℕ) (bs : List ℕ) (f : Found) → sheet_read rules states names m n bs ≡ Ok f → WellRead m f
sheet_well rules states names m n bs f e = well_read (record { rules = rules; states = states; room = m }) names Sheet m n bs f tt refl e

pub hedge_well : (names : List Name) (m n : ℕ) (bs : List ℕ) (f : Found) → hedge_read names m n bs ≡ Ok f → WellRead m f
hedge_well names m n bs f e = well_read (record { rules = 0; states = 0; room = m }) names Hedge m n bs f tt refl e

-- a hedge has items alone
pub hedge_items : (names : List Name) (m n : ℕ) (bs : List ℕ) (f : Found) → hedge_read names m n bs ≡ Ok f → length f.items ≡ f.at.count
hedge_items names m n bs f e =
    let v : f.at.verdict ≡ Excluded = hedge_excluded (record { rules = 0; states = 0; room = m }) names m n bs f.at (sym (ap (answer itself) e)) in
    (subst (OfKind f) v (hedge_well names m n bs f e).of_kind).0

-- the pair of a sheet are rules
pub sheet_pair : (rules states : ℕ) (names : List Name) (m n : ℕ) (bs : List ℕ) (f : Found) → sheet_read rules states names m n bs ≡ Ok f →
    (f.at.left < rules) × (f.at.right < rules)
sheet_pair rules states names m n bs f e =
    pair_sound (record { rules = rules; states = states; room = m }) names m n bs f.at (sym (ap (answer itself) e))

-- the first of n places are the records
pub take_padded : {X : Type 0} (x : X) (n k : ℕ) (xs : List X) → length xs ≡ k → take k (padded x n xs) ≡ xs
take_padded x n k xs e = take_at xs (replicate (n - length xs) x) k e
