-- The hedges of a grammar are over its names.
use Rattle.std.proofs.Common.{ℕ, Bool, List, sym, refl, ap, ◌∙◌}
use Rattle.std.proofs.lemmas.Bool.{true≢false}
use Rattle.model.specs.declared.names.Kind.TheVariants.{Element}
use Rattle.model.specs.declared.names.Name.{Name}
use Rattle.model.specs.Relation.{same_kind, Lawful}
use Rattle.theory.specs.Hedge.{Hedge, Follows, at_once, after}
use Rattle.theory.specs.Language.{Expr, In, in_empty, in_simple, in_element, in_rule, in_left, in_right, in_seq, in_none_of, in_more_of}
use Rattle.meaning.specs.Names.{Kinded, Over, HedgesOverNames}

over_follows : (names : List Name) {u v w : Hedge} → Follows u v w → Over names u → Over names v →
    Over names w
over_follows names at_once p q = q
over_follows names (after f) p q = (p.0, p.1, p.2, over_follows names f p.3 q)

over_names : (names : List Name) (bodies : ℕ → Expr) (covers : ℕ → ℕ → Bool) →
    Lawful names covers → ((k : ℕ) → Kinded names (bodies k)) →
    {e : Expr} {h : Hedge} → Kinded names e → In bodies covers e h → Over names h
over_names names bodies covers ok all k in_empty = tt
over_names names bodies covers ok all k (in_simple {b = b} {t = t} c) =
    ((ok.named b t c).1, (λ s. refl), tt, tt)
over_names names bodies covers ok all k (in_element {e = e} {t = t} c p) = (
  (ok.named e t c).1,
  (λ s. elim (true≢false (ap (same_kind Element) (sym k.0 ∙ ok.own_kind e t c ∙ s))) [ ]),
  over_names names bodies covers ok all k.1 p,
  tt,
)
over_names names bodies covers ok all k (in_rule {k = n} p) =
    over_names names bodies covers ok all (all n) p
over_names names bodies covers ok all k (in_left p) = over_names names bodies covers ok all k.0 p
over_names names bodies covers ok all k (in_right p) = over_names names bodies covers ok all k.1 p
over_names names bodies covers ok all k (in_seq f p q) =
    over_follows names f (over_names names bodies covers ok all k.0 p)
    (over_names names bodies covers ok all k.1 q)
over_names names bodies covers ok all k in_none_of = tt
over_names names bodies covers ok all k (in_more_of f p q) =
    over_follows names f (over_names names bodies covers ok all k p)
    (over_names names bodies covers ok all k q)

pub hedges_over_names : HedgesOverNames
hedges_over_names names bodies covers ok all e h k p = over_names names bodies covers ok all k p
