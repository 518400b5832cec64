-- What tables and states together give.
use Rattle.std.proofs.Common.{◌≡◌, ℕ, List, Ok, Err, IsErrAnd, Result, sym, refl, subst}
use Rattle.std.specs.Result.{MatchResult}
use Rattle.std.proofs.lemmas.Result.{err_from_is_err_and}
use Rattle.model.specs.declared.nodes.Node.{Node}
use Rattle.model.specs.declared.machine.Machine.{Machine}
use Rattle.model.specs.Machine.{states_of}
use Rattle.tables.specs.Plain.{Plain}
use Rattle.tables.specs.Read.{read}
use Rattle.tables_law.specs.Lawful.{Lawful}
use Rattle.states.specs.declared.error.BuildError.{BuildError}
use Rattle.states.specs.declared.error.BuildError.TheVariants.{Recursion, TooLarge, NoMemory}
use Rattle.states.specs.Build.{Built}
use Rattle.load.specs.Errors.{of_build}
use Rattle.load.specs.Loaded.{Loaded}
use Rattle.load.specs.Loads.{Loads}

-- lawful tables whose states were built are those of a loaded grammar
pub loaded : (t : Plain) (m : Machine) → Lawful t → Built t.nodes t.bodies (Ok m) → Loaded t (states_of m)
loaded t m lawful built = record {
  tables = lawful;
  rules = built.0;
  few_states = built.1;
  rule_states = built.2;
  few_derivatives = built.3;
  exprs = built.4.0;
  stand = built.4.1;
}

-- the same over slices that hold the nodes and the bodies
pub loaded_from : (t : Plain) (nodes : List Node) (bodies : List ℕ) (m : Machine) → nodes ≡ t.nodes → bodies ≡ t.bodies →
    Lawful t → Built nodes bodies (Ok m) → Loaded t (states_of m)
loaded_from t nodes bodies m en eb lawful built =
    loaded t m lawful (let P : List Node → Type 0 = λ ns. Built ns t.bodies (Ok m) in
    subst P en (let Q : List ℕ → Type 0 = λ bs. Built nodes bs (Ok m) in subst Q eb built))

-- what comes of a load whose states could not be built
pub failed : (text : List ℕ) (t : Plain) (e : BuildError) → read text ≡ Ok t →
    Built t.nodes t.bodies (Err e) → Loads text (Err (of_build e t.rule_lines))
failed text t (Recursion k) told built =
    (t, told, record { at = k; at_rule = built.0; line = refl; before = built.1; not_lawful = built.2 })
failed text t TooLarge told built = (t, told)
failed text t NoMemory told built = tt

-- the same over slices that hold the nodes, the bodies and the lines
pub failed_from : (text : List ℕ) (t : Plain) (nodes : List Node) (bodies lines : List ℕ) (e : BuildError) → read text ≡ Ok t →
    nodes ≡ t.nodes → bodies ≡ t.bodies → lines ≡ t.rule_lines → Built nodes bodies (Err e) → Loads text (Err (of_build e lines))
failed_from text t nodes bodies lines e told en eb el built =
    let P : List Node → Type 0 = λ ns. Built ns t.bodies (Err e) in
    let Q : List ℕ → Type 0 = λ bs. Built nodes bs (Err e) in
    let R : List ℕ → Type 0 = λ ls. Loads text (Err (of_build e ls)) in
    subst R (sym el) (failed text t e told (subst P en (subst Q eb built)))

-- what an error becomes by `map_err`

pub mapped_ok : {T E F : Type 0} (r : Result T E) (out : Result T F) (m : T) (P : E → F → Type 0) →
    MatchResult r (λ x. out ≡ Ok x) (λ e. IsErrAnd out (P e)) → out ≡ Ok m → r ≡ Ok m
mapped_ok (Ok x) out m P c e = cc
mapped_ok (Err x) out m P c e = let p = err_from_is_err_and out c in let q = p.1 in cc

pub mapped_err : {T E F : Type 0} (r : Result T E) (out : Result T F) (y : F) (P : E → F → Type 0) →
    MatchResult r (λ x. out ≡ Ok x) (λ e. IsErrAnd out (P e)) → out ≡ Err y → (e : E) × (r ≡ Err e) × P e y
mapped_err (Ok x) out y P c e = absurd cc
mapped_err (Err x) out y P c e =
    let p = err_from_is_err_and out c in
    let q = p.1 in
    let same : p.0 ≡ y = cc in
    (x, refl, subst (P x) same p.2)
