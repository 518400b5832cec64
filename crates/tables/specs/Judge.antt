-- How a line is judged: over the whole line first its form, then the room in its table, then its numbers, then its
-- spelling, then the places of its numbers.
use Rattle.std.specs.Prelude.{ℕ, List, length, Ok, Result, ◌==◌, nat_lt}
use Rattle.text.specs.declared.fault.TableFault.{TableFault}
use Rattle.text.specs.Fields.{key, spelling, number, value_in, spelling_in}
use Rattle.text.specs.Cursors.{taken, last_number, others, ended, line_parts}
use Rattle.tables.specs.declared.words.Key.{Key}
use Rattle.tables.specs.declared.words.Key.TheVariants as keys
use Rattle.tables.specs.Chain.{then, lift}
use Rattle.tables.specs.Words.{key_in, kind_in, version_in, allowed}
use Rattle.tables.specs.Shapes.{node_in}
use Rattle.tables.specs.Checks.{form, room, place, fresh, may_head, may_stand}
use Rattle.tables.specs.Plain.{Plain, Sketch, Fact, begin, name, under, node, rule, end}

-- `grammar=1`
abbrev pub begin_line : ℕ → List (List ℕ) → Result Fact TableFault
begin_line n fs =
    then (lift (taken key n fs)) (λ v.
    then (lift (ended n (others fs))) (λ _.
    then (lift (version_in v)) (λ _. Ok begin)))

-- `name=KIND,SPELLING`
abbrev pub name_line : Plain → ℕ → List (List ℕ) → Result Fact TableFault
name_line t n fs =
    then (lift (taken key n fs)) (λ w.
    then (lift (taken spelling n (others fs))) (λ v.
    then (lift (ended n (others (others fs)))) (λ _.
    then (lift (kind_in w)) (λ k.
    then (room 64 (length t.names) n) (λ _.
    then (lift (spelling_in v)) (λ s.
    then (lift (fresh n s t.spellings)) (λ _. Ok (name k s))))))))

-- `under=NAME,HEAD`
abbrev pub under_line : Plain → ℕ → List (List ℕ) → Result Fact TableFault
under_line t n fs =
    then (lift (taken number n fs)) (λ v.
    then (lift (last_number n (others fs))) (λ w.
    then (lift (value_in v)) (λ x.
    then (lift (value_in w)) (λ h.
    then (place (may_head t.names x h) n) (λ _. Ok (under x h))))))

-- `node=SHAPE` with the numbers of its shape
abbrev pub node_line : Plain → ℕ → List (List ℕ) → Result Fact TableFault
node_line t n fs =
    then (lift (taken key n fs)) (λ w.
    then (lift (node_in w n (others fs))) (λ r.
    then (room 256 (length t.nodes) n) (λ _.
    then (lift r) (λ x.
    then (place (may_stand t.names (length t.nodes) x) n) (λ _. Ok (node x n))))))

-- `rule=SPELLING,NODE`
abbrev pub rule_line : Plain → ℕ → List (List ℕ) → Result Fact TableFault
rule_line t n fs =
    then (lift (taken spelling n fs)) (λ v.
    then (lift (last_number n (others fs))) (λ w.
    then (room 32 (length t.bodies) n) (λ _.
    then (lift (value_in w)) (λ b.
    then (lift (spelling_in v)) (λ s.
    then (lift (fresh n s t.rules)) (λ _.
    then (place (nat_lt b (length t.nodes)) n) (λ _. Ok (rule s b n))))))))

-- `end=COUNT`
abbrev pub end_line : Plain → ℕ → List (List ℕ) → Result Fact TableFault
end_line t n fs =
    then (lift (last_number n fs)) (λ v.
    then (lift (value_in v)) (λ c.
    then (place (c == length t.bodies) n) (λ _. Ok end)))

-- a line by its key
abbrev pub keyed_line : Key → Plain → ℕ → List (List ℕ) → Result Fact TableFault
keyed_line keys.Grammar t n fs = begin_line n fs
keyed_line keys.Name t n fs = name_line t n fs
keyed_line keys.Under t n fs = under_line t n fs
keyed_line keys.Node t n fs = node_line t n fs
keyed_line keys.Rule t n fs = rule_line t n fs
keyed_line keys.End t n fs = end_line t n fs

-- line n: it has a key, the key may stand here, and then it is judged by its key
abbrev pub judged : Sketch → ℕ → List ℕ → Result Fact TableFault
judged d n bs =
    then (lift (line_parts n bs)) (λ p.
    then (lift (key_in p.0)) (λ k.
    then (lift (form (allowed d.stage k) n)) (λ _. keyed_line k d.tables n p.1)))
