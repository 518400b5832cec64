-- The forms of a number and of a spelling.
use Rattle.std.specs.Prelude.{ℕ, ◌+◌, ◌-◌, ◌*◌, Bool, cond, not, ◌&&◌, ◌||◌, List, [], ◌∷◌, length, Some, None, Option, ◌==◌, nat_le, slice_index}
use Rattle.std.specs.List.{list_all}

-- from low to high
abbrev pub between : ℕ → ℕ → ℕ → Bool
between low high b = nat_le low b && nat_le b high

-- a digit
abbrev pub digit : ℕ → Bool
digit b = between 48 57 b

-- a letter or underscore
abbrev pub letter : ℕ → Bool
letter b = between 65 90 b || between 97 122 b || b == 95

-- a spelling begins with a letter or underscore, and goes on with these, digits, points and hyphens
abbrev pub further : ℕ → Bool
further b = letter b || digit b || b == 46 || b == 45

-- the number that digits write after n
abbrev pub decimal_after : ℕ → List ℕ → ℕ
decimal_after n [] = n
decimal_after n (b ∷ bs) = decimal_after (n * 10 + (b - 48)) bs

-- one to nine digits, the first of several not 0
abbrev pub is_number : List ℕ → Bool
is_number bs = nat_le 1 (length bs) && nat_le (length bs) 9 && (length bs == 1 || not (slice_index bs 0 == 48)) && list_all digit bs

-- the number that the bytes write in plain decimal
abbrev pub number_of : List ℕ → Option ℕ
number_of bs = cond (is_number bs) (Some (decimal_after 0 bs)) None

-- a letter or underscore and up to 31 further bytes
abbrev pub is_spelling : List ℕ → Bool
is_spelling bs = nat_le 1 (length bs) && nat_le (length bs) 32 && letter (slice_index bs 0) && list_all further bs
