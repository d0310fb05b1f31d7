-- Values as a spreadsheet exports them: a line for each record, its values parted by semicolons.
-- Assumes nothing.
use Rattle.std.specs.Prelude.{ℕ, zero, suc, ◌+◌, List, [], ◌∷◌, Bool, false, ◌||◌, eqb, ltb, if◌then◌else◌}
use Rattle.fields.specs.Bytes.{every, is_digit}

-- behind the first byte b; nothing where there is none
unfoldable pub behind : ℕ → List ℕ → List ℕ
behind b [] = []
behind b (x ∷ s) = if eqb x b then s else behind b s

-- with x before the first of them
abbrev pub with_first : ℕ → List (List ℕ) → List (List ℕ)
with_first x [] = (x ∷ []) ∷ []
with_first x (s ∷ ss) = (x ∷ s) ∷ ss

-- what stands between the bytes b: one piece more than there are of them
unfoldable pub between : ℕ → List ℕ → List (List ℕ)
between b [] = [] ∷ []
between b (x ∷ s) = if eqb x b then ([] ∷ between b s) else with_first x (between b s)

-- a carriage return at the end of a line goes with it
unfoldable pub without_return : List ℕ → List ℕ
without_return [] = []
without_return (x ∷ []) = if eqb x 13 then [] else (x ∷ [])
without_return (x ∷ y ∷ s) = x ∷ without_return (y ∷ s)

unfoldable pub all_without_return : List (List ℕ) → List (List ℕ)
all_without_return [] = []
all_without_return (l ∷ ls) = without_return l ∷ all_without_return ls

-- the lines of a text, and the values of a line
abbrev pub lines_of : List ℕ → List (List ℕ)
lines_of v = all_without_return (between 10 v)

abbrev pub values_of : List ℕ → List (List ℕ)
values_of l = between 59 l

abbrev pub is_semicolon : ℕ → Bool
is_semicolon b = eqb b 59

-- what stands from the value in place i on, counted from 0
unfoldable pub from_value : ℕ → List ℕ → List ℕ
from_value zero l = l
from_value (suc i) l = from_value i (behind 59 l)

-- it begins with #
abbrev pub is_remark : List ℕ → Bool
is_remark [] = false
is_remark (x ∷ s) = eqb x 35

-- a remark, or a line with no value in it
unfoldable pub passed_over : List ℕ → Bool
passed_over l = is_remark l || every is_semicolon l

-- how many lines bear a record
abbrev pub borne : List ℕ → ℕ
borne l = if passed_over l then 0 else 1

unfoldable pub bearing : List (List ℕ) → ℕ
bearing [] = 0
bearing (l ∷ ls) = borne l + bearing ls

-- one digit or more
unfoldable pub is_numeral : List ℕ → Bool
is_numeral [] = false
is_numeral (x ∷ s) = every is_digit (x ∷ s)

-- no field has more than 17 places: a larger number is as much too long as this one
abbrev pub cap : ℕ
cap = 100_000_000_000_000_000

unfoldable pub capped : ℕ → ℕ
capped n = if ltb n cap then n else cap
