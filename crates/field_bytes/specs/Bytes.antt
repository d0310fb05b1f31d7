-- Document 01, "Field kinds": what a byte may be, what every byte of a field is, and where a field stands in its record.
-- Assumes nothing.
use Rattle.std.specs.Prelude.{ℕ, ◌-◌, ◌≤◌, List, [], ◌∷◌, Bool, true, false, ◌&&◌, ◌||◌, leb, eqb, length, take, drop}
use Prim.Native.String as S
use Prim.Native.Char.{code}

-- 0 to 9
abbrev pub is_digit : ℕ → Bool
is_digit b = leb 48 b && leb b 57

abbrev pub is_zero : ℕ → Bool
is_zero b = eqb b 48

-- byte 32 alone
abbrev pub is_blank : ℕ → Bool
is_blank b = eqb b 32

-- 32 to 126 or 160 to 255
abbrev pub is_text : ℕ → Bool
is_text b = leb 32 b && leb b 126 || leb 160 b && leb b 255

abbrev pub is_digit_or_blank : ℕ → Bool
is_digit_or_blank b = is_digit b || is_blank b

unfoldable pub every : (ℕ → Bool) → List ℕ → Bool
every f [] = true
every f (b ∷ s) = f b && every f s

-- the same bytes, one for one
unfoldable pub same : List ℕ → List ℕ → Bool
same [] [] = true
same [] (b ∷ t) = false
same (a ∷ s) [] = false
same (a ∷ s) (b ∷ t) = eqb a b && same s t

-- the bytes of a text
abbrev pub text : S.String → List ℕ
text S.[] = []
text (S.◌∷◌ c s) = code c ∷ text s

-- positions from to to of a record, counted from 1
abbrev pub part : ℕ → ℕ → List ℕ → List ℕ
part from to r = take (to - (from - 1)) (drop (from - 1) r)

-- positions from to to stand in the record
abbrev pub Inside : ℕ → ℕ → List ℕ → Type 0
Inside from to r = (1 ≤ from) × (from ≤ to) × (to ≤ length r)
