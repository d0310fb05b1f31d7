-- Document 01, "Field kinds", KID and Reference: one run of digits at an end of the field, blanks elsewhere.
-- Assumes nothing.
use Rattle.std.specs.Prelude.{ℕ, List, [], ◌∷◌, Bool, false, ◌&&◌, ◌||◌, if◌then◌else◌}
use Rattle.field_bytes.specs.Bytes.{every, is_digit, is_blank}

-- blanks, then digits to the end, at least one
unfoldable pub at_right : List ℕ → Bool
at_right [] = false
at_right (b ∷ s) = if is_blank b then at_right s else every is_digit (b ∷ s)

-- digits, at least one, then blanks to the end
unfoldable pub at_left : List ℕ → Bool
at_left [] = false
at_left (b ∷ s) = is_digit b && (every is_blank s || at_left s)

-- at the right end or the left end
unfoldable pub is_kid : List ℕ → Bool
is_kid s = at_right s || at_left s

-- at the right, and fewer digits than places: the first is blank
unfoldable pub is_reference : List ℕ → Bool
is_reference [] = false
is_reference (b ∷ s) = is_blank b && at_right s
