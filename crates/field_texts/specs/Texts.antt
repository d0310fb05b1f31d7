-- Document 02, No. 1: a short text in a wider field, left with blanks behind it, or to the right with blanks before it.
-- Assumes nothing.
use Rattle.std.specs.Prelude.{ℕ, ◌-◌, List, ◌++◌, length, replicate}

abbrev pub blanks : ℕ → List ℕ
blanks n = replicate n 32

-- in a field of w places
unfoldable pub to_left : ℕ → List ℕ → List ℕ
to_left w t = t ++ blanks (w - length t)

unfoldable pub to_right : ℕ → List ℕ → List ℕ
to_right w t = blanks (w - length t) ++ t
