-- The names of the files that an output is made by: each stands beside the output, its name being the output's with an ending. And an output's folder.
-- Assumes nothing.
use Rattle.std.specs.Prelude.{ℕ, ◌+◌, ◌-◌, Bool, position, reverse, unwrap_or, List, ◌∷◌, ◌++◌, Option, Some, None, eqb, leb, length, take, if◌then◌else◌}

-- a name with an ending; none where there is no room for it
unfoldable pub longer : ℕ → List ℕ → List ℕ → Option (List ℕ)
longer room name ending = if leb (length name + length ending) room then Some (name ++ ending) else None

-- a point, the mark, a point, a word
abbrev pub ending_of : List ℕ → List ℕ → List ℕ
ending_of m word = (46 ∷ m) ++ (46 ∷ word)

-- a slash
abbrev pub is_slash : ℕ → Bool
is_slash b = eqb b 47

-- the folder of a name: all that stands up to and with its last slash, so without as many bytes as stand behind it
abbrev pub folder_of : List ℕ → List ℕ
folder_of name = take (length name - unwrap_or (position is_slash (reverse name)) (length name)) name
