-- Document 01, "Field kinds", Digits: what number digits write.
-- Assumes nothing.
use Rattle.std.specs.Prelude.{ℕ, ◌+◌, ◌-◌, ◌*◌, List, [], ◌∷◌}

-- the number that the digits s write after digits that wrote n
unfoldable pub value_from : ℕ → List ℕ → ℕ
value_from n [] = n
value_from n (b ∷ s) = value_from (n * 10 + (b - 48)) s

abbrev pub value : List ℕ → ℕ
value s = value_from 0 s
