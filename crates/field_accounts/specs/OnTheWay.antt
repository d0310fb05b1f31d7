-- What the code computes on its way to the definitions of document 01. No promise to a caller rests on this page alone.
-- Assumes nothing.
use Rattle.std.specs.Prelude.{ℕ, ◌+◌, ◌*◌, List, [], ◌∷◌}

-- an account's bytes by their weights: the digits' sum and 48 times the weights
unfoldable pub weighed : List ℕ → List ℕ → ℕ
weighed [] s = 0
weighed (w ∷ ws) [] = 0
weighed (w ∷ ws) (b ∷ s) = b * w + weighed ws s
