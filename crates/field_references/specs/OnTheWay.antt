-- What the code computes on its way to the definitions of document 01. No promise to a caller rests on this page alone.
-- Assumes nothing.
use Rattle.std.specs.Prelude.{ℕ, List, [], ◌∷◌, Bool, true, ◌&&◌, ◌||◌}
use Rattle.field_bytes.specs.Bytes.{is_digit, is_blank}
use Rattle.field_references.specs.declared.Side.{Side}
use Rattle.field_references.specs.declared.Side.TheVariants.{Left, Right}

-- of two neighbours in a KID, the outer is blank, or both are digits
abbrev pub runs_on : ℕ → ℕ → Bool
runs_on outer inner = is_blank outer || is_digit outer && is_digit inner

-- the same of neighbours as they stand, for a run of digits at the side
abbrev pub joins : Side → ℕ → ℕ → Bool
joins Left a b = runs_on b a
joins Right a b = runs_on a b

-- every two neighbours are joined, the first of all being a
unfoldable pub chain_from : (ℕ → ℕ → Bool) → ℕ → List ℕ → Bool
chain_from f a [] = true
chain_from f a (b ∷ s) = f a b && chain_from f b s

unfoldable pub chain : (ℕ → ℕ → Bool) → List ℕ → Bool
chain f [] = true
chain f (b ∷ s) = chain_from f b s
