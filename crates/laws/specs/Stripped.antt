-- Demand 2: a file stripped of its ends, which closing puts back.
-- Assumes nothing.
use Rattle.std.specs.Prelude.{ℕ, List, [], ◌∷◌, Bool, ◌||◌, eqb, if◌then◌else◌}
use Rattle.rules.specs.Codes.{record_code}
use Rattle.rules.specs.Run.{records_of}
use Rattle.operations.specs.Closing.{bytes_of}

-- an 88 or an 89
abbrev pub an_end : ℕ → Bool
an_end n = eqb n 88 || eqb n 89

-- the records that are neither 88 nor 89, in order
unfoldable pub strip : List (List ℕ) → List (List ℕ)
strip [] = []
strip (r ∷ rs) = if an_end (record_code r) then strip rs else (r ∷ strip rs)

-- a file stripped of its ends
unfoldable pub stripped : List ℕ → List ℕ
stripped b = bytes_of (strip (records_of b))
