-- A word that is none of the six is no command, a day of another form is no date, and the word without a digit is 0.
-- Assumes nothing.
use Rattle.std.proofs.Common.{None}
use Prim.Native.Nat.{ℕ}
use mathlib.Core.Path.{◌≡◌, refl}
use mathlib.Core.List.{List, []}
use mathlib.Core.Bool.{Bool, true, false}
use Rattle.dates.specs.Dates.{is_date, day_of}
use Rattle.fields.specs.Bytes.{every, same, text}
use Rattle.fields.specs.Numbers.{value_from}
use Rattle.fields.proofs.Every.{same_is}
use Rattle.tool_command.specs.CommandLine.{command_from, no_day, number_from}

-- words that differ are not the same
not_same : (s t : List ℕ) → (s ≡ t → ⊥) → same s t ≡ false
not_same s t h = go (same s t) refl
  where
    go : (b : Bool) → same s t ≡ b → same s t ≡ false
    go true e = absurd (h (same_is s t e))
    go false e = e

pub no_command : (s : List ℕ)
    → (s ≡ text "check" → ⊥) → (s ≡ text "make" → ⊥) → (s ≡ text "close" → ⊥) → (s ≡ text "join" → ⊥) → (s ≡ text "part" → ⊥) → (s ≡ text "help" → ⊥)
    → command_from s ≡ None
unfolding command_from
no_command s a b c d e f = simp (not_same s _ a, not_same s _ b, not_same s _ c, not_same s _ d, not_same s _ e, not_same s _ f)

-- the day 0 0 0 is no date
pub no_date : day_of no_day.year no_day.month no_day.day ≡ None
unfolding day_of is_date
no_date = refl

-- the word without a digit is 0, as a word that is no number
pub no_digit : number_from [] ≡ 0
unfolding number_from every value_from
no_digit = refl
