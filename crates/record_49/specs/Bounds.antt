-- Document 01, "Layouts", record 49: a number up to a bound, as lines and columns are.
-- Assumes nothing.
use Rattle.std.specs.Prelude.{ℕ, List, Bool, ◌&&◌, leb, if◌then◌else◌, Option, Some, None}
use Rattle.fields.specs.Bytes.{every, is_digit}
use Rattle.fields.specs.Numbers.{value}

-- digits that write a number up to most
unfoldable pub is_up_to : ℕ → List ℕ → Bool
is_up_to most s = every is_digit s && leb (value s) most

-- that number, or none
unfoldable pub up_to : ℕ → List ℕ → Option ℕ
up_to most s = if is_up_to most s then Some (value s) else None
