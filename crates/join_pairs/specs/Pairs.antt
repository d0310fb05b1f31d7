-- Document 01, "Closing, joining, parting": what is known of an accepted file that is to be joined.
-- Assumes nothing.
use Rattle.std.specs.Prelude.{ℕ, ◌*◌, ◌≤◌, ◌≡◌, List, [], ◌∷◌, true, length}
use Rattle.fields.specs.Bytes.{every, is_digit}
use Rattle.figures.specs.declared.totals.Totals.{Totals}
use Rattle.run_growth.specs.Bounds.{Bounded}
use Rattle.limits.specs.Limits.{record_bytes, most_records}
use Rattle.rules.specs.Codes.{record_code}
use Rattle.rules.specs.Fields.{bytes_in, agreement_field, assignment_field}
use Rattle.rules.specs.Growth.{all_keys}
use Rattle.rules.specs.Run.{records_of}

-- a record 20 has the digits of its key
pub record KeyReadable (r : List ℕ) : Type 0 where
  pub agreement : record_code r ≡ 20 → every is_digit (bytes_in agreement_field r) ≡ true
  pub number : record_code r ≡ 20 → every is_digit (bytes_in assignment_field r) ≡ true

unfoldable pub KeysReadable : List (List ℕ) → Type 0
KeysReadable [] = Unit {0}
KeysReadable (r ∷ rs) = KeyReadable r × KeysReadable rs

-- the figures of an accepted file
pub record Countable (t : Totals) : Type 0 where
  pub bounded : Bounded most_records t
  pub ends : 2 ≤ t.records.0

-- an accepted file with its figures and its keys
pub record Judged (b : List ℕ) (t : Totals) (ks : List ℕ) : Type 0 where
  pub countable : Countable t
  pub long : 2 * record_bytes ≤ length b
  pub readable : KeysReadable (records_of b)
  pub keys : ks ≡ all_keys (records_of b)
