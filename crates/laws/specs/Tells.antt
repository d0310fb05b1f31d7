-- Document 01, "Layouts" (fields 5 and 6 of record 20) and "What may follow" (the places of a message, document 02, No. 2, for both services): one number stands for two fields.
-- Assumes nothing.
use Rattle.std.specs.Prelude.{ℕ, ◌≡◌, List, true, length}
use Rattle.fields.specs.Bytes.{every, is_digit}
use Rattle.limits.specs.Limits.{record_bytes}
use Rattle.rules.specs.Fields.{Field, bytes_in, number_in, agreement_field, assignment_field, message_of}
use Rattle.rules.specs.Messages.{has_place_at}
use Rattle.rules.specs.Payments.{is_line, is_column}

-- a record whose agreement and assignment number are Digits
pub record Keyed (r : List ℕ) : Type 0 where
  pub sized : length r ≡ record_bytes
  pub agreement : every is_digit (bytes_in agreement_field r) ≡ true
  pub assignment : every is_digit (bytes_in assignment_field r) ≡ true

-- a record whose line and column are sound and a place, where the service of this code has them
pub record Placed (service : ℕ) (r : List ℕ) : Type 0 where
  pub sized : length r ≡ record_bytes
  pub placed : has_place_at (message_of service) r ≡ true
  pub line : is_line (bytes_in (message_of service).line r) ≡ true
  pub column : is_column (bytes_in (message_of service).column r) ≡ true

-- two records agree in a field, in its bytes and in its number
pub record Agree (x : Field) (r s : List ℕ) : Type 0 where
  pub bytes : bytes_in x r ≡ bytes_in x s
  pub numbers : number_in x r ≡ number_in x s
