-- Document 02, No. 1: what the records of a transaction begin with, fields 1 to 5, as the code puts it. No. 2: a message at its place.
-- Assumes nothing.
use Rattle.std.specs.Prelude.{ℕ, ◌-◌, List, [], ◌∷◌, ◌++◌}
use Rattle.field_texts.specs.Texts.{to_left}
use Rattle.fields.specs.Numbers.{written}
use Rattle.operations.specs.Making.{number, too_long}
use Rattle.write_fields.specs.Parts.{head_bytes}
use Rattle.layout.specs.Findings.{Finding}

-- 22 at the first of service, type and number that is too long
unfoldable pub opening_long : ℕ → ℕ → ℕ → Finding
opening_long service type n = too_long (number 2 2 service ∷ number 3 2 type ∷ number 5 7 n ∷ [])

unfoldable pub opening_bytes : ℕ → ℕ → ℕ → ℕ → List ℕ
opening_bytes service type kind n = head_bytes service type kind ++ written 7 n

-- line, column, text, zeros and the line feed of a message that stands after the first n bytes
unfoldable pub message_bytes : ℕ → ℕ → ℕ → List ℕ → List ℕ
message_bytes n line column words = written 3 line ++ (written 1 column ++ (to_left 40 words ++ (written (36 - n) 0 ++ (10 ∷ []))))
