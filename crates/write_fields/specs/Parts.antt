-- Fields 1 to 4, which every record starts with.
-- Assumes nothing.
use Rattle.std.specs.Prelude.{ℕ, List, ◌++◌}
use Rattle.fields.specs.Bytes.{text}
use Rattle.fields.specs.Numbers.{written}

unfoldable pub head_bytes : ℕ → ℕ → ℕ → List ℕ
head_bytes service code kind = text "NY" ++ (written 2 service ++ (written 2 code ++ written 2 kind))
