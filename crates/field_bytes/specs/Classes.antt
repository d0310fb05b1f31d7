-- Document 01, "Field kinds": the classes that the code names, each by its test.
-- Assumes nothing.
use Rattle.std.specs.Prelude.{ℕ, Bool}
use Rattle.field_bytes.specs.Bytes.{is_digit, is_zero, is_blank, is_text, is_digit_or_blank}
use Rattle.field_bytes.specs.declared.classes.Class.{Class}
use Rattle.field_bytes.specs.declared.classes.Class.TheVariants.{Digit, Zero, Blank, Text, DigitOrBlank}

abbrev pub in_class : Class → ℕ → Bool
in_class Digit = is_digit
in_class Zero = is_zero
in_class Blank = is_blank
in_class Text = is_text
in_class DigitOrBlank = is_digit_or_blank
