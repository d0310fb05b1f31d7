-- Document 01, "Field kinds", Digits. Passed on from `field_words` and `field_digits`.
-- Assumes nothing.
pub use Rattle.field_words.specs.Values.{value}
pub use Rattle.field_digits.specs.Numbers.{pairs_of, paired}
unfoldable pub use Rattle.field_words.specs.Values.{value_from}
unfoldable pub use Rattle.field_digits.specs.Numbers.{number_of, written, code_of}
