-- Digit fields of any width. Passed on from `field_digits`.
-- Assumes nothing.
pub use Rattle.field_digits.proofs.Width.{value_below, written_digits, DigitField, digit_field, part_length, below_at}
