-- Document 01, "Field kinds": what a byte may be, and where a field stands. Passed on from `field_bytes`.
-- Assumes nothing.
pub use Rattle.field_bytes.specs.Bytes.{is_digit, is_zero, is_blank, is_text, is_digit_or_blank, text, part, Inside}
unfoldable pub use Rattle.field_bytes.specs.Bytes.{every, same}
