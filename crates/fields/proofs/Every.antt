-- What the whole of a field says of each byte. Passed on from `field_bytes`.
-- Assumes nothing.
pub use Rattle.field_bytes.proofs.Every.{every_next, every_end, every_at, same_is, same_self, digit_low, digit_high, digit_is}
