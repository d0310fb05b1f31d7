-- The number that digits write. Passed on from `field_digits`.
-- Assumes nothing.
pub use Rattle.field_digits.proofs.Values.{number_yes, number_no, number_is, number_not, written_length}
