-- Two tests joined. Passed on from `field_bytes`.
-- Assumes nothing.
pub use Rattle.field_bytes.proofs.Tests.{and_left, and_right, and_both, one_more, none_left}
