-- The answer of an account number. Passed on from `field_accounts`.
-- Assumes nothing.
pub use Rattle.field_accounts.proofs.Weights.{digits_judged, no_digits}
