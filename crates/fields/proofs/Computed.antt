-- A test that is computed at every number below a bound. Passed on from `field_bytes`.
-- Assumes nothing.
unfoldable pub use Rattle.field_bytes.proofs.Computed.{below, alike}
pub use Rattle.field_bytes.proofs.Computed.{below_at, alike_same}
