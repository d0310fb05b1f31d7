-- The figures stay small behind a sound record. Passed on from `run_step`.
-- Assumes nothing.
pub use Rattle.run_step.proofs.Bounds.{pays, small_next}
