-- Document 01, "Field kinds", KID and Reference. Passed on from `field_references`.
-- Assumes nothing.
unfoldable pub use Rattle.field_references.specs.Kids.{at_right, at_left, is_kid, is_reference}
