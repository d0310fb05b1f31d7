-- Bytes as one number. Passed on from `field_words`.
-- Assumes nothing.
unfoldable pub use Rattle.field_words.specs.Words.{bytes_of}
