-- A choice by a test, as the definitions write it: the library's own.
-- Assumes nothing.
pub use Rattle.std.specs.Prelude.{if◌then◌else◌}
