-- Document 01, "One file whole": the word that an answer begins with, in eight bytes.
-- Assumes nothing.
use Rattle.std.specs.Prelude.{ℕ, List, Ok, Err}
use Rattle.fields.specs.Bytes.{text}
use Rattle.rules.specs.Refusals.{Verdict}

abbrev pub word_for : Verdict → List ℕ
word_for (Ok t) = text "accepted"
word_for (Err x) = text "refused "
