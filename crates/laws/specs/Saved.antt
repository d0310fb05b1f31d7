-- What a caller keeps as a file: the first bytes of an output, and they are the whole of what was to be written.
-- Assumes nothing.
use Rattle.std.specs.Prelude.{ℕ, ◌≤◌, ◌≡◌, List, length, take, get_or}

pub record Saved (n : ℕ) (file after : List ℕ) : Type 0 where
  pub long : n ≡ length file
  pub fits : n ≤ length after
  pub saved : take n after ≡ file

-- a place of an answer's numbers
abbrev pub place : List ℕ → ℕ → ℕ
place answer i = get_or answer i 0
