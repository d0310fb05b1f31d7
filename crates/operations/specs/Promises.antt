-- Document 01, "How the promises are held to account": what each operation promises of its answer and of the bytes that it leaves in lent memory.
-- Assumes nothing.
use Rattle.std.specs.Prelude.{ℕ, ◌≡◌, List, length}
use Rattle.dates.specs.declared.ProcessDay.{ProcessDay}
use Rattle.rules.specs.Run.{check_of}
use Rattle.rules.specs.declared.Kind.{Kind}
use Rattle.operations.specs.Answers.{checked_numbers, written_numbers, parted_numbers, made_numbers}
use Rattle.operations.specs.Closing.{close_of, closed_bytes}
use Rattle.operations.specs.Joining.{join_of, joined_bytes}
use Rattle.operations.specs.Parting.{part_of, parted_first, parted_second}
use Rattle.operations.specs.Making.{Put, make_of, made_bytes}
use Rattle.operations.specs.Making.{Making}
use Rattle.operations.specs.Parting.{Parting}
use Rattle.rules.specs.Refusals.{Verdict}

-- the answer alone: nothing is lent to be written
pub record CheckPromise (day : ProcessDay) (file : List ℕ) (answer : Verdict) : Type 0 where
  pub answers : answer ≡ check_of day file

-- the answer, and the whole output afterwards
pub record ClosePromise (day : ProcessDay) (draft out : List ℕ) (answer : Verdict) (after : List ℕ) : Type 0 where
  pub answers : answer ≡ close_of day draft (length out)
  pub leaves : after ≡ closed_bytes day draft out

pub record JoinPromise (day : ProcessDay) (first second out : List ℕ) (answer : Verdict) (after : List ℕ) : Type 0 where
  pub answers : answer ≡ join_of day first second (length out)
  pub leaves : after ≡ joined_bytes day first second out

-- the answer, and both outputs afterwards
pub record PartPromise (day : ProcessDay) (file : List ℕ) (k : ℕ) (out1 out2 : List ℕ) (answer : Parting) (after1 after2 : List ℕ) : Type 0 where
  pub answers : answer ≡ part_of day file k (length out1) (length out2)
  pub leaves_first : after1 ≡ parted_first day file k out1 out2
  pub leaves_second : after2 ≡ parted_second day file k out1 out2

-- of a record of this type, from these values
pub record MakePromise (k : Kind) (ps : List Put) (out : List ℕ) (answer : Making) (after : List ℕ) : Type 0 where
  pub answers : answer ≡ make_of k ps (length out)
  pub leaves : after ≡ made_bytes k ps out

-- ---- for a program in C or Rust: the answer as numbers, and the same bytes
pub record CheckNumbers (day : ProcessDay) (file answer : List ℕ) : Type 0 where
  pub answers : answer ≡ checked_numbers (check_of day file)

pub record CloseNumbers (day : ProcessDay) (draft out answer after : List ℕ) : Type 0 where
  pub answers : answer ≡ written_numbers (close_of day draft (length out))
  pub leaves : after ≡ closed_bytes day draft out

pub record JoinNumbers (day : ProcessDay) (first second out answer after : List ℕ) : Type 0 where
  pub answers : answer ≡ written_numbers (join_of day first second (length out))
  pub leaves : after ≡ joined_bytes day first second out

pub record PartNumbers (day : ProcessDay) (file : List ℕ) (k : ℕ) (out1 out2 answer after1 after2 : List ℕ) : Type 0 where
  pub answers : answer ≡ parted_numbers (part_of day file k (length out1) (length out2))
  pub leaves_first : after1 ≡ parted_first day file k out1 out2
  pub leaves_second : after2 ≡ parted_second day file k out1 out2

pub record MakeNumbers (k : Kind) (ps : List Put) (out answer after : List ℕ) : Type 0 where
  pub answers : answer ≡ made_numbers (make_of k ps (length out))
  pub leaves : after ≡ made_bytes k ps out
