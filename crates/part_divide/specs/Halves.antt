-- Document 01, "Closing, joining, parting": a record 10 and assignments after it, parted in two.
-- Assumes nothing.
use Rattle.std.specs.Prelude.{ℕ, ◌+◌, ◌-◌, ◌*◌, ◌/◌, ◌≤◌, ◌≡◌, List, ◌&&◌, leb, length, take, drop, if◌then◌else◌, Ok}
use Rattle.limits.specs.Limits.{record_bytes, most_records, most_assignments}
use Rattle.figures.specs.Totals.{◌⊕◌, one_record}
use Rattle.operations.specs.Closing.{bytes_of}
use Rattle.operations.specs.Parting.{through, made, not_parted}
use Rattle.rules.specs.Growth.{gains}
use Rattle.rules.specs.Run.{records_of}
use Rattle.run_figures.specs.Slots.{summed, Summable}
use Rattle.operations.specs.Parting.{Parting}
use Rattle.layout.specs.declared.Reason.TheVariants.{NoRoom}

-- the figures left of the assignments of a body: of the first k, and of the others with the file's 89
pub record HalfSums (figures : List ℕ) (k all : ℕ) (body : List (List ℕ)) : Type 0 where
  pub few : k + 1 ≤ all
  pub most : all ≤ most_assignments
  pub within : through k body ≤ length body
  pub first_summable : Summable figures 1 (k + 1)
  pub first : summed figures 1 (k + 1 - 1) ≡ gains (take (through k body) body)
  pub others_summable : Summable figures (k + 1) (all + 1)
  pub others : summed figures (k + 1) (all + 1 - (k + 1)) ≡ gains (drop (through k body) body) ⊕ one_record

-- whole records that were found sound, and the figures of their assignments
pub record Divisible (head body figures : List ℕ) (k all : ℕ) : Type 0 where
  pub ten : length head ≡ record_bytes
  pub whole : length body ≡ record_bytes * (length body / record_bytes)
  pub few : length body / record_bytes ≤ most_records
  pub sums : HalfSums figures k all (records_of body)

unfoldable pub first_half : List ℕ → List ℕ → ℕ → List ℕ
first_half head body k = bytes_of (made head (take (through k (records_of body)) (records_of body)))

unfoldable pub second_half : List ℕ → List ℕ → ℕ → List ℕ
second_half head body k = bytes_of (made head (drop (through k (records_of body)) (records_of body)))

-- the lengths of both, or 19 if either output is too short
unfoldable pub divided : List ℕ → List ℕ → ℕ → ℕ → ℕ → Parting
divided head body k room1 room2 =
    if leb (length (first_half head body k)) room1 && leb (length (second_half head body k)) room2 then Ok (length (first_half head body k), length (second_half head body k)) else not_parted NoRoom
