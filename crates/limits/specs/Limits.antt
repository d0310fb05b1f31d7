-- Document 01, "Bytes and days", "Layouts" and "What may follow": every limit, stated here and named everywhere else.
-- Assumes nothing.
use Rattle.std.specs.Prelude.{ℕ, ◌+◌, ◌*◌}

-- a record is 80 bytes and one line feed
abbrev pub record_bytes : ℕ
record_bytes = 81

-- a file has at most so many records, and so many assignments
abbrev pub most_records : ℕ
most_records = 200_000

abbrev pub most_assignments : ℕ
most_assignments = 500

-- room for the five figures of each assignment, and of what stands before the first
abbrev pub figure_slots : ℕ
figure_slots = 5 * (most_assignments + 1)

-- sums in øre: the amount of one transaction of type 04; an assignment of service 04; an assignment of service 01, a file, and each sum of sub-specifications
abbrev pub most_of_type04 : ℕ
most_of_type04 = 9_999_999_999

abbrev pub most_of_service04 : ℕ
most_of_service04 = 9_999_999_999_999

abbrev pub most_of_all : ℕ
most_of_all = 99_999_999_999_999_999

-- a message: the places taken and the records without a place together (document 02, No. 3)
abbrev pub most_in_message : ℕ
most_in_message = 42
