-- Document 01, "Closing, joining, parting": what parting a file answers, and what it writes.
-- Assumes nothing.
use Rattle.std.specs.Prelude.{ℕ, ◌+◌, ◌-◌, ◌≡◌, List, [], ◌∷◌, ◌++◌, ◌&&◌, eqb, leb, ltb, length, take, drop, if◌then◌else◌, Result, Ok, Err}
use Rattle.limits.specs.Limits.{record_bytes}
use Rattle.dates.specs.declared.ProcessDay.{ProcessDay}
use Rattle.figures.specs.Totals.{◌⊕◌, one_record}
use Rattle.figures.specs.declared.totals.Totals.{Totals}
use Rattle.rules.specs.Codes.{record_code}
use Rattle.rules.specs.Growth.{gains}
use Rattle.rules.specs.Refusals.{Verdict, refusal}
use Rattle.rules.specs.Run.{records_of, check_of}
use Rattle.rules.specs.declared.Refusal.{Refusal}
use Rattle.operations.specs.Ends.{end89}
use Rattle.operations.specs.Closing.{bytes_of}
use Rattle.operations.specs.Joining.{assignments_of}
use Rattle.operations.specs.declared.NotParted.{NotParted}
use Rattle.operations.specs.declared.NotParted.TheVariants.{NoBoundary, Refused}
use Rattle.layout.specs.declared.Reason.{Reason}
use Rattle.layout.specs.declared.Reason.TheVariants.{NoRoom, NoBoundaryThere}

-- what parting answers: how many bytes each part has, or why there are none
abbrev pub Parting : Type 0
Parting = Result (ℕ × ℕ) NotParted

-- how many records the first k assignments have: up to and with the k-th 88
unfoldable pub through : ℕ → List (List ℕ) → ℕ
through k [] = 0
through k (r ∷ rs) = if eqb k 0 then 0 else 1 + through (if eqb (record_code r) 88 then k - 1 else k) rs

-- the figures of a file with this record 10 and these assignments: both ends counted
abbrev pub figures_of : List (List ℕ) → Totals
figures_of body = (one_record ⊕ gains body) ⊕ one_record

-- a file of a record 10, assignments, and its own 89
unfoldable pub made : List ℕ → List (List ℕ) → List (List ℕ)
made head body = head ∷ (body ++ (end89 (figures_of body) ∷ []))

-- the two parts: both carry the same record 10
abbrev pub body_of : List ℕ → List (List ℕ)
body_of b = records_of (assignments_of b)

unfoldable pub first_part : ℕ → List ℕ → List ℕ
first_part k b = bytes_of (made (take record_bytes b) (take (through k (body_of b)) (body_of b)))

unfoldable pub second_part : ℕ → List ℕ → List ℕ
second_part k b = bytes_of (made (take record_bytes b) (drop (through k (body_of b)) (body_of b)))

-- the check's refusals are parting's; an accepted file goes on
abbrev pub of_check : Verdict → (Totals → Parting) → Parting
of_check (Ok t) f = f t
of_check (Err x) f = Err (Refused x)

abbrev pub not_parted : Reason → Parting
not_parted reason = Err (Refused (refusal reason 0 0 0))

-- document 01's refusal in an answer, with its number and values: a parted file has none, and 21 has zeros whatever the file's assignments are
abbrev pub no_boundary : Refusal
no_boundary = refusal NoBoundaryThere 0 0 0

unfoldable pub Refuses : Parting → Refusal → Type 0
Refuses (Ok e) x = ⊥
Refuses (Err (NoBoundary assignments)) x = no_boundary ≡ x
Refuses (Err (Refused y)) x = y ≡ x

-- what parting after the k-th assignment answers, into outputs of these lengths: 21 unless 1 <= k < assignments, 19 if either is too short;
-- with the lengths of both parts, or the number of assignments that the file has
unfoldable pub part_of : ProcessDay → List ℕ → ℕ → ℕ → ℕ → Parting
part_of day b k room1 room2 =
    of_check (check_of day b) (λ t.
    if leb 1 k && ltb k t.assignments.0 then
    (if leb (length (first_part k b)) room1 && leb (length (second_part k b)) room2 then Ok ((length (first_part k b)), (length (second_part k b))) else not_parted NoRoom)
    else Err (NoBoundary t.assignments))

-- an output after parting: what is written lies over its start where the file was parted; else all stays
unfoldable pub lent_parted : Parting → List ℕ → List ℕ → List ℕ
lent_parted (Ok e) written before = written ++ drop (length written) before
lent_parted (Err (NoBoundary assignments)) written before = before
lent_parted (Err (Refused x)) written before = before

unfoldable pub parted_first : ProcessDay → List ℕ → ℕ → List ℕ → List ℕ → List ℕ
parted_first day b k out1 out2 = lent_parted (part_of day b k (length out1) (length out2)) (first_part k b) out1

unfoldable pub parted_second : ProcessDay → List ℕ → ℕ → List ℕ → List ℕ → List ℕ
parted_second day b k out1 out2 = lent_parted (part_of day b k (length out1) (length out2)) (second_part k b) out2
