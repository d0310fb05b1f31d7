-- Document 01, "Closing, joining, parting": what closing a draft answers, and what it writes.
-- Assumes nothing.
use Rattle.std.specs.Prelude.{ℕ, ◌+◌, ◌*◌, List, [], ◌∷◌, ◌++◌, Bool, ◌&&◌, eqb, leb, ltb, length, drop, if◌then◌else◌, Ok, Err}
use Rattle.dates.specs.Windows.{window_of}
use Rattle.dates.specs.declared.ProcessDay.{ProcessDay}
use Rattle.dates.specs.declared.Window.{Window}
use Rattle.figures.specs.Totals.{◌⊕◌, one_record, with_records}
use Rattle.figures.specs.declared.totals.Totals.{Totals}
use Rattle.rules.specs.Codes.{record_code}
use Rattle.rules.specs.Growth.{after_for, after, start}
use Rattle.limits.specs.Limits.{record_bytes, most_records}
use Rattle.rules.specs.Refusals.{refused}
use Rattle.rules.specs.Run.{run, records_of, bad_length, on_window}
use Rattle.rules.specs.declared.Kind.TheVariants.{R88}
use Rattle.rules.specs.declared.Mode.TheVariants.{Draft}
use Rattle.rules.specs.declared.State.{State}
use Rattle.operations.specs.Ends.{end88, end89}
use Rattle.rules.specs.Refusals.{Verdict}
use Rattle.layout.specs.declared.Reason.TheVariants.{BrokenLength, TooManyRecords, NoRoom}

-- positions 7-8 are 20, whatever else the record is
abbrev pub opens : List ℕ → Bool
opens r = eqb (record_code r) 20

unfoldable pub openings : List (List ℕ) → ℕ
openings [] = 0
openings (r ∷ rs) = (if opens r then 1 else 0) + openings rs

-- the records to be written: the draft's, one more for each record whose positions 7-8 are 20, and one
abbrev pub to_write : List (List ℕ) → ℕ
to_write rs = length rs + openings rs + 1

-- the figures of the written file: those of the draft, with an 88 for each assignment, and the 89
abbrev pub closed_figures : Totals → Totals
closed_figures t = with_records 1 (with_records t.assignments.0 t)

-- how many bytes a file of these figures has
abbrev pub file_bytes : Totals → ℕ
file_bytes t = record_bytes * t.records.0

-- where a file of these figures can be written: 19 if the output is too short for it
abbrev pub given : ℕ → Totals → Verdict
given room t = if leb (file_bytes t) room then Ok t else refused NoRoom 0 0 0

abbrev pub on_accepted : Verdict → (Totals → Verdict) → Verdict
on_accepted (Ok t) f = f t
on_accepted (Err x) f = Err x

-- what the draft itself gives: 2, then 3, then its records; its figures are those of the file to be written
unfoldable pub weigh : Window → List ℕ → Verdict
weigh w d =
    if bad_length d then refused BrokenLength 0 0 0
    else (if leb (to_write (records_of d)) most_records then on_accepted (run Draft w 0 start [] (records_of d)) (λ t. Ok (closed_figures t)) else refused TooManyRecords 0 0 0)

-- what closing a draft into an output of this length answers: 1 first of all, 19 last
unfoldable pub close_of : ProcessDay → List ℕ → ℕ → Verdict
close_of day d room = on_window (window_of day) (λ w. on_accepted (weigh w d) (given room))

-- after an 88 for the assignment at hand
abbrev pub behind88 : State → State
behind88 st = after_for R88 st []

-- a record 20 after another assignment: that one ends before it
abbrev pub ends_before : State → List ℕ → Bool
ends_before st r = opens r && ltb 0 st.file.assignments.0

-- the records after a state, with the end records between and after them
unfoldable pub with_ends : State → List (List ℕ) → List (List ℕ)
with_ends st [] = end88 (behind88 st).assignment ∷ end89 ((behind88 st).file ⊕ one_record) ∷ []
with_ends st (r ∷ rs) =
    if ends_before st r then end88 (behind88 st).assignment ∷ r ∷ with_ends (after (behind88 st) r) rs
    else r ∷ with_ends (after st r) rs

-- records one after the other
unfoldable pub bytes_of : List (List ℕ) → List ℕ
bytes_of [] = []
bytes_of (r ∷ rs) = r ++ bytes_of rs

-- the file that a draft is closed to
unfoldable pub closed_file : List ℕ → List ℕ
closed_file d = bytes_of (with_ends start (records_of d))

-- an output after the operation: what is written lies over its start where the answer is accepted; else all stays
unfoldable pub lent_after : Verdict → List ℕ → List ℕ → List ℕ
lent_after (Ok t) written before = written ++ drop (length written) before
lent_after (Err x) written before = before

unfoldable pub closed_bytes : ProcessDay → List ℕ → List ℕ → List ℕ
closed_bytes day d out = lent_after (close_of day d (length out)) (closed_file d) out
