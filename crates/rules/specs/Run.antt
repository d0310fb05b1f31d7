-- Document 01, "Bytes and days" and "Refusal numbers": the records of a file or a draft in turn, their end, and the answer.
-- Assumes nothing.
use Rattle.std.specs.Prelude.{ℕ, zero, suc, ◌+◌, ◌*◌, ◌/◌, ◌%◌, List, [], ◌∷◌, ◌++◌, Bool, true, not, ◌||◌, leb, eqb, length, take, drop, if◌then◌else◌, Option, Some, None, Result, Ok, Err}
use Rattle.limits.specs.Limits.{record_bytes, most_records}
use Rattle.dates.specs.Windows.{window_of}
use Rattle.dates.specs.declared.ProcessDay.{ProcessDay}
use Rattle.dates.specs.declared.Window.{Window}
use Rattle.figures.specs.Groups.{gives}
use Rattle.layout.specs.Rows.{first_fault}
use Rattle.layout.specs.Findings.{Finding, fault}
use Rattle.layout.specs.declared.Fault.{Fault}
use Rattle.rules.specs.Refusals.{Verdict, refused}
use Rattle.rules.specs.Order.{may_end}
use Rattle.rules.specs.Layouts.{table_for, rows}
use Rattle.rules.specs.Growth.{keys, after, after_for, start}
use Rattle.rules.specs.declared.Kind.{Kind}
use Rattle.rules.specs.declared.Mode.{Mode}
use Rattle.rules.specs.declared.Mode.TheVariants.{File, Draft}
use Rattle.rules.specs.declared.Assignment.{Assignment}
use Rattle.rules.specs.declared.State.{State}
use Rattle.layout.specs.declared.Reason.TheVariants.{NoProcessDay, BrokenLength, TooManyRecords, EndsEarly, NotAddedUp}

-- the state after a record, or its fault
abbrev pub Step : Type 0
Step = Result State Fault

-- one record's step: on to the state after it, or stop at its first fault
abbrev pub stepped : Finding → State → Step
stepped (Ok u) s = Ok s
stepped (Err e) s = Err e

-- for a record of a known type that may stand here
unfoldable pub kind_step : Kind → Window → State → List ℕ → List ℕ → Step
kind_step k w st ks r = stepped (first_fault st.file ks r (table_for k w st.assignment r)) (after_for k st r)

unfoldable pub step_of : Mode → Window → State → List ℕ → List ℕ → Step
step_of m w st ks r = stepped (first_fault st.file ks r (rows m w st.assignment r)) (after st r)

-- the end after i records: 6 where it may not come; in a draft also 14, where the last group does not give its amount
abbrev pub ended : Mode → Assignment → Bool
ended File a = true
ended Draft a = gives a.group a.due

unfoldable pub at_end : Mode → ℕ → State → Verdict
at_end m i st =
    if may_end m st.assignment then (if ended m st.assignment then Ok st.file else refused NotAddedUp 0 (i + 1) 0)
    else refused EndsEarly 0 (i + 1) 0

abbrev pub on_step : Step → ℕ → Verdict → Verdict
on_step (Ok s) i v = v
on_step (Err e) i v = refused e.reason 0 (i + 1) e.field

-- the records in turn, after i records that left this state and these keys
unfoldable pub run : Mode → Window → ℕ → State → List ℕ → List (List ℕ) → Verdict
run m w i st ks [] = at_end m i st
run m w i st ks (r ∷ rs) = on_step (step_of m w st ks r) i (run m w (i + 1) (after st r) (ks ++ keys r) rs)

-- each record is its own 81 bytes: the one after the first k, and all of them
abbrev pub record_at : ℕ → List ℕ → List ℕ
record_at k b = take record_bytes (drop (record_bytes * k) b)

unfoldable pub chunks : ℕ → List ℕ → List (List ℕ)
chunks zero b = []
chunks (suc n) b = take record_bytes b ∷ chunks n (drop record_bytes b)

abbrev pub records_of : List ℕ → List (List ℕ)
records_of b = chunks (length b / record_bytes) b

-- length 0 or no multiple of 81
abbrev pub bad_length : List ℕ → Bool
bad_length b = eqb (length b) 0 || not (eqb (length b % record_bytes) 0)

-- 2, then 3, then the records
unfoldable pub judge : Window → List ℕ → Verdict
judge w b =
    if bad_length b then refused BrokenLength 0 0 0
    else (if leb (length b / record_bytes) most_records then run File w 0 start [] (records_of b) else refused TooManyRecords 0 0 0)

-- 1 first of all
abbrev pub on_window : Option Window → (Window → Verdict) → Verdict
on_window (Some w) f = f w
on_window None f = refused NoProcessDay 0 0 0

-- what checking a file answers
unfoldable pub check_of : ProcessDay → List ℕ → Verdict
check_of day b = on_window (window_of day) (λ w. judge w b)
