-- Demand 2: a file is accepted exactly when every record meets every rule, and the input ends where it may.
-- Assumes nothing.
use Rattle.std.specs.Prelude.{ℕ, ◌+◌, ◌/◌, ◌≤◌, ◌<◌, ◌≡◌, List, [], ◌∷◌, ◌++◌, true, false, length, Some, None}
use Rattle.dates.specs.Windows.{window_of}
use Rattle.dates.specs.declared.ProcessDay.{ProcessDay}
use Rattle.dates.specs.declared.Window.{Window}
use Rattle.figures.specs.Totals.{none, ◌⊕◌}
use Rattle.figures.specs.declared.totals.Totals.{Totals}
use Rattle.layout.specs.Rows.{Row, passes, AllHold, row_reason, row_field}
use Rattle.rules.specs.Order.{may_end}
use Rattle.rules.specs.Layouts.{rows}
use Rattle.rules.specs.Growth.{gain, turn, keys, start}
unfoldable pub use Rattle.rules.specs.Growth.{gains, turns, all_keys}
use Rattle.limits.specs.Limits.{record_bytes, most_records}
use Rattle.rules.specs.Refusals.{refused}
use Rattle.rules.specs.Run.{ended, records_of, bad_length}
use Rattle.rules.specs.declared.Assignment.{Assignment}
use Rattle.rules.specs.declared.Mode.{Mode}
use Rattle.rules.specs.declared.Mode.TheVariants.{File}
use Rattle.rules.specs.Refusals.{Verdict}
use Rattle.layout.specs.declared.Reason.TheVariants.{NoProcessDay, BrokenLength, TooManyRecords, EndsEarly}
use Rattle.layout.specs.declared.Reason.{Reason}

-- every row of every record holds, each in the state that the records before it left
unfoldable pub Meets : Mode → Window → Totals → List ℕ → Assignment → List (List ℕ) → Type 0
Meets m w f ks a [] = Unit {0}
Meets m w f ks a (r ∷ rs) = AllHold f ks r (rows m w a r) × Meets m w (f ⊕ gain r) (ks ++ keys r) (turn r a) rs

-- the input may end here
pub record Ends (m : Mode) (a : Assignment) : Type 0 where
  pub may : may_end m a ≡ true
  pub gave : ended m a ≡ true

-- a file that meets the rules on a process day
pub record Lawful (day : ProcessDay) (b : List ℕ) : Type 0 where
  pub window : Window
  pub opened : window_of day ≡ Some window
  pub lengthy : bad_length b ≡ false
  pub few : length b / record_bytes ≤ most_records
  pub meets : Meets File window none [] start.assignment (records_of b)
  pub ends : Ends File (turns start.assignment (records_of b))

-- the first row of a table that does not hold, with its reason and its field: the rows before it hold
pub record Broken (f : Totals) (ks r : List ℕ) (ws : List Row) (n : Reason) (k : ℕ) : Type 0 where
  pub held : List Row
  pub row : Row
  pub unseen : List Row
  pub table : ws ≡ held ++ (row ∷ unseen)
  pub hold : AllHold f ks r held
  pub fails : passes f ks r row ≡ false
  pub reason : row_reason row ≡ n
  pub field : row_field row ≡ k

-- the first fault after a state: i records before it meet every rule, the rows before it hold, and its row does not
pub record FirstFault (m : Mode) (w : Window) (f : Totals) (ks : List ℕ) (a : Assignment) (rs : List (List ℕ)) (i : ℕ) (n : Reason) (k : ℕ) : Type 0 where
  pub before : List (List ℕ)
  pub here : List ℕ
  pub behind : List (List ℕ)
  pub whole : rs ≡ before ++ (here ∷ behind)
  pub place : length before ≡ i
  pub meets : Meets m w f ks a before
  pub held : List Row
  pub row : Row
  pub unseen : List Row
  pub table : rows m w (turns a before) here ≡ held ++ (row ∷ unseen)
  pub hold : AllHold (f ⊕ gains before) (ks ++ all_keys before) here held
  pub fails : passes (f ⊕ gains before) (ks ++ all_keys before) here row ≡ false
  pub reason : row_reason row ≡ n
  pub field : row_field row ≡ k

-- why a file is refused, and with what: the process day, the length, the number of records, a record's first fault, the end
pub data Refusing (day : ProcessDay) (b : List ℕ) : Verdict → Type 0 where
  wrong_day : window_of day ≡ None → Refusing day b (refused NoProcessDay 0 0 0)
  wrong_length : (w : Window) → window_of day ≡ Some w → bad_length b ≡ true → Refusing day b (refused BrokenLength 0 0 0)
  too_many : (w : Window) → window_of day ≡ Some w → bad_length b ≡ false → most_records < length b / record_bytes → Refusing day b (refused TooManyRecords 0 0 0)
  at_record : (w : Window) (i : ℕ) (n : Reason) (k : ℕ) → window_of day ≡ Some w → bad_length b ≡ false → length b / record_bytes ≤ most_records
      → FirstFault File w none [] start.assignment (records_of b) i n k → Refusing day b (refused n 0 (i + 1) k)
  at_end : (w : Window) → window_of day ≡ Some w → bad_length b ≡ false → length b / record_bytes ≤ most_records
      → Meets File w none [] start.assignment (records_of b) → may_end File (turns start.assignment (records_of b)) ≡ false
      → Refusing day b (refused EndsEarly 0 (length (records_of b) + 1) 0)
