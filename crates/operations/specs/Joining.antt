-- Document 01, "Closing, joining, parting": what joining two files answers, and what it writes.
-- Assumes nothing.
use Rattle.std.specs.Prelude.{ℕ, ◌+◌, ◌-◌, List, [], ◌∷◌, ◌++◌, Bool, false, ◌||◌, leb, length, take, drop, if◌then◌else◌, Ok, Err}
use Rattle.dates.specs.Windows.{window_of}
use Rattle.dates.specs.declared.ProcessDay.{ProcessDay}
use Rattle.dates.specs.declared.Window.{Window}
use Rattle.fields.specs.Bytes.{same}
use Rattle.figures.specs.Figures.{within, limit_wide}
use Rattle.figures.specs.Totals.{none, ◌⊕◌, less_records}
use Rattle.figures.specs.declared.totals.Totals.{Totals}
use Rattle.limits.specs.Limits.{record_bytes, most_records, most_assignments}
use Rattle.layout.specs.Rows.{member}
use Rattle.rules.specs.Fields.{bytes_in, sender_field}
use Rattle.rules.specs.Growth.{keys, all_keys}
use Rattle.rules.specs.Refusals.{refused}
use Rattle.rules.specs.Run.{records_of, judge, on_window}
use Rattle.operations.specs.Ends.{end89}
use Rattle.operations.specs.Closing.{given, on_accepted, lent_after}
use Rattle.rules.specs.Refusals.{Verdict}
use Rattle.layout.specs.declared.Reason.TheVariants.{TooManyRecords, PastLimit, KeySeen, TooManyAssignments, OtherSender}

-- the sender, in the record 10
abbrev pub sender : List ℕ → List ℕ
sender b = bytes_in sender_field b

-- both files' figures in one: records added less 2, the earlier first date
abbrev pub both : Totals → Totals → Totals
both s t = less_records 2 (s ⊕ t)

-- a key of the second list stands in the first
unfoldable pub shares : List ℕ → List ℕ → Bool
shares ks [] = false
shares ks (k ∷ l) = member k ks || shares ks l

-- the first record that brings such a key, counted from 1 after i records
unfoldable pub shared_at : ℕ → List ℕ → List (List ℕ) → ℕ
shared_at i ks [] = 0
shared_at i ks (r ∷ rs) = if shares ks (keys r) then i + 1 else shared_at (i + 1) ks rs

-- the limits of the file to be written: 3, 16, 13
unfoldable pub weigh_limits : Totals → Totals → Verdict
weigh_limits s t =
    if leb (both s t).records.0 most_records then
    (if leb (both s t).assignments.0 most_assignments then
    (if within s.sum t.sum limit_wide then Ok (both s t)
    else refused PastLimit 0 0 0)
    else refused TooManyAssignments 0 0 0)
    else refused TooManyRecords 0 0 0

-- two accepted files, of the first its sender, its keys and its figures, of the second its sender, its records and its figures: 20, 15, then the limits
unfoldable pub weigh_both : List ℕ → List ℕ → Totals → List ℕ → List (List ℕ) → Totals → Verdict
weigh_both from1 ks s from2 rs t =
    if same from1 from2 then (if shares ks (all_keys rs) then refused KeySeen 2 (shared_at 0 ks rs) 6 else weigh_limits s t)
    else refused OtherSender 2 1 5

-- a file's own refusal bears its operand
abbrev pub of_operand : ℕ → Verdict → (Totals → Verdict) → Verdict
of_operand n (Ok t) f = f t
of_operand n (Err x) f = refused x.reason n x.«record» x.field

-- the second file, after the first was accepted
unfoldable pub weigh_second : Window → List ℕ → Totals → List ℕ → Verdict
weigh_second w a s b = of_operand 2 (judge w b) (λ t. weigh_both (sender a) (all_keys (records_of a)) s (sender b) (records_of b) t)

-- what the two files themselves give: 1 first of all, then the first file's refusal, then the second's, then those of both
unfoldable pub weigh_join : ProcessDay → List ℕ → List ℕ → Verdict
weigh_join day a b = on_window (window_of day) (λ w. of_operand 1 (judge w a) (λ s. weigh_second w a s b))

-- what joining answers, into an output of this length: 19 last
unfoldable pub join_of : ProcessDay → List ℕ → List ℕ → ℕ → Verdict
join_of day a b room = on_accepted (weigh_join day a b) (given room)

-- a file without its 89, and its assignments alone
abbrev pub without_end : List ℕ → List ℕ
without_end b = take (length b - record_bytes) b

abbrev pub assignments_of : List ℕ → List ℕ
assignments_of b = drop record_bytes (without_end b)

-- the first file's record 10, both files' assignments unchanged and in order, and one new 89
unfoldable pub joined_file : List ℕ → List ℕ → Totals → List ℕ
joined_file a b t = without_end a ++ (assignments_of b ++ end89 t)

-- the figures of an answer
abbrev pub answered_figures : Verdict → Totals
answered_figures (Ok t) = t
answered_figures (Err x) = none

unfoldable pub joined_bytes : ProcessDay → List ℕ → List ℕ → List ℕ → List ℕ
joined_bytes day a b out = lent_after (join_of day a b (length out)) (joined_file a b (answered_figures (join_of day a b (length out)))) out
