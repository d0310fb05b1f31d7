-- Demand 3, document 01, "Closing, joining, parting": which two files may be joined, why others are not, and in which order that is said.
-- Assumes nothing.
use Rattle.std.specs.Prelude.{ℕ, ◌+◌, ◌-◌, ◌*◌, ◌<◌, ◌≤◌, ◌≡◌, ◌⊎◌, ◌↔◌, List, [], ◌∷◌, ◌++◌, length, take, Some, None, Ok, Err}
use Rattle.dates.specs.Windows.{window_of}
use Rattle.dates.specs.declared.ProcessDay.{ProcessDay}
use Rattle.dates.specs.declared.Window.{Window}
use Rattle.figures.specs.Figures.{limit_wide}
use Rattle.figures.specs.declared.totals.Totals.{Totals}
use Rattle.limits.specs.Limits.{record_bytes, most_records, most_assignments}
use Rattle.rules.specs.Growth.{keys}
use Rattle.rules.specs.Refusals.{refused}
use Rattle.rules.specs.Run.{records_of, check_of}
use Rattle.rules.specs.declared.Refusal.{Refusal}
use Rattle.operations.specs.Ends.{end89}
use Rattle.operations.specs.Joining.{sender, both, join_of, joined_file}
use Rattle.operations.specs.Parting.{body_of}
use Rattle.laws.specs.Meets.{all_keys}
use Rattle.laws.specs.Plain.{FiguresOf}
use Rattle.rules.specs.Refusals.{Verdict}
use Rattle.layout.specs.declared.Reason.TheVariants.{NoProcessDay, TooManyRecords, PastLimit, KeySeen, TooManyAssignments, NoRoom, OtherSender}

-- the key is one of the list
unfoldable pub In : ℕ → List ℕ → Type 0
In k [] = ⊥
In k (x ∷ l) = (k ≡ x) ⊎ In k l

-- no key is in both lists
abbrev pub Apart : List ℕ → List ℕ → Type 0
Apart ks l = (k : ℕ) → In k ks → In k l → ⊥

-- agreement and assignment number of every assignment of a file
abbrev pub keys_of : List ℕ → List ℕ
keys_of b = all_keys (records_of b)

-- both files are accepted
pub record BothAccepted (day : ProcessDay) (a b : List ℕ) (s t : Totals) : Type 0 where
  pub first : check_of day a ≡ Ok s
  pub second : check_of day b ≡ Ok t

-- two files with these figures that may be joined: one sender, no key in both, and no limit passed
pub record Joinable (a b : List ℕ) (s t : Totals) : Type 0 where
  pub senders : sender a ≡ sender b
  pub apart : Apart (keys_of a) (keys_of b)
  pub records : s.records.0 + t.records.0 - 2 ≤ most_records
  pub assignments : s.assignments.0 + t.assignments.0 ≤ most_assignments
  pub sums : s.sum.0 + t.sum.0 ≤ limit_wide.0

-- why two files are not joined: the senders, a key in both, or a limit
pub data NotJoinable (a b : List ℕ) (s t : Totals) : Type 0 where
  senders_differ : (sender a ≡ sender b → ⊥) → NotJoinable a b s t
  key_in_both : (k : ℕ) → In k (keys_of a) → In k (keys_of b) → NotJoinable a b s t
  records_passed : most_records < s.records.0 + t.records.0 - 2 → NotJoinable a b s t
  assignments_passed : most_assignments < s.assignments.0 + t.assignments.0 → NotJoinable a b s t
  sum_passed : limit_wide.0 < s.sum.0 + t.sum.0 → NotJoinable a b s t

-- the first record that brings a key of the list: i records before it bring none
pub record FirstShared (ks : List ℕ) (rs : List (List ℕ)) (i : ℕ) : Type 0 where
  pub before : List (List ℕ)
  pub here : List ℕ
  pub behind : List (List ℕ)
  pub whole : rs ≡ before ++ (here ∷ behind)
  pub place : length before ≡ i
  pub none : Apart ks (all_keys before)
  pub key : ℕ
  pub there : In key ks
  pub brought : In key (keys here)

-- why joining refuses, and with what, in the stated order: each reason comes after all before it
pub data JoinRefusing (day : ProcessDay) (a b : List ℕ) (room : ℕ) : Verdict → Type 0 where
  no_day : window_of day ≡ None → JoinRefusing day a b room (refused NoProcessDay 0 0 0)
  first_file : (w : Window) (x : Refusal) → window_of day ≡ Some w → check_of day a ≡ Err x
      → JoinRefusing day a b room (refused x.reason 1 x.«record» x.field)
  second_file : (w : Window) (s : Totals) (x : Refusal) → window_of day ≡ Some w → check_of day a ≡ Ok s → check_of day b ≡ Err x
      → JoinRefusing day a b room (refused x.reason 2 x.«record» x.field)
  other_sender : (s t : Totals) → BothAccepted day a b s t → (sender a ≡ sender b → ⊥) → JoinRefusing day a b room (refused OtherSender 2 1 5)
  shared_key : (s t : Totals) (i : ℕ) → BothAccepted day a b s t → sender a ≡ sender b → FirstShared (keys_of a) (records_of b) i
      → JoinRefusing day a b room (refused KeySeen 2 (i + 1) 6)
  many_records : (s t : Totals) → BothAccepted day a b s t → sender a ≡ sender b → Apart (keys_of a) (keys_of b) → most_records < s.records.0 + t.records.0 - 2
      → JoinRefusing day a b room (refused TooManyRecords 0 0 0)
  many_assignments : (s t : Totals) → BothAccepted day a b s t → sender a ≡ sender b → Apart (keys_of a) (keys_of b) → s.records.0 + t.records.0 - 2 ≤ most_records
      → most_assignments < s.assignments.0 + t.assignments.0 → JoinRefusing day a b room (refused TooManyAssignments 0 0 0)
  large_sum : (s t : Totals) → BothAccepted day a b s t → sender a ≡ sender b → Apart (keys_of a) (keys_of b) → s.records.0 + t.records.0 - 2 ≤ most_records
      → s.assignments.0 + t.assignments.0 ≤ most_assignments → limit_wide.0 < s.sum.0 + t.sum.0 → JoinRefusing day a b room (refused PastLimit 0 0 0)
  short_output : (s t : Totals) → BothAccepted day a b s t → Joinable a b s t → room < record_bytes * (both s t).records.0 → JoinRefusing day a b room (refused NoRoom 0 0 0)

-- the figures of a joined file: those of both files together, and those of its own records
pub record AddedUp (day : ProcessDay) (a b : List ℕ) (u : Totals) : Type 0 where
  pub first : Totals
  pub second : Totals
  pub first_accepted : check_of day a ≡ Ok first
  pub second_accepted : check_of day b ≡ Ok second
  pub added : u ≡ both first second
  pub counted : FiguresOf (records_of (joined_file a b u)) u

-- the records of an accepted file: its record 10, those of its assignments, and its 89
abbrev pub Framed : List ℕ → Totals → Type 0
Framed b t = records_of b ≡ take record_bytes b ∷ (body_of b ++ (end89 t ∷ []))

-- the records of a joined file: the first file's record 10, those of both files' assignments, and one 89
pub record Keeps (a b : List ℕ) (u : Totals) : Type 0 where
  pub first : Totals
  pub second : Totals
  pub first_framed : Framed a first
  pub second_framed : Framed b second
  pub records : records_of (joined_file a b u) ≡ take record_bytes a ∷ (body_of a ++ (body_of b ++ (end89 u ∷ [])))

-- the room that two files need when they are joined: all of both but the first's 89 and the second's record 10
abbrev pub room_for : List ℕ → List ℕ → ℕ
room_for a b = length a + length b - 2 * record_bytes

-- joined into an output that is just as long as what is joined
abbrev pub JoinedTo : ProcessDay → List ℕ → List ℕ → Totals → Type 0
JoinedTo day a b u = join_of day a b (room_for a b) ≡ Ok u

-- three files joined, the first two first; a refusal of either joining is a refusal
pub record FirstTwo (day : ProcessDay) (a b c : List ℕ) (u : Totals) : Type 0 where
  pub inner : Totals
  pub one : JoinedTo day a b inner
  pub two : JoinedTo day (joined_file a b inner) c u

-- and the last two first
pub record LastTwo (day : ProcessDay) (a b c : List ℕ) (u : Totals) : Type 0 where
  pub inner : Totals
  pub one : JoinedTo day b c inner
  pub two : JoinedTo day a (joined_file b c inner) u

-- either way alike: joined or refused, and where they are joined the same figures and the same bytes
pub record Associative (day : ProcessDay) (a b c : List ℕ) : Type 0 where
  pub alike : (u : Totals) → FirstTwo day a b c u ↔ LastTwo day a b c u
  pub figures : (u v : Totals) → FirstTwo day a b c u → LastTwo day a b c v → u ≡ v
  pub bytes : (u v : Totals) (l : FirstTwo day a b c u) (r : LastTwo day a b c v)
      → joined_file (joined_file a b l.inner) c u ≡ joined_file a (joined_file b c r.inner) v
