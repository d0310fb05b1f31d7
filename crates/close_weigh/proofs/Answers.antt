-- What weighing answers, in the order of its refusals, and the figures that it leaves.
-- Assumes nothing.
use Rattle.std.proofs.Common.{Ok, Err}
use Prim.Native.Nat.{ℕ, ◌+◌, ◌*◌, ◌/◌, ◌≤◌, ◌<◌}
use mathlib.Core.Path.{◌≡◌, sym, ap, ◌∙◌}
use mathlib.Core.List.{List, []}
use mathlib.Core.Bool.{Bool, true, false}
use native.Mathlib.Omega.{arith}
use borrow.Author.Tests.{le-leb, lt-leb}
use lib.ListN.{length}
use Rattle.dates.specs.declared.Window.{Window}
use Rattle.figures.specs.declared.totals.Totals.{Totals}
use Rattle.figures.proofs.Laws.{none-⊕}
use Rattle.laws.proofs.Bytes.{record_count}
use Rattle.laws.proofs.EndsPut.{gains_records, gains_openings}
use Rattle.laws.proofs.Sound.{met}
use Rattle.operations.specs.Closing.{openings, to_write, closed_figures, on_accepted, weigh}
use Rattle.rules.specs.Growth.{start, gains}
use Rattle.limits.specs.Limits.{record_bytes, most_records}
use Rattle.rules.specs.Refusals.{refused}
use Rattle.rules.specs.Run.{run, records_of, bad_length}
use Rattle.rules.specs.declared.Mode.TheVariants.{Draft}
use Rattle.rules.specs.declared.Refusal.{Refusal}
use Rattle.run_loop.specs.Left.{Left}
use Rattle.run_figures.proofs.Held.{held}
use Rattle.close_weigh.specs.Leaves.{CanClose, LeftBy}
use Rattle.close_weigh.proofs.Counting.{openings_few}
use Rattle.rules.specs.Refusals.{Verdict}
use Rattle.layout.specs.declared.Reason.TheVariants.{BrokenLength, TooManyRecords}

-- ---- what the draft itself gives
-- an accepted draft's records, and its assignments: the records with 20 in positions 7 and 8
pub draft_figures : (w : Window) (d : List ℕ) (t : Totals) → run Draft w 0 start [] (records_of d) ≡ Ok t → (t.records.0 ≡ length (records_of d)) × (t.assignments.0 ≡ openings (records_of d))
draft_figures w d t q =
    let i : t ≡ gains (records_of d) = (met Draft w 0 start [] (records_of d) t q).total ∙ none-⊕ (gains (records_of d)) in
    (ap (λ (x : Totals). x.records.0) i ∙ gains_records (records_of d), ap (λ (x : Totals). x.assignments.0) i ∙ gains_openings (records_of d))

module _ (w : Window) (d : List ℕ) (bad : Bool) (e : bad ≡ bad_length d) where
  pub wrong_length : bad ≡ true → refused BrokenLength 0 0 0 ≡ weigh w d
  unfolding weigh
  wrong_length h = rw (sym e ∙ h)

  module _ (even : bad ≡ false) where
    -- 3 before anything of the records
    too_many : most_records < to_write (records_of d) → refused TooManyRecords 0 0 0 ≡ weigh w d
    unfolding weigh
    too_many h = rw (sym e ∙ even, lt-leb (to_write (records_of d)) most_records h)

    in_turn : to_write (records_of d) ≤ most_records → on_accepted (run Draft w 0 start [] (records_of d)) (λ t. Ok (closed_figures t)) ≡ weigh w d
    unfolding weigh
    in_turn h = rw (sym e ∙ even, le-leb (to_write (records_of d)) most_records h)

    -- so many records that the 89 alone is one too many
    pub full : most_records ≤ length d / record_bytes → refused TooManyRecords 0 0 0 ≡ weigh w d
    full h = too_many (omega (arith, record_count d))

    -- with this many records 20
    module _ (n : ℕ) (o : n ≡ openings (records_of d)) where
      pub too_many_opened : most_records < length d / record_bytes + n + 1 → refused TooManyRecords 0 0 0 ≡ weigh w d
      too_many_opened h = too_many (omega (arith, record_count d, o))

      module _ (h : length d / record_bytes + n + 1 ≤ most_records) where
        pub weighs : (v : Verdict) → v ≡ run Draft w 0 start [] (records_of d) → on_accepted v (λ t. Ok (closed_figures t)) ≡ weigh w d
        weighs v q = ap (λ (x : Verdict). on_accepted x (λ t. Ok (closed_figures t))) q ∙ in_turn (omega (arith, record_count d, o))

-- its figures leave room for the end records
pub can_close : (w : Window) (d : List ℕ) → length d / record_bytes < most_records → (t : Totals) → run Draft w 0 start [] (records_of d) ≡ Ok t → CanClose t
can_close w d few t q =
    let r = draft_figures w d t q in
    record { records = omega (arith, r.0, record_count d); assignments = omega (arith, r.1, record_count d, openings_few (records_of d)) }

-- ---- the figures that are left
pub leaves_none : (d figures : List ℕ) (x : Refusal) → LeftBy d figures (Err x)
leaves_none d figures x = record { left = λ t q. absurd (let z : ◌≡◌ {A = ℕ} 0 1 = cc in omega arith) }

pub leaves_figures : (d keys figures : List ℕ) (v : Verdict) (t : Totals) → Left d keys figures v → v ≡ Ok t → (x : Verdict) → LeftBy d figures x
leaves_figures d keys figures v t l e x = record { left = λ u q room. held figures (5 * (t.assignments.0 + 1)) _ (l.figured t e room) }
