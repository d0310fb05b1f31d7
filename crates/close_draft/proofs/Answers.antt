-- What closing answers, in the order of its refusals, and what it leaves in the output.
-- Assumes nothing.
use Prim.Native.Nat.{ℕ, ◌≤◌}
use mathlib.Core.Path.{◌≡◌, sym, ap, ◌∙◌}
use mathlib.Core.List.{List, ◌++◌}
use native.Mathlib.Omega.{arith}
use lib.ListN.{length, drop}
use Rattle.std.specs.Prelude.{Option, Some, None, Ok, Err}
use Rattle.dates.specs.Windows.{window_of}
use Rattle.dates.specs.declared.ProcessDay.{ProcessDay}
use Rattle.dates.specs.declared.Window.{Window}
use Rattle.figures.specs.declared.totals.Totals.{Totals}
use Rattle.laws.proofs.Bytes.{record_count}
use Rattle.laws.proofs.Closing.{closing, closed_fits, closed_bytes_lem, closed_refused}
use Rattle.operations.specs.Closing.{given, on_accepted, weigh, close_of, closed_file}
use Rattle.operations.specs.Promises.{ClosePromise}
use Rattle.rules.specs.Growth.{start}
use Rattle.rules.specs.Refusals.{refusal}
use Rattle.rules.specs.Run.{records_of, on_window}
use Rattle.rules.specs.declared.Refusal.{Refusal}
use Rattle.run_figures.specs.Blocks.{blocks}
use Rattle.run_loop.specs.Left.{Roomy}
use Rattle.run_figures.specs.Slots.{Holding}
use Rattle.close_weigh.specs.Leaves.{LeftBy}
use Rattle.close_write.specs.Weighed.{Weighed}
use Rattle.rules.specs.Refusals.{Verdict}
use Rattle.layout.specs.declared.Reason.TheVariants.{NoProcessDay}

-- ---- the answer, and the output behind it
module _ (day : ProcessDay) (d out : List ℕ) where
  -- a refusal leaves the output as it was
  leaves : (x : Refusal) → Err x ≡ close_of day d (length out) → ClosePromise day d out (Err x) out
  leaves x e = record { answers = e; leaves = sym (closed_refused day d out x (sym e)) }

  pub no_day : (x : Refusal) → x ≡ refusal NoProcessDay 0 0 0 → window_of day ≡ None → ClosePromise day d out (Err x) out
  unfolding close_of
  no_day x q e = leaves x (ap Err q ∙ ap (λ (o : Option Window). on_window o (λ w. on_accepted (weigh w d) (given (length out)))) (sym e))

  module _ (w : Window) (e : window_of day ≡ Some w) where
    by_weight : (v : Verdict) → v ≡ weigh w d → on_accepted v (given (length out)) ≡ close_of day d (length out)
    unfolding close_of
    by_weight v q = ap (λ (x : Verdict). on_accepted x (given (length out))) q ∙ ap (λ (o : Option Window). on_window o (λ w. on_accepted (weigh w d) (given (length out)))) (sym e)

    pub not_weighed : (x : Refusal) → Err x ≡ weigh w d → ClosePromise day d out (Err x) out
    not_weighed x q = leaves x (by_weight (Err x) q)

    module _ (t : Totals) (q : Ok t ≡ weigh w d) where
      pub no_room : (x : Refusal) → Err x ≡ given (length out) t → ClosePromise day d out (Err x) out
      no_room x r = leaves x (r ∙ by_weight (Ok t) q)

      module _ (s : Totals) (r : given (length out) t ≡ Ok s) where
        closes : close_of day d (length out) ≡ Ok s
        closes = sym (by_weight (Ok t) q) ∙ r

        pub may_write : (figures : List ℕ) (v : Verdict) → LeftBy d figures v → v ≡ Ok t → Roomy figures → Weighed d s × Holding figures 0 (blocks start.assignment (records_of d)) × (length (closed_file d) ≤ length out)
        may_write figures v l i room =
            let c = closing day d (length out) s closes in (
              record { window = c.draft.window; lengthy = c.draft.lengthy; few = omega (arith, c.draft.few, record_count d); meets = c.draft.meets; ends = c.draft.ends; counted = c.figures },
              l.left t i room,
              (closed_fits day d (length out) s closes).1,
            )

        pub wrote : (after : List ℕ) → after ≡ closed_file d ++ drop (length (closed_file d)) out → ClosePromise day d out (Ok s) after
        wrote after i = record { answers = sym closes; leaves = i ∙ sym (closed_bytes_lem day d out s closes) }
