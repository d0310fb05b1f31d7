-- The refusals of the whole input, in their order, and the run behind them.
-- Assumes nothing.
use Rattle.std.proofs.Common.{Option, Some, None, Ok, Err}
use Prim.Native.Nat.{ℕ, ◌/◌, ◌≤◌, ◌<◌}
use mathlib.Core.Path.{◌≡◌, refl, sym, ap, ◌∙◌}
use mathlib.Core.List.{List, []}
use mathlib.Core.Bool.{Bool, true, false}
use borrow.Author.Tests.{le-leb, lt-leb}
use lib.ListN.{length}
use Rattle.std.specs.Option.{ok_or}
use Rattle.dates.specs.declared.Window.{Window}
use Rattle.rules.specs.Growth.{start}
use Rattle.limits.specs.Limits.{record_bytes, most_records}
use Rattle.rules.specs.Refusals.{refused}
use Rattle.rules.specs.Run.{run, records_of, bad_length, judge, on_window}
use Rattle.rules.specs.declared.Mode.TheVariants.{File}
use Rattle.figures.specs.declared.totals.Totals.{Totals}
use Rattle.rules.specs.declared.Refusal.{Refusal}
use Rattle.run_loop.specs.Left.{Left}
use native.Mathlib.Omega.{arith}
use Rattle.rules.specs.Refusals.{Verdict}
use Rattle.layout.specs.declared.Reason.TheVariants.{NoProcessDay, BrokenLength, TooManyRecords}

-- where no window opens the answer is 1, and else that of the window
pub no_day : (o : Option Window) (e x : Refusal) (f : Window → Verdict) → Err x ≡ ok_or o e → (x ≡ e) × (refused NoProcessDay 0 0 0 ≡ on_window o f)
no_day None e x f h = (cc, refl)
no_day (Some w) e x f h = let z : ◌≡◌ {A = ℕ} 0 1 = cc in absurd (omega arith)

pub on_day : (o : Option Window) (e : Refusal) (w : Window) (f : Window → Verdict) → Ok w ≡ ok_or o e → f w ≡ on_window o f
on_day None e w f h = let z : ◌≡◌ {A = ℕ} 0 1 = cc in absurd (omega arith)
on_day (Some v) e w f h = let g : w ≡ v = cc in ap f g

module _ (w : Window) (b : List ℕ) (bad : Bool) (e : bad ≡ bad_length b) where
  pub wrong_length : bad ≡ true → refused BrokenLength 0 0 0 ≡ judge w b
  unfolding judge
  wrong_length h = rw (sym e ∙ h)

  module _ (even : bad ≡ false) where
    pub too_many : most_records < length b / record_bytes → refused TooManyRecords 0 0 0 ≡ judge w b
    unfolding judge
    too_many h = rw (sym e ∙ even, lt-leb (length b / record_bytes) most_records h)

    pub in_turn : length b / record_bytes ≤ most_records → run File w 0 start [] (records_of b) ≡ judge w b
    unfolding judge
    in_turn h = rw (sym e ∙ even, le-leb (length b / record_bytes) most_records h)

-- a refusal has no figures, and leaves nothing that counts
no_figures : (v : Verdict) (x : Refusal) (t : Totals) → v ≡ Err x → v ≡ Ok t → ⊥
no_figures v x t e q = let y : ◌≡◌ {A = ℕ} 0 1 = cc in omega arith

pub leaves_none : (b keys figures : List ℕ) (v : Verdict) (x : Refusal) → v ≡ Err x → Left b keys figures v
leaves_none b keys figures v x e = record { found = λ t q. absurd (no_figures v x t e q); figured = λ t q. absurd (no_figures v x t e q) }
