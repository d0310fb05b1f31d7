-- Figures added up, from one assignment to the next: what is added so far and what is to come make up the whole.
-- Assumes nothing.
use Prim.Native.Nat.{ℕ, suc, ◌+◌, ◌-◌, ◌≤◌, ◌<◌}
use mathlib.Core.Path.{◌≡◌, sym, ap, subst, ◌∙◌}
use mathlib.Core.List.{List}
use native.Mathlib.Omega.{arith}
use Rattle.figures.specs.Totals.{none, ◌⊕◌, Room}
use Rattle.limits.specs.Limits.{most_records}
use Rattle.figures.specs.declared.totals.Totals.{Totals}
use Rattle.figures.specs.declared.totals.AssignmentTotals.{AssignmentTotals}
use Rattle.figures.proofs.Laws.{⊕-assoc, ⊕-none, none-⊕}
use Rattle.run_growth.specs.Bounds.{Bounded}
use Rattle.run_figures.specs.Slots.{entry, summed, Summable}

abbrev pub Adding : List ℕ → ℕ → ℕ → Totals → ℕ → Type 0
Adding l from to t j = summed l from (to - from) ≡ t ⊕ summed l j (to - j)

module _ (l : List ℕ) (from to : ℕ) where
  pub adding_none : (t : Totals) → t ≡ none → Adding l from to t from
  adding_none t e = sym (none-⊕ (summed l from (to - from))) ∙ ap (λ (x : Totals). x ⊕ summed l from (to - from)) (sym e)

  module _ (t : Totals) (j : ℕ) (a : Adding l from to t j) where
    pub added_all : to ≤ j → t ≡ summed l from (to - from)
    unfolding summed
    added_all h = let e : to - j ≡ 0 = omega arith in sym (a ∙ ap (λ (n : ℕ). t ⊕ summed l j n) e ∙ ⊕-none t)

    module _ (h : j < to) (x : AssignmentTotals) (e : x ≡ entry l j) where
      whole : summed l from (to - from) ≡ t ⊕ (x.totals ⊕ summed l (j + 1) (to - (j + 1)))
      unfolding summed
      whole =
          let i : to - j ≡ suc (to - (j + 1)) = omega arith in
          a ∙ ap (λ (n : ℕ). t ⊕ summed l j n) i ∙ ap (λ (y : AssignmentTotals). t ⊕ (y.totals ⊕ summed l (j + 1) (to - (j + 1)))) (sym e)

      pub has_room : Summable l from to → Room t x.totals
      has_room s =
          let b = subst (Bounded most_records) whole s.bounded in
          record { assignments = omega (arith, b.assignments); transactions = omega (arith, b.transactions); records = omega (arith, b.records); sum = omega (arith, b.sum) }

      pub adding_next : (t' : Totals) → t' ≡ t ⊕ x.totals → Adding l from to t' (j + 1)
      adding_next t' q =
          let r = summed l (j + 1) (to - (j + 1)) in
          whole ∙ sym (⊕-assoc t x.totals r) ∙ ap (λ (y : Totals). y ⊕ r) (sym q)
