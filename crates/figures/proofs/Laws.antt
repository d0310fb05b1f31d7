-- Totals of either kind are added in any order and grouping, and none adds nothing.
-- Assumes nothing.
use mathlib.Core.Path.{◌≡◌, sym, ◌∙◌}
use native.Mathlib.Nat.{add_assoc, add_comm, zero-add}
use Rattle.dates.proofs.Laws.{earlier_assoc, earlier_comm, none_earlier, later_assoc, later_comm, later_none, none_later}
use Rattle.figures.specs.Figures.{amount, count}
use Rattle.figures.specs.declared.totals.Totals.{Totals}
use Rattle.figures.specs.declared.totals.AssignmentTotals.{AssignmentTotals}
use Rattle.figures.specs.Totals.{none, ◌⊕◌, none_yet, ◌⊞◌, undated}

-- totals may be added up in any grouping
pub ⊕-assoc : (a b c : Totals) → (a ⊕ b) ⊕ c ≡ a ⊕ (b ⊕ c)
⊕-assoc a b c = λ i. record {
  assignments = count (add_assoc a.assignments.0 b.assignments.0 c.assignments.0 i);
  transactions = count (add_assoc a.transactions.0 b.transactions.0 c.transactions.0 i);
  records = count (add_assoc a.records.0 b.records.0 c.records.0 i);
  sum = amount (add_assoc a.sum.0 b.sum.0 c.sum.0 i);
  first = earlier_assoc a.first b.first c.first i;
}

-- totals may be added up in any order
pub ⊕-comm : (a b : Totals) → a ⊕ b ≡ b ⊕ a
⊕-comm a b = λ i. record {
  assignments = count (add_comm a.assignments.0 b.assignments.0 i);
  transactions = count (add_comm a.transactions.0 b.transactions.0 i);
  records = count (add_comm a.records.0 b.records.0 i);
  sum = amount (add_comm a.sum.0 b.sum.0 i);
  first = earlier_comm a.first b.first i;
}

-- none with totals added to it are those totals
pub none-⊕ : (a : Totals) → none ⊕ a ≡ a
none-⊕ a = λ i. record {
  assignments = count (zero-add a.assignments.0 i);
  transactions = count (zero-add a.transactions.0 i);
  records = count (zero-add a.records.0 i);
  sum = amount (zero-add a.sum.0 i);
  first = none_earlier a.first i;
}

-- none added to totals changes nothing
pub ⊕-none : (a : Totals) → a ⊕ none ≡ a
⊕-none a = ⊕-comm a none ∙ none-⊕ a

-- an assignment's totals may be added up in any grouping
pub ⊞-assoc : (a b c : AssignmentTotals) → (a ⊞ b) ⊞ c ≡ a ⊞ (b ⊞ c)
⊞-assoc a b c = λ i. record {
  totals = ⊕-assoc a.totals b.totals c.totals i;
  last = later_assoc a.last b.last c.last i;
}

-- an assignment's totals may be added up in any order
pub ⊞-comm : (a b : AssignmentTotals) → a ⊞ b ≡ b ⊞ a
⊞-comm a b = λ i. record { totals = ⊕-comm a.totals b.totals i; last = later_comm a.last b.last i }

-- none yet with an assignment's totals added to it are those totals
pub none_yet-⊞ : (a : AssignmentTotals) → none_yet ⊞ a ≡ a
none_yet-⊞ a = λ i. record { totals = none-⊕ a.totals i; last = none_later a.last i }

-- none yet added to an assignment's totals changes nothing
pub ⊞-noneYet : (a : AssignmentTotals) → a ⊞ none_yet ≡ a
⊞-noneYet a = ⊞-comm a none_yet ∙ none_yet-⊞ a

-- totals that bring no date leave an assignment's last date
pub ⊞-undated : (a : AssignmentTotals) (t u : Totals) → t ≡ a.totals ⊕ u → ◌≡◌ {A = AssignmentTotals} (record { totals = t; last = a.last }) (a ⊞ undated u)
⊞-undated a t u e = λ i. record { totals = e i; last = sym (later_none a.last) i }
