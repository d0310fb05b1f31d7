-- Slots that hold figures: which assignment's each five are, and several of them together.
-- Assumes nothing.
use Prim.Native.Nat.{ℕ, ◌+◌, ◌-◌, ◌*◌, ◌≤◌, ◌<◌}
use mathlib.Core.Path.{◌≡◌, refl, sym, ap, ap₂, subst, ◌∙◌}
use mathlib.Core.List.{List, [], ◌∷◌, ◌++◌, append_assoc}
use mathlib.Core.Bool.{Bool, true, false}
use native.Mathlib.Nat.{add-zero}
use native.Mathlib.Omega.{arith}
use borrow.Author.Tests.{eqb-true, eqb-false}
use lib.Dec.{eqb}
use lib.ListN.{length, get_or, take, drop, take-append-drop, length-drop}
use lib.Seq.{get_or-drop, drop-drop}
use Rattle.dates.specs.Dates.{date}
use Rattle.figures.specs.Figures.{amount, count, Fits}
use Rattle.figures.specs.Totals.{none, ◌⊕◌}
use Rattle.limits.specs.Limits.{most_records}
use Rattle.figures.specs.declared.totals.Totals.{Totals}
use Rattle.figures.specs.declared.totals.AssignmentTotals.{AssignmentTotals}
use Rattle.run_growth.specs.Bounds.{Bounded}
use Rattle.run_figures.proofs.Slots.{slots_join}
use Rattle.limits.specs.Limits.{figure_slots}
use Rattle.run_figures.specs.Slots.{slots, all_slots, entry, summed, Legible, Summable, Holding}

pub held : (l : List ℕ) (n : ℕ) (ts : List AssignmentTotals) → take n l ≡ all_slots ts → Holding l 0 ts
held l n ts e = record { behind = drop n l; is = sym (take-append-drop n l) ∙ ap (λ (x : List ℕ). x ++ drop n l) e }

-- slots that kept their number have room for all
pub roomy : (m n : ℕ) → m ≡ n → n ≡ figure_slots → figure_slots ≤ m
roomy m n h e = omega (arith, h, e)

-- figures of one assignment, each small enough for its place
pub record Small (t : AssignmentTotals) : Type 0 where
  pub single : t.totals.assignments.0 ≡ 1
  pub bounded : Bounded most_records t.totals
  pub first : Fits 32 t.totals.first.0
  pub last : Fits 32 t.last.0

unfoldable pub AllSmall : List AssignmentTotals → Type 0
AllSmall [] = Unit {0}
AllSmall (t ∷ ts) = Small t × AllSmall ts

unfoldable pub total_of : List AssignmentTotals → Totals
total_of [] = none
total_of (t ∷ ts) = t.totals ⊕ total_of ts

-- the first of them, and those behind it
module _ (l : List ℕ) (j : ℕ) (t : AssignmentTotals) (ts : List AssignmentTotals) (h : Holding l j (t ∷ ts)) where
  slot : (i : ℕ) → get_or l (5 * j + i) 0 ≡ get_or (slots t ++ all_slots ts ++ h.behind) i 0
  unfolding all_slots
  slot i = sym (get_or-drop (5 * j) l i 0) ∙ ap (λ (x : List ℕ). get_or x i 0) h.is

  pub entry_is : t.totals.assignments.0 ≡ 1 → entry l j ≡ t
  unfolding entry slots
  entry_is e =
      let a : get_or l (5 * j) 0 ≡ t.totals.transactions.0 = ap (λ (i : ℕ). get_or l i 0) (sym (add-zero (5 * j))) ∙ slot 0 in
      let b : get_or l (5 * j + 1) 0 ≡ t.totals.records.0 = slot 1 in
      let c : get_or l (5 * j + 2) 0 ≡ t.totals.sum.0 = slot 2 in
      let d : get_or l (5 * j + 3) 0 ≡ t.totals.first.0 = slot 3 in
      let f : get_or l (5 * j + 4) 0 ≡ t.last.0 = slot 4 in
      λ i. record { totals = record { assignments = count (sym e i); transactions = count (a i); records = count (b i); sum = amount (c i); first = date (d i) }; last = date (f i) }

  inside : 5 * j + 5 ≤ length l
  unfolding all_slots slots
  inside = let e = sym (length-drop (5 * j) l) ∙ ap length h.is in omega (arith, e)

  pub legible : Small t → Legible l j
  unfolding entry
  legible s =
      let e = entry_is s.single in
      let b = subst (λ (x : AssignmentTotals). Bounded most_records x.totals) (sym e) s.bounded in
      record {
        inside = inside;
        transactions = omega (arith, b.transactions);
        records = omega (arith, b.records);
        first = subst (λ (x : AssignmentTotals). Fits 32 x.totals.first.0) (sym e) s.first;
        last = subst (λ (x : AssignmentTotals). Fits 32 x.last.0) (sym e) s.last;
      }

  pub held_next : Holding l (j + 1) ts
  unfolding all_slots slots
  held_next =
      let e : 5 * (j + 1) ≡ 5 * j + 5 = omega arith in
      record { behind = h.behind; is = ap (λ (n : ℕ). drop n l) e ∙ sym (drop-drop 5 (5 * j) l) ∙ ap (drop 5) h.is }

-- all of them
all_legible : (l : List ℕ) (j : ℕ) (ts : List AssignmentTotals) → Holding l j ts → AllSmall ts → (i : ℕ) → j ≤ i → i < j + length ts → Legible l i
unfolding AllSmall
all_legible l j [] h s i m n = absurd (omega arith)
all_legible l j (t ∷ ts) h s i m n = go (eqb j i) refl (λ x. all_legible l (j + 1) ts (held_next l j t ts h) s.1 i x (omega arith))
  where
    go : (b : Bool) → eqb j i ≡ b → (j + 1 ≤ i → Legible l i) → Legible l i
    go true e r = subst (Legible l) (eqb-true j i e) (legible l j t ts h s.0)
    go false e r = r (let d = eqb-false j i e in omega (arith, d))

all_summed : (l : List ℕ) (j : ℕ) (ts : List AssignmentTotals) → Holding l j ts → AllSmall ts → summed l j (length ts) ≡ total_of ts
unfolding summed total_of AllSmall
all_summed l j [] h s = refl
all_summed l j (t ∷ ts) h s =
    ap₂ (λ (x : AssignmentTotals) (y : Totals). x.totals ⊕ y) (entry_is l j t ts h s.0.single) (all_summed l (j + 1) ts (held_next l j t ts h) s.1)

-- the first of them, and the others
pub held_front : (l : List ℕ) (j : ℕ) (xs ys : List AssignmentTotals) → Holding l j (xs ++ ys) → Holding l j xs
held_front l j xs ys h =
    record { behind = all_slots ys ++ h.behind; is = h.is ∙ ap (λ (x : List ℕ). x ++ h.behind) (slots_join xs ys) ∙ append_assoc (all_slots xs) (all_slots ys) h.behind }

pub held_back : (l : List ℕ) (j : ℕ) (xs ys : List AssignmentTotals) → Holding l j (xs ++ ys) → Holding l (j + length xs) ys
held_back l j [] ys h = let e : j ≡ j + 0 = omega arith in subst (λ (i : ℕ). Holding l i ys) e h
held_back l j (x ∷ xs) ys h = let e : j + 1 + length xs ≡ j + length (x ∷ xs) = omega arith in subst (λ (i : ℕ). Holding l i ys) e (held_back l (j + 1) xs ys (held_next l j x (xs ++ ys) h))

module _ (l : List ℕ) (j n : ℕ) (ts : List AssignmentTotals) (h : Holding l j ts) (s : AllSmall ts) (e : length ts ≡ n) where
  pub summed_is : summed l j n ≡ total_of ts
  summed_is = ap (summed l j) (sym e) ∙ all_summed l j ts h s

  pub summable : Bounded most_records (total_of ts) → Summable l j (j + n)
  summable b =
      let i : j + n - j ≡ n = omega arith in
      record {
        each = λ k m q. all_legible l j ts h s k m (omega (arith, q, e));
        bounded = subst (Bounded most_records) (sym (ap (summed l j) i ∙ summed_is)) b;
      }
