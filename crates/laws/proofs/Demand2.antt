-- Demand 2 for checking, on bytes: a file is accepted exactly when it meets the rules, with its records' figures, and refused exactly with its first fault.
-- Assumes nothing.
use Prim.Native.Nat.{ℕ, ◌+◌, ◌/◌, ◌≤◌}
use mathlib.Core.Path.{◌≡◌, refl, sym, ap, subst, ◌∙◌}
use mathlib.Core.Logic.{◌↔◌}
use mathlib.Core.List.{List, []}
use mathlib.Core.Bool.{Bool, true, false}
use native.Mathlib.Omega.{arith}
use native.Mathlib.Nat.{zero-add}
use borrow.Author.Tests.{leb-true, leb-false, le-leb, lt-leb}
use lib.Dec.{leb}
use lib.ListN.{length}
use Rattle.std.specs.Prelude.{if◌then◌else◌, Option, Some, None, Ok, Err}
use Rattle.dates.specs.Windows.{window_of}
use Rattle.dates.specs.declared.ProcessDay.{ProcessDay}
use Rattle.dates.specs.declared.Window.{Window}
use Rattle.figures.specs.Figures.{amount, count}
use Rattle.figures.specs.Totals.{none}
use Rattle.figures.specs.declared.totals.Totals.{Totals}
use Rattle.figures.proofs.Laws.{none-⊕}
use Rattle.rules.specs.Growth.{start}
use Rattle.limits.specs.Limits.{most_records}
use Rattle.rules.specs.Refusals.{refused}
use Rattle.rules.specs.Run.{run, records_of, bad_length, judge, on_window, check_of}
use Rattle.rules.specs.declared.Mode.TheVariants.{File}
use Rattle.rules.specs.declared.Refusal.{Refusal}
use Rattle.laws.specs.Meets.{gains, Lawful, Refusing, wrong_day, wrong_length, too_many, at_record, at_end}
use Rattle.laws.specs.Plain.{FiguresOf}
use Rattle.laws.proofs.Sound.{Ran, met, runs}
use Rattle.laws.proofs.First.{Stops, stopped, cut_off, ungiven, stops, stops_so}
use Rattle.laws.proofs.Figures.{figures_are, meets_dated}
use Rattle.rules.specs.Refusals.{Verdict}
use Rattle.layout.specs.declared.Reason.TheVariants.{BrokenLength, TooManyRecords, EndsEarly}

not_both : (t : Totals) (x : Refusal) → Ok t ≡ Err x → ⊥
not_both t x e = let z : ◌≡◌ {A = ℕ} 0 1 = cc in omega arith

-- ---- what an acceptance says
pub record Accepting (day : ProcessDay) (b : List ℕ) (t : Totals) : Type 0 where
  pub window : Window
  pub opened : window_of day ≡ Some window
  pub lengthy : bad_length b ≡ false
  pub few : length b / 81 ≤ most_records
  pub ran : Ran File window none [] start.assignment (records_of b) t

judged : (w : Window) (b : List ℕ) (t : Totals) → judge w b ≡ Ok t → (bad_length b ≡ false) × (length b / 81 ≤ most_records) × (run File w 0 start [] (records_of b) ≡ Ok t)
unfolding judge
judged w b t e = go (bad_length b) (leb (length b / 81) most_records) refl refl e
  where
    go : (x y : Bool) → bad_length b ≡ x → leb (length b / 81) most_records ≡ y
        → (if x then refused BrokenLength 0 0 0 else (if y then run File w 0 start [] (records_of b) else refused TooManyRecords 0 0 0)) ≡ Ok t
        → (bad_length b ≡ false) × (length b / 81 ≤ most_records) × (run File w 0 start [] (records_of b) ≡ Ok t)
    go true y p q v = absurd (not_both t _ (sym v))
    go false true p q v = (p, leb-true _ _ q, v)
    go false false p q v = absurd (not_both t _ (sym v))

pub accepting : (day : ProcessDay) (b : List ℕ) (t : Totals) → check_of day b ≡ Ok t → Accepting day b t
unfolding check_of
accepting day b t e = go (window_of day) refl e
  where
    go : (o : Option Window) → window_of day ≡ o → on_window o (λ w. judge w b) ≡ Ok t → Accepting day b t
    go (Some w) p v =
        let j = judged w b t v in
        record { window = w; opened = p; lengthy = j.0; few = j.1; ran = met File w 0 start [] (records_of b) t j.2 }
    go None p v = absurd (not_both t _ (sym v))

pub accepts : (day : ProcessDay) (b : List ℕ) → Lawful day b → check_of day b ≡ Ok (gains (records_of b))
unfolding check_of judge
accepts day b l =
    ap (λ (o : Option Window). on_window o (λ w. judge w b)) l.opened
    ∙ rw (l.lengthy, le-leb (length b / 81) most_records l.few) (runs File l.window 0 start [] (records_of b) l.meets l.ends)
    ∙ ap Ok (none-⊕ (gains (records_of b)))

-- a file is accepted exactly when it meets the rules
pub accepted_exactly : (day : ProcessDay) (b : List ℕ) → ((t : Totals) × (check_of day b ≡ Ok t)) ↔ Lawful day b
accepted_exactly day b = (there, λ l. (gains (records_of b), accepts day b l))
  where
    there : (t : Totals) × (check_of day b ≡ Ok t) → Lawful day b
    there v =
        let a = accepting day b v.0 v.1 in
        record { window = a.window; opened = a.opened; lengthy = a.lengthy; few = a.few; meets = a.ran.meets; ends = a.ran.ends }

-- the figures of an accepted file are those of its records
pub figures_of_records : (day : ProcessDay) (b : List ℕ) (t : Totals) → check_of day b ≡ Ok t → FiguresOf (records_of b) t
figures_of_records day b t e =
    let a = accepting day b t e in
    let s : gains (records_of b) ≡ t = sym (a.ran.total ∙ none-⊕ (gains (records_of b))) in
    subst (FiguresOf (records_of b)) s (figures_are (records_of b) (meets_dated File a.window none [] start.assignment (records_of b) a.ran.meets))

-- plain figures leave no choice
pub one_figures : (rs : List (List ℕ)) (t u : Totals) → FiguresOf rs t → FiguresOf rs u → t ≡ u
one_figures rs t u p q = λ i. record {
  assignments = count ((p.assignments ∙ sym q.assignments) i);
  transactions = count ((p.transactions ∙ sym q.transactions) i);
  records = count ((p.records ∙ sym q.records) i);
  sum = amount ((p.sum ∙ sym q.sum) i);
  first = record { 0 = (p.first ∙ sym q.first) i };
}

-- so a file is accepted with these figures exactly when it meets the rules and they are its records'
pub accepted_with : (day : ProcessDay) (b : List ℕ) (t : Totals) → (check_of day b ≡ Ok t) ↔ (Lawful day b × FiguresOf (records_of b) t)
accepted_with day b t = (λ e. ((accepted_exactly day b).0 (t, e), figures_of_records day b t e), back)
  where
    back : Lawful day b × FiguresOf (records_of b) t → check_of day b ≡ Ok t
    back v = let a = accepts day b v.0 in a ∙ ap Ok (one_figures (records_of b) _ t (figures_of_records day b _ a) v.1)

-- ---- what a refusal says
judge_refuses : (day : ProcessDay) (w : Window) (b : List ℕ) (x : Refusal) → window_of day ≡ Some w → judge w b ≡ Err x → Refusing day b (Err x)
unfolding judge
judge_refuses day w b x o e = go (bad_length b) (leb (length b / 81) most_records) refl refl e
  where
    told : (v : Verdict) → bad_length b ≡ false → length b / 81 ≤ most_records → Stops File w none [] start.assignment (records_of b) 0 v → Refusing day b v
    told v p q (stopped j n k f) = subst (λ (i : ℕ). Refusing day b (refused n 0 (i + 1) k)) (sym (zero-add j)) (at_record w j n k o p q f)
    told v p q (cut_off m s) = subst (λ (i : ℕ). Refusing day b (refused EndsEarly 0 (i + 1) 0)) (sym (zero-add (length (records_of b)))) (at_end w o p q m s)
    told v p q (ungiven m s g) = absurd (no_group g)
      where
        no_group : true ≡ false → ⊥
        no_group e = let z : ◌≡◌ {A = ℕ} 0 1 = cc in omega arith

    go : (y z : Bool) → bad_length b ≡ y → leb (length b / 81) most_records ≡ z
        → (if y then refused BrokenLength 0 0 0 else (if z then run File w 0 start [] (records_of b) else refused TooManyRecords 0 0 0)) ≡ Err x → Refusing day b (Err x)
    go true z p q v = subst (Refusing day b) v (wrong_length w o p)
    go false true p q v = told (Err x) p (leb-true _ _ q) (stops File w 0 start [] (records_of b) x v)
    go false false p q v = subst (Refusing day b) v (too_many w o p (leb-false _ _ q))

refuses : (day : ProcessDay) (b : List ℕ) (x : Refusal) → check_of day b ≡ Err x → Refusing day b (Err x)
unfolding check_of
refuses day b x e = go (window_of day) refl e
  where
    go : (o : Option Window) → window_of day ≡ o → on_window o (λ w. judge w b) ≡ Err x → Refusing day b (Err x)
    go (Some w) p v = judge_refuses day w b x p v
    go None p v = subst (Refusing day b) v (wrong_day p)

-- and each reason has its answer
module _ (day : ProcessDay) (b : List ℕ) where
  checked : (o : Option Window) → window_of day ≡ o → check_of day b ≡ on_window o (λ w. judge w b)
  unfolding check_of
  checked o e = ap (λ (o : Option Window). on_window o (λ w. judge w b)) e

  ran_so : (w : Window) (v : Verdict) → window_of day ≡ Some w → bad_length b ≡ false → length b / 81 ≤ most_records → Stops File w none [] start.assignment (records_of b) 0 v → check_of day b ≡ v
  unfolding judge
  ran_so w v o p q s = checked (Some w) o ∙ rw (p, le-leb (length b / 81) most_records q) (stops_so File w 0 start [] (records_of b) v s)

  refuses_so : (v : Verdict) → Refusing day b v → check_of day b ≡ v
  unfolding judge
  refuses_so v (wrong_day o) = checked None o
  refuses_so v (wrong_length w o p) = checked (Some w) o ∙ rw p
  refuses_so v (too_many w o p q) = checked (Some w) o ∙ rw (p, lt-leb (length b / 81) most_records q)
  refuses_so v (at_record w i n k o p q f) = ran_so w _ o p q (stopped i n k f) ∙ ap (λ (j : ℕ). refused n 0 (j + 1) k) (zero-add i)
  refuses_so v (at_end w o p q m s) = ran_so w _ o p q (cut_off m s) ∙ ap (λ (j : ℕ). refused EndsEarly 0 (j + 1) 0) (zero-add (length (records_of b)))

-- a refusal names the first fault in the stated order, and a first fault is refused with its name
pub refused_first : (day : ProcessDay) (b : List ℕ) (x : Refusal) → (check_of day b ≡ Err x) ↔ Refusing day b (Err x)
refused_first day b x = (refuses day b x, refuses_so day b (Err x))
