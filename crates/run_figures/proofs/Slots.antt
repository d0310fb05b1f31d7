-- Numbers put into slots: what then stands before them, and with them. Five numbers are an assignment's figures.
-- Assumes nothing.
use Prim.Native.Nat.{ℕ, ◌+◌, ◌-◌, ◌*◌, ◌≤◌, ◌<◌}
use mathlib.Core.Path.{◌≡◌, refl, sym, ap, ap₂, ◌∙◌}
use mathlib.Core.List.{List, [], ◌∷◌, ◌++◌, append_assoc, append-nil}
use native.Mathlib.Nat.{add-zero}
use native.Mathlib.Omega.{arith}
use borrow.Rule.Slice.PartMut.{put_mid}
use borrow.Author.Tests.{le-leb, lt-leb}
use lib.ListN.{length, take, drop, set, length-append, take-append-drop}
use lib.Seq.{length-take-le, take_at, sets-eq, drop-drop}
use Rattle.figures.specs.declared.totals.AssignmentTotals.{AssignmentTotals}
use Rattle.run_figures.specs.Slots.{slots, all_slots, put_from, with_figures}

pub put_none : (n : ℕ) (l : List ℕ) → put_from n [] l ≡ l
unfolding put_from
put_none n l = ap (λ (k : ℕ). take n l ++ [] ++ drop k l) (add-zero n) ∙ ap (λ (x : List ℕ). x ++ drop n l) (append-nil (take n l)) ∙ take-append-drop n l

pub put_one : (n v : ℕ) (l : List ℕ) → n < length l → set l n v ≡ put_from n (v ∷ []) l
unfolding put_from
put_one n v l h = sets-eq (v ∷ []) l n (omega arith)

-- what stood before, and what was put there
pub put_front : (n : ℕ) (xs l : List ℕ) → n ≤ length l → take (n + length xs) (put_from n xs l) ≡ take n l ++ xs
unfolding put_from
put_front n xs l h = take_at (take n l ++ xs) _ (n + length xs) (length-append (take n l) xs ∙ ap (λ (x : ℕ). x + length xs) (length-take-le n l h))

-- room for the five numbers, or none
pub no_room : (n : ℕ) (t : AssignmentTotals) (l : List ℕ) → length l < 5 * n + 5 → l ≡ with_figures n t l
unfolding with_figures
no_room n t l h = sym (rw (lt-leb (5 * n + 5) (length l) h))

module _ (n : ℕ) (t : AssignmentTotals) (l : List ℕ) (h : 5 * n + 5 ≤ length l) where
  roomy_put : with_figures n t l ≡ put_from (5 * n) (slots t) l
  unfolding with_figures
  roomy_put = rw (le-leb (5 * n + 5) (length l) h)

  pub put_slots : (x : List ℕ) → x ≡ slots t → put_mid (5 * n) (5 * n + 5 - 5 * n) l x ≡ with_figures n t l
  unfolding slots put_from
  put_slots x e =
      let k : 5 * n + 5 - 5 * n ≡ 5 = omega arith in
      ap₂ (λ (y : List ℕ) (m : ℕ). put_mid (5 * n) m l y) e k
      ∙ ap (λ (y : List ℕ). take (5 * n) l ++ (slots t ++ y)) (drop-drop 5 (5 * n) l)
      ∙ sym (append_assoc (take (5 * n) l) (slots t) (drop (5 * n + 5) l))
      ∙ sym roomy_put

  pub figures_front : take (5 * n + 5) (with_figures n t l) ≡ take (5 * n) l ++ slots t
  unfolding slots
  figures_front = ap (take (5 * n + 5)) roomy_put ∙ put_front (5 * n) (slots t) l (omega (arith, h))

pub slots_join : (xs ys : List AssignmentTotals) → all_slots (xs ++ ys) ≡ all_slots xs ++ all_slots ys
unfolding all_slots
slots_join [] ys = refl
slots_join (x ∷ xs) ys = ap (λ (l : List ℕ). slots x ++ l) (slots_join xs ys) ∙ sym (append_assoc (slots x) (all_slots xs) (all_slots ys))

pub one_slots : (t : AssignmentTotals) → all_slots (t ∷ []) ≡ slots t
unfolding all_slots
one_slots t = append-nil (slots t)

pub none_slots : all_slots [] ≡ []
unfolding all_slots
none_slots = refl
