-- Parts of an accepted file as a program takes them out: its assignments as one span of bytes, between its first and its last record.
-- Assumes nothing.
use Rattle.std.proofs.Common.{Ok}
use Prim.Native.Nat.{ℕ, zero, suc, ◌-◌, ◌≤◌}
use mathlib.Core.Path.{◌≡◌, sym, ap, ◌∙◌}
use mathlib.Core.List.{List, [], ◌∷◌}
use native.Mathlib.Omega.{arith}
use lib.ListN.{length, take, drop}
use lib.Seq.{take-nil}
use Rattle.dates.specs.declared.ProcessDay.{ProcessDay}
use Rattle.figures.specs.declared.totals.Totals.{Totals}
use Rattle.rules.specs.Run.{check_of}
use Rattle.operations.specs.Joining.{assignments_of}
use Rattle.laws.proofs.Made.{file_length}
use Rattle.laws.proofs.View.{viewed}

pub drop_take : (n m : ℕ) (l : List ℕ) → drop n (take m l) ≡ take (m - n) (drop n l)
drop_take zero m l = let e : m ≡ m - 0 = omega arith in ap (λ (x : ℕ). take x l) e
drop_take (suc n) zero l = let e : zero - suc n ≡ 0 = omega arith in sym (ap (λ (x : ℕ). take x (drop (suc n) l)) e)
drop_take (suc n) (suc m) [] = sym (take-nil (suc m - suc n))
drop_take (suc n) (suc m) (x ∷ l) = let e : m - n ≡ suc m - suc n = omega arith in drop_take n m l ∙ ap (λ (y : ℕ). take y (drop n l)) e

abbrev pub body_in : List ℕ → List ℕ
body_in b = take (length b - 81 - 81) (drop 81 b)

pub body_is : (b : List ℕ) → body_in b ≡ assignments_of b
body_is b = sym (drop_take 81 (length b - 81) b)

-- it has its two ends at least
pub long_enough : (day : ProcessDay) (b : List ℕ) (t : Totals) → check_of day b ≡ Ok t → 162 ≤ length b
long_enough day b t e =
    let v = viewed day b t e in
    omega (arith, ap length v.bytes, file_length v.window v.head v.body v.good)
