-- An account's last digit is right where the sum of all eleven, with weight 1 for it, is a multiple of 11.
-- Assumes nothing.
use Prim.Native.Nat.{ℕ, ◌+◌, ◌-◌, ◌%◌, ◌≤◌, ◌<◌}
use mathlib.Core.Path.{◌≡◌, refl, ap, sym, ◌∙◌}
use mathlib.Core.List.{List}
use mathlib.Core.Bool.{Bool, true}
use native.Mathlib.Nat.{mod-lt}
use native.Mathlib.Omega.{arith}
use lib.Dec.{eqb, lit<}
use lib.ListN.{length, get_or}
use Rattle.field_bytes.specs.Bytes.{every, is_digit}
use Rattle.field_bytes.proofs.Computed.{below, below_at, alike, alike_same}
use Rattle.field_bytes.proofs.Every.{every_at, digit_low, digit_high}
use Rattle.field_accounts.specs.Accounts.{weights, weighted, account_of, judged, right_digit, last_digit, is_right}
use Rattle.field_accounts.specs.OnTheWay.{weighed}
use Rattle.field_accounts.proofs.Weights.{digits_over, digits_most, digits_judged}

-- one test, computed at every remainder and every last digit
agree : ℕ → ℕ → Bool
agree r l = alike (eqb ((r + l) % 11) 0) (is_right (judged l r))

all_agree : below (λ r. below (agree r) 10) 11 ≡ true
unfolding below alike agree judged right_digit
all_agree = refl

multiple : (w l : ℕ) → l < 10 → eqb ((w + l) % 11) 0 ≡ is_right (judged l (w % 11))
unfolding agree
multiple w l h =
    let r = w % 11 in
    let e : (w + l) % 11 ≡ (r + l) % 11 = omega arith in
    ap (λ (z : ℕ). eqb z 0) e
    ∙ alike_same _ _ (below_at (agree r) 10 (below_at (λ r. below (agree r) 10) 11 all_agree r (mod-lt w (lit< tt))) l h)

module _ (s : List ℕ) (n : length s ≡ 11) (h : every is_digit s ≡ true) where
  last : is_digit (get_or s 10 0) ≡ true
  last = every_at is_digit s 10 h (omega (arith, n))

  last_low : 48 ≤ get_or s 10 0
  last_low = digit_low (get_or s 10 0) last

  last_high : get_or s 10 0 ≤ 57
  last_high = digit_high (get_or s 10 0) last

  -- what the eleven bytes have over the digits
  all_over : weighed weights s + get_or s 10 0 ≡ weighted weights s + last_digit s + 2016
  all_over = omega (arith, digits_over s n h, last_low)

  pub all_low : 2016 ≤ weighed weights s + get_or s 10 0
  all_low = omega (arith, all_over)

  pub all_high : weighed weights s + get_or s 10 0 ≤ 2394
  all_high = omega (arith, digits_over s n h, digits_most s h, last_high)

  pub right_sum : eqb ((weighed weights s + get_or s 10 0 - 2016) % 11) 0 ≡ is_right (account_of s)
  right_sum =
      let e : weighed weights s + get_or s 10 0 - 2016 ≡ weighted weights s + last_digit s = omega (arith, all_over) in
      let l : last_digit s < 10 = omega (arith, last_high) in
      ap (λ (z : ℕ). eqb (z % 11) 0) e ∙ multiple (weighted weights s) (last_digit s) l ∙ sym (ap is_right (digits_judged s h))
