-- Bytes in a number: which they are, that the test of a word is the test of each of them, and what is left of digits without their 48s.
-- Assumes nothing.
use Prim.Native.Nat.{ℕ, zero, suc, ◌+◌, ◌-◌, ◌*◌, ◌/◌, ◌%◌, ◌^◌, ◌<◌}
use mathlib.Core.Path.{◌≡◌, refl, ap, ap₂, sym, ◌∙◌}
use mathlib.Core.List.{List, [], ◌∷◌}
use mathlib.Core.Bool.{Bool, true, false, ◌&&◌, not}
use native.Mathlib.Nat.{mod-lt, not-suc-le-zero, pow-suc}
use native.Mathlib.Decide.{dec_lt}
use native.Mathlib.Omega.{arith}
use borrow.Author.Tests.{eqb-true, eqb-false, eq-eqb, ne_eqb}
use lib.Bits.{bit_and, bit_or, bit_xor, and_block, or_block, xor_block, or_lt, xor_lt, and_zero_r, and_mask, and_le_r}
use lib.Dec.{eqb, lit<}
use lib.Pow.{split}
use Rattle.field_bytes.specs.Bytes.{every, is_digit}
use Rattle.field_words.specs.Words.{bytes_of}
use Rattle.field_bytes.proofs.Tests.{and_left, and_right}
use Rattle.field_bytes.proofs.Every.{digit_low, digit_high}

-- ---- one byte: nothing strays into the high half where it is a digit, which is tried for each of the 256
abbrev strayed : ℕ → ℕ
strayed b = bit_or (bit_xor b 48) (bit_and b 15 + 6)

abbrev halves : ℕ → Bool
halves b = eqb (bit_and (strayed b) 240) 0

abbrev agree : Bool → Bool → Bool
agree true b = b
agree false b = not b

agree_is : (a b : Bool) → agree a b ≡ true → a ≡ b
agree_is true b h = sym h
agree_is false true h = h
agree_is false false h = refl

tried : ℕ → Bool
tried zero = true
tried (suc n) = agree (halves n) (is_digit n) && tried n

tried_at : (n b : ℕ) → tried n ≡ true → b < n → halves b ≡ is_digit b
unfolding tried
tried_at zero b t h = absurd (not-suc-le-zero h)
tried_at (suc n) b t h = go (dec_lt b n) (tried_at n b (and_right (agree (halves n) (is_digit n)) (tried n) t))
  where
    go : Dec (b < n) → (b < n → halves b ≡ is_digit b) → halves b ≡ is_digit b
    go (yes p) before = before p
    go (no p) before =
        let e : n ≡ b = omega arith in
        rw e at (agree_is (halves n) (is_digit n) (and_left (agree (halves n) (is_digit n)) (tried n) t))

byte : (b : ℕ) → b < 256 → halves b ≡ is_digit b
unfolding tried
byte b h = tried_at 256 b refl h

-- ---- n bytes in a number, each of them b
unfoldable pub times : ℕ → ℕ → ℕ
times zero b = 0
times (suc n) b = times n b * 256 + b

-- two numbers are equal where the lowest bytes and what is above them are
eqb_parts : (a b c d : ℕ) → b < 256 → d < 256 → eqb (a * 256 + b) (c * 256 + d) ≡ eqb b d && eqb a c
eqb_parts a b c d h k = go (eqb b d) (eqb a c) refl refl
  where
    go : (t u : Bool) → eqb b d ≡ t → eqb a c ≡ u → eqb (a * 256 + b) (c * 256 + d) ≡ t && u
    go true true p q = eq-eqb (a * 256 + b) (c * 256 + d) (omega (arith, eqb-true b d p, eqb-true a c q))
    go true false p q = ne_eqb (a * 256 + b) (c * 256 + d) (λ e. eqb-false a c q (omega arith))
    go false u p q = ne_eqb (a * 256 + b) (c * 256 + d) (λ e. eqb-false b d p (omega arith))

-- a number of n bytes is that of n equal bytes where each of them is
pub all_equal : (v n x : ℕ) → v < 256 → x < 256 ^ n → eqb x (times n v) ≡ every (λ b. eqb b v) (bytes_of n x)
unfolding times every bytes_of
all_equal v zero x k h = eq-eqb x 0 (omega arith)
all_equal v (suc n) x k h =
    let fit : x < 256 ^ n * 256 = rw (pow-suc 256 n) at h in
    let rest : x / 256 < 256 ^ n = omega arith in
    ap (λ (z : ℕ). eqb z (times (suc n) v)) (sym (split x 8))
    ∙ eqb_parts (x / 256) (x % 256) (times n v) v (mod-lt x (lit< tt)) k
    ∙ ap (λ (t : Bool). eqb (x % 256) v && t) (all_equal v n (x / 256) k rest)

-- a mask of equal bytes, taken byte by byte
masked : (n a b m : ℕ) → b < 256 → m < 256 → bit_and (a * 256 + b) (times (suc n) m) ≡ bit_and a (times n m) * 256 + bit_and b m
unfolding times
masked n a b m h k = and_block 8 a (times n m) b m h k

masked_is : (n a b m v : ℕ) → b < 256 → m < 256 → v < 256
    → eqb (bit_and (a * 256 + b) (times (suc n) m)) (times (suc n) v) ≡ eqb (bit_and b m) v && eqb (bit_and a (times n m)) (times n v)
unfolding times
masked_is n a b m v h k l =
    ap (λ (z : ℕ). eqb z (times (suc n) v)) (masked n a b m h k)
    ∙ eqb_parts (bit_and a (times n m)) (bit_and b m) (times n v) v (omega (arith, and_le_r b m)) l

-- the same of a word of n bytes, and its test
abbrev stray : ℕ → ℕ → ℕ
stray n x = bit_or (bit_xor x (times n 48)) (bit_and x (times n 15) + times n 6)

abbrev clear : ℕ → ℕ → Bool
clear n x = eqb (bit_and (stray n x) (times n 240)) (times n 0)

strayed_small : (b : ℕ) → b < 256 → bit_and b 15 + 6 < 256
strayed_small b h = omega (arith, and_le_r b 15)

stray_step : (n a b : ℕ) → b < 256 → stray (suc n) (a * 256 + b) ≡ stray n a * 256 + strayed b
unfolding times
stray_step n a b h =
    let e : bit_and a (times n 15) * 256 + bit_and b 15 + (times n 6 * 256 + 6) ≡ (bit_and a (times n 15) + times n 6) * 256 + (bit_and b 15 + 6) = omega arith in
    ap₂ bit_or (xor_block 8 a (times n 48) b 48 h (lit< tt)) (ap (λ (z : ℕ). z + times (suc n) 6) (masked n a b 15 h (lit< tt)) ∙ e)
    ∙ or_block 8 (bit_xor a (times n 48)) (bit_and a (times n 15) + times n 6) (bit_xor b 48) (bit_and b 15 + 6) (xor_lt 8 b 48 h (lit< tt)) (strayed_small b h)

tests : (n x : ℕ) → clear n x ≡ every is_digit (bytes_of n x)
unfolding times every bytes_of
tests zero x = rw (and_zero_r (stray zero x))
tests (suc n) x =
    let a = x / 256 in
    let b = x % 256 in
    let small : b < 256 = mod-lt x (lit< tt) in
    ap (clear (suc n)) (sym (split x 8))
    ∙ ap (λ (z : ℕ). eqb (bit_and z (times (suc n) 240)) (times (suc n) 0)) (stray_step n a b small)
    ∙ masked_is n (stray n a) (strayed b) 240 0 (or_lt 8 (bit_xor b 48) (bit_and b 15 + 6) (xor_lt 8 b 48 small (lit< tt)) (strayed_small b small)) (lit< tt) (lit< tt)
    ∙ ap₂ ◌&&◌ (byte b small) (tests n a)

-- the test that the code makes of eight bytes
pub word_test : (x : ℕ)
    → eqb (bit_and (bit_or (bit_xor x 0x3030303030303030) (bit_and x 0x0F0F0F0F0F0F0F0F + 0x0606060606060606)) 0xF0F0F0F0F0F0F0F0) 0
    ≡ every is_digit (bytes_of 8 x)
unfolding times
word_test x = tests 8 x

-- ---- digits in a number, each without its 48
unfoldable pub packed : List ℕ → ℕ
packed [] = 0
packed (b ∷ s) = packed s * 256 + (b - 48)

digit_left : (b : ℕ) → is_digit b ≡ true → bit_and b 15 ≡ b - 48
digit_left b h = and_mask b 4 ∙ omega (arith, digit_low b h, digit_high b h)

pub digits_left : (n x : ℕ) → every is_digit (bytes_of n x) ≡ true → bit_and x (times n 15) ≡ packed (bytes_of n x)
unfolding times every bytes_of packed
digits_left zero x h = and_zero_r x
digits_left (suc n) x h =
    let b = x % 256 in
    let d = and_left (is_digit b) (every is_digit (bytes_of n (x / 256))) h in
    let r = and_right (is_digit b) (every is_digit (bytes_of n (x / 256))) h in
    ap (λ (z : ℕ). bit_and z (times (suc n) 15)) (sym (split x 8))
    ∙ masked n (x / 256) b 15 (mod-lt x (lit< tt)) (lit< tt)
    ∙ ap₂ (λ (y z : ℕ). y * 256 + z) (digits_left n (x / 256) r) (digit_left b d)
