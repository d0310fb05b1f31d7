-- Eight digits in a number: what the three steps make of them, two by two, four by four, and all.
-- Assumes nothing.
use Prim.Native.Nat.{ℕ, ◌+◌, ◌-◌, ◌*◌, ◌/◌, ◌%◌, ◌^◌, ◌<◌}
use mathlib.Core.Path.{◌≡◌, ap, ◌∙◌}
use mathlib.Core.List.{List, [], ◌∷◌}
use mathlib.Core.Bool.{true}
use native.Mathlib.Nat.{add-mul, mul_assoc, mul_right_comm, add_assoc, zero-add, lt_of_lt_of_le}
use native.Mathlib.Omega.{arith}
use lib.Arith.{digits_lt}
use lib.Bits.{bit_and, and_block, and_mask}
use lib.Dec.{lit<}
use lib.ListN.{length, get_or}
use lib.Pow.{pow-add, pow_mono, low, high, ones_lt}
use Rattle.field_bytes.specs.Bytes.{every, is_digit}
use Rattle.field_words.specs.Values.{value_from, value}
use Rattle.field_words.specs.Words.{bytes_of, twos_of, pairs_of}
use Rattle.field_bytes.proofs.Every.{every_at, digit_high}
use Rattle.field_words.proofs.WordTests.{times, packed, digits_left}

-- what the code computes of the twos and of the fours
abbrev pub fours_of : ℕ → ℕ
fours_of p = bit_and (p * 100 + p / 0x10000) 0x0000FFFF0000FFFF

abbrev pub all_of : ℕ → ℕ
all_of q = bit_and (q * 10000 + q / 0x100000000) 0xFFFFFFFF

-- Two neighbours a and b, in places of k bits, become a * f + b, in a place of 2 * k bits; above them the step begins again.
module _ (k f : ℕ) where
  sum_is : (t a b c : ℕ) → let B = 2 ^ k in let r = t * B + c in
      ((r * B + b) * B + a) * f + (r * B + b) ≡ (r * f + t) * (B * B) + ((b * f + c) * B + (a * f + b))
  sum_is t a b c =
      let B = 2 ^ k in
      let r = t * B + c in
      let p : ((r * B + b) * B + a) * f ≡ r * f * (B * B) + b * f * B + a * f =
      rw (add-mul ((r * B + b) * B) a f, mul_right_comm (r * B + b) B f, add-mul (r * B) b f, mul_right_comm r B f, add-mul (r * f * B) (b * f) B, mul_assoc (r * f) B B) in
      let q : r * B ≡ t * (B * B) + c * B = rw (add-mul (t * B) c B, mul_assoc t B B) in
      omega (arith, p, q, add-mul (r * f) t (B * B), add-mul (b * f) c B)

  step : (t a b c m : ℕ) → a < 2 ^ k → c < 2 ^ k → a * f + b < 2 ^ k → b * f + c < 2 ^ k
      → let r = t * 2 ^ k + c in let y = (r * 2 ^ k + b) * 2 ^ k + a in
      bit_and (y * f + y / 2 ^ k) (m * 2 ^ (k + k) + (2 ^ k - 1)) ≡ bit_and (r * f + r / 2 ^ k) m * 2 ^ (k + k) + (a * f + b)
  step t a b c m ha hc lo mid =
      let B = 2 ^ k in
      let r = t * B + c in
      let y = (r * B + b) * B + a in
      let parts = (b * f + c) * B + (a * f + b) in
      let fit : parts < 2 ^ (k + k) = rw (pow-add 2 k k) (digits_lt mid lo) in
      let ones : B - 1 < 2 ^ (k + k) = lt_of_lt_of_le (ones_lt k) (pow_mono (omega arith)) in
      let sum : y * f + y / B ≡ (r * f + r / B) * 2 ^ (k + k) + parts =
      rw (high (r * B + b) k ha, high t k hc, pow-add 2 k k) (sum_is t a b c) in
      ap (λ (z : ℕ). bit_and z (m * 2 ^ (k + k) + (B - 1))) sum
      ∙ and_block (k + k) (r * f + r / B) m parts (B - 1) fit ones
      ∙ ap (λ (z : ℕ). bit_and (r * f + r / B) m * 2 ^ (k + k) + z) (and_mask parts k ∙ low (b * f + c) k lo)

  -- the last two
  last : (a b : ℕ) → a < 2 ^ k → a * f + b < 2 ^ k → let y = b * 2 ^ k + a in bit_and (y * f + y / 2 ^ k) (2 ^ k - 1) ≡ a * f + b
  last a b ha lo =
      let y = b * 2 ^ k + a in
      let sum : y * f + b ≡ b * f * 2 ^ k + (a * f + b) = rw (add-mul (b * 2 ^ k) a f, mul_right_comm b (2 ^ k) f) (add_assoc (b * f * 2 ^ k) (a * f) b) in
      and_mask (y * f + y / 2 ^ k) k ∙ ap (λ (z : ℕ). (y * f + z) % 2 ^ k) (high b k ha) ∙ ap (λ (z : ℕ). z % 2 ^ k) sum ∙ low (b * f) k lo

twos_are : (a b c d e f g h : ℕ) → a < 10 → b < 10 → c < 10 → d < 10 → e < 10 → f < 10 → g < 10 → h < 10
    → twos_of (((((((h * 256 + g) * 256 + f) * 256 + e) * 256 + d) * 256 + c) * 256 + b) * 256 + a)
    ≡ (((g * 10 + h) * 65536 + (e * 10 + f)) * 65536 + (c * 10 + d)) * 65536 + (a * 10 + b)
twos_are a b c d e f g h ha hb hc hd he hf hg hh =
    step 8 10 ((((h * 256 + g) * 256 + f) * 256 + e) * 256 + d) a b c 0x00FF00FF00FF (omega arith) (omega arith) (omega arith) (omega arith)
    ∙ ap (λ (z : ℕ). z * 65536 + (a * 10 + b))
    (step 8 10 ((h * 256 + g) * 256 + f) c d e 0x00FF00FF (omega arith) (omega arith) (omega arith) (omega arith)
    ∙ ap (λ (z : ℕ). z * 65536 + (c * 10 + d))
    (step 8 10 h e f g 0x00FF (omega arith) (omega arith) (omega arith) (omega arith)
    ∙ ap (λ (z : ℕ). z * 65536 + (e * 10 + f)) (last 8 10 g h (omega arith) (omega arith))))

fours_are : (a b c d : ℕ) → a < 100 → b < 100 → c < 100 → d < 100
    → fours_of (((d * 65536 + c) * 65536 + b) * 65536 + a) ≡ (c * 100 + d) * 0x100000000 + (a * 100 + b)
fours_are a b c d ha hb hc hd =
    step 16 100 d a b c 0xFFFF (omega arith) (omega arith) (omega arith) (omega arith)
    ∙ ap (λ (z : ℕ). z * 0x100000000 + (a * 100 + b)) (last 16 100 c d (omega arith) (omega arith))

all_are : (a b : ℕ) → a < 10000 → b < 10000 → all_of (b * 0x100000000 + a) ≡ a * 10000 + b
all_are a b ha hb = last 32 10000 a b (omega arith) (omega arith)

steps : (a b c d e f g h : ℕ) → a < 10 → b < 10 → c < 10 → d < 10 → e < 10 → f < 10 → g < 10 → h < 10
    → all_of (fours_of (twos_of (((((((h * 256 + g) * 256 + f) * 256 + e) * 256 + d) * 256 + c) * 256 + b) * 256 + a)))
    ≡ ((((((a * 10 + b) * 10 + c) * 10 + d) * 10 + e) * 10 + f) * 10 + g) * 10 + h
steps a b c d e f g h ha hb hc hd he hf hg hh =
    ap (λ (z : ℕ). all_of (fours_of z)) (twos_are a b c d e f g h ha hb hc hd he hf hg hh)
    ∙ ap all_of (fours_are (a * 10 + b) (c * 10 + d) (e * 10 + f) (g * 10 + h) (omega arith) (omega arith) (omega arith) (omega arith))
    ∙ all_are ((a * 10 + b) * 100 + (c * 10 + d)) ((e * 10 + f) * 100 + (g * 10 + h)) (omega arith) (omega arith)
    ∙ omega arith

digit_below : (s : List ℕ) (i : ℕ) → every is_digit s ≡ true → i < length s → get_or s i 0 - 48 < 10
digit_below s i h l = omega (arith, digit_high (get_or s i 0) (every_at is_digit s i h l))

eight : (a b c d e f g h : ℕ) → let s = a ∷ b ∷ c ∷ d ∷ e ∷ f ∷ g ∷ h ∷ [] in every is_digit s ≡ true → all_of (fours_of (twos_of (packed s))) ≡ value s
unfolding packed value_from
eight a b c d e f g h k =
    let small = digit_below (a ∷ b ∷ c ∷ d ∷ e ∷ f ∷ g ∷ h ∷ []) in
    simp zero-add
    (steps (a - 48) (b - 48) (c - 48) (d - 48) (e - 48) (f - 48) (g - 48) (h - 48)
    (small 0 k (lit< tt)) (small 1 k (lit< tt)) (small 2 k (lit< tt)) (small 3 k (lit< tt)) (small 4 k (lit< tt)) (small 5 k (lit< tt)) (small 6 k (lit< tt)) (small 7 k (lit< tt)))

pairs_are : (a b c d e f g h : ℕ) → a < 10 → b < 10 → c < 10 → d < 10 → e < 10 → f < 10 → g < 10 → h < 10
    → (((g * 10 + h) * 65536 + (e * 10 + f)) * 65536 + (c * 10 + d)) * 65536 + (a * 10 + b)
    ≡ pairs_of (((((((a * 10 + b) * 10 + c) * 10 + d) * 10 + e) * 10 + f) * 10 + g) * 10 + h)
pairs_are a b c d e f g h ha hb hc hd he hf hg hh =
    let n = ((((((a * 10 + b) * 10 + c) * 10 + d) * 10 + e) * 10 + f) * 10 + g) * 10 + h in
    let six = ((((a * 10 + b) * 10 + c) * 10 + d) * 10 + e) * 10 + f in
    let four = ((a * 10 + b) * 10 + c) * 10 + d in
    let to_six : n / 100 ≡ six = omega arith in
    let to_four : n / 10000 ≡ four = omega arith in
    let six_ends : six % 100 ≡ e * 10 + f = omega arith in
    let four_ends : four % 100 ≡ c * 10 + d = omega arith in
    let year : n % 100 ≡ g * 10 + h = omega arith in
    let month : n / 100 % 100 ≡ e * 10 + f = ap (λ (z : ℕ). z % 100) to_six ∙ six_ends in
    let day : n / 10000 % 100 ≡ c * 10 + d = ap (λ (z : ℕ). z % 100) to_four ∙ four_ends in
    let first : n / 1000000 ≡ a * 10 + b = omega arith in
    rw (year, month, day, first)

eight_pairs : (a b c d e f g h : ℕ) → let s = a ∷ b ∷ c ∷ d ∷ e ∷ f ∷ g ∷ h ∷ [] in every is_digit s ≡ true → twos_of (packed s) ≡ pairs_of (value s)
unfolding packed value_from
eight_pairs a b c d e f g h k =
    let small = digit_below (a ∷ b ∷ c ∷ d ∷ e ∷ f ∷ g ∷ h ∷ []) in
    let la = small 0 k (lit< tt) in
    let lb = small 1 k (lit< tt) in
    let lc = small 2 k (lit< tt) in
    let ld = small 3 k (lit< tt) in
    let le = small 4 k (lit< tt) in
    let lf = small 5 k (lit< tt) in
    let lg = small 6 k (lit< tt) in
    let lh = small 7 k (lit< tt) in
    simp zero-add
    (twos_are (a - 48) (b - 48) (c - 48) (d - 48) (e - 48) (f - 48) (g - 48) (h - 48) la lb lc ld le lf lg lh
    ∙ pairs_are (a - 48) (b - 48) (c - 48) (d - 48) (e - 48) (f - 48) (g - 48) (h - 48) la lb lc ld le lf lg lh)

-- the pairs that the code makes of eight bytes
pub word_pairs : (x : ℕ) → every is_digit (bytes_of 8 x) ≡ true → twos_of (bit_and x 0x0F0F0F0F0F0F0F0F) ≡ pairs_of (value (bytes_of 8 x))
unfolding times bytes_of
word_pairs x h = ap twos_of (digits_left 8 x h) ∙ eight_pairs _ _ _ _ _ _ _ _ h

-- the number that the code makes of eight bytes
pub word_value : (x : ℕ) → every is_digit (bytes_of 8 x) ≡ true → all_of (fours_of (twos_of (bit_and x 0x0F0F0F0F0F0F0F0F))) ≡ value (bytes_of 8 x)
unfolding times bytes_of
word_value x h = ap (λ (z : ℕ). all_of (fours_of (twos_of z))) (digits_left 8 x h) ∙ eight _ _ _ _ _ _ _ _ h
