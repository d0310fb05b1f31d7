-- A field's bytes in a number: four, two times four, and with digits 0 before them; parts that share bytes; and zeros.
-- Assumes nothing.
use Prim.Native.Nat.{ℕ, zero, suc, ◌+◌, ◌*◌, ◌/◌, ◌%◌, ◌≤◌, ◌<◌, zero-le}
use mathlib.Core.Path.{◌≡◌, refl, ap, ap₂, sym, ◌∙◌}
use mathlib.Core.List.{List, [], ◌∷◌, ◌++◌}
use mathlib.Core.Bool.{Bool, true, false, ◌&&◌, and_assoc}
use native.Mathlib.Nat.{not-suc-le-zero, le_of_suc-le-suc}
use native.Mathlib.Omega.{arith}
use lib.Dec.{eqb, lit<, lit≤}
use lib.ListN.{length, take, drop}
use lib.Pow.{high, low}
use Rattle.field_bytes.specs.Bytes.{every, is_zero}
use Rattle.field_words.specs.Words.{bytes_of}
use Rattle.field_bytes.proofs.Listed.{one_by_one, listed}
use Rattle.field_words.proofs.WordTests.{times, all_equal}

-- a number by its lowest byte and what is above it
pub lowest : (n x b r : ℕ) → b < 256 → x ≡ r * 256 + b → bytes_of (suc n) x ≡ b ∷ bytes_of n r
unfolding bytes_of
lowest n x b r h e = ap₂ ◌∷◌ (ap (λ (z : ℕ). z % 256) e ∙ low r 8 h) (ap (bytes_of n) (ap (λ (z : ℕ). z / 256) e ∙ high r 8 h))

pub four : (a b c d : ℕ) → a < 256 → b < 256 → c < 256 → d < 256 → bytes_of 4 (a + b * 0x100 + c * 0x10000 + d * 0x1000000) ≡ a ∷ b ∷ c ∷ d ∷ []
unfolding bytes_of
four a b c d ha hb hc hd =
    lowest 3 _ a ((d * 256 + c) * 256 + b) ha (omega arith)
    ∙ ap (λ (r : List ℕ). a ∷ r) (lowest 2 ((d * 256 + c) * 256 + b) b (d * 256 + c) hb refl)
    ∙ ap (λ (r : List ℕ). a ∷ b ∷ r) (lowest 1 (d * 256 + c) c d hc refl)
    ∙ ap (λ (r : List ℕ). a ∷ b ∷ c ∷ r) (lowest 0 d d 0 hd (omega arith))

-- n bytes above four
pub above_four : (n x y : ℕ) → x < 0x100000000 → bytes_of (suc (suc (suc (suc n)))) (x + y * 0x100000000) ≡ bytes_of 4 x ++ bytes_of n y
unfolding bytes_of
above_four n x y h =
    lowest (suc (suc (suc n))) (x + y * 0x100000000) (x % 256) (x / 256 + y * 0x1000000) (omega arith) (omega arith)
    ∙ ap (λ (r : List ℕ). x % 256 ∷ r)
    (lowest (suc (suc n)) (x / 256 + y * 0x1000000) (x / 256 % 256) (x / 256 / 256 + y * 0x10000) (omega arith) (omega arith)
    ∙ ap (λ (r : List ℕ). x / 256 % 256 ∷ r)
    (lowest (suc n) (x / 256 / 256 + y * 0x10000) (x / 256 / 256 % 256) (x / 256 / 256 / 256 + y * 0x100) (omega arith) (omega arith)
    ∙ ap (λ (r : List ℕ). x / 256 / 256 % 256 ∷ r)
    (lowest n (x / 256 / 256 / 256 + y * 0x100) (x / 256 / 256 / 256 % 256) y (omega arith) (omega arith))))

-- the two words out of their halves
module _ (s : List ℕ) (x y : ℕ) (h : x < 0x100000000) (e : bytes_of 4 x ≡ take 4 s) where
  pub word_of_eight : length s ≡ 8 → bytes_of 4 y ≡ take 4 (drop 4 s) → bytes_of 8 (x + y * 0x100000000) ≡ s
  unfolding one_by_one
  word_of_eight l g =
      above_four 4 x y h ∙ ap₂ ◌++◌ e g
      ∙ ap (λ (r : List ℕ). take 4 r ++ take 4 (drop 4 r)) (listed s 8 l) ∙ sym (listed s 8 l)

  pub word_of_six : length s ≡ 6 → bytes_of 4 y ≡ take 4 (drop 2 s) → bytes_of 8 (0x3030 + x * 0x10000 + y / 0x10000 * 0x1000000000000) ≡ 48 ∷ 48 ∷ s
  unfolding one_by_one bytes_of
  word_of_six l g =
      let shifted : y / 0x10000 ≡ y / 256 / 256 = omega arith in
      lowest 7 (0x3030 + x * 0x10000 + y / 0x10000 * 0x1000000000000) 48 (0x30 + x * 0x100 + y / 0x10000 * 0x10000000000) (lit< tt) (omega arith)
      ∙ ap (λ (r : List ℕ). 48 ∷ r)
      (lowest 6 (0x30 + x * 0x100 + y / 0x10000 * 0x10000000000) 48 (x + y / 0x10000 * 0x100000000) (lit< tt) (omega arith)
      ∙ ap (λ (r : List ℕ). 48 ∷ r)
      (above_four 2 x (y / 0x10000) h ∙ ap₂ ◌++◌ e (ap (bytes_of 2) shifted ∙ ap (drop 2) g)
      ∙ ap (λ (r : List ℕ). take 4 r ++ drop 2 (take 4 (drop 2 r))) (listed s 6 l) ∙ sym (listed s 6 l)))

-- the last bytes of a word, after digits 0 in the places of the others
module _ (s : List ℕ) (x : ℕ) (e : bytes_of 8 x ≡ s) where
  pub last_seven : bytes_of 8 (x / 0x100 * 0x100 + 0x30) ≡ 48 ∷ drop 1 s
  unfolding bytes_of
  last_seven = lowest 7 (x / 0x100 * 0x100 + 0x30) 48 (x / 0x100) (lit< tt) refl ∙ ap (λ (r : List ℕ). 48 ∷ drop 1 r) e

  pub last_six : bytes_of 8 (x / 0x10000 * 0x10000 + 0x3030) ≡ 48 ∷ 48 ∷ drop 2 s
  unfolding bytes_of
  last_six =
      let shifted : x / 0x10000 ≡ x / 256 / 256 = omega arith in
      lowest 7 (x / 0x10000 * 0x10000 + 0x3030) 48 (x / 0x10000 * 0x100 + 0x30) (lit< tt) (omega arith)
      ∙ ap (λ (r : List ℕ). 48 ∷ r) (lowest 6 (x / 0x10000 * 0x100 + 0x30) 48 (x / 0x10000) (lit< tt) refl)
      ∙ ap (λ (y : ℕ). 48 ∷ 48 ∷ bytes_of 6 y) shifted
      ∙ ap (λ (r : List ℕ). 48 ∷ 48 ∷ drop 2 r) e

-- every byte, by two parts that meet or share some
pub overlap : (f : ℕ → Bool) (k n : ℕ) (s : List ℕ) → k ≤ n → every f (take n s) && every f (drop k s) ≡ every f s
unfolding every
overlap f zero zero s h = refl
overlap f zero (suc n) [] h = refl
overlap f zero (suc n) (b ∷ s) h = go (f b) (every f (take n s)) (every f s) (overlap f zero n s zero-le)
  where
    go : (t p q : Bool) → p && q ≡ q → (t && p) && (t && q) ≡ t && q
    go true p q e = e
    go false p q e = refl
overlap f (suc k) zero s h = absurd (not-suc-le-zero h)
overlap f (suc k) (suc n) [] h = refl
overlap f (suc k) (suc n) (b ∷ s) h = and_assoc (f b) (every f (take n s)) (every f (drop k s)) ∙ ap (λ (t : Bool). f b && t) (overlap f k n s (le_of_suc-le-suc h))

pub eleven : (f : ℕ → Bool) (s : List ℕ) → length s ≡ 11 → every f (take 8 s) && every f (take 8 (drop 3 s)) ≡ every f s
unfolding one_by_one
eleven f s l =
    ap (λ (r : List ℕ). every f (take 8 s) && every f r) (ap (λ (r : List ℕ). take 8 (drop 3 r)) (listed s 11 l) ∙ ap (drop 3) (sym (listed s 11 l)))
    ∙ overlap f 3 8 s (lit≤ tt)

-- four bytes are zeros where their number is that of four zeros
pub four_zeros : (x : ℕ) (s : List ℕ) → x < 0x100000000 → bytes_of 4 x ≡ s → eqb x 0x30303030 ≡ every is_zero s
unfolding times
four_zeros x s h e = all_equal 48 4 x (lit< tt) h ∙ ap (every is_zero) e
