-- Texts in their fields: how long they are, and how they are put.
-- Assumes nothing.
use Prim.Native.Nat.{ℕ, ◌-◌, ◌≤◌}
use mathlib.Core.Path.{◌≡◌, refl, ap, ap₂, ◌∙◌}
use mathlib.Core.List.{List, ◌++◌}
use native.Mathlib.Omega.{arith}
use borrow.Rule.Slice.PartMut.{put_mid}
use lib.ListN.{length, take, drop, length-append, length-drop, length-replicate}
use lib.Seq.{take_at, length-take-le}
use Rattle.field_texts.specs.Texts.{blanks, to_left, to_right}
use Rattle.field_texts.proofs.Wrote.{tail_part, put_tail}

blanks_length : (n : ℕ) → length (blanks n) ≡ n
blanks_length n = length-replicate {A = ℕ} n 32

module _ (w : ℕ) (t : List ℕ) (h : length t ≤ w) where
  pub left_length : length (to_left w t) ≡ w
  unfolding to_left
  left_length = length-append t (blanks (w - length t)) ∙ omega (arith, blanks_length (w - length t))

  pub right_length : length (to_right w t) ≡ w
  unfolding to_right
  right_length = length-append (blanks (w - length t)) t ∙ omega (arith, blanks_length (w - length t))

-- the text is there, and all behind it was lent and filled
pub left_put : (d t out last : List ℕ) → length t ≤ length d → out ≡ t ++ drop (length t) d
    → last ≡ blanks (length (take (length out - length t) (drop (length t) out)))
    → put_mid (length t) (length out - length t) out last ≡ to_left (length d) t
unfolding to_left
left_put d t out last h p q =
    let all : length out ≡ length d = ap length p ∙ simp (length-append, length-drop) (omega arith) in
    let n : length (take (length out - length t) (drop (length t) out)) ≡ length d - length t =
    ap length (tail_part (length t) out) ∙ length-drop (length t) out ∙ ap (λ (x : ℕ). x - length t) all in
    put_tail (length t) out last ∙ ap₂ ◌++◌ (ap (take (length t)) p ∙ take_at t (drop (length t) d) (length t) refl) (q ∙ ap blanks n)

-- the start is filled, and all behind it was lent and is the text
pub right_put : (d t first last : List ℕ) → length t ≤ length d → first ≡ blanks (length (take (length d - length t) d)) → last ≡ t
    → let start = length d - length t in put_mid start (length (first ++ drop start d) - start) (first ++ drop start d) last ≡ to_right (length d) t
unfolding to_right
right_put d t first last h q r =
    let start = length d - length t in
    let f : first ≡ blanks start = q ∙ ap blanks (length-take-le start d (omega arith)) in
    put_tail start (first ++ drop start d) last
    ∙ ap₂ ◌++◌ (take_at first (drop start d) start (ap length f ∙ blanks_length start) ∙ f) r
