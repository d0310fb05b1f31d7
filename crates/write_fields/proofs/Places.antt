-- Fields put one behind the other, each in its places. The laws of writing over a start are passed on from `field_texts`.
-- Assumes nothing.
use Prim.Native.Nat.{ℕ, ◌+◌, ◌≤◌}
use mathlib.Core.Path.{◌≡◌, refl, ap, ◌∙◌}
use mathlib.Core.List.{List, [], ◌∷◌, ◌++◌, append_assoc}
use lib.ListN.{length, take, drop, length-append}
use Rattle.field_texts.specs.Texts.{to_left, to_right}
use Rattle.field_texts.proofs.Wrote.{Upto, begun, some}
use Rattle.field_texts.proofs.Widths.{left_length, right_length}
use Rattle.fields.specs.Numbers.{written}
use Rattle.fields.proofs.Values.{written_length}
use Rattle.write_fields.specs.Parts.{head_bytes}
pub use Rattle.field_texts.proofs.Wrote.{Wrote, wrote_none, wrote_length, at_first, behind, told, whole, Upto, nothing, begun, some, done}

-- a byte put behind what is written
pub one_byte : (b : ℕ) {at : ℕ} {a d out after : List ℕ} → Upto at a d out → after ≡ take at out ++ ((b ∷ []) ++ drop (at + 1) out) → Upto (at + 1) (a ++ (b ∷ [])) d after
one_byte b h q = some 1 (b ∷ []) h refl q

-- a number or a text in w places
module _ (w : ℕ) where
  pub one_number : (n : ℕ) {at : ℕ} {a d out after : List ℕ} → Upto at a d out → after ≡ take at out ++ (written w n ++ drop (at + w) out) → Upto (at + w) (a ++ written w n) d after
  one_number n h q = some w (written w n) h (written_length w n) q

  -- a number k that a call gave, and that is n
  pub one_number_told : {k n at : ℕ} {a d out after : List ℕ} → k ≡ n → Upto at a d out → after ≡ take at out ++ (written w k ++ drop (at + w) out) → Upto (at + w) (a ++ written w n) d after
  one_number_told {k} {n} {at} {a} {d} {out} e h q = one_number n h (q ∙ ap (λ (x : ℕ). take at out ++ (written w x ++ drop (at + w) out)) e)

  pub one_left : (t : List ℕ) {at : ℕ} {a d out after : List ℕ} → length t ≤ w → Upto at a d out → after ≡ take at out ++ (to_left w t ++ drop (at + w) out) → Upto (at + w) (a ++ to_left w t) d after
  one_left t l h q = some w (to_left w t) h (left_length w t l) q

  pub one_right : (t : List ℕ) {at : ℕ} {a d out after : List ℕ} → length t ≤ w → Upto at a d out → after ≡ take at out ++ (to_right w t ++ drop (at + w) out) → Upto (at + w) (a ++ to_right w t) d after
  one_right t l h q = some w (to_right w t) h (right_length w t l) q

pub head_is : (service code kind : ℕ) → ((((([] ++ (78 ∷ [])) ++ (89 ∷ [])) ++ written 2 service) ++ written 2 code) ++ written 2 kind) ≡ head_bytes service code kind
unfolding head_bytes
head_is service code kind = simp append_assoc

pub head_length : (service code kind : ℕ) → length (head_bytes service code kind) ≡ 8
unfolding head_bytes
head_length service code kind = simp (length-append, written_length)

-- a record that starts with its fields 1 to 4
pub headed : (service code kind : ℕ) (d : List ℕ) {out : List ℕ} → out ≡ head_bytes service code kind ++ drop 8 d → Upto 8 (head_bytes service code kind) d out
headed service code kind d q = begun (head_bytes service code kind) d (head_length service code kind) q
