-- One of two listed texts, told by the number that is written.
-- Assumes nothing.
use Prim.Native.Nat.{ℕ, ◌<◌}
use mathlib.Core.Path.{◌≡◌, refl, ap, sym, ◌∙◌}
use mathlib.Core.List.{List, [], ◌∷◌}
use mathlib.Core.Bool.{Bool, true, false, ◌||◌, or-true}
use native.Mathlib.Omega.{arith}
use borrow.Author.Tests.{eqb-true}
use lib.Dec.{eqb, lit<}
use lib.ListN.{length}
use Rattle.std.specs.Prelude.{if◌then◌else◌, Some}
use Rattle.fields.specs.Bytes.{every, same, text, is_digit}
use Rattle.fields.specs.Numbers.{value, written, code_of}
use Rattle.fields.proofs.Every.{same_self}
use Rattle.fields.proofs.Values.{number_yes}
use Rattle.fields.proofs.Width.{digit_field}
use Rattle.layout.specs.Rules.{one_of}
use Rattle.layout.proofs.Laws.{two_listed}

-- a code of two digits has one form
of_code : (s t : List ℕ) (n : ℕ) → length s ≡ 2 → n < 100 → written 2 n ≡ t → code_of s ≡ n → same s t ≡ true
unfolding code_of
of_code s t n l h w e = go (every is_digit s) refl e
  where
    go : (b : Bool) → every is_digit s ≡ b → (if b then value s else 100) ≡ n → same s t ≡ true
    go true d e = ap (λ (x : List ℕ). same x t) (sym ((digit_field 2).writes_back s n l (number_yes s d ∙ ap Some e)) ∙ w) ∙ same_self t
    go false d e = absurd (omega arith)

-- a code that is 16 or 17 is one of the two texts
pub code_listed : (s : List ℕ) (n : ℕ) → length s ≡ 2 → n ≡ code_of s → eqb n 16 || eqb n 17 ≡ true → one_of ("16" ∷ "17" ∷ []) s ≡ true
unfolding written
code_listed s n l e h = two_listed "16" "17" s ∙ go (eqb n 16) refl h
  where
    go : (b : Bool) → eqb n 16 ≡ b → b || eqb n 17 ≡ true → same s (text "16") || same s (text "17") ≡ true
    go true d h = ap (λ (b : Bool). b || same s (text "17")) (of_code s (text "16") 16 l (lit< tt) refl (sym e ∙ eqb-true n 16 d))
    go false d h =
        ap (λ (b : Bool). same s (text "16") || b) (of_code s (text "17") 17 l (lit< tt) refl (sym e ∙ eqb-true n 17 h))
        ∙ or-true (same s (text "16"))
