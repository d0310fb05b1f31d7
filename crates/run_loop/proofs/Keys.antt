-- A record of one of the ten types has that type's code.
-- Assumes nothing.
use Prim.Native.Nat.{ℕ}
use mathlib.Core.Path.{◌≡◌, refl, sym, ap, ◌∙◌}
use mathlib.Core.Logic.{◌⊎◌, inl, inr, ⊎_elim}
use native.Mathlib.Omega.{arith}
use Rattle.rules.specs.Codes.{kind_for, number_of_kind}
use Rattle.rules.specs.declared.Kind.TheVariants.{R20, Other}
use Rattle.rules.proofs.Codes.{at_codes}

pub Coded : ℕ → Type 0
Coded n = (kind_for n ≡ Other) ⊎ (n ≡ number_of_kind (kind_for n))

pub coded : (n : ℕ) → Coded n
unfolding kind_for Coded
coded n =
    at_codes Coded n (inr refl) (inr refl) (inr refl) (inr refl) (inr refl) (inr refl) (inr refl) (inr refl) (inr refl) (inr refl)
    (λ a b c d e f g h i j. inl (simp (a, b, c, d, e, f, g, h, i, j)))

pub twenty_code : (n : ℕ) → kind_for n ≡ R20 → n ≡ 20
unfolding Coded
twenty_code n e = ⊎_elim (λ (o : kind_for n ≡ Other). absurd (let z : ◌≡◌ {A = ℕ} 0 20 = ap number_of_kind (sym o ∙ e) in omega arith)) (λ (c : n ≡ number_of_kind (kind_for n)). c ∙ ap number_of_kind e) (coded n)
