-- Record types and their codes: what holds of each type holds of all, and what a type says of its record's code.
-- Assumes nothing.
use Prim.Native.Nat.{ℕ}
use mathlib.Core.Path.{◌≡◌, refl, sym, ap, ◌∙◌}
use mathlib.Core.List.{List, [], ◌∷◌}
use mathlib.Core.Bool.{Bool, true, false, false≢true}
use borrow.Author.Tests.{eqb-true, eqb-false, eq-eqb, ne_eqb}
use lib.Dec.{eqb, lit<}
use Rattle.fields.specs.Bytes.{every}
use Rattle.fields.proofs.Every.{every_at}
use Rattle.rules.specs.Codes.{record_code, kind_for, kind_of, number_of_kind}
use Rattle.rules.proofs.Codes.{at_codes}
use Rattle.rules.specs.Growth.{turn_for}
use Rattle.rules.specs.declared.Assignment.{Assignment}
use Rattle.rules.specs.declared.Kind.{Kind}
use Rattle.rules.specs.declared.Kind.TheVariants.{R10, R20, R30, R31, R40, R41, R49, R50, R88, R89, Other}
use Rattle.laws.specs.Stripped.{an_end}

-- ---- what holds of each type holds of all
abbrev codes : List ℕ
codes = 10 ∷ 20 ∷ 30 ∷ 31 ∷ 40 ∷ 41 ∷ 49 ∷ 50 ∷ 88 ∷ 89 ∷ 0 ∷ []

abbrev pub each_kind : (Kind → Bool) → Bool
each_kind p = every (λ n. p (kind_for n)) codes

pub of_kind : (p : Kind → Bool) → each_kind p ≡ true → (k : Kind) → p k ≡ true
unfolding kind_for
of_kind p h R10 = every_at (λ n. p (kind_for n)) codes 0 h (lit< tt)
of_kind p h R20 = every_at (λ n. p (kind_for n)) codes 1 h (lit< tt)
of_kind p h R30 = every_at (λ n. p (kind_for n)) codes 2 h (lit< tt)
of_kind p h R31 = every_at (λ n. p (kind_for n)) codes 3 h (lit< tt)
of_kind p h R40 = every_at (λ n. p (kind_for n)) codes 4 h (lit< tt)
of_kind p h R41 = every_at (λ n. p (kind_for n)) codes 5 h (lit< tt)
of_kind p h R49 = every_at (λ n. p (kind_for n)) codes 6 h (lit< tt)
of_kind p h R50 = every_at (λ n. p (kind_for n)) codes 7 h (lit< tt)
of_kind p h R88 = every_at (λ n. p (kind_for n)) codes 8 h (lit< tt)
of_kind p h R89 = every_at (λ n. p (kind_for n)) codes 9 h (lit< tt)
of_kind p h Other = every_at (λ n. p (kind_for n)) codes 10 h (lit< tt)

-- ---- a type by its number, and a number by its type
again : (k : Kind) → kind_for (number_of_kind k) ≡ k
unfolding kind_for
again R10 = refl
again R20 = refl
again R30 = refl
again R31 = refl
again R40 = refl
again R41 = refl
again R49 = refl
again R50 = refl
again R88 = refl
again R89 = refl
again Other = refl

pub type_by : (k : Kind) (n : ℕ) → eqb (number_of_kind k) n ≡ true → k ≡ kind_for n
type_by k n e = sym (again k) ∙ ap kind_for (eqb-true (number_of_kind k) n e)

pub type_of : (n c : ℕ) → eqb n c ≡ true → kind_for n ≡ kind_for c
type_of n c e = ap kind_for (eqb-true n c e)

-- a code that is none of the ten has no type, so a type tells its code
Told : ℕ → Type 0
Told n = (kind_for n ≡ Other → ⊥) → n ≡ number_of_kind (kind_for n)

told : (n : ℕ) → Told n
unfolding kind_for Told
told n =
    at_codes Told n (λ x. refl) (λ x. refl) (λ x. refl) (λ x. refl) (λ x. refl) (λ x. refl) (λ x. refl) (λ x. refl) (λ x. refl) (λ x. refl)
    (λ a b c d e f g h i j x. absurd (x (simp (a, b, c, d, e, f, g, h, i, j))))

pub code_is : (r : List ℕ) (k : Kind) → kind_of r ≡ k → (k ≡ Other → ⊥) → record_code r ≡ number_of_kind k
unfolding Told
code_is r k e o = told (record_code r) (λ x. o (sym e ∙ x)) ∙ ap number_of_kind e

-- a record's type has a number exactly where its code is that number
pub type_test : (r : List ℕ) (k : Kind) → (k ≡ Other → ⊥) → eqb (number_of_kind (kind_of r)) (number_of_kind k) ≡ eqb (record_code r) (number_of_kind k)
type_test r k o = go (eqb (record_code r) (number_of_kind k)) refl
  where
    go : (b : Bool) → eqb (record_code r) (number_of_kind k) ≡ b → eqb (number_of_kind (kind_of r)) (number_of_kind k) ≡ b
    go true e = eq-eqb _ _ (ap number_of_kind (type_of (record_code r) (number_of_kind k) e ∙ again k))
    go false e = ne_eqb _ _ (λ h. eqb-false _ _ e (code_is r k (sym (again (kind_of r)) ∙ ap kind_for h ∙ again k) o))

-- an end's code
pub no_other : (k : Kind) → an_end (number_of_kind k) ≡ true → k ≡ Other → ⊥
no_other k h e = false≢true (sym (ap (λ (x : Kind). an_end (number_of_kind x)) e) ∙ h)

pub end_is : (r : List ℕ) (k : Kind) → kind_of r ≡ k → an_end (number_of_kind k) ≡ true → an_end (record_code r) ≡ true
end_is r k e h = ap an_end (code_is r k e (no_other k h)) ∙ h

-- the type of the last record, behind a record of a known type
pub last_is : (k : Kind) (r : List ℕ) (a : Assignment) → (k ≡ Other → ⊥) → (turn_for k r a).last ≡ k
last_is R10 r a o = refl
last_is R20 r a o = refl
last_is R30 r a o = refl
last_is R31 r a o = refl
last_is R40 r a o = refl
last_is R41 r a o = refl
last_is R49 r a o = refl
last_is R50 r a o = refl
last_is R88 r a o = refl
last_is R89 r a o = refl
last_is Other r a o = absurd (o refl)
