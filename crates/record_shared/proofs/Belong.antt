-- Fields 1 and 2 told by one comparison of four bytes.
-- Assumes nothing.
use Prim.Native.Nat.{ℕ}
use mathlib.Core.Path.{◌≡◌, refl, ap, sym, ◌∙◌}
use mathlib.Core.List.{List, [], ◌∷◌}
use mathlib.Core.Bool.{true}
use lib.ListN.{take, drop}
use borrow.Author.Tests.{eq-eqb}
use Rattle.services.specs.declared.Service.{Service}
use Rattle.services.specs.declared.Service.TheVariants.{Autogiro, Remittance}
use Rattle.fields.specs.Bytes.{same, every, text, part}
use Rattle.fields.specs.Numbers.{code_of, value_from}
use Rattle.figures.specs.declared.totals.Totals.{Totals}
use Rattle.layout.specs.Rows.{AllHold}
use Rattle.services.specs.Services.{code_for}
use Rattle.rules.specs.Codes.{service_code}
use Rattle.rules.specs.Layouts.{belongs}
use Rattle.rules.specs.declared.Assignment.{Assignment}
use Rattle.record_shared.specs.Heads.{head_of, Belonging}

-- fields 1 and 2 are the halves of positions 1-4
field1 : (r : List ℕ) → part 1 2 r ≡ take 2 (part 1 4 r)
field1 [] = refl
field1 (a ∷ []) = refl
field1 (a ∷ b ∷ r) = refl

field2 : (r : List ℕ) → part 3 4 r ≡ drop 2 (part 1 4 r)
field2 [] = refl
field2 (a ∷ []) = refl
field2 (a ∷ b ∷ []) = refl
field2 (a ∷ b ∷ c ∷ []) = refl
field2 (a ∷ b ∷ c ∷ d ∷ r) = refl

format : (s : Service) → same (take 2 (head_of s)) (text "NY") ≡ true
unfolding same
format Autogiro = refl
format Remittance = refl

code : (s : Service) → code_of (drop 2 (head_of s)) ≡ code_for s
unfolding code_of every value_from
code Autogiro = refl
code Remittance = refl

pub belonging_by : (s : Service) (r : List ℕ) → part 1 4 r ≡ head_of s → Belonging s r
belonging_by s r h =
    record {
      format = ap (λ (t : List ℕ). same t (text "NY")) (field1 r ∙ ap (take 2) h) ∙ format s;
      service = ap code_of (field2 r ∙ ap (drop 2) h) ∙ code s;
    }

pub belongs_hold : (s : Service) (r : List ℕ) → Belonging s r → (a : Assignment) → a.service ≡ s → (f : Totals) (ks : List ℕ) → AllHold f ks r (belongs a r)
unfolding AllHold
belongs_hold s r h a e f ks = (h.format, (eq-eqb (service_code r) (code_for a.service) (h.service ∙ ap code_for (sym e)), tt))
