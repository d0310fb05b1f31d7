-- The choices that the code makes by the new record's type are document 01's list by the record before.
-- Assumes nothing.
use Prim.Native.Nat.{ℕ}
use mathlib.Core.Path.{◌≡◌, refl, ap, ◌∙◌}
use mathlib.Core.List.{List, [], ◌∷◌}
use mathlib.Core.Bool.{Bool, true, false, not, ◌&&◌, ◌||◌, beq}
use denote.Enum.Bare.{sameb}
use lib.Dec.{eqb}
use native.Mathlib.Omega.{arith}
use borrow.Author.Tests.{eqb-true}
use Rattle.std.specs.Prelude.{if◌then◌else◌}
use Rattle.layout.specs.Rows.{member}
use Rattle.services.specs.declared.Service.{Service}
use Rattle.services.specs.declared.Service.TheVariants.{Autogiro, Remittance}
use Rattle.rules.specs.Codes.{number_of_kind}
use Rattle.rules.specs.Order.{next, behind, may_follow, is_end}
use Rattle.rules.specs.declared.Assignment.{Assignment}
use Rattle.services.specs.contracts.Service.{the_type as service_type}
use Rattle.rules.specs.contracts.Kind.{the_type as kind_type}
use Rattle.rules.specs.declared.Kind.{Kind}
use Rattle.rules.specs.declared.Kind.TheVariants.{R10, R20, R30, R31, R40, R41, R49, R50, R88, R89, Other}
use Rattle.rules.specs.contracts.Mode.{the_type as mode_type}
use Rattle.rules.specs.declared.Mode.{Mode}
use Rattle.rules.specs.declared.Mode.TheVariants.{File, Draft}
use Rattle.run_order.specs.Whole.{is_remittance, whole_behind, messages_behind}
use Rattle.run_order.proofs.Each.{each_bool, of_bool, each_mode, of_mode, each_service, of_service, each_kind, of_kind, alike}

-- two modes are one, as the code asks it
abbrev same_mode : Mode → Mode → Bool
same_mode = sameb mode_type

-- what the code answers, with the transaction type told as three truth values
abbrev pub choice : Mode → Kind → ℕ → Bool → Bool → Bool → Bool → Bool
choice m R30 last rem three four sixteen = eqb last 20 || whole_behind last rem four sixteen
choice m R31 last rem three four sixteen = eqb last 30
choice m R40 last rem three four sixteen = eqb last 31 && rem && (three || four)
choice m R41 last rem three four sixteen = eqb last 40
choice m R49 last rem three four sixteen = messages_behind last || (eqb last 31 && not rem && three)
choice m R50 last rem three four sixteen = eqb last 50 || (eqb last 31 && rem && sixteen)
choice m R88 last rem three four sixteen = same_mode m File && whole_behind last rem four sixteen
choice m R20 last rem three four sixteen = eqb last 10 || eqb last 88 || (same_mode m Draft && whole_behind last rem four sixteen)
choice m R89 last rem three four sixteen = eqb last 88
choice m R10 last rem three four sixteen = eqb last 0
choice m Other last rem three four sixteen = false

-- the list by the record before, with the transaction type told so too
abbrev text31 : Mode → Service → Bool → Bool → Bool → List ℕ
text31 m Remittance three four sixteen =
    if sixteen then (50 ∷ []) else (if four then (40 ∷ []) else (if three then (40 ∷ next m) else next m))
text31 m Autogiro three four sixteen = if three then (49 ∷ next m) else next m

abbrev listed : Mode → Kind → Service → Bool → Bool → Bool → List ℕ
listed m Other s three four sixteen = 10 ∷ []
listed m R10 s three four sixteen = 20 ∷ []
listed m R20 s three four sixteen = 30 ∷ []
listed m R30 s three four sixteen = 31 ∷ []
listed m R31 s three four sixteen = text31 m s three four sixteen
listed m R50 s three four sixteen = 50 ∷ next m
listed m R40 s three four sixteen = 41 ∷ 49 ∷ next m
listed m R41 s three four sixteen = 49 ∷ next m
listed m R49 s three four sixteen = 49 ∷ next m
listed m R88 s three four sixteen = 20 ∷ 89 ∷ []
listed m R89 s three four sixteen = []

text31_is : (m : Mode) (s : Service) (t : ℕ) → text31 m s (eqb t 3) (eqb t 4) (eqb t 16) ≡ behind m R31 s t
text31_is m Autogiro t = refl
text31_is m Remittance t = refl

listed_is : (m : Mode) (l : Kind) (s : Service) (t : ℕ) → listed m l s (eqb t 3) (eqb t 4) (eqb t 16) ≡ behind m l s t
listed_is m R10 s t = refl
listed_is m R20 s t = refl
listed_is m R30 s t = refl
listed_is m R31 s t = text31_is m s t
listed_is m R40 s t = refl
listed_is m R41 s t = refl
listed_is m R49 s t = refl
listed_is m R50 s t = refl
listed_is m R88 s t = refl
listed_is m R89 s t = refl
listed_is m Other s t = refl

-- a type is at most one of the three
abbrev apart : Bool → Bool → Bool → Bool
apart x y z = not (x && y) && not (x && z) && not (y && z)

types_apart : (t : ℕ) → apart (eqb t 3) (eqb t 4) (eqb t 16) ≡ true
types_apart t = go (eqb t 3) (eqb t 4) (eqb t 16) refl refl refl
  where
    go : (x y z : Bool) → eqb t 3 ≡ x → eqb t 4 ≡ y → eqb t 16 ≡ z → apart x y z ≡ true
    go true true z p q r = absurd (omega (arith, eqb-true t 3 p, eqb-true t 4 q))
    go true false true p q r = absurd (omega (arith, eqb-true t 3 p, eqb-true t 16 r))
    go true false false p q r = refl
    go false true true p q r = absurd (omega (arith, eqb-true t 4 q, eqb-true t 16 r))
    go false true false p q r = refl
    go false false z p q r = refl

-- two record types are one if their numbers are
pub type_is : (l k : Kind) → sameb kind_type l k ≡ eqb (number_of_kind l) (number_of_kind k)
type_is l k = alike _ _ (of_kind (λ k. beq (sameb kind_type l k) (eqb (number_of_kind l) (number_of_kind k))) (of_kind (λ l. each_kind (λ k. beq (sameb kind_type l k) (eqb (number_of_kind l) (number_of_kind k)))) refl l) k)

-- a service is the one or the other
pub remittance_is : (s : Service) → sameb service_type s Remittance ≡ is_remittance s
remittance_is Autogiro = refl
remittance_is Remittance = refl

pub autogiro_is : (s : Service) → sameb service_type s Autogiro ≡ not (is_remittance s)
autogiro_is Autogiro = refl
autogiro_is Remittance = refl

-- one computed test over every case
same : Mode → Kind → Kind → Service → Bool → Bool → Bool → Bool
same m k l s x y z =
    not (apart x y z) || beq (choice m k (number_of_kind l) (is_remittance s) x y z) (member (number_of_kind k) (listed m l s x y z))

abbrev in_types : Mode → Kind → Kind → Service → Bool
in_types m k l s = each_bool (λ x. each_bool (λ y. each_bool (λ z. same m k l s x y z)))

everywhere : each_mode (λ m. each_kind (λ k. each_kind (λ l. each_service (λ s. in_types m k l s)))) ≡ true
unfolding same member
everywhere = refl

of_those : (a b : Bool) → a ≡ true → not a || b ≡ true → b ≡ true
of_those a b h k = rw h at k

pub choice_is : (m : Mode) (a : Assignment) (k : Kind)
    → choice m k (number_of_kind a.last) (is_remittance a.service) (eqb a.code 3) (eqb a.code 4) (eqb a.code 16) ≡ may_follow m a k
unfolding same may_follow
choice_is m a k =
    let t = a.code in
    let l = a.last in
    let s = a.service in
    let x = eqb t 3 in
    let y = eqb t 4 in
    let h1 = of_mode (λ m. each_kind (λ k. each_kind (λ l. each_service (λ s. in_types m k l s)))) everywhere m in
    let h2 = of_kind (λ k. each_kind (λ l. each_service (λ s. in_types m k l s))) h1 k in
    let h3 = of_kind (λ l. each_service (λ s. in_types m k l s)) h2 l in
    let h4 = of_service (λ s. in_types m k l s) h3 s in
    let h5 = of_bool (λ x. each_bool (λ y. each_bool (λ z. same m k l s x y z))) h4 x in
    let h6 = of_bool (λ y. each_bool (λ z. same m k l s x y z)) h5 y in
    let h7 = of_bool (λ z. same m k l s x y z) h6 (eqb t 16) in
    alike _ _ (of_those _ _ (types_apart t) h7) ∙ ap (member (number_of_kind k)) (listed_is m l s t)

-- the record type of a file's end
pub end_is : (k : Kind) → sameb kind_type k R89 ≡ is_end k
end_is k = type_is k R89
