-- What a computed test says of every record type, mode, service and truth value holds of each.
-- Assumes nothing.
use mathlib.Core.Path.{◌≡◌, refl}
use mathlib.Core.Bool.{Bool, true, false, ◌&&◌, beq}
use Rattle.fields.proofs.Tests.{and_left, and_right}
use Rattle.services.specs.declared.Service.{Service}
use Rattle.services.specs.declared.Service.TheVariants.{Autogiro, Remittance}
use Rattle.rules.specs.declared.Kind.{Kind}
use Rattle.rules.specs.declared.Kind.TheVariants.{R10, R20, R30, R31, R40, R41, R49, R50, R88, R89, Other}
use Rattle.rules.specs.declared.Mode.{Mode}
use Rattle.rules.specs.declared.Mode.TheVariants.{File, Draft}

abbrev pub each_bool : (Bool → Bool) → Bool
each_bool p = p true && p false

pub of_bool : (p : Bool → Bool) → each_bool p ≡ true → (b : Bool) → p b ≡ true
of_bool p h true = and_left (p true) (p false) h
of_bool p h false = and_right (p true) (p false) h

abbrev pub each_mode : (Mode → Bool) → Bool
each_mode p = p File && p Draft

pub of_mode : (p : Mode → Bool) → each_mode p ≡ true → (m : Mode) → p m ≡ true
of_mode p h File = and_left (p File) (p Draft) h
of_mode p h Draft = and_right (p File) (p Draft) h

abbrev pub each_service : (Service → Bool) → Bool
each_service p = p Autogiro && p Remittance

pub of_service : (p : Service → Bool) → each_service p ≡ true → (s : Service) → p s ≡ true
of_service p h Autogiro = and_left (p Autogiro) (p Remittance) h
of_service p h Remittance = and_right (p Autogiro) (p Remittance) h

abbrev pub each_kind : (Kind → Bool) → Bool
each_kind p = p R10 && (p R20 && (p R30 && (p R31 && (p R40 && (p R41 && (p R49 && (p R50 && (p R88 && (p R89 && p Other)))))))))

pub of_kind : (p : Kind → Bool) → each_kind p ≡ true → (k : Kind) → p k ≡ true
of_kind p h R10 = and_left (p R10) _ h
of_kind p h R20 = and_left (p R20) _ (and_right (p R10) _ h)
of_kind p h R30 = and_left (p R30) _ (and_right (p R20) _ (and_right (p R10) _ h))
of_kind p h R31 = and_left (p R31) _ (and_right (p R30) _ (and_right (p R20) _ (and_right (p R10) _ h)))
of_kind p h R40 = and_left (p R40) _ (and_right (p R31) _ (and_right (p R30) _ (and_right (p R20) _ (and_right (p R10) _ h))))
of_kind p h R41 = and_left (p R41) _ (and_right (p R40) _ (and_right (p R31) _ (and_right (p R30) _ (and_right (p R20) _ (and_right (p R10) _ h)))))
of_kind p h R49 = and_left (p R49) _ (and_right (p R41) _ (and_right (p R40) _ (and_right (p R31) _ (and_right (p R30) _ (and_right (p R20) _ (and_right (p R10) _ h))))))
of_kind p h R50 = and_left (p R50) _ (and_right (p R49) _ (and_right (p R41) _ (and_right (p R40) _ (and_right (p R31) _ (and_right (p R30) _ (and_right (p R20) _ (and_right (p R10) _ h)))))))
of_kind p h R88 = and_left (p R88) _ (and_right (p R50) _ (and_right (p R49) _ (and_right (p R41) _ (and_right (p R40) _ (and_right (p R31) _ (and_right (p R30) _ (and_right (p R20) _ (and_right (p R10) _ h))))))))
of_kind p h R89 = and_left (p R89) _ (and_right (p R88) _ (and_right (p R50) _ (and_right (p R49) _ (and_right (p R41) _ (and_right (p R40) _ (and_right (p R31) _ (and_right (p R30) _ (and_right (p R20) _ (and_right (p R10) _ h)))))))))
of_kind p h Other = and_right (p R89) _ (and_right (p R88) _ (and_right (p R50) _ (and_right (p R49) _ (and_right (p R41) _ (and_right (p R40) _ (and_right (p R31) _ (and_right (p R30) _ (and_right (p R20) _ (and_right (p R10) _ h)))))))))

pub alike : (a b : Bool) → beq a b ≡ true → a ≡ b
alike true true h = refl
alike true false h = cc
alike false true h = h
alike false false h = refl
