-- Every value that is shown for a field refused with 7 passes the rule that refused it.
-- Assumes nothing.
use Prim.Native.Nat.{ℕ, ◌+◌, ◌-◌}
use mathlib.Core.Logic.{◌⊎◌, ⊎_elim}
use mathlib.Core.Path.{◌≡◌, refl, sym, subst}
use mathlib.Core.List.{List, [], ◌∷◌, ◌++◌}
use mathlib.Core.Bool.{Bool, true, ◌&&◌}
use lib.Dec.{eqb}
use Rattle.std.specs.Prelude.{if◌then◌else◌}
use Rattle.dates.specs.declared.Window.{Window}
use Rattle.fields.specs.Bytes.{text, every, same}
use Rattle.fields.specs.Numbers.{value_from, written, code_of}
use Rattle.fields.proofs.Tests.{and_both}
use Rattle.layout.specs.Findings.{number_of}
use Rattle.layout.specs.Rows.{Row, at, must, file, member}
use Rattle.layout.specs.Rules.{one_of}
use Rattle.rules.specs.Codes.{service_code}
use Rattle.rules.specs.Fields.{message_of}
use Rattle.rules.specs.Layouts.{table_for, repeats, notification49, message49}
use Rattle.rules.specs.Payments.{is_type, type_listed, is_line, is_column}
use Rattle.rules.specs.declared.Assignment.{Assignment}
use Rattle.rules.specs.declared.Kind.{Kind}
use Rattle.rules.specs.declared.Kind.TheVariants.{R10, R20, R30, R31, R40, R41, R49, R50, R88, R89, Other}
use Rattle.tool_fixed.specs.Fixed.{message_fields, fixed_for}
use Rattle.tool_fixed.specs.declared.Choice.{Choice}
use Rattle.tool_fixed.specs.declared.Choice.TheVariants.{Services, ClaimTypes, RemittanceTypes, SpecificationTypes, Lines, Columns}
use Rattle.tool_fixed.specs.declared.Remedy.{Remedy}
use Rattle.tool_fixed.specs.declared.Remedy.TheVariants.{Unknown, Value, Start, Zeros, OneOf, AboveZero, NoneLeft, Digit, NoDigit}

-- these numbers, in so many digits each
abbrev numbered : ℕ → List ℕ → List (List ℕ)
numbered w [] = []
numbered w (n ∷ ns) = written w n ∷ numbered w ns

-- the texts that are shown, for a field of this width
abbrev chosen : Choice → List (List ℕ)
chosen Services = numbered 2 (1 ∷ 4 ∷ [])
chosen ClaimTypes = numbered 2 (2 ∷ 3 ∷ [])
chosen RemittanceTypes = numbered 2 (1 ∷ 2 ∷ 3 ∷ 4 ∷ 12 ∷ 16 ∷ 18 ∷ 32 ∷ 37 ∷ 62 ∷ 65 ∷ 66 ∷ [])
chosen SpecificationTypes = numbered 2 (16 ∷ 17 ∷ [])
chosen Lines = numbered 3 (0 ∷ 1 ∷ 2 ∷ 3 ∷ 4 ∷ 5 ∷ 6 ∷ 7 ∷ 8 ∷ 9 ∷ 10 ∷ 11 ∷ 12 ∷ 13 ∷ 14 ∷ 15 ∷ 16 ∷ 17 ∷ 18 ∷ 19 ∷ 20 ∷ 21 ∷ [])
chosen Columns = numbered 1 (0 ∷ 1 ∷ 2 ∷ [])

abbrev pub texts : ℕ → Remedy → List (List ℕ)
texts width Unknown = []
texts width (Value n w) = written w n ∷ []
texts width Start = text "NY" ∷ []
texts width Zeros = written width 0 ∷ []
texts width (OneOf x) = chosen x
texts width AboveZero = []
texts width NoneLeft = []
texts width (Digit d) = []
texts width NoDigit = []

abbrev all_pass : (List ℕ → Bool) → List (List ℕ) → Bool
all_pass test [] = true
all_pass test (s ∷ ss) = test s && all_pass test ss

-- of the rows that find a field not fixed; `s` is the record's own service
abbrev pub shown_passes : Kind → ℕ → Row → Bool
shown_passes k s (at field from to x) = if eqb (number_of x.reason) 7 then all_pass x.test (texts (to + 1 - from) (fixed_for k field s)) else true
shown_passes k s (must t n field) = true
shown_passes k s (file t n field) = true

unfoldable pub all_shown_pass : Kind → ℕ → List Row → Bool
all_shown_pass k s [] = true
all_shown_pass k s (row ∷ rows) = shown_passes k s row && all_shown_pass k s rows

-- the types of a record 30 are those of its service
types_pass : (s : ℕ) → (s ≡ 1) ⊎ (s ≡ 4) → all_pass (type_listed s).test (texts 2 (fixed_for R30 3 s)) ≡ true
unfolding fixed_for written is_type member every value_from code_of
types_pass s h =
    ⊎_elim
    (λ (e : s ≡ 1). subst (λ (x : ℕ). all_pass (type_listed x).test (texts 2 (fixed_for R30 3 x)) ≡ true) (sym e) refl)
    (λ (e : s ≡ 4). subst (λ (x : ℕ). all_pass (type_listed x).test (texts 2 (fixed_for R30 3 x)) ≡ true) (sym e) refl)
    h

-- and so is the layout of a 49
abbrev message_passes : ℕ → Assignment → List ℕ → Bool
message_passes s a r = all_shown_pass R49 s (repeats a r ++ notification49 s ++ message49 (message_of s) a.places r)

message_passes_lem : (s : ℕ) (a : Assignment) (r : List ℕ) → (s ≡ 1) ⊎ (s ≡ 4) → message_passes s a r ≡ true
unfolding all_shown_pass fixed_for message_fields notification49 message_of written one_of is_line is_column every same value_from
message_passes_lem s a r h =
    ⊎_elim
    (λ (e : s ≡ 1). subst (λ (x : ℕ). message_passes x a r ≡ true) (sym e) refl)
    (λ (e : s ≡ 4). subst (λ (x : ℕ). message_passes x a r ≡ true) (sym e) refl)
    h

pub shown_passes_lem : (k : Kind) (w : Window) (a : Assignment) (r : List ℕ) → (service_code r ≡ 1) ⊎ (service_code r ≡ 4) → all_shown_pass k (service_code r) (table_for k w a r) ≡ true
unfolding all_shown_pass fixed_for written one_of is_line is_column every same value_from
shown_passes_lem R10 w a r h = refl
shown_passes_lem R20 w a r h = refl
shown_passes_lem R30 w a r h = and_both _ true (types_pass (service_code r) h) refl
shown_passes_lem R31 w a r h = refl
shown_passes_lem R40 w a r h = refl
shown_passes_lem R41 w a r h = refl
shown_passes_lem R49 w a r h = message_passes_lem (service_code r) a r h
shown_passes_lem R50 w a r h = refl
shown_passes_lem R88 w a r h = refl
shown_passes_lem R89 w a r h = refl
shown_passes_lem Other w a r h = refl
