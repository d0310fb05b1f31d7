-- The positions that the tool shows are those of the rules: each rule on a field's bytes looks at the positions that the field has here.
-- Assumes nothing.
use Prim.Native.Nat.{ℕ}
use mathlib.Core.Path.{◌≡◌, refl}
use mathlib.Core.List.{List, [], ◌∷◌, ◌++◌}
use mathlib.Core.Bool.{Bool, true, false, ◌&&◌}
use lib.Dec.{eqb}
use Rattle.dates.specs.declared.Window.{Window}
use Rattle.std.specs.Prelude.{if◌then◌else◌}
use Rattle.layout.specs.Rows.{Row, at, must, file}
use Rattle.rules.specs.Codes.{service_code}
use Rattle.rules.specs.Layouts.{table_for, repeats, notification49, message49, notification_by}
use Rattle.rules.specs.Fields.{message_of, message_by}
use Rattle.rules.specs.declared.Kind.{Kind}
use Rattle.rules.specs.declared.Kind.TheVariants.{R10, R20, R30, R31, R40, R41, R49, R50, R88, R89, Other}
use Rattle.rules.specs.declared.Assignment.{Assignment}
use Rattle.std.specs.Prelude.{Option, Some, None}
use Rattle.tool_positions.specs.declared.Positions.{Positions}
use Rattle.tool_positions.specs.Positions.{message_ends, ends_of, positions_in}

-- exactly these positions
abbrev pub are : ℕ → ℕ → Option Positions → Bool
are from to None = false
are from to (Some p) = eqb from p.from && eqb to p.to

-- among fields that end at these positions
abbrev pub stands : List ℕ → Row → Bool
stands ends (at field from to x) = are from to (positions_in ends field)
stands ends (must t n field) = true
stands ends (file t n field) = true

unfoldable pub all_in : List ℕ → List Row → Bool
all_in ends [] = true
all_in ends (row ∷ rows) = stands ends row && all_in ends rows

-- in a record of this type and service
abbrev pub all_stand : Kind → ℕ → List Row → Bool
all_stand k s rows = all_in (ends_of k s) rows

-- a 49, by whether its service is 04
abbrev message_stands : Bool → Assignment → List ℕ → Bool
message_stands b a r =
    all_in (if b then message_ends 4 else message_ends 1)
    (repeats a r ++ notification_by b ++ message49 (message_by b) a.places r)

message_stands_lem : (b : Bool) (a : Assignment) (r : List ℕ) → message_stands b a r ≡ true
unfolding positions_in message_ends all_in
message_stands_lem true a r = refl
message_stands_lem false a r = refl

pub positions_of_rules : (k : Kind) (w : Window) (a : Assignment) (r : List ℕ) → all_stand k (service_code r) (table_for k w a r) ≡ true
unfolding positions_in message_ends all_in notification49 message_of
positions_of_rules R10 w a r = refl
positions_of_rules R20 w a r = refl
positions_of_rules R30 w a r = refl
positions_of_rules R31 w a r = refl
positions_of_rules R40 w a r = refl
positions_of_rules R41 w a r = refl
positions_of_rules R49 w a r = message_stands_lem (eqb (service_code r) 4) a r
positions_of_rules R50 w a r = refl
positions_of_rules R88 w a r = refl
positions_of_rules R89 w a r = refl
positions_of_rules Other w a r = refl
