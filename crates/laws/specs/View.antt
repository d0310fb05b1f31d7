-- Demand 3: an accepted file seen as its record 10, its assignments and the 89 that follows from them.
-- Assumes nothing.
use Rattle.std.specs.Prelude.{ℕ, ◌+◌, ◌≤◌, ◌≡◌, List, [], ◌∷◌, length}
use Rattle.dates.specs.declared.Window.{Window}
use Rattle.figures.specs.Totals.{none, one_record}
use Rattle.layout.specs.Rows.{AllHold}
use Rattle.rules.specs.Codes.{kind_of}
use Rattle.rules.specs.Layouts.{rows}
use Rattle.rules.specs.Growth.{nothing_yet, start}
use Rattle.limits.specs.Limits.{record_bytes, most_records}
use Rattle.rules.specs.declared.Assignment.{Assignment}
use Rattle.rules.specs.declared.Kind.TheVariants.{R10, R88}
use Rattle.rules.specs.declared.Mode.TheVariants.{File}
pub use Rattle.operations.specs.Parting.{figures_of}
unfoldable pub use Rattle.operations.specs.Parting.{made}
use Rattle.laws.specs.Meets.{turns, Meets}

-- every record has 81 bytes
unfoldable pub Sized : List (List ℕ) → Type 0
Sized [] = Unit {0}
Sized (r ∷ rs) = (length r ≡ record_bytes) × Sized rs

-- the assignment at hand after a record 10: none
abbrev pub headed : Assignment
headed = nothing_yet R10

-- a record 10 that meets the rules, and after it a body of whole assignments that meets them
pub record Good (w : Window) (head : List ℕ) (body : List (List ℕ)) : Type 0 where
  pub type : kind_of head ≡ R10
  pub head_holds : AllHold none [] head (rows File w start.assignment head)
  pub meets : Meets File w one_record [] headed body
  pub ended : (turns headed body).last ≡ R88
  pub few : length body + 2 ≤ most_records
  pub head_sized : length head ≡ record_bytes
  pub sized : Sized body
