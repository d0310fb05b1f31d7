-- A record that repeats its record 30 is of that type.
-- Assumes nothing.
use Prim.Native.Nat.{ℕ}
use mathlib.Core.Path.{◌≡◌, sym}
use mathlib.Core.List.{List}
use borrow.Author.Tests.{eqb-true}
use Rattle.figures.specs.declared.totals.Totals.{Totals}
use Rattle.layout.specs.Rows.{AllHold}
use Rattle.rules.specs.Codes.{type_code}
use Rattle.rules.specs.Layouts.{repeats}
use Rattle.rules.specs.declared.Assignment.{Assignment}

pub same_type : (f : Totals) (ks r : List ℕ) (a : Assignment) → AllHold f ks r (repeats a r) → a.code ≡ type_code r
unfolding AllHold
same_type f ks r a h = sym (eqb-true (type_code r) a.code h.1.1.0)
