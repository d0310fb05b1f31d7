use mathlib.Core.Path.{◌≡◌}
use mathlib.Core.Bool.{◌&&◌}
use lib.ListN.{drop}
use Rattle.field_bytes.specs.Bytes.{every}
use Rattle.field_bytes.specs.Classes.{in_class}
use Rattle.field_bytes.proofs.classes.Class.has_all.Given as goal

abbrev pub invariant-loop-b : goal.invariant-loop-b
invariant-loop-b l = l.ok && every (in_class l.self) (drop l.b-index l.s) ≡ every (in_class l.self) l.s
