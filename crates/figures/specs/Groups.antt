-- Document 01, "What may follow": a group of records 50. The sub-specifications (type 16) less the credit notes (type 17) give the amount.
-- Assumes nothing.
use Rattle.std.specs.Prelude.{◌+◌, Bool, eqb}
use Rattle.figures.specs.Figures.{amount, plus}
use Rattle.figures.specs.declared.amounts.Amount.{Amount}
use Rattle.figures.specs.declared.groups.Group.{Group}

abbrev pub empty_group : Group
empty_group = record { specified = amount 0; credited = amount 0 }

abbrev pub with_specified : Group → Amount → Group
with_specified g a = record { specified = plus g.specified a; credited = g.credited }

abbrev pub with_credited : Group → Amount → Group
with_credited g a = record { specified = g.specified; credited = plus g.credited a }

-- what is specified less what is credited is the amount
unfoldable pub gives : Group → Amount → Bool
gives g a = eqb g.specified.0 (g.credited.0 + a.0)
