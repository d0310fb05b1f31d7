-- Document 02, No. 1: the own rules of the records that are made, in the pieces that the code looks at.
-- Assumes nothing.
use Rattle.std.specs.Prelude.{ℕ, List, [], ◌∷◌, ◌++◌}
use Rattle.layout.specs.Rules.{digits, zeros, fixed, listed}
use Rattle.layout.specs.Rows.{Row, at}
use Rattle.rules.specs.Codes.{type_code}
use Rattle.rules.specs.Fields.{on, agreement_field, assignment_field, transaction_field, date_field, amount_field, specified_field}
use Rattle.rules.specs.Layouts.{a_service, a_type}
use Rattle.rules.specs.Payments.{a_date, amount_allowed}

-- fields 1 and 2 of 30 to 50
abbrev pub serviced : List Row
serviced = at 1 1 2 (fixed "NY") ∷ a_service ∷ []

-- field 5 of 30 to 50
abbrev pub numbered : List Row
numbered = on transaction_field digits ∷ []

-- fields 1 to 5 of 30, 31, 40, 41 and 49
abbrev pub headed : List ℕ → List Row
headed r = serviced ++ (a_type r ∷ []) ++ numbered

-- fields 1 to 5 of 50
abbrev pub headed50 : List Row
headed50 = serviced ++ (at 3 5 6 (listed ("16" ∷ "17" ∷ [])) ∷ []) ++ numbered

-- fields 5 and 6 of 20
abbrev pub keyed : List Row
keyed = on agreement_field digits ∷ on assignment_field digits ∷ []

-- fields 6 and 8 of 30
abbrev pub dated : List Row
dated = on date_field digits ∷ on date_field a_date ∷ []

abbrev pub priced : List ℕ → List Row
priced r = on amount_field digits ∷ on amount_field (amount_allowed (type_code r)) ∷ []

-- fields 7 and 8 of 50
abbrev pub specified : List Row
specified = on specified_field digits ∷ at 8 58 80 zeros ∷ []
