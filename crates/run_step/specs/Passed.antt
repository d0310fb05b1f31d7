-- The state after a record that is sound and brings no transaction.
-- Assumes nothing.
use Rattle.figures.specs.Totals.{◌⊕◌, one_record}
use Rattle.figures.specs.declared.groups.Group.{Group}
use Rattle.rules.specs.Growth.{passed}
use Rattle.rules.specs.declared.Kind.{Kind}
use Rattle.rules.specs.declared.Places.{Places}
use Rattle.rules.specs.declared.State.{State}

-- one record more in the file, and the assignment grown by it
abbrev pub passed_on : Kind → Group → Places → State → State
passed_on k g ps st = record { file = st.file ⊕ one_record; assignment = passed k g ps st.assignment }
