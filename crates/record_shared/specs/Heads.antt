-- Document 01, "Layouts": fields 1 and 2 of the records within an assignment.
-- Assumes nothing.
use Rattle.std.specs.Prelude.{ℕ, ◌≡◌, List, true}
use Rattle.services.specs.declared.Service.{Service}
use Rattle.services.specs.declared.Service.TheVariants.{Autogiro, Remittance}
use Rattle.fields.specs.Bytes.{same, text, part}
use Rattle.services.specs.Services.{code_for}
use Rattle.rules.specs.Codes.{service_code}

-- positions 1-4 of a record within an assignment of the service
abbrev pub head_of : Service → List ℕ
head_of Autogiro = text "NY01"
head_of Remittance = text "NY04"

-- what such a record has in fields 1 and 2
pub record Belonging (s : Service) (r : List ℕ) : Type 0 where
  pub format : same (part 1 2 r) (text "NY") ≡ true
  pub service : service_code r ≡ code_for s
