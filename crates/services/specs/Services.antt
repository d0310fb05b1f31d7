-- Document 01, "What the program handles": the two services, and their codes in field 2.
-- Assumes nothing.
use Rattle.std.specs.Prelude.{ℕ, eqb, if◌then◌else◌}
use Rattle.services.specs.declared.Service.{Service}
use Rattle.services.specs.declared.Service.TheVariants.{Autogiro, Remittance}

abbrev pub code_for : Service → ℕ
code_for Autogiro = 1
code_for Remittance = 4

-- a code that is one of the two
abbrev pub service_for : ℕ → Service
service_for n = if eqb n 1 then Autogiro else Remittance
