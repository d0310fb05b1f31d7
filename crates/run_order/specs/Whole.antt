-- What the code asks on its way to document 01's "What may follow". No promise to a caller rests on this page alone.
-- Assumes nothing.
use Rattle.std.specs.Prelude.{ℕ, Bool, true, false, not, ◌&&◌, ◌||◌, eqb}
use Rattle.services.specs.declared.Service.{Service}
use Rattle.services.specs.declared.Service.TheVariants.{Autogiro, Remittance}

abbrev pub is_remittance : Service → Bool
is_remittance Autogiro = false
is_remittance Remittance = true

-- after a record of this number, with type 4 and type 16 told
abbrev pub whole_behind : ℕ → Bool → Bool → Bool → Bool
whole_behind last remittance four sixteen =
    eqb last 40 || eqb last 41 || eqb last 49 || eqb last 50 || (eqb last 31 && not (remittance && (four || sixteen)))

-- a 49 may follow the record of this number: an address, or another 49
abbrev pub messages_behind : ℕ → Bool
messages_behind last = eqb last 40 || eqb last 41 || eqb last 49
