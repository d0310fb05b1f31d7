-- Eight bytes as one number, the first byte lowest: what the code computes on its way. No promise to a caller rests on this page.
-- Assumes nothing.
use Rattle.std.specs.Prelude.{ℕ, zero, suc, ◌+◌, ◌*◌, ◌/◌, ◌%◌, List, [], ◌∷◌}
use Rattle.std.specs.Int.Bits.{bit_and}

-- the n lowest bytes of a number
unfoldable pub bytes_of : ℕ → ℕ → List ℕ
bytes_of zero x = []
bytes_of (suc n) x = x % 256 ∷ bytes_of n (x / 256)

-- neighbours of a digit each, as numbers of two digits
abbrev pub twos_of : ℕ → ℕ
twos_of y = bit_and (y * 10 + y / 0x100) 0x00FF00FF00FF00FF

-- the digits of a number two by two, in places of sixteen bits, the first two lowest
abbrev pub pairs_of : ℕ → ℕ
pairs_of n = ((n % 100 * 65536 + n / 100 % 100) * 65536 + n / 10000 % 100) * 65536 + n / 1000000
