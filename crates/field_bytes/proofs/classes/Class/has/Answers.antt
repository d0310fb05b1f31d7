use native.Mathlib.Omega.{arith}
use Rattle.field_bytes.proofs.Computed.{text_by_bits}
use Rattle.field_bytes.proofs.classes.Class.has.Goals as goal

pub returns-in-Text : goal.returns-in-Text
returns-in-Text c = rw c.in-Text.is (text_by_bits c.args.b (omega arith))
