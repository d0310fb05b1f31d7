use Prim.Native.Nat.{ℕ}
use Rattle.fields.specs.Numbers.{written}
use Rattle.field_texts.proofs.Wrote.{part_put}
use Rattle.write_fields.proofs.put_digits.Goals as goal

pub returns : goal.returns
returns c = part_put (λ (n : ℕ). written n c.args.n) c.args.out.now _ c.args.at c.args.width c.requires c.put_number.ensures
