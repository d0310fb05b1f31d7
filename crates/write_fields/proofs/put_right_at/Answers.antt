use Prim.Native.Nat.{ℕ}
use Rattle.field_texts.specs.Texts.{to_right}
use Rattle.field_texts.proofs.Wrote.{part_put}
use Rattle.write_fields.proofs.put_right_at.Goals as goal

pub returns : goal.returns
returns c = part_put (λ (n : ℕ). to_right n c.args.text.now) c.args.out.now _ c.args.at c.args.width c.requires.0 c.put_right.ensures
