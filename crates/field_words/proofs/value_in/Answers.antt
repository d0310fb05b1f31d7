use Prim.Native.Nat.{ℕ}
use mathlib.Core.Path.{ap, ◌∙◌}
use Rattle.field_words.proofs.WordValues.{fours_of, all_of, word_value}
use Rattle.field_words.proofs.value_in.Goals as goal

pub returns : goal.returns
returns c = ap (λ (z : ℕ). all_of (fours_of z)) c.pairs_in-twos.ensures.0 ∙ word_value c.args.x c.requires
