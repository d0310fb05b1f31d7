use Prim.Native.Nat.{ℕ, ◌-◌}
use mathlib.Core.Path.{ap, ap₂, ◌∙◌}
use mathlib.Core.Bool.{◌&&◌}
use native.Mathlib.Omega.{arith}
use mathlib.Core.List.{List}
use lib.ListN.{length, take, drop, length-drop}
use lib.Seq.{take_all}
use Rattle.field_bytes.specs.Bytes.{every, is_zero}
use Rattle.field_words.proofs.WordBytes.{overlap, four_zeros}
use Rattle.field_words.proofs.few_zeros.Goals as goal

pub returns : goal.returns
returns c =
    let s = c.args.s.now in
    ap₂ ◌&&◌ (four_zeros c.half.result _ c.half.ensures.1 c.half.ensures.0) (four_zeros c.half-2.result _ c.half-2.ensures.1 c.half-2.ensures.0)
    ∙ ap (λ (r : List ℕ). every is_zero (take 4 s) && every is_zero r) (take_all (length s - (length s - 4)) (drop (length s - 4) s) (omega (arith, length-drop (length s - 4) s)))
    ∙ overlap is_zero (length s - 4) 4 s (omega (arith, c.requires.0, c.requires.1))
