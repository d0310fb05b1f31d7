use Prim.Native.Nat.{◌<◌}
use Rattle.field_words.proofs.WordBytes.{four}
use Rattle.field_bytes.proofs.Listed.{one_by_one, listed}
use native.Mathlib.Omega.{arith}
use mathlib.Core.Path.{sym, ◌∙◌}
use Rattle.field_words.proofs.half.Goals as goal

pub returns : goal.returns
unfolding one_by_one
returns c =
    let a = c.from.ensures in
    let b = c.from-2.ensures in
    let d = c.from-3.ensures in
    let e = c.from-4.ensures in
    let la : c.from.result < 256 = omega arith in
    let lb : c.from-2.result < 256 = omega arith in
    let ld : c.from-3.result < 256 = omega arith in
    let le : c.from-4.result < 256 = omega arith in
    (four _ _ _ _ la lb ld le ∙ simp (a, b, d, e) (sym (listed c.args.s.now 4 c.requires)), omega arith)
