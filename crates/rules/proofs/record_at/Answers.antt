-- The bytes from a record's start on begin with the record.
-- Assumes nothing.
use Rattle.std.proofs.Common.{◌≡◌, ℕ, ◌<◌, ◌-◌, ◌*◌, ◌∙◌, ap, List, length, take, drop, subst, Bor, arith}
use Rattle.std.proofs.lemmas.List.{take_all, length-drop}
use Rattle.std.specs.Prelude.{Option, Some, MatchOption}
use Rattle.std.specs.Array.{IsFirstChunk}
use Rattle.rules.proofs.record_at.Goals as goal

first : (s : List ℕ) (x : Option (Bor (List ℕ))) (y : Bor (List ℕ)) → x ≡ Some y → MatchOption x (length s < 81) (λ z. IsFirstChunk s z.now 81) → y.now ≡ take 81 s
first s x y e m = (subst (λ z. MatchOption z (length s < 81) (λ v. IsFirstChunk s v.now 81)) e m).same

pub returns : goal.returns
returns c =
    let b = c.args.bytes.now in
    let at = 81 * c.args.k in
    first (take (length b - at) (drop at b)) c.first_chunk.result c.unwrap.result c.unwrap.ensures c.first_chunk.ensures.cases
    ∙ ap (take 81) (take_all (length b - at) (drop at b) (omega (arith, length-drop at b)))
