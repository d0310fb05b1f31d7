-- The library's chunks are the definition's.
-- Assumes nothing.
use Rattle.std.proofs.Common.{◌≡◌, ℕ, zero, suc, ◌∙◌, refl, ap, List, ◌∷◌, take, drop}
use Rattle.std.specs.Simd.{first_chunks}
use Rattle.rules.specs.Run.{chunks}
use Rattle.rules.proofs.records_of.Goals as goal

same : (n : ℕ) (b : List ℕ) → first_chunks 81 n b ≡ chunks n b
unfolding chunks
same zero b = refl
same (suc n) b = ap (λ (x : List (List ℕ)). take 81 b ∷ x) (same n (drop 81 b))

pub returns : goal.returns
returns c =
    let p = c.as_chunks.ensures in
    record { are = p.front ∙ same _ c.args.bytes.now; many = p.front_len }
