-- The records of the input, one by one: what is left behind k of them, and the 81 bytes of the next.
-- Assumes nothing.
use Prim.Native.Nat.{ℕ, suc, ◌+◌, ◌-◌, ◌*◌, ◌≤◌, ◌<◌}
use mathlib.Core.Path.{◌≡◌, ap, ◌∙◌}
use mathlib.Core.List.{List, [], ◌∷◌}
use native.Mathlib.Omega.{arith}
use lib.ListN.{length, take, drop, length-take, length-drop}
use lib.Seq.{drop-drop}
use Rattle.rules.specs.Run.{chunks, record_at}

-- the records from the k-th on, of n in all
abbrev pub rest : List ℕ → ℕ → ℕ → List (List ℕ)
rest b n k = chunks (n - k) (drop (81 * k) b)

pub rest_next : (b : List ℕ) (n k : ℕ) → k < n → rest b n k ≡ record_at k b ∷ rest b n (k + 1)
unfolding chunks
rest_next b n k h =
    let e : n - k ≡ suc (n - (k + 1)) = omega arith in
    let d : 81 * k + 81 ≡ 81 * (k + 1) = omega arith in
    ap (λ (x : ℕ). chunks x (drop (81 * k) b)) e
    ∙ ap (λ (x : List ℕ). record_at k b ∷ chunks (n - (k + 1)) x) (drop-drop 81 (81 * k) b ∙ ap (λ (x : ℕ). drop x b) d)

pub rest_end : (b : List ℕ) (n k : ℕ) → k ≡ n → rest b n k ≡ []
unfolding chunks
rest_end b n k h = let e : n - k ≡ 0 = omega arith in ap (λ (x : ℕ). chunks x (drop (81 * k) b)) e

pub rest_start : (b : List ℕ) (n : ℕ) → rest b n 0 ≡ chunks n b
rest_start b n = let e : n - 0 ≡ n = omega arith in ap (λ (x : ℕ). chunks x b) e

-- the part of the input that is handed on is the record, and has 81 bytes
pub part_is : (b : List ℕ) (k : ℕ) → take (81 * k + 81 - 81 * k) (drop (81 * k) b) ≡ record_at k b
part_is b k = let e : 81 * k + 81 - 81 * k ≡ 81 = omega arith in ap (λ (x : ℕ). take x (drop (81 * k) b)) e

pub part_long : (b : List ℕ) (k : ℕ) → 81 * k + 81 ≤ length b → length (record_at k b) ≡ 81
part_long b k h = simp (length-take, length-drop) (omega arith)
