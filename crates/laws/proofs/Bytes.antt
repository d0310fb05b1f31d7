-- Records and bytes: bytes cut into pieces and laid one behind the other again, both ways, and the records of a file as such pieces.
-- Assumes nothing.
use Prim.Native.Nat.{ℕ, zero, suc, ◌+◌, ◌*◌, ◌/◌, ◌%◌, ◌≤◌, ◌<◌}
use mathlib.Core.Path.{◌≡◌, refl, sym, ap, ap₂, ◌∙◌}
use mathlib.Core.List.{List, [], ◌∷◌, ◌++◌}
use mathlib.Core.Bool.{Bool, true, false, not, ◌||◌}
use native.Mathlib.Omega.{arith}
use borrow.Author.Tests.{eqb-true, eqb-false, eq-eqb, ne_eqb, not-false}
use lib.Dec.{eqb}
use lib.ListN.{length, take, drop, replicate, length-append, length-take, length-drop, take-append-drop}
use lib.Seq.{take_at, drop_at, take-add}
use Rattle.rules.specs.Run.{chunks, records_of, bad_length}
use Rattle.operations.specs.Closing.{bytes_of}
use Rattle.laws.specs.View.{Sized}

-- pieces of these lengths, cut from the start on
unfoldable pub cuts : List ℕ → List ℕ → List (List ℕ)
cuts [] b = []
cuts (n ∷ ns) b = take n b ∷ cuts ns (drop n b)

unfoldable pub widths : List (List ℕ) → List ℕ
widths [] = []
widths (s ∷ ss) = length s ∷ widths ss

unfoldable pub total : List ℕ → ℕ
total [] = 0
total (n ∷ ns) = n + total ns

nothing : (b : List ℕ) → length b ≡ 0 → [] ≡ b
nothing [] e = refl
nothing (x ∷ b) e = absurd (omega arith)

-- cut and laid again, laid and cut again
pub laid_again : (ns b : List ℕ) → length b ≡ total ns → bytes_of (cuts ns b) ≡ b
unfolding bytes_of cuts total
laid_again [] b e = nothing b e
laid_again (n ∷ ns) b e =
    let l : length (drop n b) ≡ total ns = rw length-drop (omega arith) in
    ap (λ (x : List ℕ). take n b ++ x) (laid_again ns (drop n b) l) ∙ take-append-drop n b

pub cut_again : (ss : List (List ℕ)) → cuts (widths ss) (bytes_of ss) ≡ ss
unfolding bytes_of cuts widths
cut_again [] = refl
cut_again (s ∷ ss) = rw (take_at s (bytes_of ss) (length s) refl, drop_at s (bytes_of ss) (length s) refl) (ap (λ (x : List (List ℕ)). s ∷ x) (cut_again ss))

pub laid_length : (ss : List (List ℕ)) → length (bytes_of ss) ≡ total (widths ss)
unfolding bytes_of total widths
laid_length [] = refl
laid_length (s ∷ ss) = length-append s (bytes_of ss) ∙ ap (λ (n : ℕ). length s + n) (laid_length ss)

-- ---- records are pieces of 81 bytes
chunks_are : (n : ℕ) (b : List ℕ) → chunks n b ≡ cuts (replicate n 81) b
unfolding chunks cuts
chunks_are zero b = refl
chunks_are (suc n) b = ap (λ (x : List (List ℕ)). take 81 b ∷ x) (chunks_are n (drop 81 b))

sized_are : (rs : List (List ℕ)) → Sized rs → widths rs ≡ replicate (length rs) 81
unfolding Sized widths
sized_are [] z = refl
sized_are (r ∷ rs) z = ap₂ ◌∷◌ z.0 (sized_are rs z.1)

total_are : (n : ℕ) → total (replicate n 81) ≡ 81 * n
unfolding total
total_are zero = refl
total_are (suc n) = omega (arith, total_are n)

sized_chunks : (n : ℕ) (b : List ℕ) → length b ≡ 81 * n → Sized (chunks n b)
unfolding Sized chunks
sized_chunks zero b e = tt
sized_chunks (suc n) b e = (rw length-take (omega arith), sized_chunks n (drop 81 b) (rw length-drop (omega arith)))

chunks_length : (n : ℕ) (b : List ℕ) → length (chunks n b) ≡ n
unfolding chunks
chunks_length zero b = refl
chunks_length (suc n) b = ap suc (chunks_length n (drop 81 b))

-- the first n of them laid one behind the other again
pub laid : (n : ℕ) (b : List ℕ) → 81 * n ≤ length b → bytes_of (chunks n b) ≡ take (81 * n) b
unfolding bytes_of chunks
laid zero b h = refl
laid (suc n) b h =
    let e : 81 + 81 * n ≡ 81 * suc n = omega arith in
    ap (λ (l : List ℕ). take 81 b ++ l) (laid n (drop 81 b) (rw length-drop (omega arith))) ∙ sym (take-add 81 (81 * n) b) ∙ ap (λ (x : ℕ). take x b) e

pub sized_join : (xs ys : List (List ℕ)) → Sized xs → Sized ys → Sized (xs ++ ys)
unfolding Sized
sized_join [] ys h g = g
sized_join (x ∷ xs) ys h g = (h.0, sized_join xs ys h.1 g)

pub sized_split : (xs ys : List (List ℕ)) → Sized (xs ++ ys) → Sized xs × Sized ys
unfolding Sized
sized_split [] ys h = (tt, h)
sized_split (x ∷ xs) ys h = let v = sized_split xs ys h.1 in ((h.0, v.0), v.1)

-- ---- whole files
pub record_count : (b : List ℕ) → length (records_of b) ≡ length b / 81
record_count b = chunks_length (length b / 81) b

pub bytes_length : (rs : List (List ℕ)) → Sized rs → length (bytes_of rs) ≡ 81 * length rs
bytes_length rs z = laid_length rs ∙ ap total (sized_are rs z) ∙ total_are (length rs)

pub records_again : (rs : List (List ℕ)) → Sized rs → records_of (bytes_of rs) ≡ rs
records_again rs z =
    let e : length (bytes_of rs) / 81 ≡ length rs = omega (arith, bytes_length rs z) in
    ap (λ (n : ℕ). chunks n (bytes_of rs)) e
    ∙ chunks_are (length rs) (bytes_of rs)
    ∙ ap (λ (ns : List ℕ). cuts ns (bytes_of rs)) (sym (sized_are rs z))
    ∙ cut_again rs

-- a length that is a multiple of 81 and not 0
pub record Whole (b : List ℕ) : Type 0 where
  pub some : 0 < length b
  pub exact : length b ≡ 81 * (length b / 81)

pub whole : (b : List ℕ) → bad_length b ≡ false → Whole b
whole b h = go (eqb (length b) 0) (eqb (length b % 81) 0) refl refl h
  where
    go : (x y : Bool) → eqb (length b) 0 ≡ x → eqb (length b % 81) 0 ≡ y → x || not y ≡ false → Whole b
    go true y p q e = absurd (let z : ◌≡◌ {A = ℕ} 0 1 = cc in omega arith)
    go false y p q e =
        let m = eqb-true (length b % 81) 0 (q ∙ not-false y e) in
        let s = eqb-false (length b) 0 p in
        record { some = omega (arith, s); exact = omega (arith, m) }

pub whole_length : (b : List ℕ) → Whole b → bad_length b ≡ false
whole_length b h = rw (ne_eqb (length b) 0 (λ e. omega (arith, e, h.some)), eq-eqb (length b % 81) 0 (omega (arith, h.exact)))

pub bytes_again : (b : List ℕ) → Whole b → bytes_of (records_of b) ≡ b
bytes_again b h =
    ap bytes_of (chunks_are (length b / 81) b)
    ∙ laid_again (replicate (length b / 81) 81) b (h.exact ∙ sym (total_are (length b / 81)))

pub sized_records : (b : List ℕ) → Whole b → Sized (records_of b)
sized_records b h = sized_chunks (length b / 81) b h.exact

pub whole_bytes : (rs : List (List ℕ)) → Sized rs → 0 < length rs → Whole (bytes_of rs)
whole_bytes rs z p = let e = bytes_length rs z in record { some = omega (arith, e, p); exact = omega (arith, e) }
