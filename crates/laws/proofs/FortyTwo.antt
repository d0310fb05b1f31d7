-- There are 42 places: the mask of a message whose records meet their rules has no more ones, and an unplaced record is counted only where there is one.
-- Assumes nothing.
use mathlib.Core.List.{◌++◌}
use Rattle.figures.specs.Totals.{◌⊕◌}
use Prim.Native.Nat.{ℕ, ◌+◌, ◌-◌, ◌/◌, ◌%◌, ◌^◌, ◌≤◌, ◌<◌}
use mathlib.Core.Logic.{◌⊎◌, inl, inr}
use mathlib.Core.Path.{◌≡◌, refl, sym, ap, ap₂, subst, ◌∙◌}
use mathlib.Core.List.{List, [], ◌∷◌}
use mathlib.Core.Bool.{Bool, true, false}
use native.Mathlib.Nat.{mod-lt, mul-mod_left, le_refl}
use native.Mathlib.Omega.{arith}
use borrow.Author.Tests.{ltb-true}
use lib.Bits.{bit_or, or_mod, or_lt}
use lib.Count.{ones, ones_cat, ones-le}
use lib.Dec.{ltb, lit<}
use lib.Pow.{pow-add, pow-lt, shr_lt, split}
use Rattle.fields.proofs.Tests.{and_left, and_right}
use Rattle.dates.specs.declared.Window.{Window}
use Rattle.figures.specs.declared.totals.Totals.{Totals}
use Rattle.rules.specs.Codes.{kind_of}
use Rattle.rules.specs.Growth.{gain, keys, turn_for, turn}
use Rattle.rules.specs.Messages.{with_place, place_of, is_place, with49, has_place}
use Rattle.rules.specs.declared.Assignment.{Assignment}
use Rattle.rules.specs.declared.Kind.{Kind}
use Rattle.rules.specs.declared.Kind.TheVariants.{R10, R20, R30, R31, R40, R41, R49, R50, R88, R89, Other}
use Rattle.rules.specs.declared.Mode.{Mode}
use Rattle.rules.specs.declared.Places.{Places}
use Rattle.rules.proofs.Mask.{placed_with, unplaced_with}
use Rattle.laws.specs.Meets.{turns, Meets}
use Rattle.laws.specs.Messages.{SomeUnplaced}
use Rattle.laws.proofs.Transactions.{line_in, column_in, bounded}

-- a mask of places of lines 1 to 21 and columns 1 and 2: the first is 3, the last 44
pub record OfPlaces (m : ℕ) : Type 0 where
  pub low : m % 2 ^ 3 ≡ 0
  pub high : m < 2 ^ 45

pub no_place : OfPlaces 0
no_place = record { low = refl; high = lit< tt }

pub most_places : (m : ℕ) → OfPlaces m → ones m ≤ 42
unfolding ones
most_places m f =
    let parts : ones m ≡ ones (m / 2 ^ 3) + ones (m % 2 ^ 3) = sym (ap ones (split m 3)) ∙ ones_cat 3 (m / 2 ^ 3) (m % 2 ^ 3) (mod-lt m (lit< tt)) in
    let above : ones (m / 2 ^ 3) ≤ 42 = ones-le 42 (m / 2 ^ 3) (shr_lt 42 3 f.high) in
    let below : ones (m % 2 ^ 3) ≡ 0 = ap ones f.low in
    omega (arith, parts, above, below)

eight : (p : ℕ) → 3 ≤ p → 2 ^ p % 2 ^ 3 ≡ 0
eight p h =
    let d : p - 3 + 3 ≡ p = omega arith in
    ap (λ (x : ℕ). 2 ^ x % 2 ^ 3) (sym d) ∙ ap (λ (x : ℕ). x % 2 ^ 3) (pow-add 2 (p - 3) 3) ∙ mul-mod_left (2 ^ (p - 3)) (2 ^ 3)

place_more : (m p : ℕ) → OfPlaces m → 3 ≤ p → p ≤ 44 → OfPlaces (with_place m p)
unfolding with_place
place_more m p f l h = record { low = or_mod m (2 ^ p) 3 ∙ ap₂ bit_or f.low (eight p l); high = or_lt 45 m (2 ^ p) f.high (pow-lt {i = p} {j = 45} (omega (arith, h))) }

-- a place of sound line and column
pub placed_more : (ps : Places) (line column : ℕ) → is_place line column ≡ true → line ≤ 21 → column ≤ 2 → OfPlaces ps.mask → OfPlaces (with_place ps.mask (place_of line column))
placed_more ps line column p l c f =
    let one = ltb-true 0 line (and_left (ltb 0 line) (ltb 0 column) p) in
    let two = ltb-true 0 column (and_right (ltb 0 line) (ltb 0 column) p) in
    place_more ps.mask (place_of line column) f (omega (arith, one, two)) (omega (arith, l, c))

one_49 : (ps : Places) (line column : ℕ) → line ≤ 21 → column ≤ 2 → OfPlaces ps.mask → OfPlaces (with49 ps line column).mask
one_49 ps line column l c f = go (is_place line column) refl
  where
    go : (b : Bool) → is_place line column ≡ b → OfPlaces (with49 ps line column).mask
    go true p = subst (λ (x : Places). OfPlaces x.mask) (sym (placed_with ps line column p)) (placed_more ps line column p l c f)
    go false p = subst (λ (x : Places). OfPlaces x.mask) (sym (unplaced_with ps line column p)) f

-- records that meet their rules leave such a mask
pub of_places_lem : (m : Mode) (w : Window) (f : Totals) (ks : List ℕ) (a : Assignment) (rs : List (List ℕ)) → Meets m w f ks a rs → OfPlaces a.places.mask → OfPlaces (turns a rs).places.mask
unfolding Meets turns
of_places_lem m w f ks a [] h o = o
of_places_lem m w f ks a (r ∷ rs) h o = of_places_lem m w (f ⊕ gain r) (ks ++ keys r) (turn r a) rs h.1 (go (kind_of r) refl)
  where
    go : (k : Kind) → kind_of r ≡ k → OfPlaces (turn_for k r a).places.mask
    go R10 e = no_place
    go R20 e = no_place
    go R30 e = no_place
    go R31 e = o
    go R40 e = o
    go R41 e = o
    go R49 e = let b = bounded m w f ks a r e h.0 in one_49 a.places (line_in r) (column_in r) b.0 b.1 o
    go R50 e = o
    go R88 e = o
    go R89 e = o
    go Other e = o

-- an unplaced record is counted only where there is one
pub unplaced_among : (a : Assignment) (rs : List (List ℕ)) → ((turns a rs).places.unplaced ≤ a.places.unplaced) ⊎ SomeUnplaced rs
unfolding turns SomeUnplaced
unplaced_among a [] = inl (le_refl a.places.unplaced)
unplaced_among a (r ∷ rs) = go (unplaced_among (turn r a) rs)
  where
    by_49 : (b : Bool) → has_place r ≡ b → kind_of r ≡ R49 → ((with49 a.places (line_in r) (column_in r)).unplaced ≤ a.places.unplaced) ⊎ ((kind_of r ≡ R49) × (has_place r ≡ false))
    by_49 true p e = inl (subst (λ (x : Places). x.unplaced ≤ a.places.unplaced) (sym (placed_with a.places (line_in r) (column_in r) p)) (le_refl a.places.unplaced))
    by_49 false p e = inr (e, p)

    here : (k : Kind) → kind_of r ≡ k → ((turn_for k r a).places.unplaced ≤ a.places.unplaced) ⊎ ((kind_of r ≡ R49) × (has_place r ≡ false))
    here R10 e = inl (omega arith)
    here R20 e = inl (omega arith)
    here R30 e = inl (omega arith)
    here R31 e = inl (le_refl a.places.unplaced)
    here R40 e = inl (le_refl a.places.unplaced)
    here R41 e = inl (le_refl a.places.unplaced)
    here R49 e = by_49 (has_place r) refl e
    here R50 e = inl (le_refl a.places.unplaced)
    here R88 e = inl (le_refl a.places.unplaced)
    here R89 e = inl (le_refl a.places.unplaced)
    here Other e = inl (le_refl a.places.unplaced)

    join : (turns (turn r a) rs).places.unplaced ≤ (turn r a).places.unplaced → ((turn r a).places.unplaced ≤ a.places.unplaced) ⊎ ((kind_of r ≡ R49) × (has_place r ≡ false))
        → ((turns (turn r a) rs).places.unplaced ≤ a.places.unplaced) ⊎ (((kind_of r ≡ R49) × (has_place r ≡ false)) ⊎ SomeUnplaced rs)
    join l (inl k) = inl (omega (arith, l, k))
    join l (inr u) = inr (inl u)

    go : ((turns (turn r a) rs).places.unplaced ≤ (turn r a).places.unplaced) ⊎ SomeUnplaced rs → ((turns (turn r a) rs).places.unplaced ≤ a.places.unplaced) ⊎ (((kind_of r ≡ R49) × (has_place r ≡ false)) ⊎ SomeUnplaced rs)
    go (inl l) = join l (here (kind_of r) refl)
    go (inr s) = inr (inr s)
