-- What line and column of a 49 find of the message, in three ways: their place is taken, the message is full, or there is room.
-- Assumes nothing.
use Rattle.std.proofs.Common.{Ok, Err}
use Prim.Native.Nat.{ℕ, ◌+◌, ◌≤◌, ◌<◌}
use mathlib.Core.Path.{◌≡◌, refl, ap, ◌∙◌}
use mathlib.Core.List.{List}
use mathlib.Core.Bool.{Bool, true, false, not}
use native.Mathlib.Omega.{arith}
use borrow.Author.Tests.{ltb-true, ltb-false, lt-ltb, le-ltb, le-leb, lt-leb}
use lib.Count.{ones}
use lib.Dec.{leb, ltb}
use Rattle.limits.specs.Limits.{most_in_message}
use Rattle.figures.specs.declared.totals.Totals.{Totals}
use Rattle.layout.specs.Rows.{first_fault}
use Rattle.layout.proofs.Laws.{next, stop, ended}
use Rattle.rules.specs.Layouts.{free49}
use Rattle.rules.specs.Messages.{no_places, clashes, with49, used}
use Rattle.rules.specs.declared.Places.{Places}
use Rattle.rules.proofs.Mask.{one_more, first_free}
use Rattle.layout.specs.Findings.{fault, sound}
use Rattle.layout.specs.declared.Reason.TheVariants.{PlaceTaken, MessageFull}

more_fits : (n m : ℕ) → leb (n + 1) m ≡ ltb n m
more_fits n m = go (ltb n m) refl
  where
    go : (b : Bool) → ltb n m ≡ b → leb (n + 1) m ≡ b
    go true e = le-leb (n + 1) m (omega (arith, ltb-true n m e))
    go false e = lt-leb (n + 1) m (omega (arith, ltb-false n m e))

module _ (ps : Places) (line column : ℕ) (f : Totals) (ks r : List ℕ) where
  pub clash : clashes ps line column ≡ true → first_fault f ks r (free49 ps line column) ≡ Err (fault PlaceTaken 7)
  clash h = stop f ks r _ _ (ap not h)

  -- one more than before, held to the limit
  counted : clashes ps line column ≡ false → (b : Bool) → ltb (used ps) most_in_message ≡ b → leb (used (with49 ps line column)) most_in_message ≡ b
  counted h b e = ap (λ (n : ℕ). leb n most_in_message) (one_more ps line column h) ∙ more_fits (used ps) most_in_message ∙ e

  pub full : clashes ps line column ≡ false → most_in_message ≤ used ps → first_fault f ks r (free49 ps line column) ≡ Err (fault MessageFull 7)
  full h l = next f ks r _ _ (ap not h) ∙ stop f ks r _ _ (counted h false (le-ltb (used ps) most_in_message l))

  pub room : clashes ps line column ≡ false → used ps < most_in_message → first_fault f ks r (free49 ps line column) ≡ sound
  room h l = next f ks r _ _ (ap not h) ∙ next f ks r _ _ (counted h true (lt-ltb (used ps) most_in_message l)) ∙ ended f ks r

-- the first 49 of a transaction finds room
pub first_sound : (line column : ℕ) (f : Totals) (ks r : List ℕ) → first_fault f ks r (free49 no_places line column) ≡ sound
unfolding used ones
first_sound line column f ks r = room no_places line column f ks r (first_free line column) (omega arith)
