-- No fault exactly when every row holds; tables in pieces; rows taken one by one, as the code demands them.
-- Assumes nothing.
use Prim.Native.Nat.{ℕ}
use Prim.Native.String.{String}
use mathlib.Core.Path.{◌≡◌, refl, sym, ◌∙◌, ap}
use mathlib.Core.Logic.{◌↔◌}
use mathlib.Core.List.{List, [], ◌∷◌, ◌++◌}
use mathlib.Core.Bool.{Bool, true, false, not, ◌||◌, or-false}
use native.Mathlib.Omega.{arith}
use borrow.Author.Tests.{not-true, not-false}
use Rattle.std.specs.Prelude.{if◌then◌else◌, Option, Some, None, Ok, Err}
use Rattle.fields.specs.Bytes.{every, same, text, is_digit}
use Rattle.fields.specs.Numbers.{number_of, value}
use Rattle.fields.proofs.Values.{number_is, number_not}
use Rattle.figures.specs.declared.totals.Totals.{Totals}
use Rattle.layout.specs.Findings.{or_else, demanded, sound}
use Rattle.layout.specs.Rules.{one_of}
use Rattle.layout.specs.Rows.{Row, passes, first_fault, AllHold, row_reason, row_field}
use Rattle.layout.specs.declared.Reason.{Reason}
use Rattle.layout.specs.Findings.{Finding, fault}

pub fault_not_sound : (n : Reason) (k : ℕ) → Err (fault n k) ≡ sound → ⊥
fault_not_sound n k e = let z : ◌≡◌ {A = ℕ} 0 1 = cc in omega arith

-- a record that ends at a fault is not sound, and brings nothing
pub no_value : {x : Finding} {n : Reason} {k : ℕ} → x ≡ Err (fault n k) → x ≡ sound → ⊥
no_value {n = n} {k = k} e s = fault_not_sound n k (sym e ∙ s)

pub or_else_assoc : (a b c : Finding) → or_else (or_else a b) c ≡ or_else a (or_else b c)
or_else_assoc (Ok u) b c = refl
or_else_assoc (Err e) b c = refl

pub or_else_sound : (a : Finding) → or_else a sound ≡ a
or_else_sound (Ok u) = refl
or_else_sound (Err e) = refl

module _ (f : Totals) (ks : List ℕ) (r : List ℕ) where
  -- a row that holds leaves the rest of the table; one that does not ends it
  pub next : (w : Row) (ws : List Row) → passes f ks r w ≡ true → first_fault f ks r (w ∷ ws) ≡ first_fault f ks r ws
  unfolding first_fault
  next w ws h = ap (λ (b : Bool). if b then first_fault f ks r ws else Err (fault (row_reason w) (row_field w))) h

  pub stop : (w : Row) (ws : List Row) → passes f ks r w ≡ false → first_fault f ks r (w ∷ ws) ≡ Err (fault (row_reason w) (row_field w))
  unfolding first_fault
  stop w ws h = ap (λ (b : Bool). if b then first_fault f ks r ws else Err (fault (row_reason w) (row_field w))) h

  pub ended : first_fault f ks r [] ≡ sound
  unfolding first_fault
  ended = refl

  pub sound_of_all : (ws : List Row) → AllHold f ks r ws → first_fault f ks r ws ≡ sound
  unfolding AllHold
  sound_of_all [] h = ended
  sound_of_all (w ∷ ws) h = next w ws h.0 ∙ sound_of_all ws h.1

  pub all_of_sound : (ws : List Row) → first_fault f ks r ws ≡ sound → AllHold f ks r ws
  unfolding AllHold
  all_of_sound [] h = tt
  all_of_sound (w ∷ ws) h = go (passes f ks r w) refl (λ e. all_of_sound ws e)
    where
      go : (b : Bool) → passes f ks r w ≡ b → (first_fault f ks r ws ≡ sound → AllHold f ks r ws) → (passes f ks r w ≡ true) × AllHold f ks r ws
      go true e ih = (e, ih (sym (next w ws e) ∙ h))
      go false e ih = absurd (fault_not_sound (row_reason w) (row_field w) (sym (stop w ws e) ∙ h))

  -- no fault exactly when every row holds
  pub no_fault_exactly : (ws : List Row) → (first_fault f ks r ws ≡ sound) ↔ AllHold f ks r ws
  no_fault_exactly ws = (all_of_sound ws, sound_of_all ws)

  -- a table in two pieces: the second counts where the first is sound
  pub pieces : (ws vs : List Row) → first_fault f ks r (ws ++ vs) ≡ or_else (first_fault f ks r ws) (first_fault f ks r vs)
  pieces [] vs = ap (λ (x : Finding). or_else x (first_fault f ks r vs)) (sym ended)
  pieces (w ∷ ws) vs = go (passes f ks r w) refl (pieces ws vs)
    where
      go : (b : Bool) → passes f ks r w ≡ b → first_fault f ks r (ws ++ vs) ≡ or_else (first_fault f ks r ws) (first_fault f ks r vs)
          → first_fault f ks r (w ∷ (ws ++ vs)) ≡ or_else (first_fault f ks r (w ∷ ws)) (first_fault f ks r vs)
      go true e ih = next w (ws ++ vs) e ∙ ih ∙ ap (λ (x : Finding). or_else x (first_fault f ks r vs)) (sym (next w ws e))
      go false e ih = stop w (ws ++ vs) e ∙ ap (λ (x : Finding). or_else x (first_fault f ks r vs)) (sym (stop w ws e))

  -- rows demanded one by one, behind what was found before
  abbrev pub in_turn : Finding → List Row → Finding
  in_turn before [] = before
  in_turn before (w ∷ ws) = in_turn (demanded before (passes f ks r w) (row_reason w) (row_field w)) ws

  pub row_by_row : (before : Finding) (ws : List Row) → or_else before (first_fault f ks r ws) ≡ in_turn before ws
  row_by_row before [] = ap (or_else before) ended ∙ or_else_sound before
  row_by_row before (w ∷ ws) =
      ap (or_else before) (one (passes f ks r w) refl)
      ∙ sym (or_else_assoc before (if passes f ks r w then sound else Err (fault (row_reason w) (row_field w))) (first_fault f ks r ws))
      ∙ row_by_row (demanded before (passes f ks r w) (row_reason w) (row_field w)) ws
    where
      one : (b : Bool) → passes f ks r w ≡ b
          → first_fault f ks r (w ∷ ws) ≡ or_else (if passes f ks r w then sound else Err (fault (row_reason w) (row_field w))) (first_fault f ks r ws)
      one true e = next w ws e ∙ ap (λ (x : Bool). or_else (if x then sound else Err (fault (row_reason w) (row_field w))) (first_fault f ks r ws)) (sym e)
      one false e = stop w ws e ∙ ap (λ (x : Bool). or_else (if x then sound else Err (fault (row_reason w) (row_field w))) (first_fault f ks r ws)) (sym e)

  -- a piece, and the rows behind it demanded one by one
  pub rows_behind : (ws vs : List Row) → first_fault f ks r (ws ++ vs) ≡ in_turn (first_fault f ks r ws) vs
  rows_behind ws vs = pieces ws vs ∙ row_by_row (first_fault f ks r ws) vs

  -- the same behind what a first piece was found to be: another piece, or single rows
  pub then_piece : (ws vs : List Row) {x : Finding} → first_fault f ks r ws ≡ x → first_fault f ks r (ws ++ vs) ≡ or_else x (first_fault f ks r vs)
  then_piece ws vs e = pieces ws vs ∙ ap (λ (y : Finding). or_else y (first_fault f ks r vs)) e

  pub then_rows : (ws vs : List Row) {x : Finding} → first_fault f ks r ws ≡ x → first_fault f ks r (ws ++ vs) ≡ in_turn x vs
  then_rows ws vs e = rows_behind ws vs ∙ ap (λ (y : Finding). in_turn y vs) e

  -- a first piece with a fault ends the whole; where it is sound, the whole is what stands behind it
  pub ends_here : (ws vs : List Row) {x : Finding} {n : Reason} {k : ℕ} → x ≡ first_fault f ks r ws → x ≡ Err (fault n k) → x ≡ first_fault f ks r (ws ++ vs)
  ends_here ws vs e h = h ∙ sym (then_piece ws vs (sym e ∙ h))

  pub goes_on : (ws vs : List Row) {x y : Finding} → x ≡ first_fault f ks r ws → x ≡ sound → y ≡ first_fault f ks r vs → y ≡ first_fault f ks r (ws ++ vs)
  goes_on ws vs e h g = g ∙ sym (then_piece ws vs (sym e ∙ h))

  -- no fault where the rows of both pieces hold
  pub both_hold : (ws vs : List Row) → AllHold f ks r ws → AllHold f ks r vs → sound ≡ first_fault f ks r (ws ++ vs)
  both_hold ws vs h g = goes_on ws vs (sym (sound_of_all ws h)) refl (sym (sound_of_all vs g))

  -- the whole table demanded row by row
  pub demands : (ws : List Row) → first_fault f ks r ws ≡ in_turn sound ws
  demands ws = row_by_row sound ws

-- a test that the code made, and what it says of the row's own test
pub test_pass : (b x : Bool) → b ≡ x → not b ≡ false → x ≡ true
test_pass b x e h = sym e ∙ not-false b h

pub test_fail : (b x : Bool) → b ≡ x → not b ≡ true → x ≡ false
test_fail b x e h = sym e ∙ not-true b h

-- one of two listed texts
pub two_listed : (t u : String) (s : List ℕ) → one_of (t ∷ u ∷ []) s ≡ same s (text t) || same s (text u)
unfolding one_of
two_listed t u s = ap (λ (b : Bool). same s (text t) || b) (or-false (same s (text u)))

-- a digit field that the code read
module _ (s : List ℕ) (d : Option ℕ) (e : d ≡ number_of s) where
  pub digits_pass : (n : ℕ) → d ≡ Some n → every is_digit s ≡ true
  digits_pass n h = (number_is s n (sym e ∙ h)).0

  pub digits_fail : d ≡ None → every is_digit s ≡ false
  digits_fail h = number_not s (sym e ∙ h)

  pub value_is : (n : ℕ) → d ≡ Some n → value s ≡ n
  value_is n h = (number_is s n (sym e ∙ h)).1

-- what a row that passes leaves, and what one that fails gives
pub ruleset pass = (next, test_pass, digits_pass)

pub ruleset fail = (stop, test_fail, digits_fail)
