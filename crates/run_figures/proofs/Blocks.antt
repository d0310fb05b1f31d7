-- The figures of each assignment: the whole from one record to the next.
-- Assumes nothing.
use Prim.Native.Nat.{ℕ}
use mathlib.Core.Path.{◌≡◌, refl, sym, ap, ◌∙◌}
use mathlib.Core.List.{List, [], ◌∷◌, ◌++◌, append_assoc}
use Rattle.figures.specs.declared.totals.AssignmentTotals.{AssignmentTotals}
use Rattle.rules.specs.Codes.{kind_of}
use Rattle.rules.specs.Growth.{turn_for, turn}
use Rattle.rules.specs.declared.Assignment.{Assignment}
use Rattle.rules.specs.declared.Kind.{Kind}
use Rattle.rules.specs.declared.Kind.TheVariants.{R10, R20, R30, R31, R40, R41, R49, R50, R88, R89, Other}
use Rattle.run_figures.specs.Slots.{slots, all_slots}
use Rattle.run_figures.specs.Blocks.{done_for, done, blocks, figures_from}
use Rattle.run_figures.proofs.Slots.{slots_join, one_slots}

-- only a record 20 ends what stood before it
pub not_done : (k : Kind) (t : AssignmentTotals) → (k ≡ R20 → ⊥) → done_for k t ≡ []
not_done R10 t h = refl
not_done R20 t h = absurd (h refl)
not_done R30 t h = refl
not_done R31 t h = refl
not_done R40 t h = refl
not_done R41 t h = refl
not_done R49 t h = refl
not_done R50 t h = refl
not_done R88 t h = refl
not_done R89 t h = refl
not_done Other t h = refl

-- from one record to the next, and where none is left
pub figures_next : (p : List ℕ) (a : Assignment) (r : List ℕ) (rs : List (List ℕ)) → p ++ all_slots (blocks a (r ∷ rs)) ≡ (p ++ all_slots (done r a.totals)) ++ all_slots (blocks (turn r a) rs)
unfolding blocks
figures_next p a r rs =
    ap (λ (l : List ℕ). p ++ l) (slots_join (done r a.totals) (blocks (turn r a) rs)) ∙ sym (append_assoc p (all_slots (done r a.totals)) (all_slots (blocks (turn r a) rs)))

pub figures_last : (a : Assignment) → all_slots (blocks a []) ≡ slots a.totals
unfolding blocks
figures_last a = one_slots a.totals

-- a record that opens nothing, one that does, and none
pub blocks_on : (a : Assignment) (r : List ℕ) (rs : List (List ℕ)) → (kind_of r ≡ R20 → ⊥) → blocks a (r ∷ rs) ≡ blocks (turn r a) rs
unfolding blocks
blocks_on a r rs h = ap (λ (l : List AssignmentTotals). l ++ blocks (turn r a) rs) (not_done (kind_of r) a.totals h)

pub blocks_open : (a : Assignment) (r : List ℕ) (rs : List (List ℕ)) → kind_of r ≡ R20 → blocks a (r ∷ rs) ≡ a.totals ∷ figures_from (r ∷ rs)
unfolding blocks figures_from
blocks_open a r rs h = ap (λ (k : Kind). done_for k a.totals ++ blocks (turn_for k r a) rs) h

pub blocks_none : (a : Assignment) → blocks a [] ≡ a.totals ∷ figures_from []
unfolding blocks figures_from
blocks_none a = refl
