-- The run accepts exactly where every rule is met and the end may come; and what records add and meet splits over joined lists.
-- Assumes nothing.
use Prim.Native.Nat.{ℕ, ◌+◌}
use mathlib.Core.Path.{◌≡◌, refl, sym, ap, ◌∙◌}
use mathlib.Core.List.{List, [], ◌∷◌, ◌++◌, append-nil, append_assoc}
use mathlib.Core.Bool.{Bool, true, false}
use native.Mathlib.Omega.{arith}
use Rattle.std.specs.Prelude.{if◌then◌else◌, Ok, Err}
use Rattle.dates.specs.declared.Window.{Window}
use Rattle.figures.specs.Totals.{◌⊕◌}
use Rattle.figures.specs.declared.totals.Totals.{Totals}
use Rattle.figures.proofs.Laws.{⊕-assoc, ⊕-none, none-⊕}
use Rattle.layout.specs.Rows.{Row, first_fault, AllHold}
use Rattle.layout.proofs.Laws.{sound_of_all, all_of_sound}
use Rattle.rules.specs.Order.{may_end}
use Rattle.rules.specs.Layouts.{rows}
use Rattle.rules.specs.Growth.{gain, turn, keys, after}
use Rattle.rules.specs.Refusals.{refused}
use Rattle.rules.specs.Run.{stepped, step_of, ended, at_end, on_step, run}
use Rattle.rules.specs.declared.Assignment.{Assignment}
use Rattle.rules.specs.declared.Mode.{Mode}
use Rattle.rules.specs.declared.Refusal.{Refusal}
use Rattle.rules.specs.declared.State.{State}
use Rattle.laws.specs.Meets.{gains, turns, all_keys, Meets, Ends}
use Rattle.layout.specs.Findings.{Finding, fault, sound}
use Rattle.layout.specs.declared.Reason.TheVariants.{EndsEarly, NotAddedUp}

-- ---- what lists of records add, over joined lists
pub gains_join : (xs ys : List (List ℕ)) → gains (xs ++ ys) ≡ gains xs ⊕ gains ys
unfolding gains
gains_join [] ys = sym (none-⊕ (gains ys))
gains_join (x ∷ xs) ys = ap (λ (t : Totals). gain x ⊕ t) (gains_join xs ys) ∙ sym (⊕-assoc (gain x) (gains xs) (gains ys))

pub keys_join : (xs ys : List (List ℕ)) → all_keys (xs ++ ys) ≡ all_keys xs ++ all_keys ys
unfolding all_keys
keys_join [] ys = refl
keys_join (x ∷ xs) ys = ap (λ (t : List ℕ). keys x ++ t) (keys_join xs ys) ∙ sym (append_assoc (keys x) (all_keys xs) (all_keys ys))

pub turns_join : (a : Assignment) (xs ys : List (List ℕ)) → turns a (xs ++ ys) ≡ turns (turns a xs) ys
unfolding turns
turns_join a [] ys = refl
turns_join a (x ∷ xs) ys = turns_join (turn x a) xs ys

refused_not_accepted : (r : Refusal) (t : Totals) → Err r ≡ Ok t → ⊥
refused_not_accepted r t e = let z : ◌≡◌ {A = ℕ} 0 1 = cc in omega arith

-- rows behind others that hold
pub hold_behind : (f : Totals) (ks r : List ℕ) (ws vs : List Row) → AllHold f ks r (ws ++ vs) → AllHold f ks r vs
unfolding AllHold
hold_behind f ks r [] vs h = h
hold_behind f ks r (w ∷ ws) vs h = hold_behind f ks r ws vs h.1

-- a run that accepts
pub record Ran (m : Mode) (w : Window) (f : Totals) (ks : List ℕ) (a : Assignment) (rs : List (List ℕ)) (t : Totals) : Type 0 where
  pub meets : Meets m w f ks a rs
  pub ends : Ends m (turns a rs)
  pub total : t ≡ f ⊕ gains rs

-- the end of a run
end_accepts : (m : Mode) (i : ℕ) (st : State) (t : Totals) → at_end m i st ≡ Ok t → Ends m st.assignment × (t ≡ st.file)
unfolding at_end
end_accepts m i st t e = go (may_end m st.assignment) (ended m st.assignment) refl refl e
  where
    go : (b c : Bool) → may_end m st.assignment ≡ b → ended m st.assignment ≡ c
        → (if b then (if c then Ok st.file else refused NotAddedUp 0 (i + 1) 0) else refused EndsEarly 0 (i + 1) 0) ≡ Ok t → Ends m st.assignment × (t ≡ st.file)
    go true true p q x = (record { may = p; gave = q }, cc)
    go true false p q x = absurd (refused_not_accepted _ t x)
    go false c p q x = absurd (refused_not_accepted _ t x)

pub ends_accept : (m : Mode) (i : ℕ) (st : State) → Ends m st.assignment → at_end m i st ≡ Ok st.file
unfolding at_end
ends_accept m i st e = rw (e.may, e.gave)

-- ---- accepted exactly
module _ (m : Mode) (w : Window) where
  pub met : (i : ℕ) (st : State) (ks : List ℕ) (rs : List (List ℕ)) (t : Totals) → run m w i st ks rs ≡ Ok t → Ran m w st.file ks st.assignment rs t
  unfolding run Meets gains turns
  met i st ks [] t e =
      let d = end_accepts m i st t e in
      record { meets = tt; ends = d.0; total = d.1 ∙ sym (⊕-none st.file) }
  met i st ks (r ∷ rs) t e = go (first_fault st.file ks r (rows m w st.assignment r)) refl (λ x. met (i + 1) (after st r) (ks ++ keys r) rs t x)
    where
      stepped_run : (x : Finding) → first_fault st.file ks r (rows m w st.assignment r) ≡ x → on_step (stepped x (after st r)) i (run m w (i + 1) (after st r) (ks ++ keys r) rs) ≡ Ok t
      stepped_run x q = sym (ap (λ (y : Finding). on_step (stepped y (after st r)) i (run m w (i + 1) (after st r) (ks ++ keys r) rs)) q) ∙ (unfold step_of in e)

      go : (x : Finding) → first_fault st.file ks r (rows m w st.assignment r) ≡ x
          → (run m w (i + 1) (after st r) (ks ++ keys r) rs ≡ Ok t → Ran m w (st.file ⊕ gain r) (ks ++ keys r) (turn r st.assignment) rs t)
          → Ran m w st.file ks st.assignment (r ∷ rs) t
      go (Ok u) q ih =
          let v = ih (stepped_run sound q) in
          record {
            meets = (all_of_sound st.file ks r _ q, v.meets);
            ends = v.ends;
            total = v.total ∙ ⊕-assoc st.file (gain r) (gains rs);
          }
      go (Err e) q ih = absurd (refused_not_accepted _ t (stepped_run (Err e) q))

  pub runs : (i : ℕ) (st : State) (ks : List ℕ) (rs : List (List ℕ)) → Meets m w st.file ks st.assignment rs → Ends m (turns st.assignment rs)
      → run m w i st ks rs ≡ Ok (st.file ⊕ gains rs)
  unfolding run Meets gains turns step_of
  runs i st ks [] h e = ends_accept m i st e ∙ ap Ok (sym (⊕-none st.file))
  runs i st ks (r ∷ rs) h e =
      ap (λ (x : Finding). on_step (stepped x (after st r)) i (run m w (i + 1) (after st r) (ks ++ keys r) rs)) (sound_of_all st.file ks r _ h.0)
      ∙ runs (i + 1) (after st r) (ks ++ keys r) rs h.1 e
      ∙ ap Ok (⊕-assoc st.file (gain r) (gains rs))

  -- ---- over joined lists
  pub meets_join : (f : Totals) (ks : List ℕ) (a : Assignment) (xs ys : List (List ℕ)) → Meets m w f ks a xs → Meets m w (f ⊕ gains xs) (ks ++ all_keys xs) (turns a xs) ys
      → Meets m w f ks a (xs ++ ys)
  unfolding Meets gains all_keys turns
  meets_join f ks a [] ys h g = rw (⊕-none f, append-nil ks) at g
  meets_join f ks a (x ∷ xs) ys h g =
      (h.0, meets_join (f ⊕ gain x) (ks ++ keys x) (turn x a) xs ys h.1 (rw (← ⊕-assoc f (gain x) (gains xs), ← append_assoc ks (keys x) (all_keys xs)) at g))

  pub meets_split : (f : Totals) (ks : List ℕ) (a : Assignment) (xs ys : List (List ℕ)) → Meets m w f ks a (xs ++ ys)
      → Meets m w f ks a xs × Meets m w (f ⊕ gains xs) (ks ++ all_keys xs) (turns a xs) ys
  unfolding Meets gains all_keys turns
  meets_split f ks a [] ys h = (tt, rw (⊕-none f, append-nil ks) h)
  meets_split f ks a (x ∷ xs) ys h =
      let v = meets_split (f ⊕ gain x) (ks ++ keys x) (turn x a) xs ys h.1 in
      ((h.0, v.0), rw (← ⊕-assoc f (gain x) (gains xs), ← append_assoc ks (keys x) (all_keys xs)) v.1)
