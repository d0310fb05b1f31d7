-- A refusal names the first fault, and a first fault is refused: in the table, then in the run, then at its end.
-- Assumes nothing.
use Prim.Native.Nat.{ℕ, suc, ◌+◌}
use mathlib.Core.Path.{◌≡◌, refl, sym, ap, ap₂, subst, ◌∙◌}
use mathlib.Core.List.{List, [], ◌∷◌, ◌++◌, append-nil, append_assoc}
use mathlib.Core.Bool.{Bool, true, false}
use native.Mathlib.Nat.{add-zero}
use native.Mathlib.Omega.{arith}
use lib.ListN.{length}
use Rattle.std.specs.Prelude.{if◌then◌else◌, Ok, Err}
use Rattle.dates.specs.declared.Window.{Window}
use Rattle.figures.specs.Totals.{◌⊕◌}
use Rattle.figures.specs.declared.totals.Totals.{Totals}
use Rattle.figures.proofs.Laws.{⊕-assoc, ⊕-none}
use Rattle.layout.specs.Findings.{or_else, sound}
use Rattle.layout.specs.Rows.{Row, passes, first_fault, AllHold, row_reason, row_field}
use Rattle.layout.proofs.Laws.{next, stop, ended, all_of_sound, sound_of_all, pieces}
use Rattle.rules.specs.Order.{may_end}
use Rattle.rules.specs.Layouts.{rows}
use Rattle.rules.specs.Growth.{gain, turn, keys, after}
use Rattle.rules.specs.Run as R
use Rattle.rules.specs.Refusals.{refused}
use Rattle.rules.specs.Run.{stepped, step_of, at_end, on_step, run}
use Rattle.rules.specs.declared.Assignment.{Assignment}
use Rattle.rules.specs.declared.Mode.{Mode}
use Rattle.rules.specs.declared.Refusal.{Refusal}
use Rattle.rules.specs.declared.State.{State}
use Rattle.laws.specs.Meets.{gains, turns, all_keys, Meets, Broken, FirstFault}
use Rattle.layout.specs.Findings.{Finding, fault}
use Rattle.rules.specs.Refusals.{Verdict}
use Rattle.layout.specs.declared.Reason.TheVariants.{EndsEarly, NotAddedUp, NoProcessDay}
use Rattle.layout.specs.declared.Reason.{Reason}

pub sound_not_fault : (n : Reason) (k : ℕ) → sound ≡ Err (fault n k) → ⊥
sound_not_fault n k e = let z : ◌≡◌ {A = ℕ} 0 1 = cc in omega arith

accepted_not_refused : (t : Totals) (x : Refusal) → Ok t ≡ Err x → ⊥
accepted_not_refused t x e = let z : ◌≡◌ {A = ℕ} 0 1 = cc in omega arith

-- ---- in the table
-- a piece, and behind it a row that does not hold
cut : (f : Totals) (ks r : List ℕ) (ws : List Row) (w : Row) (vs : List Row) → passes f ks r w ≡ false
    → first_fault f ks r (ws ++ (w ∷ vs)) ≡ or_else (first_fault f ks r ws) (Err (fault (row_reason w) (row_field w)))
cut f ks r ws w vs h = pieces f ks r ws (w ∷ vs) ∙ ap (or_else (first_fault f ks r ws)) (stop f ks r w vs h)

abbrev reason_found : Finding → Reason
reason_found (Ok u) = NoProcessDay
reason_found (Err e) = e.reason

abbrev field_found : Finding → ℕ
field_found (Ok u) = 0
field_found (Err e) = e.field

pub fault_inj : (n : Reason) (k : ℕ) (n' : Reason) (k' : ℕ) → ◌≡◌ {A = Finding} (Err (fault n k)) (Err (fault n' k')) → (n ≡ n') × (k ≡ k')
fault_inj n k n' k' e = (ap reason_found e, ap field_found e)

pub broken : (f : Totals) (ks r : List ℕ) (ws : List Row) (n : Reason) (k : ℕ) → first_fault f ks r ws ≡ Err (fault n k) → Broken f ks r ws n k
unfolding AllHold
broken f ks r [] n k e = absurd (sound_not_fault n k (sym (ended f ks r) ∙ e))
broken f ks r (w ∷ ws) n k e = go (passes f ks r w) refl (λ x. broken f ks r ws n k x)
  where
    go : (b : Bool) → passes f ks r w ≡ b → (first_fault f ks r ws ≡ Err (fault n k) → Broken f ks r ws n k) → Broken f ks r (w ∷ ws) n k
    go true q ih =
        let v = ih (sym (next f ks r w ws q) ∙ e) in
        record { held = w ∷ v.held; row = v.row; unseen = v.unseen; table = ap (λ (l : List Row). w ∷ l) v.table; hold = (q, v.hold); fails = v.fails; reason = v.reason; field = v.field }
    go false q ih =
        let v = fault_inj (row_reason w) (row_field w) n k (sym (stop f ks r w ws q) ∙ e) in
        record { held = []; row = w; unseen = ws; table = refl; hold = tt; fails = q; reason = v.0; field = v.1 }

pub broken_so : (f : Totals) (ks r : List ℕ) (ws : List Row) (n : Reason) (k : ℕ) → Broken f ks r ws n k → first_fault f ks r ws ≡ Err (fault n k)
broken_so f ks r ws n k v =
    ap (first_fault f ks r) v.table
    ∙ cut f ks r v.held v.row v.unseen v.fails
    ∙ ap (λ (x : Finding). or_else x (Err (fault (row_reason v.row) (row_field v.row)))) (sound_of_all f ks r v.held v.hold)
    ∙ ap₂ (λ (n : Reason) (k : ℕ). Err (fault n k)) v.reason v.field

-- ---- in the run
-- a run that refuses stops at a record, or at the end
pub data Stops (m : Mode) (w : Window) (f : Totals) (ks : List ℕ) (a : Assignment) (rs : List (List ℕ)) (i : ℕ) : Verdict → Type 0 where
  stopped : (j : ℕ) (n : Reason) (k : ℕ) → FirstFault m w f ks a rs j n k → Stops m w f ks a rs i (refused n 0 (i + j + 1) k)
  cut_off : Meets m w f ks a rs → may_end m (turns a rs) ≡ false → Stops m w f ks a rs i (refused EndsEarly 0 (i + length rs + 1) 0)
  ungiven : Meets m w f ks a rs → may_end m (turns a rs) ≡ true → R.ended m (turns a rs) ≡ false → Stops m w f ks a rs i (refused NotAddedUp 0 (i + length rs + 1) 0)

module _ (m : Mode) (w : Window) where
  -- one sound record more before it
  later : (f : Totals) (ks : List ℕ) (a : Assignment) (r : List ℕ) (rs : List (List ℕ)) (j : ℕ) (n : Reason) (k : ℕ) → AllHold f ks r (rows m w a r)
      → FirstFault m w (f ⊕ gain r) (ks ++ keys r) (turn r a) rs j n k → FirstFault m w f ks a (r ∷ rs) (suc j) n k
  unfolding gains turns all_keys Meets
  later f ks a r rs j n k h v =
      record {
        before = r ∷ v.before;
        here = v.here;
        behind = v.behind;
        whole = ap (λ (l : List (List ℕ)). r ∷ l) v.whole;
        place = ap suc v.place;
        meets = (h, v.meets);
        held = v.held;
        row = v.row;
        unseen = v.unseen;
        table = v.table;
        hold = rw (← ⊕-assoc f (gain r) (gains v.before), ← append_assoc ks (keys r) (all_keys v.before)) v.hold;
        fails = rw (← ⊕-assoc f (gain r) (gains v.before), ← append_assoc ks (keys r) (all_keys v.before)) v.fails;
        reason = v.reason;
        field = v.field;
      }

  -- at this very record
  at_once : (f : Totals) (ks : List ℕ) (a : Assignment) (r : List ℕ) (rs : List (List ℕ)) (n : Reason) (k : ℕ) → Broken f ks r (rows m w a r) n k → FirstFault m w f ks a (r ∷ rs) 0 n k
  unfolding gains turns all_keys Meets
  at_once f ks a r rs n k v =
      record {
        before = [];
        here = r;
        behind = rs;
        whole = refl;
        place = refl;
        meets = tt;
        held = v.held;
        row = v.row;
        unseen = v.unseen;
        table = v.table;
        hold = rw (⊕-none f, append-nil ks) v.hold;
        fails = rw (⊕-none f, append-nil ks) v.fails;
        reason = v.reason;
        field = v.field;
      }

  stops_later : (f : Totals) (ks : List ℕ) (a : Assignment) (r : List ℕ) (rs : List (List ℕ)) (i : ℕ) (x : Verdict) → AllHold f ks r (rows m w a r)
      → Stops m w (f ⊕ gain r) (ks ++ keys r) (turn r a) rs (i + 1) x → Stops m w f ks a (r ∷ rs) i x
  unfolding Meets turns
  stops_later f ks a r rs i x h (stopped j n k v) =
      let e : i + suc j + 1 ≡ i + 1 + j + 1 = omega arith in
      subst (λ (p : ℕ). Stops m w f ks a (r ∷ rs) i (refused n 0 p k)) e (stopped (suc j) n k (later f ks a r rs j n k h v))
  stops_later f ks a r rs i x h (cut_off v p) =
      let e : i + suc (length rs) + 1 ≡ i + 1 + length rs + 1 = omega arith in
      subst (λ (q : ℕ). Stops m w f ks a (r ∷ rs) i (refused EndsEarly 0 q 0)) e (cut_off (h, v) p)
  stops_later f ks a r rs i x h (ungiven v p g) =
      let e : i + suc (length rs) + 1 ≡ i + 1 + length rs + 1 = omega arith in
      subst (λ (q : ℕ). Stops m w f ks a (r ∷ rs) i (refused NotAddedUp 0 q 0)) e (ungiven (h, v) p g)

  end_stops : (i : ℕ) (st : State) (ks : List ℕ) (x : Refusal) → at_end m i st ≡ Err x → Stops m w st.file ks st.assignment [] i (Err x)
  unfolding at_end Meets turns
  end_stops i st ks x e = go (may_end m st.assignment) (R.ended m st.assignment) refl refl e
    where
      place : i + 0 + 1 ≡ i + 1
      place = omega arith

      go : (b c : Bool) → may_end m st.assignment ≡ b → R.ended m st.assignment ≡ c
          → (if b then (if c then Ok st.file else refused NotAddedUp 0 (i + 1) 0) else refused EndsEarly 0 (i + 1) 0) ≡ Err x → Stops m w st.file ks st.assignment [] i (Err x)
      go true true p q y = absurd (accepted_not_refused st.file x y)
      go true false p q y = subst (λ (v : Verdict). Stops m w st.file ks st.assignment [] i v) (ap (λ (n : ℕ). refused NotAddedUp 0 n 0) place ∙ y) (ungiven tt p q)
      go false c p q y = subst (λ (v : Verdict). Stops m w st.file ks st.assignment [] i v) (ap (λ (n : ℕ). refused EndsEarly 0 n 0) place ∙ y) (cut_off tt p)

  pub stops : (i : ℕ) (st : State) (ks : List ℕ) (rs : List (List ℕ)) (x : Refusal) → run m w i st ks rs ≡ Err x → Stops m w st.file ks st.assignment rs i (Err x)
  unfolding run
  stops i st ks [] x e = end_stops i st ks x e
  stops i st ks (r ∷ rs) x e = go (first_fault st.file ks r (rows m w st.assignment r)) refl (λ y. stops (i + 1) (after st r) (ks ++ keys r) rs x y)
    where
      with_step : (y : Finding) → first_fault st.file ks r (rows m w st.assignment r) ≡ y → on_step (stepped y (after st r)) i (run m w (i + 1) (after st r) (ks ++ keys r) rs) ≡ Err x
      with_step y q = sym (ap (λ (z : Finding). on_step (stepped z (after st r)) i (run m w (i + 1) (after st r) (ks ++ keys r) rs)) q) ∙ (unfold step_of in e)

      go : (y : Finding) → first_fault st.file ks r (rows m w st.assignment r) ≡ y
          → (run m w (i + 1) (after st r) (ks ++ keys r) rs ≡ Err x → Stops m w (st.file ⊕ gain r) (ks ++ keys r) (turn r st.assignment) rs (i + 1) (Err x))
          → Stops m w st.file ks st.assignment (r ∷ rs) i (Err x)
      go (Ok u) q ih = stops_later st.file ks st.assignment r rs i (Err x) (all_of_sound st.file ks r _ q) (ih (with_step sound q))
      go (Err e) q ih =
          let p : i + 0 + 1 ≡ i + 1 = omega arith in
          subst (λ (v : Verdict). Stops m w st.file ks st.assignment (r ∷ rs) i v) (ap (λ (j : ℕ). refused e.reason 0 j e.field) p ∙ with_step (Err e) q)
          (stopped 0 e.reason e.field (at_once st.file ks st.assignment r rs e.reason e.field (broken st.file ks r _ e.reason e.field q)))

  -- ---- the other way
  -- sound records leave the state behind all of them
  abbrev behind_all : State → List (List ℕ) → State
  behind_all st rs = record { file = st.file ⊕ gains rs; assignment = turns st.assignment rs }

  runs_on : (i : ℕ) (st : State) (ks : List ℕ) (xs ys : List (List ℕ)) → Meets m w st.file ks st.assignment xs
      → run m w i st ks (xs ++ ys) ≡ run m w (i + length xs) (behind_all st xs) (ks ++ all_keys xs) ys
  unfolding run Meets gains turns all_keys step_of
  runs_on i st ks [] ys h = rw (add-zero i, ⊕-none st.file, append-nil ks)
  runs_on i st ks (x ∷ xs) ys h =
      let e : i + 1 + length xs ≡ i + suc (length xs) = omega arith in
      ap (λ (y : Finding). on_step (stepped y (after st x)) i (run m w (i + 1) (after st x) (ks ++ keys x) (xs ++ ys))) (sound_of_all st.file ks x _ h.0)
      ∙ runs_on (i + 1) (after st x) (ks ++ keys x) xs ys h.1
      ∙ (λ j. run m w (e j) record { file = ⊕-assoc st.file (gain x) (gains xs) j; assignment = turns (turn x st.assignment) xs } (append_assoc ks (keys x) (all_keys xs) j) ys)

  faulty : (f : Totals) (ks : List ℕ) (a : Assignment) (rs : List (List ℕ)) (j : ℕ) (n : Reason) (k : ℕ) (v : FirstFault m w f ks a rs j n k)
      → first_fault (f ⊕ gains v.before) (ks ++ all_keys v.before) v.here (rows m w (turns a v.before) v.here) ≡ Err (fault n k)
  faulty f ks a rs j n k v =
      ap (first_fault _ _ v.here) v.table
      ∙ cut _ _ v.here v.held v.row v.unseen v.fails
      ∙ ap (λ (y : Finding). or_else y (Err (fault (row_reason v.row) (row_field v.row)))) (sound_of_all _ _ v.here v.held v.hold)
      ∙ (λ i. Err (fault (v.reason i) (v.field i)))

  stops_here : (i : ℕ) (st : State) (ks r : List ℕ) (rs : List (List ℕ)) (n : Reason) (k : ℕ) → first_fault st.file ks r (rows m w st.assignment r) ≡ Err (fault n k)
      → run m w i st ks (r ∷ rs) ≡ refused n 0 (i + 1) k
  unfolding run step_of
  stops_here i st ks r rs n k e = ap (λ (y : Finding). on_step (stepped y (after st r)) i (run m w (i + 1) (after st r) (ks ++ keys r) rs)) e

  runs_to_end : (i : ℕ) (st : State) (ks : List ℕ) (rs : List (List ℕ)) → Meets m w st.file ks st.assignment rs → run m w i st ks rs ≡ at_end m (i + length rs) (behind_all st rs)
  unfolding run
  runs_to_end i st ks rs h = ap (run m w i st ks) (sym (append-nil rs)) ∙ runs_on i st ks rs [] h

  pub stops_so : (i : ℕ) (st : State) (ks : List ℕ) (rs : List (List ℕ)) (v : Verdict) → Stops m w st.file ks st.assignment rs i v → run m w i st ks rs ≡ v
  unfolding at_end
  stops_so i st ks rs v (stopped j n k f) =
      ap (run m w i st ks) f.whole
      ∙ runs_on i st ks f.before (f.here ∷ f.behind) f.meets
      ∙ stops_here (i + length f.before) (behind_all st f.before) (ks ++ all_keys f.before) f.here f.behind n k (faulty st.file ks st.assignment rs j n k f)
      ∙ ap (λ (p : ℕ). refused n 0 (i + p + 1) k) f.place
  stops_so i st ks rs v (cut_off h p) = runs_to_end i st ks rs h ∙ rw p
  stops_so i st ks rs v (ungiven h p g) = runs_to_end i st ks rs h ∙ rw (p, g)
