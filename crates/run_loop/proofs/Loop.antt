-- The loop over the records: what holds behind k of them, at the start, from one to the next, and at the end.
-- Assumes nothing.
use Prim.Native.Nat.{ℕ, suc, ◌+◌, ◌*◌, ◌≤◌, ◌<◌}
use mathlib.Core.Path.{◌≡◌, refl, sym, ap, ap₂, subst, ◌∙◌}
use mathlib.Core.Logic.{◌⊎◌, inl, inr, ⊎_elim}
use mathlib.Core.List.{List, [], ◌∷◌, ◌++◌, append_assoc, append-nil}
use mathlib.Core.Bool.{Bool, true, false}
use native.Mathlib.Nat.{add-zero}
use native.Mathlib.Omega.{arith}
use lib.ListN.{length, get_or, take, drop}
use lib.Seq.{drop-cons}
use Rattle.std.proofs.lemmas.List.{drop_all}
use Rattle.dates.specs.declared.Window.{Window}
use Rattle.run_growth.specs.Bounds.{Small}
use Rattle.layout.specs.Rows.{first_fault}
use Rattle.rules.specs.Codes.{kind_of}
use Rattle.rules.specs.Layouts.{rows}
use Rattle.rules.specs.Order.{may_end}
use Rattle.rules.specs.Growth.{gain_for, gain, keys_for, all_keys, after, start}
use Rattle.rules.specs.Refusals.{refused}
use Rattle.rules.specs.Run.{step_of, ended, at_end, run}
use Rattle.limits.specs.Limits.{most_records, most_assignments}
use Rattle.rules.specs.declared.Kind.{Kind}
use Rattle.rules.specs.declared.Kind.TheVariants.{R20}
use Rattle.rules.specs.declared.Mode.{Mode}
use Rattle.rules.specs.declared.State.{State}
use Rattle.std.specs.Prelude.{if◌then◌else◌, Ok, Err}
use Rattle.figures.specs.declared.totals.Totals.{Totals}
use Rattle.figures.specs.declared.totals.AssignmentTotals.{AssignmentTotals}
use Rattle.run_figures.specs.Slots.{all_slots, with_figures}
use Rattle.run_figures.specs.Blocks.{done_for, done, blocks}
use Rattle.run_figures.proofs.Slots.{put_front, figures_front, one_slots, none_slots}
use Rattle.run_figures.proofs.Blocks.{figures_next, figures_last}
use Rattle.run_step.specs.Took.{keys_of, Ready, ended_by, on_next, Took}
use Rattle.run_step.proofs.Steps.{went_on, run_next, run_stop, table_holds, table_of, slot_held}
use Rattle.run_step.proofs.Bounds.{small_next}
use Rattle.run_loop.specs.Left.{Roomy}
use Rattle.layout.specs.Findings.{sound}
use Rattle.layout.specs.declared.Fault.{Fault}
use Rattle.layout.specs.declared.Reason.{Reason}
use Rattle.rules.specs.Run.{Step}
use Rattle.rules.specs.Refusals.{Verdict}
use Rattle.layout.specs.declared.Reason.TheVariants.{EndsEarly, NotAddedUp}

-- only a record 20 adds an assignment and a key
one_or_none : (k : Kind) (r : List ℕ) → ((gain_for k r).assignments.0 ≡ 0) ⊎ ((k ≡ R20) × ((gain_for k r).assignments.0 ≡ 1))
one_or_none R20 r = inr (refl, refl)
one_or_none k r = inl refl

-- the keys of a record and those behind it
abbrev keys_of_record : List ℕ → List ℕ
keys_of_record r = keys_for (kind_of r) r

keys_next : (r : List ℕ) (rs : List (List ℕ)) → all_keys (r ∷ rs) ≡ keys_of_record r ++ all_keys rs
unfolding all_keys
keys_next r rs = refl

no_keys : all_keys [] ≡ []
unfolding all_keys
no_keys = refl

-- as many keys as assignments
key_count : (k : Kind) (r : List ℕ) → length (keys_for k r) ≡ (gain_for k r).assignments.0
key_count R20 r = refl
key_count k r = refl

-- the figures behind a record: those before, with those of what it ends
module _ (r : List ℕ) (n : ℕ) (t : AssignmentTotals) (l : List ℕ) (h : 5 * n + 5 ≤ length l) where
  nothing_ended : take (5 * (n + 0)) l ≡ take (5 * n) l ++ all_slots []
  nothing_ended = ap (λ (i : ℕ). take (5 * i) l) (add-zero n) ∙ sym (ap (λ (x : List ℕ). take (5 * n) l ++ x) none_slots ∙ append-nil (take (5 * n) l))

  ended_front : (k : Kind) → take (5 * (n + (gain_for k r).assignments.0)) (ended_by k n t l) ≡ take (5 * n) l ++ all_slots (done_for k t)
  unfolding ended_by
  ended_front R20 =
      let i : 5 * (n + 1) ≡ 5 * n + 5 = omega arith in
      ap (λ (j : ℕ). take j (with_figures n t l)) i ∙ figures_front n t l h ∙ ap (λ (x : List ℕ). take (5 * n) l ++ x) (sym (one_slots t))
  ended_front k = nothing_ended

-- what is accepted is the file's totals; a refusal is not accepted
pub accepted : (m : Mode) (i : ℕ) (st : State) (t : Totals) → at_end m i st ≡ Ok t → st.file ≡ t
unfolding at_end
accepted m i st t e = go (may_end m st.assignment) (ended m st.assignment) e
  where
    go : (p q : Bool) → (if p then (if q then Ok st.file else refused NotAddedUp 0 (i + 1) 0) else refused EndsEarly 0 (i + 1) 0) ≡ Ok t → st.file ≡ t
    go true true h = cc
    go true false h = cc
    go false q h = cc

pub not_accepted : (n : Reason) (i k : ℕ) (x : Verdict) (t : Totals) → x ≡ refused n 0 i k → x ≡ Ok t → ⊥
not_accepted n i k x t e h = let z : ◌≡◌ {A = ℕ} 0 1 = cc in omega arith

-- behind the first k of these records
pub record At (m : Mode) (w : Window) (rs : List (List ℕ)) (st : State) (keys figures : List ℕ) (k : ℕ) : Type 0 where
  pub within : k ≤ length rs
  pub few : length rs ≤ most_records
  pub slots : length keys ≡ most_assignments
  pub most : st.file.assignments.0 ≤ most_assignments
  pub small : Small k st
  pub same : run m w 0 start [] rs ≡ run m w k st (keys_of st keys) (drop k rs)
  pub found : all_keys rs ≡ keys_of st keys ++ all_keys (drop k rs)
  pub figured : Roomy figures → all_slots (blocks start.assignment rs) ≡ take (5 * st.file.assignments.0) figures ++ all_slots (blocks st.assignment (drop k rs))

pub small_start : Small 0 start
small_start =
    record {
      file = record { assignments = omega arith; transactions = omega arith; records = omega arith; sum = omega arith };
      assignment = record { assignments = omega arith; transactions = omega arith; records = omega arith; sum = omega arith };
      specified = omega arith;
      credited = omega arith;
    }

-- a bound that is met by fewer is met by more
pub smaller : (k n : ℕ) (st : State) → k ≤ n → Small k st → Small n st
smaller k n st h s =
    record {
      file = record { assignments = omega (arith, s.file.assignments); transactions = omega (arith, s.file.transactions); records = omega (arith, s.file.records); sum = s.file.sum };
      assignment =
          record { assignments = omega (arith, s.assignment.assignments); transactions = omega (arith, s.assignment.transactions); records = omega (arith, s.assignment.records); sum = s.assignment.sum };
      specified = s.specified;
      credited = s.credited;
    }

module _ (m : Mode) (w : Window) (rs : List (List ℕ)) where
  -- one record more
  module _ (st : State) (keys figures : List ℕ) (k : ℕ) (a : At m w rs st keys figures k) (h : k < length rs) (r : List ℕ) (e : r ≡ get_or rs k []) where
    here : drop k rs ≡ r ∷ drop (k + 1) rs
    here = let n : suc k ≡ k + 1 = omega arith in drop-cons rs k [] h ∙ ap₂ (λ (x : List ℕ) (i : ℕ). x ∷ drop i rs) (sym e) n

    pub ready : Ready st keys
    ready =
        record {
          small = smaller k most_records st (omega (arith, a.few)) a.small;
          few = a.most;
          slots = a.slots;
        }

    pub stopped : (x : Fault) → Err x ≡ step_of m w st (keys_of st keys) r → run m w 0 start [] rs ≡ refused x.reason 0 (k + 1) x.field
    stopped x q = a.same ∙ ap (run m w k st (keys_of st keys)) here ∙ run_stop m w st (keys_of st keys) r k (drop (k + 1) rs) x (sym q)

    module _ (x : Step) (s : State) (keys' figures' : List ℕ) (took : Took (step_of m w st (keys_of st keys) r) (kind_of r) st r keys figures x keys' figures') (went : x ≡ Ok s) where
      t : Took (step_of m w st (keys_of st keys) r) (kind_of r) st r keys figures (Ok s) keys' figures'
      t = subst (λ (y : Step). Took (step_of m w st (keys_of st keys) r) (kind_of r) st r keys figures y keys' figures') went took

      all_sound : first_fault st.file (keys_of st keys) r (rows m w st.assignment r) ≡ sound
      all_sound = (went_on m w st (keys_of st keys) r s (sym t.step)).0

      is : after st r ≡ s
      is = (went_on m w st (keys_of st keys) r s (sym t.step)).1

      counted : st.file.assignments.0 + (gain r).assignments.0 ≡ s.file.assignments.0
      counted = ap (λ (x : State). x.file.assignments.0) is

      most_next : s.file.assignments.0 ≤ most_assignments
      most_next =
          ⊎_elim (λ (z : (gain r).assignments.0 ≡ 0). omega (arith, a.most, counted))
          (λ (z : (kind_of r ≡ R20) × ((gain r).assignments.0 ≡ 1)). let room = slot_held st.file (keys_of st keys) r st.assignment (table_of m w st (keys_of st keys) r R20 z.0 all_sound) in omega (arith, z.1, room, counted))
          (one_or_none (kind_of r) r)

      -- the keys so far with the record's, and the figures so far with those of what it ends
      keys_so_far : keys_of s keys' ≡ keys_of st keys ++ keys_of_record r
      unfolding on_next
      keys_so_far =
          let i : s.file.assignments.0 ≡ st.file.assignments.0 + length (keys_of_record r) = sym counted ∙ ap (λ (x : ℕ). st.file.assignments.0 + x) (sym (key_count (kind_of r) r)) in
          ap₂ take i t.keyed ∙ put_front st.file.assignments.0 (keys_of_record r) keys (omega (arith, a.most, a.slots))

      figures_so_far : Roomy figures → take (5 * s.file.assignments.0) figures' ≡ take (5 * st.file.assignments.0) figures ++ all_slots (done r st.assignment.totals)
      unfolding on_next
      figures_so_far l =
          ap₂ (λ (i : ℕ) (x : List ℕ). take (5 * i) x) (sym counted) t.figured
          ∙ ended_front r st.file.assignments.0 st.assignment.totals figures (omega (arith, a.most, l)) (kind_of r)

      pub at_next : length keys' ≡ length keys → length figures' ≡ length figures → At m w rs s keys' figures' (k + 1)
      at_next five size =
          record {
            within = omega arith;
            few = a.few;
            slots = five ∙ a.slots;
            most = most_next;
            small = subst (Small (k + 1)) is (small_next k (kind_of r) w st (keys_of st keys) r a.small (table_holds m w st (keys_of st keys) r all_sound));
            same =
                a.same ∙ ap (run m w k st (keys_of st keys)) here ∙ run_next m w st (keys_of st keys) r k (drop (k + 1) rs) s (sym t.step)
                ∙ ap (λ (x : List ℕ). run m w (k + 1) s x (drop (k + 1) rs)) (sym keys_so_far);
            found =
                a.found ∙ ap (λ (x : List (List ℕ)). keys_of st keys ++ all_keys x) here ∙ ap (λ (x : List ℕ). keys_of st keys ++ x) (keys_next r (drop (k + 1) rs))
                ∙ sym (append_assoc (keys_of st keys) (keys_of_record r) (all_keys (drop (k + 1) rs))) ∙ ap (λ (x : List ℕ). x ++ all_keys (drop (k + 1) rs)) (sym keys_so_far);
            figured = λ l.
                let roomy : Roomy figures = omega (arith, l, size) in
                a.figured roomy ∙ ap (λ (x : List (List ℕ)). take (5 * st.file.assignments.0) figures ++ all_slots (blocks st.assignment x)) here
                ∙ figures_next (take (5 * st.file.assignments.0) figures) st.assignment r (drop (k + 1) rs)
                ∙ ap₂ (λ (x : List ℕ) (y : State). x ++ all_slots (blocks y.assignment (drop (k + 1) rs))) (sym (figures_so_far roomy)) is;
          }

  -- nothing is left: the keys are those of the whole
  module _ (st : State) (keys figures : List ℕ) (k : ℕ) (a : At m w rs st keys figures k) (h : length rs ≤ k) where
    none_left : drop k rs ≡ []
    none_left = drop_all k rs h

    pub at_last : run m w 0 start [] rs ≡ at_end m (length rs) st
    unfolding run
    at_last =
        let e : k ≡ length rs = omega (arith, a.within) in
        a.same ∙ ap (run m w k st (keys_of st keys)) none_left ∙ ap (λ (i : ℕ). at_end m i st) e

    module _ (t : Totals) (e : st.file ≡ t) where
      pub keys_last : take t.assignments.0 keys ≡ all_keys rs
      keys_last =
          ap (λ (x : Totals). take x.assignments.0 keys) (sym e)
          ∙ sym (a.found ∙ ap (λ (x : List (List ℕ)). keys_of st keys ++ all_keys x) none_left ∙ ap (λ (x : List ℕ). keys_of st keys ++ x) no_keys ∙ append-nil (keys_of st keys))

      -- and with those of the assignment at hand, so are the figures
      pub figures_all : (left : List ℕ) → left ≡ with_figures st.file.assignments.0 st.assignment.totals figures → length left ≡ length figures
          → Roomy left → take (5 * (t.assignments.0 + 1)) left ≡ all_slots (blocks start.assignment rs)
      figures_all left f size l =
          let i : 5 * (t.assignments.0 + 1) ≡ 5 * st.file.assignments.0 + 5 = let j = ap (λ (x : Totals). x.assignments.0) e in omega (arith, j) in
          ap₂ take i f ∙ figures_front st.file.assignments.0 st.assignment.totals figures (omega (arith, l, size, a.most))
          ∙ sym (a.figured (omega (arith, l, size))
          ∙ ap (λ (x : List ℕ). take (5 * st.file.assignments.0) figures ++ x) (ap (λ (x : List (List ℕ)). all_slots (blocks st.assignment x)) none_left ∙ figures_last st.assignment))
