-- What a step says of the record's rows, what the run does behind it, and what a record leaves in keys and figures.
-- Assumes nothing.
use Prim.Native.Nat.{ℕ, ◌+◌, ◌<◌}
use mathlib.Core.Path.{◌≡◌, refl, sym, ap, subst, ◌∙◌}
use mathlib.Core.List.{List, [], ◌∷◌, ◌++◌}
use mathlib.Core.Bool.{Bool, true, false, and-true}
use native.Mathlib.Omega.{arith}
use borrow.Author.Tests.{ltb-true}
use lib.Dec.{eqb}
use lib.ListN.{length, get_or, take}
use lib.Seq.{drop-cons}
use Rattle.std.specs.Prelude.{if◌then◌else◌, Result, Ok, Err}
use Rattle.limits.specs.Limits.{most_assignments}
use Rattle.fields.specs.Bytes.{same, part}
use Rattle.dates.specs.declared.Window.{Window}
use Rattle.figures.specs.declared.totals.Totals.{Totals}
use Rattle.layout.specs.Rows.{at, must, passes, first_fault, AllHold}
use Rattle.layout.proofs.Laws.{next, stop, all_of_sound}
use Rattle.run_order.proofs.Follow.{choice_is}
use Rattle.rules.specs.Codes.{kind_of, number_of_kind, key_in}
use Rattle.rules.specs.Order.{may_follow}
use Rattle.rules.specs.Layouts.{line_feed, table_for, rows, record20}
use Rattle.rules.specs.Growth.{after, after_for, keys, keys_for}
use Rattle.rules.specs.Refusals.{refused}
use Rattle.rules.specs.Run.{stepped, kind_step, step_of, on_step, run}
use Rattle.rules.specs.declared.Assignment.{Assignment}
use Rattle.rules.specs.declared.Kind.{Kind}
use Rattle.rules.specs.declared.Kind.TheVariants.{Other}
use Rattle.rules.specs.declared.Mode.{Mode}
use Rattle.rules.specs.declared.State.{State}
use Rattle.run_figures.specs.Slots.{put_from, with_figures}
use Rattle.run_figures.proofs.Slots.{put_none}
use Rattle.run_step.specs.Took.{keys_of, ended_by, on_next, Took}
use Rattle.layout.specs.Findings.{Finding, fault, sound, demanded, brings}
use Rattle.layout.specs.declared.Fault.{Fault}
use Rattle.record_shared.proofs.Pieces.{brought, failed}
use Rattle.rules.specs.Run.{Step}
use Rattle.layout.specs.declared.Reason.{Reason}
use Rattle.layout.specs.declared.Reason.TheVariants.{NoLineFeed, OutOfPlace}

stop_not_next : (x : Fault) (s t : State) → Err x ≡ Ok t → ⊥
stop_not_next x s t e = let z : ◌≡◌ {A = ℕ} 0 1 = cc in omega arith

pub stepped_next : (f : Finding) (s t : State) → stepped f s ≡ Ok t → (f ≡ sound) × (s ≡ t)
stepped_next (Ok u) s t e = (refl, cc)
stepped_next (Err x) s t e = absurd (stop_not_next x s t e)

-- a finding brings nothing of its own
pub alone : (f : Finding) → f ≡ brings f tt
alone (Ok u) = refl
alone (Err e) = refl

-- a demand that ends the record is not met, and gives its own fault; one that goes on is met
pub unmet : (b : Bool) (n : Reason) (k : ℕ) {x : Finding} {e : Fault} → x ≡ demanded sound b n k → x ≡ Err e → (b ≡ false) × (e ≡ fault n k)
unmet true n k h g = let z : ◌≡◌ {A = ℕ} 0 1 = cc in absurd (omega arith)
unmet false n k h g = (refl, cc)

pub met : (b : Bool) (n : Reason) (k : ℕ) {x : Finding} {u : Unit {0}} → x ≡ demanded sound b n k → x ≡ Ok u → b ≡ true
met true n k h g = refl
met false n k h g = let z : ◌≡◌ {A = ℕ} 0 1 = cc in absurd (omega arith)

-- a record's check as a step of its type: what it found, and where that is sound, the state behind it
module _ (kind : Kind) (w : Window) (st : State) (ks r : List ℕ) where
  abbrev found_of : Finding
  found_of = first_fault st.file ks r (table_for kind w st.assignment r)

  as_step : (x : Finding) → x ≡ found_of → stepped x (after_for kind st r) ≡ kind_step kind w st ks r
  unfolding kind_step
  as_step x e = ap (λ (y : Finding). stepped y (after_for kind st r)) e

  pub behind : {x : Finding} → x ≡ found_of → stepped x (after_for kind st r) ≡ kind_step kind w st ks r
  behind {x} e = as_step x e

  module _ {A : Type 0} (v : A) {x : Result A Fault} (found : x ≡ brings found_of v) where
    pub stop_at : {e : Fault} → x ≡ Err e → Err e ≡ kind_step kind w st ks r
    stop_at h = as_step _ (sym (failed st.file ks r _ v found h))

    pub next_at : {y : A} → x ≡ Ok y → (s : State) → (y ≡ v → s ≡ after_for kind st r) → Ok s ≡ kind_step kind w st ks r
    next_at h s e = let b = brought st.file ks r _ found h in ap Ok (e b.1) ∙ as_step sound (sym b.0)

    pub holds_at : {y : A} → x ≡ Ok y → AllHold st.file ks r (table_for kind w st.assignment r)
    holds_at h = all_of_sound st.file ks r _ (brought st.file ks r _ found h).0

    pub value_at : {y : A} → x ≡ Ok y → y ≡ v
    value_at h = (brought st.file ks r _ found h).1

module _ (m : Mode) (w : Window) (st : State) (ks r : List ℕ) where
  -- a step that goes on found every row sound, and goes to the state behind the record
  pub went_on : (s : State) → step_of m w st ks r ≡ Ok s → (first_fault st.file ks r (rows m w st.assignment r) ≡ sound) × (after st r ≡ s)
  unfolding step_of
  went_on s e = stepped_next _ _ s e

  -- past 4 and 5 the step is that of the record's type
  pub by_kind : passes st.file ks r (at 0 81 81 line_feed) ≡ true → may_follow m st.assignment (kind_of r) ≡ true
      → step_of m w st ks r ≡ kind_step (kind_of r) w st ks r
  unfolding step_of kind_step
  by_kind h k =
      ap (λ (f : Finding). stepped f (after st r)) (next st.file ks r _ _ h ∙ next st.file ks r _ _ k)

  pub no_line_feed : passes st.file ks r (at 0 81 81 line_feed) ≡ false → step_of m w st ks r ≡ Err (fault NoLineFeed 0)
  unfolding step_of
  no_line_feed h = ap (λ (f : Finding). stepped f (after st r)) (stop st.file ks r _ _ h)

  pub not_here : passes st.file ks r (at 0 81 81 line_feed) ≡ true → may_follow m st.assignment (kind_of r) ≡ false → step_of m w st ks r ≡ Err (fault OutOfPlace 4)
  unfolding step_of
  not_here h k =
      ap (λ (f : Finding). stepped f (after st r)) (next st.file ks r _ _ h ∙ stop st.file ks r _ _ k)

  -- the run behind a record
  pub run_next : (i : ℕ) (rs : List (List ℕ)) (s : State) → step_of m w st ks r ≡ Ok s
      → run m w i st ks (r ∷ rs) ≡ run m w (i + 1) s (ks ++ keys r) rs
  unfolding run
  run_next i rs s e =
      ap (λ (x : Step). on_step x i (run m w (i + 1) (after st r) (ks ++ keys r) rs)) e
      ∙ ap (λ (x : State). run m w (i + 1) x (ks ++ keys r) rs) (went_on s e).1

  pub run_stop : (i : ℕ) (rs : List (List ℕ)) (x : Fault) → step_of m w st ks r ≡ Err x → run m w i st ks (r ∷ rs) ≡ refused x.reason 0 (i + 1) x.field
  unfolding run
  run_stop i rs x e = ap (λ (x : Step). on_step x i (run m w (i + 1) (after st r) (ks ++ keys r) rs)) e

  -- the rows of the record's own table, where all rows are sound
  pub table_holds : first_fault st.file ks r (rows m w st.assignment r) ≡ sound → AllHold st.file ks r (table_for (kind_of r) w st.assignment r)
  table_holds e =
      let a : AllHold st.file ks r (rows m w st.assignment r) = all_of_sound st.file ks r _ e in
      let b : AllHold st.file ks r (must (may_follow m st.assignment (kind_of r)) OutOfPlace 4 ∷ table_for (kind_of r) w st.assignment r) = unfold AllHold in a.1 in
      unfold AllHold in b.1

  -- a sound record may stand here
  pub may_stand : first_fault st.file ks r (rows m w st.assignment r) ≡ sound → may_follow m st.assignment (kind_of r) ≡ true
  may_stand e =
      let a : AllHold st.file ks r (rows m w st.assignment r) = all_of_sound st.file ks r _ e in
      let b : AllHold st.file ks r (must (may_follow m st.assignment (kind_of r)) OutOfPlace 4 ∷ table_for (kind_of r) w st.assignment r) = unfold AllHold in a.1 in
      unfold AllHold in b.0

  pub table_of : (k : Kind) → kind_of r ≡ k → first_fault st.file ks r (rows m w st.assignment r) ≡ sound → AllHold st.file ks r (table_for k w st.assignment r)
  table_of k q e = subst (λ (x : Kind). AllHold st.file ks r (table_for x w st.assignment r)) q (table_holds e)

-- the line feed behind a record
last_byte : (r : List ℕ) → length r ≡ 81 → part 81 81 r ≡ get_or r 80 0 ∷ []
last_byte r h =
    ap (take 1) (drop-cons r 80 0 (omega arith))

pub feed : (r : List ℕ) → length r ≡ 81 → same (part 81 81 r) (10 ∷ []) ≡ eqb (get_or r 80 0) 10
unfolding same
feed r h = ap (λ (s : List ℕ). same s (10 ∷ [])) (last_byte r h) ∙ and-true (eqb (get_or r 80 0) 10)

-- a record of no type may stand nowhere
pub never_other : (m : Mode) (a : Assignment) → may_follow m a Other ≡ false
never_other m a = sym (choice_is m a Other)

-- before a sound record 20 there was room for its key
pub slot_held : (f : Totals) (ks r : List ℕ) (a : Assignment) → AllHold f ks r (record20 a r) → f.assignments.0 < most_assignments
unfolding AllHold
slot_held f ks r a h = ltb-true f.assignments.0 most_assignments h.0

-- a record taken: one that stops, and one that is no 20, leave keys and figures as they were
module _ (expected : Step) (kind : Kind) (st : State) (r keys figures : List ℕ) where
  pub took_stop : (x : Step) (e : Fault) → x ≡ Err e → Err e ≡ expected → Took expected kind st r keys figures x keys figures
  unfolding on_next
  took_stop (Ok s) e h g = absurd (stop_not_next e s s (sym h))
  took_stop (Err x) e h g = record { step = h ∙ g; keyed = refl; figured = refl }

  same_keys : (x : Step) → eqb (number_of_kind kind) 20 ≡ false → keys ≡ on_next x (put_from st.file.assignments.0 (keys_for kind r) keys) keys
  unfolding on_next
  same_keys (Ok s) n = sym (ap (λ (b : Bool). put_from st.file.assignments.0 (if b then key_in r ∷ [] else []) keys) n ∙ put_none st.file.assignments.0 keys)
  same_keys (Err e) n = refl

  same_figures : (x : Step) → eqb (number_of_kind kind) 20 ≡ false → figures ≡ on_next x (ended_by kind st.file.assignments.0 st.assignment.totals figures) figures
  unfolding on_next ended_by
  same_figures (Ok s) n = sym (ap (λ (b : Bool). if b then with_figures st.file.assignments.0 st.assignment.totals figures else figures) n)
  same_figures (Err e) n = refl

  pub took_on : (x : Step) → eqb (number_of_kind kind) 20 ≡ false → x ≡ expected → Took expected kind st r keys figures x keys figures
  took_on x n e = record { step = e; keyed = same_keys x n; figured = same_figures x n }

-- a record taken as one of its type is taken as it stands there
pub took_here : (k k' : Kind) (w : Window) (st : State) (r keys figures : List ℕ) (x : Step) (keys' figures' : List ℕ) (expected : Step)
    → Took (kind_step k w st (keys_of st keys) r) k st r keys figures x keys' figures' → k ≡ k' → expected ≡ kind_step k' w st (keys_of st keys) r
    → Took expected k' st r keys figures x keys' figures'
took_here k k' w st r keys figures x keys' figures' expected h e q =
    let t = subst (λ (j : Kind). Took (kind_step j w st (keys_of st keys) r) j st r keys figures x keys' figures') e h in
    record { step = t.step ∙ sym q; keyed = t.keyed; figured = t.figured }
