-- What joining answers, case by case: two accepted files are joined where nothing stands against it, and every refusal has its reason.
-- Assumes nothing.
use Prim.Native.Nat.{ℕ, ◌+◌, ◌*◌, ◌≤◌}
use mathlib.Core.Path.{◌≡◌, refl, sym, ap, subst, ◌∙◌}
use mathlib.Core.List.{List}
use mathlib.Core.Bool.{Bool, true, false, true≢false}
use native.Mathlib.Omega.{arith}
use native.Mathlib.Nat.{zero-add}
use borrow.Author.Tests.{leb-true, leb-false, le-leb, lt-leb}
use lib.Dec.{leb}
use Rattle.std.specs.Prelude.{if◌then◌else◌, Option, Some, None, Ok, Err}
use Rattle.dates.specs.Windows.{window_of}
use Rattle.dates.specs.declared.ProcessDay.{ProcessDay}
use Rattle.dates.specs.declared.Window.{Window}
use Rattle.fields.specs.Bytes.{same}
use Rattle.fields.proofs.Every.{same_is, same_self}
use Rattle.figures.specs.Figures.{within, limit_wide}
use Rattle.figures.specs.declared.totals.Totals.{Totals}
use Rattle.limits.specs.Limits.{record_bytes, most_records, most_assignments}
use Rattle.rules.specs.Refusals.{refused}
use Rattle.rules.specs.Run.{records_of, judge, on_window, check_of}
use Rattle.rules.specs.declared.Refusal.{Refusal}
use Rattle.operations.specs.Closing.{given, on_accepted}
use Rattle.operations.specs.Joining.{sender, both, shares, shared_at, weigh_limits, weigh_both, of_operand, weigh_second, weigh_join, join_of}
use Rattle.laws.specs.Joinable.{keys_of, BothAccepted, Joinable, NotJoinable, senders_differ, key_in_both, records_passed, assignments_passed, sum_passed, JoinRefusing, no_day, first_file, second_file, other_sender, shared_key, many_records, many_assignments, large_sum, short_output}
use Rattle.laws.proofs.Demand2.{accepting}
use Rattle.laws.proofs.Keys.{shared, not_shared, shares_none, first_shared, told_place, told_shared}
use Rattle.rules.specs.Refusals.{Verdict}
use Rattle.layout.specs.declared.Reason.TheVariants.{TooManyRecords, PastLimit, KeySeen, TooManyAssignments, NoRoom, OtherSender}

-- both at once cannot be
pub exclude : (a b : List ℕ) (s t : Totals) → Joinable a b s t → NotJoinable a b s t → ⊥
exclude a b s t j (senders_differ d) = d j.senders
exclude a b s t j (key_in_both k x y) = j.apart k x y
exclude a b s t j (records_passed p) = omega (arith, j.records)
exclude a b s t j (assignments_passed p) = omega (arith, j.assignments)
exclude a b s t j (sum_passed p) = omega (arith, j.sums)

-- ---- two accepted files: the tests in the stated order
module _ (a b : List ℕ) (room : ℕ) (s t : Totals) where
  -- what each of them gives
  record Tests (p q r n m : Bool) : Type 0 where
    senders : same (sender a) (sender b) ≡ p
    keys : shares (keys_of a) (keys_of b) ≡ q
    records : leb (both s t).records.0 most_records ≡ r
    assignments : leb (both s t).assignments.0 most_assignments ≡ n
    sums : within s.sum t.sum limit_wide ≡ m

  abbrev tested : Bool → Bool → Bool → Bool → Bool → Verdict
  tested p q r n m =
      if p then
      (if q then refused KeySeen 2 (shared_at 0 (keys_of a) (records_of b)) 6
      else (if r then (if n then (if m then Ok (both s t) else refused PastLimit 0 0 0) else refused TooManyAssignments 0 0 0) else refused TooManyRecords 0 0 0))
      else refused OtherSender 2 1 5

  abbrev joining : Verdict
  joining = on_accepted (weigh_both (sender a) (keys_of a) s (sender b) (records_of b) t) (given room)

  joining_is : (p q r n m : Bool) → Tests p q r n m → joining ≡ on_accepted (tested p q r n m) (given room)
  unfolding weigh_both weigh_limits
  joining_is p q r n m e = λ i. on_accepted (tested (e.senders i) (e.keys i) (e.records i) (e.assignments i) (e.sums i)) (given room)

module _ (day : ProcessDay) (a b : List ℕ) (room : ℕ) (s t : Totals) where
  pub data Outcome : Verdict → Type 0 where
    joins : Joinable a b s t → record_bytes * (both s t).records.0 ≤ room → Outcome (Ok (both s t))
    refuses : (x : Refusal) → JoinRefusing day a b room (Err x) → (record_bytes * (both s t).records.0 ≤ room → NotJoinable a b s t) → Outcome (Err x)

  joining_outcome : BothAccepted day a b s t → Outcome (joining a b room s t)
  unfolding within
  joining_outcome c =
      let e : Tests a b room s t _ _ _ _ _ = record { senders = refl; keys = refl; records = refl; assignments = refl; sums = refl } in
      subst Outcome (sym (joining_is a b room s t _ _ _ _ _ e)) (go _ _ _ _ _ e)
    where
      go : (p q r n m : Bool) → Tests a b room s t p q r n m → Outcome (on_accepted (tested a b room s t p q r n m) (given room))
      go false q r n m e =
          let d : sender a ≡ sender b → ⊥ = λ x. true≢false (sym (same_self (sender a)) ∙ ap (same (sender a)) x ∙ e.senders) in
          refuses _ (other_sender s t c d) (λ h. senders_differ d)
      go true true r n m e =
          let v = first_shared (keys_of a) 0 (records_of b) e.keys in
          let k = shared (keys_of a) (keys_of b) e.keys in
          let i : shared_at 0 (keys_of a) (records_of b) ≡ v.place + 1 = v.told ∙ ap (λ (x : ℕ). x + 1) (zero-add v.place) in
          refuses _ (subst (λ (x : ℕ). JoinRefusing day a b room (refused KeySeen 2 x 6)) (sym i) (shared_key s t v.place c (same_is _ _ e.senders) v.found))
          (λ h. key_in_both k.key k.first k.second)
      go true false false n m e =
          let p = leb-false _ _ e.records in
          refuses _ (many_records s t c (same_is _ _ e.senders) (not_shared _ _ e.keys) p) (λ h. records_passed p)
      go true false true false m e =
          let p = leb-false _ _ e.assignments in
          refuses _ (many_assignments s t c (same_is _ _ e.senders) (not_shared _ _ e.keys) (leb-true _ _ e.records) p) (λ h. assignments_passed p)
      go true false true true false e =
          let p = leb-false _ _ e.sums in
          refuses _ (large_sum s t c (same_is _ _ e.senders) (not_shared _ _ e.keys) (leb-true _ _ e.records) (leb-true _ _ e.assignments) p) (λ h. sum_passed p)
      go true false true true true e =
          last (leb (record_bytes * (both s t).records.0) room) refl record { senders = same_is _ _ e.senders; apart = not_shared _ _ e.keys; records = leb-true _ _ e.records; assignments = leb-true _ _ e.assignments; sums = leb-true _ _ e.sums }
        where
          last : (l : Bool) → leb (record_bytes * (both s t).records.0) room ≡ l → Joinable a b s t → Outcome (if l then Ok (both s t) else refused NoRoom 0 0 0)
          last true e j = joins j (leb-true _ _ e)
          last false e j = let p = leb-false _ _ e in refuses _ (short_output s t c j p) (λ h. absurd (omega (arith, p, h)))

-- ---- any two files
checked : (day : ProcessDay) (b : List ℕ) (o : Option Window) → window_of day ≡ o → check_of day b ≡ on_window o (λ w. judge w b)
unfolding check_of
checked day b o e = ap (λ (x : Option Window). on_window x (λ w. judge w b)) e

module _ (day : ProcessDay) (a b : List ℕ) (room : ℕ) where
  abbrev with_first : Verdict → Verdict → Verdict
  with_first x y = of_operand 1 x (λ s. of_operand 2 y (λ t. weigh_both (sender a) (keys_of a) s (sender b) (records_of b) t))

  abbrev with_room : Verdict → Verdict
  with_room v = on_accepted v (given room)

  -- the first file is judged before the second
  join_is : (w : Window) → window_of day ≡ Some w → join_of day a b room ≡ with_room (with_first (check_of day a) (check_of day b))
  unfolding join_of weigh_join weigh_second
  join_is w o =
      ap (λ (x : Option Window). with_room (on_window x (λ w. with_first (judge w a) (judge w b)))) o
      ∙ (λ i. with_room (with_first (sym (checked day a (Some w) o) i) (sym (checked day b (Some w) o) i)))

  join_both : (s t : Totals) → BothAccepted day a b s t → join_of day a b room ≡ joining a b room s t
  join_both s t c = let v = accepting day a s c.first in join_is v.window v.opened ∙ (λ i. with_room (with_first (c.first i) (c.second i)))

  pub outcome : (s t : Totals) → BothAccepted day a b s t → Outcome day a b room s t (join_of day a b room)
  outcome s t c = subst (Outcome day a b room s t) (sym (join_both s t c)) (joining_outcome day a b room s t c)

  -- in every case
  pub data Answer : Verdict → Type 0 where
    joined : (w : Window) (s t : Totals) → window_of day ≡ Some w → BothAccepted day a b s t → Joinable a b s t → record_bytes * (both s t).records.0 ≤ room → Answer (Ok (both s t))
    not_joined : (x : Refusal) → JoinRefusing day a b room (Err x) → Answer (Err x)

  pub answer : Answer (join_of day a b room)
  unfolding join_of weigh_join weigh_second
  answer = go (window_of day) refl
    where
      judged : (w : Window) (s t : Totals) (v : Verdict) → window_of day ≡ Some w → BothAccepted day a b s t → Outcome day a b room s t v → Answer v
      judged w s t v o c (joins j h) = joined w s t o c j h
      judged w s t v o c (refuses x r h) = not_joined x r

      second : (w : Window) (s : Totals) (v : Verdict) → window_of day ≡ Some w → check_of day a ≡ Ok s → check_of day b ≡ v → Answer (with_room (with_first (Ok s) v))
      second w s (Ok t) o e f =
          let c : BothAccepted day a b s t = record { first = e; second = f } in
          judged w s t (joining a b room s t) o c (joining_outcome day a b room s t c)
      second w s (Err x) o e f = not_joined _ (second_file w s x o e f)

      first : (w : Window) (v : Verdict) → window_of day ≡ Some w → check_of day a ≡ v → Answer (with_room (with_first v (judge w b)))
      first w (Ok s) o e = second w s (judge w b) o e (checked day b (Some w) o)
      first w (Err x) o e = not_joined _ (first_file w x o e)

      go : (o : Option Window) → window_of day ≡ o → Answer (with_room (on_window o (λ w. with_first (judge w a) (judge w b))))
      go (Some w) p = first w (judge w a) p (checked day a (Some w) p)
      go None p = not_joined _ (no_day p)

-- ---- each reason has its answer
differ : (x y : List ℕ) → (x ≡ y → ⊥) → same x y ≡ false
differ x y n = go (same x y) refl
  where
    go : (p : Bool) → same x y ≡ p → p ≡ false
    go true e = absurd (n (same_is x y e))
    go false e = refl

agree : (x y : List ℕ) → x ≡ y → same x y ≡ true
agree x y e = ap (same x) (sym e) ∙ same_self x

module _ (day : ProcessDay) (a b : List ℕ) (room : ℕ) where
  pub refuses_so : (v : Verdict) → JoinRefusing day a b room v → join_of day a b room ≡ v
  unfolding join_of weigh_join weigh_second within
  refuses_so v (no_day p) = ap (λ (x : Option Window). with_room day a b room (on_window x (λ w. with_first day a b room (judge w a) (judge w b)))) p
  refuses_so v (first_file w x o e) = join_is day a b room w o ∙ ap (λ (y : Verdict). with_room day a b room (with_first day a b room y (check_of day b))) e
  refuses_so v (second_file w s x o e f) = join_is day a b room w o ∙ (λ i. with_room day a b room (with_first day a b room (e i) (f i)))
  refuses_so v (other_sender s t c d) =
      join_both day a b room s t c
      ∙ joining_is a b room s t _ _ _ _ _ record { senders = differ _ _ d; keys = refl; records = refl; assignments = refl; sums = refl }
  refuses_so v (shared_key s t i c e f) =
      join_both day a b room s t c
      ∙ joining_is a b room s t _ _ _ _ _ record { senders = agree _ _ e; keys = told_shared _ _ i f; records = refl; assignments = refl; sums = refl }
      ∙ ap (λ (n : ℕ). refused KeySeen 2 n 6) (told_place _ _ i f)
  refuses_so v (many_records s t c e n p) =
      join_both day a b room s t c
      ∙ joining_is a b room s t _ _ _ _ _ record { senders = agree _ _ e; keys = shares_none _ _ n; records = lt-leb _ _ p; assignments = refl; sums = refl }
  refuses_so v (many_assignments s t c e n p q) =
      join_both day a b room s t c
      ∙ joining_is a b room s t _ _ _ _ _ record { senders = agree _ _ e; keys = shares_none _ _ n; records = le-leb _ _ p; assignments = lt-leb _ _ q; sums = refl }
  refuses_so v (large_sum s t c e n p q r) =
      join_both day a b room s t c
      ∙ joining_is a b room s t _ _ _ _ _ record { senders = agree _ _ e; keys = shares_none _ _ n; records = le-leb _ _ p; assignments = le-leb _ _ q; sums = lt-leb _ _ r }
  refuses_so v (short_output s t c j p) =
      join_both day a b room s t c
      ∙ joining_is a b room s t _ _ _ _ _ record {
        senders = agree _ _ j.senders;
        keys = shares_none _ _ j.apart;
        records = le-leb _ _ j.records;
        assignments = le-leb _ _ j.assignments;
        sums = le-leb _ _ j.sums;
      }
      ∙ ap (λ (l : Bool). if l then Ok (both s t) else refused NoRoom 0 0 0) (lt-leb _ _ p)
