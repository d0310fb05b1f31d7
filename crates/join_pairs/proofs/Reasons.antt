-- What stands against joining two accepted files, in the stated order.
-- Assumes nothing.
use Prim.Native.Nat.{ℕ, ◌≤◌, ◌<◌}
use mathlib.Core.Path.{◌≡◌, refl, sym, ap, ap₂, ◌∙◌}
use mathlib.Core.List.{List}
use mathlib.Core.Bool.{Bool, true, false}
use borrow.Author.Tests.{le-leb, lt-leb}
use lib.Dec.{leb}
use Rattle.std.specs.Prelude.{if◌then◌else◌, Ok, Err}
use Rattle.fields.specs.Bytes.{same}
use Rattle.figures.specs.Figures.{within, limit_wide}
use Rattle.figures.specs.declared.totals.Totals.{Totals}
use Rattle.limits.specs.Limits.{most_records, most_assignments}
use Rattle.operations.specs.Joining.{sender, both, shares, shared_at, weigh_limits, weigh_both}
use Rattle.rules.specs.Growth.{all_keys}
use Rattle.rules.specs.Refusals.{refusal, refused}
use Rattle.rules.specs.Run.{records_of}
use Rattle.rules.specs.declared.Refusal.{Refusal}
use Rattle.join_pairs.specs.Pairs.{Judged}
use Rattle.rules.specs.Refusals.{Verdict}
use Rattle.layout.specs.declared.Reason.{Reason}
use Rattle.layout.specs.declared.Reason.TheVariants.{TooManyRecords, PastLimit, KeySeen, TooManyAssignments, OtherSender}

-- ---- the limits, by what each test gives
abbrev limited : Totals → Totals → Bool → Bool → Bool → Verdict
limited s t r n m = if r then (if n then (if m then Ok (both s t) else refused PastLimit 0 0 0) else refused TooManyAssignments 0 0 0) else refused TooManyRecords 0 0 0

module _ (s t u : Totals) (e : u ≡ both s t) where
  limits_are : (r n m : Bool) → leb u.records.0 most_records ≡ r → leb u.assignments.0 most_assignments ≡ n → within s.sum t.sum limit_wide ≡ m → weigh_limits s t ≡ limited s t r n m
  unfolding weigh_limits
  limits_are r n m f g h =
      (λ i. limited s t (leb (sym e i).records.0 most_records) (leb (sym e i).assignments.0 most_assignments) (within s.sum t.sum limit_wide))
      ∙ (λ i. limited s t (f i) (g i) (h i))

  pub many_records : (x : Refusal) → x ≡ refusal TooManyRecords 0 0 0 → most_records < u.records.0 → Err x ≡ weigh_limits s t
  many_records x q h = ap Err q ∙ sym (limits_are _ _ _ (lt-leb _ _ h) refl refl)

  module _ (few : u.records.0 ≤ most_records) where
    pub many_assignments : (x : Refusal) → x ≡ refusal TooManyAssignments 0 0 0 → most_assignments < u.assignments.0 → Err x ≡ weigh_limits s t
    many_assignments x q h = ap Err q ∙ sym (limits_are _ _ _ (le-leb _ _ few) (lt-leb _ _ h) refl)

    module _ (most : u.assignments.0 ≤ most_assignments) (w : Bool) (i : w ≡ within s.sum t.sum limit_wide) where
      pub large_sum : (x : Refusal) → x ≡ refusal PastLimit 0 0 0 → w ≡ false → Err x ≡ weigh_limits s t
      large_sum x q h = ap Err q ∙ sym (limits_are _ _ _ (le-leb _ _ few) (le-leb _ _ most) (sym i ∙ h))

      pub in_limits : w ≡ true → Ok u ≡ weigh_limits s t
      in_limits h = ap Ok e ∙ sym (limits_are _ _ _ (le-leb _ _ few) (le-leb _ _ most) (sym i ∙ h))

-- ---- a refusal that names the second file
pub of_second : (x y : Refusal) (n : Reason) (at field : ℕ) → x ≡ refusal n 0 at field → y ≡ refusal x.reason 2 x.«record» x.field → y ≡ refusal n 2 at field
of_second x y n at field e q = q ∙ ap (λ (z : Refusal). refusal z.reason 2 z.«record» z.field) e

-- ---- senders, then keys, then the limits
module _ (a b : List ℕ) (s t : Totals) (ours theirs : List ℕ) (j : Judged a s ours) (k : Judged b t theirs) (x : Bool) (e : x ≡ same (sender a) (sender b)) where
  abbrev weighed : Verdict
  weighed = weigh_both (sender a) (all_keys (records_of a)) s (sender b) (records_of b) t

  abbrev tested : Bool → Bool → Verdict
  tested p q = if p then (if q then refused KeySeen 2 (shared_at 0 (all_keys (records_of a)) (records_of b)) 6 else weigh_limits s t) else refused OtherSender 2 1 5

  pub other_sender : (y : Refusal) → y ≡ refusal OtherSender 2 1 5 → x ≡ false → Err y ≡ weighed
  unfolding weigh_both
  other_sender y q h = ap Err q ∙ sym (ap (λ (p : Bool). tested p (shares (all_keys (records_of a)) (all_keys (records_of b)))) (sym e ∙ h))

  module _ (h : x ≡ true) (y : Bool) (f : y ≡ shares ours theirs) where
    on_keys : (p : Bool) → y ≡ p → weighed ≡ tested true p
    unfolding weigh_both
    on_keys p g = ap₂ tested (sym e ∙ h) (sym (f ∙ ap₂ shares j.keys k.keys) ∙ g)

    pub shared_key : (z : Refusal) (n : ℕ) → z ≡ refusal KeySeen 2 n 6 → n ≡ shared_at 0 ours (records_of b) → y ≡ true → Err z ≡ weighed
    shared_key z n q i g = ap Err q ∙ ap (λ (m : ℕ). refused KeySeen 2 m 6) (i ∙ ap (λ (l : List ℕ). shared_at 0 l (records_of b)) j.keys) ∙ sym (on_keys true g)

    pub to_limits : (v : Verdict) → v ≡ weigh_limits s t → y ≡ false → v ≡ weighed
    to_limits v q g = q ∙ sym (on_keys false g)
