-- The records before a first fault follow each other soundly, and what they leave is the state of the run.
-- Assumes nothing.
use Prim.Native.Nat.{ℕ, ◌+◌, ◌^◌, ◌≤◌, ◌<◌}
use mathlib.Core.Path.{◌≡◌, refl, sym, ap, subst, ◌∙◌}
use mathlib.Core.List.{List, [], ◌∷◌, ◌++◌}
use mathlib.Core.Bool.{true}
use native.Mathlib.Nat.{pow-le-pow_right}
use native.Mathlib.Omega.{arith}
use borrow.Author.Tests.{lt-ltb, le-leb}
use lib.ListN.{length, length-take}
use Rattle.limits.specs.Limits.{most_records}
use Rattle.dates.specs.declared.Window.{Window}
use Rattle.fields.proofs.Tests.{and_both}
use Rattle.fields.proofs.Width.{value_below}
use Rattle.figures.specs.Figures.{within, limit_wide}
use Rattle.figures.specs.Totals.{none, ◌⊕◌}
use Rattle.figures.specs.declared.totals.Totals.{Totals}
use Rattle.figures.proofs.Laws.{⊕-assoc, ⊕-none}
use Rattle.run_growth.specs.Bounds.{Bounded, Small}
use Rattle.layout.specs.Rows.{AllHold}
use Rattle.layout.specs.declared.Reason.{Reason}
use Rattle.laws.specs.Meets.{gains, turns, Meets, FirstFault}
use Rattle.laws.proofs.Follows.{known}
use Rattle.rules.specs.Codes.{kind_of}
use Rattle.rules.specs.Fields.{bytes_in, transaction_field}
use Rattle.rules.specs.Growth.{gain_for, gain, turn_for, turn, keys, start}
use Rattle.rules.specs.Layouts.{record30, table_for, rows}
use Rattle.rules.specs.declared.Assignment.{Assignment}
use Rattle.rules.specs.declared.Kind.{Kind}
use Rattle.rules.specs.declared.Kind.TheVariants.{R10, R20, R30, R31, R40, R41, R49, R50, R88, R89, Other}
use Rattle.rules.specs.declared.Mode.{Mode}
use Rattle.rules.specs.declared.State.{State}
use Rattle.run_loop.proofs.Bounds.{pays, small_next}
use Rattle.tool_walk.specs.Seen.{told, outside_of, onward_for, onwards, seen_in, has_room, Payable, Follows, Followed}
use Rattle.tool_walk.specs.declared.Seen.{Seen}

-- ---- one record more, here and in the rules
one : (k : Kind) (r : List ℕ) (f : Totals) (a : Assignment) → (k ≡ Other → ⊥) → onward_for k r (told f a) ≡ told (f ⊕ gain_for k r) (turn_for k r a)
one R10 r f a n = refl
one R20 r f a n = refl
one R30 r f a n = refl
one R31 r f a n = refl
one R40 r f a n = refl
one R41 r f a n = refl
one R49 r f a n = refl
one R50 r f a n = refl
one R88 r f a n = refl
one R89 r f a n = refl
one Other r f a n = absurd (n refl)

-- what sound records leave is the rules' state
pub leaves : (f : Totals) (a : Assignment) (rs : List (List ℕ)) → Followed (told f a) rs → onwards (told f a) rs ≡ told (f ⊕ gains rs) (turns a rs)
unfolding Followed onwards gains turns
leaves f a [] h = ap (λ (x : Totals). told x a) (sym (⊕-none f))
leaves f a (r ∷ rs) h =
    let e = one (kind_of r) r f a h.0.known in
    ap (λ (b : Seen). onwards b rs) e
    ∙ leaves (f ⊕ gain r) (turn r a) rs (subst (λ (b : Seen). Followed b rs) e h.1)
    ∙ ap (λ (x : Totals). told x (turns (turn r a) rs)) (⊕-assoc f (gain r) (gains rs))

-- ---- records that meet the rules follow each other soundly
room : (k : ℕ) (t : Totals) → Bounded k t → k < most_records → has_room t ≡ true
unfolding has_room
room k t b h =
    and_both _ _
    (and_both _ _
    (and_both _ _ (lt-ltb t.assignments.0 most_records (omega (arith, b.assignments))) (lt-ltb t.transactions.0 most_records (omega (arith, b.transactions))))
    (lt-ltb t.records.0 most_records (omega (arith, b.records))))
    (le-leb t.sum.0 limit_wide.0 b.sum)

payable : (f : Totals) (ks : List ℕ) (w : Window) (a : Assignment) (r : List ℕ) → AllHold f ks r (record30 w a r) → Payable (told f a) r
unfolding AllHold within
payable f ks w a r h =
    let p = pays f ks w a r h in
    let d = h.1.1.1.1.0 in
    let l : length (bytes_in transaction_field r) ≤ 7 = rw length-take (omega arith) in
    let q : 10 ^ length (bytes_in transaction_field r) ≤ 10000000 = pow-le-pow_right {n = 10} (omega arith) {i = length (bytes_in transaction_field r)} {j = 7} l in
    record {
      number = d;
      small = omega (arith, value_below (bytes_in transaction_field r) d, q);
      date = h.1.1.1.1.1.1.0;
      amount = h.1.1.1.1.1.1.1.1.1.1.1.0;
      takes = record { own = le-leb _ _ p.own; file = le-leb _ _ p.file };
    }

-- of the rows that a sound record meets: its type is known, and its table holds
module _ (m : Mode) (w : Window) (f : Totals) (ks : List ℕ) (a : Assignment) (r : List ℕ) (h : AllHold f ks r (rows m w a r)) where
  typed : kind_of r ≡ Other → ⊥
  unfolding AllHold
  typed = known m a (kind_of r) h.1.0

  table : AllHold f ks r (table_for (kind_of r) w a r)
  unfolding AllHold
  table = h.1.1

  follows : (k : ℕ) → Small k (record { file = f; assignment = a }) → k < most_records → Follows (told f a) r
  follows k s l =
      record {
        file = room k f s.file l;
        own = room k a.totals.totals s.assignment l;
        known = typed;
        paid = λ e. payable f ks w a r (subst (λ (x : Kind). AllHold f ks r (table_for x w a r)) e table);
      }

pub sound_followed : (m : Mode) (w : Window) (k : ℕ) (f : Totals) (ks : List ℕ) (a : Assignment) (rs : List (List ℕ)) → Small k (record { file = f; assignment = a }) → k + length rs ≤ most_records
    → Meets m w f ks a rs → Followed (told f a) rs
unfolding Followed Meets
sound_followed m w k f ks a [] s l h = tt
sound_followed m w k f ks a (r ∷ rs) s l h =
    let st : State = record { file = f; assignment = a } in
    let e = one (kind_of r) r f a (typed m w f ks a r h.0) in
    let s' = small_next k (kind_of r) w st ks r s (table m w f ks a r h.0) in
    (follows m w f ks a r h.0 k s (omega arith), subst (λ (b : Seen). Followed b rs) (sym e) (sound_followed m w (k + 1) (f ⊕ gain r) (ks ++ keys r) (turn r a) rs s' (omega arith) h.1))

small_start : Small 0 (record { file = none; assignment = start.assignment })
small_start =
    record {
      file = record { assignments = omega arith; transactions = omega arith; records = omega arith; sum = omega arith };
      assignment = record { assignments = omega arith; transactions = omega arith; records = omega arith; sum = omega arith };
      specified = omega arith;
      credited = omega arith;
    }

-- THE THEOREM: before the first fault of a file or a draft the walk sees what the rules see
pub seen_before : (m : Mode) (w : Window) (rs : List (List ℕ)) (i : ℕ) (n : Reason) (k : ℕ) (v : FirstFault m w none [] start.assignment rs i n k) → i ≤ most_records
    → Followed (outside_of Other none) v.before × (seen_in v.before ≡ told (none ⊕ gains v.before) (turns start.assignment v.before))
seen_before m w rs i n k v l =
    let f = sound_followed m w 0 none [] start.assignment v.before small_start (omega (arith, v.place)) v.meets in
    (f, leaves none start.assignment v.before f)
