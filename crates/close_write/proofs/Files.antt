-- The file that a draft is closed to, written one assignment behind the other.
-- Assumes nothing.
use Prim.Native.Nat.{ℕ, ◌+◌, ◌-◌, ◌*◌, ◌/◌, ◌≤◌, ◌<◌}
use mathlib.Core.Path.{◌≡◌, refl, sym, ap, ap₂, subst, ◌∙◌}
use mathlib.Core.List.{List, [], ◌∷◌, ◌++◌, append_assoc, append-nil}
use mathlib.Core.Bool.{Bool, true, false, ◌&&◌, and-false, or-false, false≢true}
use native.Mathlib.Nat.{zero-add}
use native.Mathlib.Omega.{arith}
use borrow.Author.Tests.{eqb-true, eq-eqb, ne_eqb, ltb-true, ltb-false}
use borrow.Rule.Slice.PartMut.{put_mid}
use lib.Dec.{eqb, ltb}
use lib.ListN.{length, take, drop, length-append, length-take, length-drop}
use lib.Seq.{drop-drop, drop-append_seam, drop-append-add}
use Rattle.std.specs.Prelude.{if◌then◌else◌}
use Rattle.dates.specs.Dates.{date, earlier}
use Rattle.dates.specs.declared.Date.{Date}
use Rattle.dates.proofs.Laws.{earlier_comm, none_earlier}
use Rattle.figures.specs.Figures.{amount, count}
use Rattle.figures.specs.Totals.{none, ◌⊕◌, one_record, one_assignment, ◌⊞◌, undated, with_records, Room}
use Rattle.figures.specs.declared.totals.Totals.{Totals}
use Rattle.figures.specs.declared.totals.AssignmentTotals.{AssignmentTotals}
use Rattle.figures.proofs.Laws.{⊕-none, none-⊕}
use Rattle.run_growth.specs.Bounds.{Bounded}
use Rattle.laws.specs.Meets.{gains, turns, Meets}
use Rattle.laws.proofs.Bytes.{whole, record_count, laid}
use Rattle.laws.proofs.Made.{bytes_join}
use Rattle.layout.specs.Rows.{member, AllHold}
use Rattle.operations.specs.Ends.{end_record, end88}
use Rattle.operations.specs.Closing.{opens, closed_figures, behind88, with_ends, bytes_of, closed_file}
use Rattle.services.specs.Services.{code_for, service_for}
use Rattle.rules.specs.Codes.{service_code, record_code, kind_for, kind_of, number_of_kind}
use Rattle.rules.specs.Growth.{gain_for, gain, turn_for, turn, after, start, nothing_yet, opened}
use Rattle.rules.specs.Order.{may_follow, may_end}
use Rattle.rules.specs.Run.{chunks, records_of, record_at, bad_length}
use Rattle.rules.specs.declared.Assignment.{Assignment}
use Rattle.rules.specs.declared.Kind.{Kind}
use Rattle.rules.specs.declared.Kind.TheVariants.{R10, R20, R30, R31, R40, R41, R49, R50, R88, R89, Other}
use Rattle.rules.specs.declared.Mode.TheVariants.{Draft}
use Rattle.rules.specs.declared.State.{State}
use Rattle.rules.proofs.Codes.{twenty}
use Rattle.run_figures.specs.Blocks.{blocks, figures_from}
use Rattle.run_figures.proofs.Blocks.{blocks_on, blocks_open}
use Rattle.run_loop.proofs.Loop.{small_start}
use Rattle.rules.proofs.Records.{rest_start, rest_end}
use Rattle.field_texts.proofs.Wrote.{Wrote, at_first, behind, told, wrote_length, room_behind}
use Rattle.write_file.proofs.Ends.{end_length}
use Rattle.close_write.specs.Block.{records_from, between, state, Ahead, behind_end, Block}
use Rattle.run_loop.proofs.Keys.{twenty_code}
use Rattle.close_write.proofs.Walk.{next_of, plain, holds, step_on, step_turned, Ending, ending}
use Rattle.run_figures.specs.Slots.{entry, Legible, Holding}
use Rattle.run_figures.proofs.Held.{Small, AllSmall, entry_is, legible, held_next}
use Rattle.run_figures.proofs.Assignments.{AllListed, all_listed, gains_bounded, figures_of_lem}
use Rattle.close_write.specs.Weighed.{span, end_of, InDraft, Weighed}

-- ---- records and bytes
span_is : (k n : ℕ) (d : List ℕ) → k ≤ n → n ≤ length d / 81 → bytes_of (between k n d) ≡ span k n d
span_is k n d h m =
    let e : 81 * (n - k) ≡ 81 * n - 81 * k = omega arith in
    laid (n - k) (drop (81 * k) d) (rw length-drop (omega arith)) ∙ ap (λ (x : ℕ). take x (drop (81 * k) d)) e

pub span_length : (k n : ℕ) (d : List ℕ) → k ≤ n → n ≤ length d / 81 → length (span k n d) ≡ 81 * n - 81 * k
span_length k n d h m = length-take (81 * n - 81 * k) (drop (81 * k) d) ∙ simp length-drop (omega arith)

-- ---- totals
same_figures : (x y : Totals) → x.assignments.0 ≡ y.assignments.0 → x.transactions.0 ≡ y.transactions.0 → x.records.0 ≡ y.records.0 → x.sum.0 ≡ y.sum.0 → x.first ≡ y.first → x ≡ y
same_figures x y a t r s f = λ i. record { assignments = count (a i); transactions = count (t i); records = count (r i); sum = amount (s i); first = f i }

-- the totals of the file so far: those of the draft so far, with an 88 for each assignment
abbrev pub sofar : Totals → Totals
sofar t = with_records t.assignments.0 t

no_date : (d : Date) → earlier d (date 0) ≡ d
no_date d = earlier_comm d (date 0) ∙ none_earlier d

-- an assignment and its 88 more
block_more : (x y t : Totals) → t.assignments.0 ≡ 1 → y ⊕ one_record ≡ x ⊕ t → sofar x ⊕ t ≡ sofar y
block_more x y t o e =
    let a : y.assignments.0 + 0 ≡ x.assignments.0 + t.assignments.0 = ap (λ (z : Totals). z.assignments.0) e in
    let r : y.records.0 + 1 ≡ x.records.0 + t.records.0 = ap (λ (z : Totals). z.records.0) e in
    let n : y.transactions.0 + 0 ≡ x.transactions.0 + t.transactions.0 = ap (λ (z : Totals). z.transactions.0) e in
    let s : y.sum.0 + 0 ≡ x.sum.0 + t.sum.0 = ap (λ (z : Totals). z.sum.0) e in
    let f : earlier y.first (date 0) ≡ earlier x.first t.first = ap (λ (z : Totals). z.first) e in
    same_figures (sofar x ⊕ t) (sofar y) (omega arith) (omega arith) (omega arith) (omega arith) (sym f ∙ no_date y.first)

-- the 89 more
all_told : (t : Totals) → sofar t ⊕ one_record ≡ closed_figures t
all_told t = same_figures (sofar t ⊕ one_record) (closed_figures t) (omega arith) (omega arith) (omega arith) (omega arith) (no_date t.first)

-- ---- how a sound draft begins
kind_again : (k : Kind) → kind_for (number_of_kind k) ≡ k
unfolding kind_for
kind_again R10 = refl
kind_again R20 = refl
kind_again R30 = refl
kind_again R31 = refl
kind_again R40 = refl
kind_again R41 = refl
kind_again R49 = refl
kind_again R50 = refl
kind_again R88 = refl
kind_again R89 = refl
kind_again Other = refl

-- the only one that is listed
listed_one : (k : Kind) (n : ℕ) → member (number_of_kind k) (n ∷ []) ≡ true → k ≡ kind_for n
unfolding member
listed_one k n h = sym (kind_again k) ∙ ap kind_for (eqb-true (number_of_kind k) n (sym (or-false (eqb (number_of_kind k) n)) ∙ h))

-- the 10 first, then a 20
ten_first : (k : Kind) → may_follow Draft (nothing_yet Other) k ≡ true → k ≡ R10
unfolding may_follow kind_for
ten_first k h = listed_one k 10 h

then_twenty : (k : Kind) → may_follow Draft (nothing_yet R10) k ≡ true → k ≡ R20
unfolding may_follow kind_for
then_twenty k h = listed_one k 20 h

not_yet_end : may_end Draft (nothing_yet R10) ≡ true → ⊥
unfolding may_end may_follow member
not_yet_end h = false≢true h

ten_not_twenty : R20 ≡ R10 → ⊥
ten_not_twenty z = let y : ◌≡◌ {A = ℕ} 20 10 = ap number_of_kind z in omega arith

ten_not_other : R10 ≡ Other → ⊥
ten_not_other z = let y : ◌≡◌ {A = ℕ} 10 0 = ap number_of_kind z in omega arith

ten_opens_not : (n : ℕ) → kind_for n ≡ R10 → eqb n 20 ≡ false
unfolding kind_for
ten_opens_not n e = ne_eqb n 20 (λ q. ten_not_twenty (sym (ap kind_for q) ∙ e))

some_records : (d : List ℕ) → bad_length d ≡ false → 0 < length d / 81
some_records d h = let w = whole d h in omega (arith, w.some, w.exact)

ten_turned : (r : List ℕ) → kind_of r ≡ R10 → turns (nothing_yet Other) (r ∷ []) ≡ nothing_yet R10
unfolding turns
ten_turned r e = ap (λ (k : Kind). turn_for k r (nothing_yet Other)) e

ten_gained : (r : List ℕ) → kind_of r ≡ R10 → gains (r ∷ []) ≡ one_record
unfolding gains
ten_gained r e = ⊕-none (gain r) ∙ ap (λ (k : Kind). gain_for k r) e

none_to_end : (st : State) (r : List ℕ) (rs : List (List ℕ)) → st.file.assignments.0 ≡ 0 → with_ends st (r ∷ rs) ≡ r ∷ with_ends (after st r) rs
unfolding with_ends
none_to_end st r rs h =
    ap (λ (b : Bool). if b then end88 (behind88 st).assignment ∷ r ∷ with_ends (after (behind88 st) r) rs else r ∷ with_ends (after st r) rs)
    (ap (λ (n : ℕ). opens r && ltb 0 n) h ∙ and-false (opens r))

-- what is written behind the 10: it has no assignment to end
ten_written : (r s : List ℕ) (rs : List (List ℕ)) → kind_of r ≡ R10 → kind_of s ≡ R20 → with_ends start (r ∷ s ∷ rs) ≡ r ∷ behind_end one_record (s ∷ rs)
unfolding behind_end
ten_written r s rs e k =
    plain start r (s ∷ rs) (ten_opens_not (record_code r) e)
    ∙ ap (λ (x : List (List ℕ)). r ∷ x)
    (none_to_end (after start r) s rs (ap (λ (j : Kind). 0 + (gain_for j r).assignments.0) e)
    ∙ ap₂ (λ (i j : Kind). s ∷ with_ends (state ((none ⊕ gain_for i r) ⊕ gain_for j s) (turn_for j s (turn_for i r (nothing_yet Other)))) rs) e k
    ∙ ap (λ (f : Totals). s ∷ with_ends (state (f ⊕ one_assignment) (opened (service_for (service_code s)))) rs) (none-⊕ one_record))

module _ (d : List ℕ) (totals : Totals) (v : Weighed d totals) where
  n>0 : 0 < length d / 81
  n>0 = some_records d v.lengthy

  at_first_record : Ahead d 0
  unfolding gains chunks
  at_first_record =
      record {
        window = v.window;
        file = none;
        keys = [];
        assignment = nothing_yet Other;
        counted = refl;
        meets = subst (Meets Draft v.window none [] (nothing_yet Other)) (sym (rest_start d (length d / 81))) v.meets;
        small = small_start;
      }

  pub header : kind_of (record_at 0 d) ≡ R10
  unfolding AllHold at_first_record
  header = ten_first (kind_of (record_at 0 d)) (holds d 0 at_first_record n>0).1.0

  pub behind_header : Ahead d 1
  behind_header = step_on d 0 at_first_record n>0

  turned : behind_header.assignment ≡ nothing_yet R10
  unfolding behind_header at_first_record
  turned = step_turned d 0 at_first_record n>0 ∙ ap (λ (k : Kind). turn_for k (record_at 0 d) (nothing_yet Other)) header

  records_are : records_of d ≡ record_at 0 d ∷ records_from 1 d
  records_are = sym (rest_start d (length d / 81)) ∙ next_of d 0 n>0

  -- a 10 alone is no draft
  pub more_records : 1 < length d / 81
  more_records = go (ltb 1 (length d / 81)) refl
    where
      alone : 1 ≡ length d / 81 → may_end Draft (nothing_yet R10) ≡ true
      alone e =
          let i : records_of d ≡ record_at 0 d ∷ [] = records_are ∙ ap (λ (x : List (List ℕ)). record_at 0 d ∷ x) (rest_end d (length d / 81) 1 e) in
          let t : turns (nothing_yet Other) (record_at 0 d ∷ []) ≡ nothing_yet R10 = ten_turned (record_at 0 d) header in
          ap (may_end Draft) (sym (ap (turns (nothing_yet Other)) i ∙ t)) ∙ v.ends.may

      go : (b : Bool) → ltb 1 (length d / 81) ≡ b → 1 < length d / 81
      go true e = ltb-true 1 (length d / 81) e
      go false e = absurd (not_yet_end (alone (omega (arith, ltb-false 1 (length d / 81) e, n>0))))

  pub first_opens : opens (record_at 1 d) ≡ true
  unfolding AllHold
  first_opens =
      let m = (holds d 1 behind_header more_records).1.0 in
      let k = then_twenty (kind_of (record_at 1 d)) (subst (λ (x : Assignment). may_follow Draft x (kind_of (record_at 1 d)) ≡ true) turned m) in
      eq-eqb (record_code (record_at 1 d)) 20 (twenty_code (record_code (record_at 1 d)) k)

  -- the 10, then the assignments and the 89
  pub begins : closed_file d ≡ span 0 1 d ++ bytes_of (behind_end (sofar (gains (chunks 1 d))) (records_from 1 d))
  unfolding closed_file bytes_of chunks
  begins =
      let r = record_at 0 d in
      let s = record_at 1 d in
      let k : kind_of s ≡ R20 = twenty (record_code s) (eqb-true (record_code s) 20 first_opens) in
      let i = next_of d 1 more_records in
      ap (λ (x : List (List ℕ)). bytes_of (with_ends start x)) (records_are ∙ ap (λ (x : List (List ℕ)). r ∷ x) i)
      ∙ ap bytes_of (ten_written r s (records_from 2 d) header k)
      ∙ ap₂ (λ (f : Totals) (x : List (List ℕ)). r ++ bytes_of (behind_end (sofar f) x)) (sym (ten_gained r header)) (sym i)

  -- the record 10 is no assignment's
  as_many : totals.assignments.0 ≡ (gains (records_from 1 d)).assignments.0
  unfolding gains
  as_many =
      let r = record_at 0 d in
      let n : (gains (r ∷ records_from 1 d)).assignments.0 ≡ 0 + (gains (records_from 1 d)).assignments.0 = ap (λ (k : Kind). (gain_for k r).assignments.0 + (gains (records_from 1 d)).assignments.0) header in
      ap (λ (x : Totals). x.assignments.0) v.counted ∙ ap (λ (rs : List (List ℕ)). (gains rs).assignments.0) records_are ∙ n ∙ zero-add _

-- ---- the figures that the run left, from the k-th record of the draft on: those of the j-th of n assignments, and of all after it
pub record Reading (d figures : List ℕ) (n j k : ℕ) : Type 0 where
  pub held : Holding figures j (figures_from (records_from k d))
  pub small : AllSmall (figures_from (records_from k d))
  pub left : j + length (figures_from (records_from k d)) ≡ n + 1

pub reading_start : (d : List ℕ) (totals : Totals) (figures : List ℕ) → Weighed d totals → Holding figures 0 (blocks start.assignment (records_of d)) → Reading d figures totals.assignments.0 1 1
reading_start d totals figures v h =
    let r = record_at 0 d in
    let s = record_at 1 d in
    let a = behind_header d totals v in
    let n = next_of d 1 (more_records d totals v) in
    let k : kind_of s ≡ R20 = twenty (record_code s) (eqb-true (record_code s) 20 (first_opens d totals v)) in
    let b : blocks start.assignment (records_of d) ≡ (turn r start.assignment).totals ∷ figures_from (records_from 1 d) =
    ap (blocks start.assignment) (records_are d totals v) ∙ blocks_on start.assignment r (records_from 1 d) (λ e. ten_not_twenty (sym e ∙ header d totals v))
    ∙ ap (blocks (turn r start.assignment)) n ∙ blocks_open (turn r start.assignment) s (records_from 2 d) k ∙ ap (λ (x : List (List ℕ)). (turn r start.assignment).totals ∷ figures_from x) (sym n) in
    let l : AllListed (s ∷ records_from 2 d) = subst AllListed n (all_listed Draft a.window a.file a.keys a.assignment (records_from 1 d) (λ e. ten_not_other (sym (ap (λ (x : Assignment). x.last) (turned d totals v)) ∙ e)) a.meets) in
    let g = gains_bounded Draft a.window a.file a.keys a.assignment (records_from 1 d) a.small.file.sum (omega (arith, a.small.file.assignments)) (omega (arith, record_count d, ap length (records_are d totals v), v.few)) a.meets in
    let f = figures_of_lem s (records_from 2 d) k l in
    let m : length (figures_from (records_from 1 d)) ≡ (gains (records_from 1 d)).assignments.0 = subst (λ (x : List (List ℕ)). length (figures_from x) ≡ (gains x).assignments.0) (sym n) f.many in
    record {
      held = held_next figures 0 _ _ (subst (Holding figures 0) b h);
      small = subst (λ (x : List (List ℕ)). AllSmall (figures_from x)) (sym n) (f.small (subst (λ (x : List (List ℕ)). Bounded 200000 (gains x)) n g));
      left = omega (arith, m, as_many d totals v);
    }

-- the assignment at hand, as the code comes to it, and those behind it
module _ (d figures : List ℕ) (m j k : ℕ) (v : Reading d figures m j k) (e : Ending d k) where
  now_held : Holding figures j (e.block.own ∷ figures_from (records_from e.next d))
  now_held = subst (Holding figures j) e.block.left v.held

  now_small : Small e.block.own × AllSmall (figures_from (records_from e.next d))
  unfolding AllSmall
  now_small = subst AllSmall e.block.left v.small

  pub may_read : Legible figures j
  may_read = legible figures j _ _ now_held now_small.0

  module _ (x : AssignmentTotals) (q : x ≡ entry figures j) where
    own_is : x ≡ e.block.own
    own_is = q ∙ entry_is figures j _ _ now_held now_small.0.single

    pub takes_end : Room x.totals one_record
    takes_end =
        let b = subst (λ (y : AssignmentTotals). Bounded 200000 y.totals) (sym own_is) now_small.0.bounded in
        record { assignments = omega (arith, b.assignments); transactions = omega (arith, b.transactions); records = omega (arith, b.records); sum = omega (arith, b.sum) }

    next_is : e.next ≡ k + x.totals.records.0
    next_is = e.block.next ∙ ap (λ (y : AssignmentTotals). k + y.totals.records.0) (sym own_is)

    pub block_is : (y : AssignmentTotals) → y ≡ x ⊞ undated one_record → Block d k (k + x.totals.records.0) y
    block_is y p =
        let i : e.totals ≡ y = e.block.ended ∙ ap (λ (z : AssignmentTotals). z ⊞ undated one_record) (sym own_is) ∙ sym p in
        subst (λ (n : ℕ). Block d k n y) next_is (subst (Block d k e.next) i e.block)

    pub reading_next : Reading d figures m (j + 1) (k + x.totals.records.0)
    reading_next = subst (Reading d figures m (j + 1)) next_is record { held = held_next figures j _ _ now_held; small = now_small.1; left = omega (arith, v.left, ap length e.block.left) }

-- ---- the writing: the file is written up to the k-th record of the draft, and at bytes long so far
pub record Going (d before out : List ℕ) (at k : ℕ) : Type 0 where
  pub written : List ℕ
  pub wrote : Wrote written before out
  pub place : at ≡ length written
  pub most : k ≤ length d / 81
  pub few : length d / 81 ≤ 200000
  pub ahead : Ahead d k
  pub opener : k < length d / 81 → opens (record_at k d) ≡ true
  pub all : closed_file d ≡ written ++ bytes_of (behind_end (sofar (gains (chunks k d))) (records_from k d))
  pub room : length (closed_file d) ≤ length before

within_room : (x a b c : List ℕ) (n : ℕ) → x ≡ a ++ (b ++ c) → length x ≤ n → length a + length b ≤ n
within_room x a b c n e h = omega (arith, ap length e ∙ length-append a (b ++ c), length-append b c)

-- behind the 10, which lies over the start of the output already
pub going_start : (d : List ℕ) (totals : Totals) (before out : List ℕ) → Weighed d totals → length (closed_file d) ≤ length before → out ≡ span 0 1 d ++ drop (length (span 0 1 d)) before → Going d out out 81 1
going_start d totals before out v room q =
    let s = span 0 1 d in
    let l = span_length 0 1 d (omega arith) (omega (arith, more_records d totals v)) in
    let b = begins d totals v in
    let f = within_room _ [] s _ (length before) b room in
    let w = at_first s before out (length s) refl (omega (arith, f)) q in
    record {
      written = s;
      wrote = at_first s out out (length s) refl (omega (arith, f, wrote_length s before out w)) (q ∙ ap (λ (x : List ℕ). s ++ x) (sym (ap (drop (length s)) q ∙ drop-append_seam s (drop (length s) before))));
      place = sym l;
      most = omega (arith, more_records d totals v);
      few = v.few;
      ahead = behind_header d totals v;
      opener = λ _. first_opens d totals v;
      all = b;
      room = omega (arith, room, wrote_length s before out w);
    }

pub start_fits : (d : List ℕ) (totals : Totals) (before : List ℕ) → Weighed d totals → length (closed_file d) ≤ length before → length (span 0 1 d) ≤ length before
start_fits d totals before v room = omega (arith, within_room _ [] (span 0 1 d) _ (length before) (begins d totals v) room)

-- and the whole lies over it in the end
pub over_start : (d : List ℕ) (totals : Totals) (before out last : List ℕ) → Weighed d totals → out ≡ span 0 1 d ++ drop (length (span 0 1 d)) before
    → last ≡ closed_file d ++ drop (length (closed_file d)) out → last ≡ closed_file d ++ drop (length (closed_file d)) before
over_start d totals before out last v q e =
    let s = span 0 1 d in
    let n = length (closed_file d) in
    let more : length s ≤ n = omega (arith, ap length (begins d totals v) ∙ length-append s _) in
    let i : n ≡ length s + (n - length s) = omega arith in
    e ∙ ap (λ (x : List ℕ). closed_file d ++ x) (ap (λ (x : ℕ). drop x out) i ∙ ap (drop (length s + (n - length s))) q ∙ drop-append-add s (drop (length s) before) (n - length s)
    ∙ drop-drop (n - length s) (length s) before ∙ ap (λ (x : ℕ). drop x before) (sym i))

module _ (d before out : List ℕ) (at k : ℕ) (g : Going d before out at k) where
  pub out_long : length out ≡ length before
  out_long = wrote_length g.written before out g.wrote

  -- the assignment that comes next
  pub at_hand : k < length d / 81 → Ending d k
  at_hand h = ending d k g.ahead h g.few (g.opener h)

  pub at_within : at ≤ length out
  at_within = omega (arith, g.place, g.wrote.room, out_long)

  module _ (n : ℕ) (t : AssignmentTotals) (b : Block d k n t) where
    -- what is written for the assignment, and what is left behind it
    turn_bytes : closed_file d ≡ g.written ++ ((span k n d ++ end_of d k t) ++ bytes_of (behind_end (sofar (gains (chunks n d))) (records_from n d)))
    unfolding bytes_of
    turn_bytes =
        let left = behind_end (sofar (gains (chunks n d))) (records_from n d) in
        g.all
        ∙ ap (λ (x : List ℕ). g.written ++ x)
        (ap bytes_of (b.same (sofar (gains (chunks k d)))) ∙ bytes_join (between k n d) _
        ∙ ap₂ (λ (x : List ℕ) (y : Totals). x ++ (end_of d k t ++ bytes_of (behind_end y (records_from n d)))) (span_is k n d (omega (arith, b.more)) b.most) (block_more (gains (chunks k d)) (gains (chunks n d)) t.totals (omega (arith, b.single, ap (λ (x : AssignmentTotals). x.totals.assignments.0) b.ended)) b.total)
        ∙ sym (append_assoc (span k n d) (end_of d k t) (bytes_of left)))

    piece_length : length (span k n d ++ end_of d k t) ≡ 81 * n - 81 * k + 81
    piece_length = length-append (span k n d) (end_of d k t) ∙ ap₂ ◌+◌ (span_length k n d (omega (arith, b.more)) b.most) (end_length _ 88 t.totals t.last)

    fits : length g.written + length (span k n d ++ end_of d k t) ≤ length before
    fits = within_room _ g.written (span k n d ++ end_of d k t) _ (length before) turn_bytes g.room

    pub ends_within : at + (81 * n - 81 * k + 81) ≤ length out
    ends_within = omega (arith, fits, piece_length, g.place, out_long)

    pub has_room : 81 * n - 81 * k + 81 ≤ length (take (length out - at) (drop at out))
    has_room = room_behind out at (81 * n - 81 * k + 81) ends_within

    pub going_next : (m : ℕ) (last : List ℕ) → m ≡ 81 * n - 81 * k + 81 → last ≡ (span k n d ++ end_of d k t) ++ drop m (take (length out - at) (drop at out))
        → Going d before (put_mid at (length out - at) out last) (at + m) n
    going_next m last e q =
        record {
          written = g.written ++ (span k n d ++ end_of d k t);
          wrote = behind g.written before out (span k n d ++ end_of d k t) last at m g.wrote g.place (e ∙ sym piece_length) fits q;
          place = ap₂ ◌+◌ g.place (e ∙ sym piece_length) ∙ sym (length-append g.written (span k n d ++ end_of d k t));
          most = b.most;
          few = g.few;
          ahead = b.ahead;
          opener = b.opener;
          all = turn_bytes ∙ sym (append_assoc g.written (span k n d ++ end_of d k t) (bytes_of (behind_end (sofar (gains (chunks n d))) (records_from n d))));
          room = g.room;
        }

  -- behind the last assignment
  module _ (h : length d / 81 ≤ k) (totals : Totals) (v : Weighed d totals) where
    last_bytes : closed_file d ≡ g.written ++ end_record 0 89 totals (date 0)
    unfolding bytes_of behind_end
    last_bytes =
        let e : k ≡ length d / 81 = omega (arith, g.most) in
        let f : sofar (gains (chunks k d)) ⊕ one_record ≡ totals =
        all_told (gains (chunks k d)) ∙ ap (λ (x : ℕ). closed_figures (gains (chunks x d))) e ∙ sym v.counted in
        g.all
        ∙ ap (λ (x : List (List ℕ)). g.written ++ bytes_of (behind_end (sofar (gains (chunks k d))) x)) (rest_end d (length d / 81) k e)
        ∙ ap (λ (x : Totals). g.written ++ (end_record 0 89 x (date 0) ++ [])) f
        ∙ ap (λ (x : List ℕ). g.written ++ x) (append-nil (end_record 0 89 totals (date 0)))

    last_fits : length g.written + length (end_record 0 89 totals (date 0)) ≤ length before
    last_fits = omega (arith, g.room, ap length last_bytes ∙ length-append g.written (end_record 0 89 totals (date 0)))

    pub last_room : 81 ≤ length (take (length out - at) (drop at out))
    last_room = room_behind out at 81 (omega (arith, last_fits, end_length 0 89 totals (date 0), g.place, out_long))

    pub going_last : (last : List ℕ) → last ≡ end_record 0 89 totals (date 0) ++ drop 81 (take (length out - at) (drop at out))
        → put_mid at (length out - at) out last ≡ closed_file d ++ drop (length (closed_file d)) before
    going_last last q =
        let w = behind g.written before out (end_record 0 89 totals (date 0)) last at 81 g.wrote g.place (sym (end_length 0 89 totals (date 0))) last_fits q in
        told _ (closed_file d) before _ (length (closed_file d)) w (sym last_bytes) refl

-- ---- how many assignments are left to write
module _ (d figures before out : List ℕ) (n j at k : ℕ) (g : Going d before out at k) (v : Reading d figures n j k) where
  pub this_one : j < n + 1 → Ending d k
  unfolding figures_from
  this_one h = go (ltb k (length d / 81)) refl
    where
      go : (b : Bool) → ltb k (length d / 81) ≡ b → Ending d k
      go true e = at_hand d before out at k g (ltb-true k (length d / 81) e)
      go false e =
          let none : length (figures_from (records_from k d)) ≡ 0 = ap (λ (x : List (List ℕ)). length (figures_from x)) (rest_end d (length d / 81) k (omega (arith, ltb-false k (length d / 81) e, g.most))) in
          absurd (omega (arith, v.left, none))

  pub none_more : n + 1 ≤ j → length d / 81 ≤ k
  none_more h = go (ltb k (length d / 81)) refl
    where
      go : (b : Bool) → ltb k (length d / 81) ≡ b → length d / 81 ≤ k
      go true e = absurd (omega (arith, v.left, ap length (at_hand d before out at k g (ltb-true k (length d / 81) e)).block.left))
      go false e = ltb-false k (length d / 81) e

-- ---- an assignment and its 88, put over the start of a list
pub assignment_put : (d before copied last : List ℕ) (k n : ℕ) (t : AssignmentTotals) → InDraft d k n → 81 * n - 81 * k + 81 ≤ length before
    → (s : ℕ) → s ≡ code_for (service_for (service_code (record_at k d)))
    → copied ≡ span k n d ++ drop (length (span k n d)) before
    → last ≡ end_record s 88 t.totals t.last ++ drop 81 (take (length copied - (81 * n - 81 * k)) (drop (81 * n - 81 * k) copied))
    → put_mid (81 * n - 81 * k) (length copied - (81 * n - 81 * k)) copied last ≡ (span k n d ++ end_of d k t) ++ drop (81 * n - 81 * k + 81) before
assignment_put d before copied last k n t i room s e p q =
    let l = span_length k n d (omega (arith, i.more)) i.most in
    let end = end_record s 88 t.totals t.last in
    let el = end_length s 88 t.totals t.last in
    let w = at_first (span k n d) before copied (length (span k n d)) refl (omega (arith, l)) p in
    let x = behind (span k n d) before copied end last (81 * n - 81 * k) 81 w (sym l) (sym el) (omega (arith, l, el)) q in
    let same : end ≡ end_of d k t = ap (λ (y : ℕ). end_record y 88 t.totals t.last) e in
    told _ (span k n d ++ end_of d k t) before _ (81 * n - 81 * k + 81) x (ap (λ (y : List ℕ). span k n d ++ y) same) (length-append (span k n d) (end_of d k t) ∙ ap₂ ◌+◌ l (end_length _ 88 t.totals t.last))

-- what is written over the start of a list leaves its length
pub over_length : (w before : List ℕ) → length w ≤ length before → length (w ++ drop (length w) before) ≡ length before
over_length w before h = length-append w (drop (length w) before) ∙ simp length-drop (omega arith)
